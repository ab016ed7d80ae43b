-- What is seen of what was read.
use Rattle.std.proofs.Common.{◌≡◌, ℕ, List, Option, Some, None, Bor, sym, ap, ◌∙◌}
use Rattle.std.specs.Option.{option_map}
use Rattle.bt_core.specs.declared.step.Step.{Step}

-- an entry, and the bytes after it
abbrev pub seen : Step × Bor (List ℕ) → Step × List ℕ
seen entry = (entry.0, entry.1.now)

pub mapped_none : {T U : Type 0} (f : T → U) (r : Option T) (x : Option U) → option_map f r ≡ x → r ≡ None → x ≡ None
mapped_none f r x e none = sym e ∙ ap (option_map f) none

pub mapped_some : {T U : Type 0} (f : T → U) (r : Option T) (x : Option U) (value : T) → option_map f r ≡ x → r ≡ Some value → x ≡ Some (f value)
mapped_some f r x value e some = sym e ∙ ap (option_map f) some
