-- Programs of a script's bodies, made in turn.
use Rattle.std.proofs.Common.{◌≡◌, ℕ, zero, suc, ◌+◌, ◌<◌, ◌≤◌, List, [], ◌∷◌, ◌++◌, length, take, get_or, map, refl, sym, ap, ◌∙◌, subst, arith}
use Rattle.std.specs.Prelude.{Option, Some, None, slice_get}
use Rattle.std.specs.Option.{option_map}
use Rattle.std.proofs.lemmas.List.{take_all, take_more}
use Rattle.std.proofs.lemmas.Option.{slice_get-map}
use Rattle.bpf_encode.specs.declared.program.Program.{Program}
use Rattle.bt_core.specs.declared.map.MapDecl.{MapDecl}
use Rattle.bt_core.specs.declared.map.Shape.{Shape}
use Rattle.ir_code.specs.declared.probe.IrProbe.{IrProbe}
use Rattle.bt_lower.specs.Bodies.{IsLowered, LowersScript}
use Rattle.body_code.specs.Blocks.{code_of}
use Rattle.body_code.specs.Bodies.{KeepsBody}
use Rattle.bpf_insn.specs.declared.insn.Insn.{Insn}
use Rattle.code_runs.specs.Kept.{KeepBodies}
use Rattle.script_programs.specs.Probes.{KeepProbes}
use Rattle.typed_tree.specs.declared.body.TypedBody.{TypedBody}
use Rattle.typed_tree.specs.declared.script.Typed.{Typed}
use Rattle.script_programs.specs.declared.error.SizeFault.{SizeFault}
use Rattle.script_programs.specs.Making.{IsMade, AreMade}
use Rattle.code_runs.specs.Programs.{KeepScript}
use Rattle.script_programs.specs.Sizes.{first_size_fault, or_else, too_large}

-- ---- one program more

made_more : (probes : List IrProbe) (programs : List Program) (probe : IrProbe) (program : Program) → AreMade probes programs → IsMade probe program
    → AreMade (probes ++ probe ∷ []) (programs ++ program ∷ [])
made_more [] [] probe program made is = (is, tt)
made_more [] (q ∷ qs) probe program made is = absurd made
made_more (p ∷ ps) [] probe program made is = absurd made
made_more (p ∷ ps) (q ∷ qs) probe program made is = (made.0, made_more ps qs probe program made.1 is)

as_many : (probes : List IrProbe) (programs : List Program) → AreMade probes programs → length programs ≡ length probes
as_many [] [] made = refl
as_many [] (q ∷ qs) made = absurd made
as_many (p ∷ ps) [] made = absurd made
as_many (p ∷ ps) (q ∷ qs) made = ap suc (as_many ps qs made.1)

pub next_made : (probes : List IrProbe) (i : ℕ) (programs new : List Program) (probe : IrProbe) (program : Program) → i < length probes
    → probe ≡ get_or probes i probe → AreMade (take i probes) programs → IsMade probe program → new ≡ programs ++ program ∷ []
    → AreMade (take (i + 1) probes) new
next_made probes i programs new probe program low at made is e =
    subst (λ (l : List Program). AreMade (take (i + 1) probes) l) (sym e)
    (subst (λ (l : List IrProbe). AreMade l (programs ++ program ∷ []))
    (ap (λ (p : IrProbe). take i probes ++ p ∷ []) at ∙ sym (take_more probes i probe low))
    (made_more (take i probes) programs probe program made is))

pub all_made : (probes : List IrProbe) (i : ℕ) (programs : List Program) → length probes ≤ i → AreMade (take i probes) programs → AreMade probes programs
all_made probes i programs past made = subst (λ (l : List IrProbe). AreMade l programs) (take_all i probes past) made

-- ---- what is too large

-- the first of these that is too large
abbrev pub first_of : ℕ → List IrProbe → Option (ℕ × SizeFault)
first_of place [] = None
first_of place (p ∷ ps) = or_else (option_map (λ fault. (place, fault)) (too_large p.frame_need p.code_need)) (first_of (place + 1) ps)

both_none : (place : ℕ) (found : Option SizeFault) (later : Option (ℕ × SizeFault)) → or_else (option_map (λ fault. (place, fault)) found) later ≡ None
    → (found ≡ None) × (later ≡ None)
both_none place None later e = (refl, e)
both_none place (Some fault) later e = absurd (let none : ⊥ = cc in none)

none_there : (probes : List IrProbe) (i place : ℕ) (probe : IrProbe) → i < length probes → probe ≡ get_or probes i probe → first_of place probes ≡ None
    → too_large probe.frame_need probe.code_need ≡ None
none_there [] i place probe low at none = absurd (omega arith)
none_there (p ∷ ps) zero place probe low at none =
    ap (λ (x : IrProbe). too_large x.frame_need x.code_need) at ∙ (both_none place _ _ none).0
none_there (p ∷ ps) (suc i) place probe low at none = none_there ps i (place + 1) probe (omega arith) at (both_none place _ _ none).1

-- bodies have the sizes of what they are lowered to
same_first : (maps : List MapDecl) (formats : List (List Shape)) (bodies : List TypedBody) (probes : List IrProbe) (place : ℕ) → length probes ≡ length bodies
    → ((n : ℕ) (body : TypedBody) (probe : IrProbe) → slice_get bodies n ≡ Some body → slice_get probes n ≡ Some probe → IsLowered maps formats body probe)
    → first_of place probes ≡ first_size_fault place bodies
same_first maps formats [] [] place e each = refl
same_first maps formats [] (p ∷ ps) place e each = absurd (omega (arith, e))
same_first maps formats (b ∷ bs) [] place e each = absurd (omega (arith, e))
same_first maps formats (b ∷ bs) (p ∷ ps) place e each =
    let lowered = each 0 b p refl refl in
    let rest = same_first maps formats bs ps (place + 1) (omega (arith, e)) (λ n body probe at on. each (suc n) body probe at on) in
    λ k. or_else (option_map (λ fault. (place, fault)) (too_large (lowered.frame k) (lowered.code k))) (rest k)

script_first : (script : Typed) (probes : List IrProbe) → LowersScript script probes → first_of 0 probes ≡ first_size_fault 0 script.bodies
script_first script probes lowers = same_first _ _ script.bodies probes 0 lowers.as_many lowers.each

-- of no probe is something too large where nothing is of a body
pub probe_fits : (script : Typed) (probes : List IrProbe) (i : ℕ) (probe : IrProbe) → LowersScript script probes → i < length probes
    → probe ≡ get_or probes i probe → first_size_fault 0 script.bodies ≡ None → too_large probe.frame_need probe.code_need ≡ None
probe_fits script probes i probe lowers low at none = none_there probes i 0 probe low at (script_first script probes lowers ∙ none)

-- ---- what the programs keep

same : {A : Type 0} (a b : A) → Some a ≡ Some b → a ≡ b
same a b e = cc

made_at : (probes : List IrProbe) (programs : List Program) (n : ℕ) (program : Program) → AreMade probes programs → slice_get programs n ≡ Some program
    → (probe : IrProbe) × (slice_get probes n ≡ Some probe) × IsMade probe program
made_at [] [] n program made on = absurd (let none : ⊥ = cc in none)
made_at [] (q ∷ qs) n program made on = absurd made
made_at (p ∷ ps) [] n program made on = absurd made
made_at (p ∷ ps) (q ∷ qs) zero program made on = (p, refl, subst (IsMade p) (same q program on) made.0)
made_at (p ∷ ps) (q ∷ qs) (suc n) program made on = made_at ps qs n program made.1 on

-- the code of each keeps it
each_keeps : (probes : List IrProbe) (programs : List Program) → AreMade probes programs → (n : ℕ) (probe : IrProbe) (code : List Insn)
    → slice_get probes n ≡ Some probe → slice_get (map code_of probes) n ≡ Some code → KeepsBody probe code
each_keeps [] [] made n probe code at on = absurd (let none : ⊥ = cc in none)
each_keeps [] (q ∷ qs) made n probe code at on = absurd made
each_keeps (p ∷ ps) [] made n probe code at on = absurd made
each_keeps (p ∷ ps) (q ∷ qs) made zero probe code at on =
    subst (λ (x : IrProbe). KeepsBody x code) (same p probe at) (subst (KeepsBody p) (same (code_of p) code on) made.0.keeps)
each_keeps (p ∷ ps) (q ∷ qs) made (suc n) probe code at on = each_keeps ps qs made.1 n probe code at on

many_codes : (probes : List IrProbe) → length (map code_of probes) ≡ length probes
many_codes [] = refl
many_codes (p ∷ ps) = ap suc (many_codes ps)

keep_probes : (probes : List IrProbe) (programs : List Program) → AreMade probes programs → KeepProbes probes (map code_of probes)
keep_probes probes programs made = record { as_many = many_codes probes; each = each_keeps probes programs made }

pub keep_script : (script : Typed) (probes : List IrProbe) (programs : List Program)
    → ((script : Typed) (probes : List IrProbe) (codes : List (List Insn)) → LowersScript script probes → KeepProbes probes codes → KeepBodies script codes)
    → LowersScript script probes → AreMade probes programs → KeepScript script programs
keep_script script probes programs law lowers made = record {
  as_many = as_many probes programs made ∙ lowers.as_many;
  each = λ n body program at on. (let found = made_at probes programs n program made on in
      let keep = law script probes (map code_of probes) lowers (keep_probes probes programs made) in
      let code : slice_get (map code_of probes) n ≡ Some (code_of found.0) = slice_get-map code_of probes n ∙ ap (option_map code_of) found.1 in
      record { code = code_of found.0; is = found.2.is; keeps = keep.each n body (code_of found.0) at code });
}
