use Rattle.std.proofs.Common.{ℕ, ap, ◌∙◌}
use Rattle.bt_lower.specs.Needs.{Valued, more}
use Rattle.bt_core.specs.declared.map.Shape.{Shape}
use Rattle.ir_code.specs.Figures.{by_shape}
use Rattle.typed_tree.specs.Parts.{made_of}
use Rattle.bt_lower.proofs.Measured.{same, same-beyond}
use Rattle.bt_lower.proofs.body_need.set_variable_need.Goals as goal

pub returns-clause-need : goal.returns-clause-need
returns-clause-need c = same _ _ _ c.more.ensures.more (ap (λ (slots : ℕ). more slots c.in_ok-valued.valued.need) (c.store_slots.ensures ∙ ap (λ (shape : Shape). by_shape shape 8 24) c.shape.ensures) ∙ ap (λ (v : Valued). more (by_shape (made_of c.args.value.now).shape 8 24) v.need) c.in_ok-valued.ensures.need)

pub returns-clause-beyond : goal.returns-clause-beyond
returns-clause-beyond c = same-beyond _ _ _ c.more.ensures.beyond (ap (λ (slots : ℕ). more slots c.in_ok-valued.valued.need) (c.store_slots.ensures ∙ ap (λ (shape : Shape). by_shape shape 8 24) c.shape.ensures) ∙ ap (λ (v : Valued). more (by_shape (made_of c.args.value.now).shape 8 24) v.need) c.in_ok-valued.ensures.need)
