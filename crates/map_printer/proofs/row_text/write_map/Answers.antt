use Rattle.std.proofs.Common.{◌≡◌, ◌++◌, ◌<◌, ℕ, ℤ, List, [], ◌∷◌, length, nat_abs, append-nil, append_assoc, refl, ap, sym, subst, ◌∙◌, codes, w64, false, arith, ◌==◌}
use Rattle.std.proofs.lemmas.Int.{to_z-of_z}
use Rattle.std.proofs.lemmas.Bool.{false≢true}
use Rattle.std.proofs.lemmas.Bool.Decides.{nat_tests}
use Rattle.bt_core.specs.declared.value.Value.{Value}
use Rattle.bt_core.specs.declared.item.Cell.{Cell}
use Rattle.map_printer.specs.Rows.{rows_text, map_text}
use Rattle.map_printer.proofs.row_text.write_map.Goals as goal

text_of_some : (name : List ℕ) (div : ℤ) (rows : List (List Value × Cell)) → false ≡ (length rows == 0) → rows_text name div rows ++ codes "\n" ≡ map_text name div rows
text_of_some name div [] some = absurd (false≢true some)
text_of_some name div (r ∷ rs) some = refl

text_of_none : (name : List ℕ) (div : ℤ) (rows : List (List Value × Cell)) → length rows ≡ 0 → [] ≡ map_text name div rows
text_of_none name div [] none = refl
text_of_none name div (r ∷ rs) none = absurd (omega (arith, none))

pub write_rows-requires-clause-some : goal.write_rows-requires-clause-some
write_rows-requires-clause-some c = subst (λ (z : ℤ). 0 < nat_abs z) (sym (to_z-of_z w64 c.args.div c.ranges.div)) c.requires.some

pub write_rows-requires-clause-fit : goal.write_rows-requires-clause-fit
write_rows-requires-clause-fit c = c.requires.fit

pub returns-in_ok-push : goal.returns-in_ok-push
returns-in_ok-push c =
    let out = c.args.out.now.items in let name = c.args.name.now in let rows = c.args.rows.now in
    c.in_ok-push.ensures.items ∙ ap (λ (l : List ℕ). l ++ codes "\n") (c.in_ok-write_rows.ensures ∙ ap (λ (z : ℤ). out ++ rows_text name z rows) (to_z-of_z w64 c.args.div c.ranges.div))
    ∙ append_assoc out (rows_text name c.args.div rows) (codes "\n") ∙ ap (λ (l : List ℕ). out ++ l) (text_of_some name c.args.div rows c.if-not-is_empty.ensures)

pub returns-else-not-is_empty : goal.returns-else-not-is_empty
returns-else-not-is_empty c =
    let none : length c.args.rows.now ≡ 0 = grind (arith, nat_tests, c.if-not-is_empty.ensures) in
    sym (append-nil c.args.out.now.items) ∙ ap (λ (l : List ℕ). c.args.out.now.items ++ l) (text_of_none c.args.name.now c.args.div c.args.rows.now none)
