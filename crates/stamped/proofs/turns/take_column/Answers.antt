use Rattle.std.proofs.Common.{◌≡◌, ℕ, subst, ◌++◌, List, sym, ap, ◌∙◌, append-nil, arith, length, ◌≤◌}
use Rattle.std.proofs.lemmas.List.{drop_all}
use Rattle.turn_lock.specs.declared.turn.Turn.{Turn}
use Rattle.stamped.specs.Rows.{firsts}
use Rattle.stamped.proofs.RowLemmas.{all_taken}
use Rattle.stamped.proofs.turns.take_column.Goals as goal

pub returns-clause-column : goal.returns-clause-column
returns-clause-column c =
    let past : length c.loop-row.row-items ≤ c.loop-row.row-index = omega (arith, c.loop-row.auto.row-items, c.loop-row-test.false) in
    let none = ap firsts (drop_all c.loop-row.row-index c.loop-row.row-items past) in
    sym (append-nil c.loop-row.column.items) ∙ ap (λ (l : List Turn). c.loop-row.column.items ++ l) (sym none) ∙ c.loop-row.invariant.column

pub returns-clause-left : goal.returns-clause-left
returns-clause-left c =
    let given = c.deref_mut-row-items.ensures in
    let same : length c.loop-row.row-items ≡ length c.args.left.now.items = c.loop-row.auto.row-items ∙ ap length given.value in
    let past : length c.args.left.now.items ≤ c.loop-row.row-index = subst (λ (n : ℕ). n ≤ c.loop-row.row-index) (ap length given.value) c.loop-row-test.false in
    all_taken c.loop-row.row-items c.args.left.now.items c.args.left.now.len c.loop-row.row-index _ c.args.left.now.ok.0 same past c.loop-row.invariant.left
