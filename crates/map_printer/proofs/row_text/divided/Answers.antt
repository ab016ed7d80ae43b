use Rattle.std.proofs.Common.{◌++◌, ◌/◌, ℕ, List, [], ◌∷◌, get_or, ap, sym, ◌∙◌}
use Rattle.std.proofs.lemmas.List.{map_more, take_all}
use Rattle.map_printer.specs.Rows.{divided}
use Rattle.map_printer.proofs.row_text.divided.Goals as goal

pub loop-count-preserved : goal.loop-count-preserved
loop-count-preserved c =
    let counts = c.args.counts.now in let i = c.loop-count.count-index in let by : ℕ → ℕ = λ n. n / c.args.div in
    c.in_ok-push.ensures.items ∙ ap (λ (l : List ℕ). l ++ by (get_or counts i 0) ∷ []) c.loop-count.invariant ∙ sym (map_more by counts i 0 c.loop-count-test.true)

pub returns : goal.returns
returns c = c.loop-count.invariant ∙ ap (divided c.args.div) (take_all c.loop-count.count-index c.args.counts.now c.loop-count-test.false)
