use Rattle.std.proofs.Common.{◌≡◌, List, subst, ap, ◌∙◌}
use Rattle.std.specs.Prelude.{IfOk, fold}
use Rattle.bt_core.specs.declared.item.Cell.{Cell}
use Rattle.bt_core.specs.declared.value.Value.{Value}
use Rattle.map_rows.specs.Merged.{all_rows, merged}
use Rattle.map_rows.specs.Merging.{with_row}
use Rattle.map_rows.proofs.MergedLaws.{merged_in_turn}
use Rattle.map_rows.proofs.merging.merged.Goals as goal

pub returns : goal.returns
unfolding merged
returns c =
    let rows = all_rows c.args.kind c.args.replies.now in
    let is = c.in_ok-add_replies.ensures ∙ ap (λ (l : List (List Value × Cell)). fold with_row l rows) c.new-rows.ensures.empty ∙ merged_in_turn rows in
    subst (λ (l : List (List Value × Cell)). IfOk c.listed.result (λ list. list ≡ l)) is c.listed.ensures
