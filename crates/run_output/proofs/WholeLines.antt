-- The JSON lines of a run, by their two parts.
use Rattle.std.proofs.Common.{◌≡◌, ◌++◌, ℕ, List, ◌∙◌}
use Rattle.std.specs.List.{flat_map}
use Rattle.bt_core.specs.declared.item.Cell.{Cell}
use Rattle.bt_core.specs.declared.step.Step.{Step}
use Rattle.bt_core.specs.declared.value.Value.{Value}
use Rattle.typed_tree.specs.declared.script.Typed.{Typed}
use Rattle.bt_meaning.specs.Prints.{emitted, rows_after, lost_after, of_maps}
use Rattle.json_out.specs.Lines.{item_lines, end_lines}
use Rattle.run_output.specs.JsonLines.{json_text_of}

pub whole_lines : (script : Typed) (cpus : ℕ) (steps : List Step) (rows : List (List (List Value × Cell))) (lost first end lines : List ℕ)
    → first ≡ flat_map (item_lines script.formats script.maps) (emitted steps) → end ≡ end_lines script.maps rows lost → lines ≡ first ++ end
    → rows ≡ of_maps (rows_after script.maps cpus steps) 0 script.maps → lost ≡ of_maps (lost_after script.maps cpus steps) 0 script.maps
    → lines ≡ json_text_of script cpus steps
unfolding json_text_of
whole_lines script cpus steps rows lost first end lines a b e are were =
    e ∙ (λ i. a i ++ b i) ∙ (λ i. flat_map (item_lines script.formats script.maps) (emitted steps) ++ end_lines script.maps (are i) (were i))
