-- The text of steps under the formats and maps of a script.
use Rattle.std.proofs.Common.{◌≡◌, ℕ, List, ◌++◌}
use Rattle.std.specs.List.{flat_map}
use Rattle.bt_core.specs.declared.map.MapDecl.{MapDecl}
use Rattle.bt_core.specs.declared.step.Step.{Step}
use Rattle.fmt_text.specs.declared.piece.Piece.{Piece}
use Rattle.typed_tree.specs.declared.script.Typed.{Typed}
use Rattle.map_printer.specs.Ends.{end_text}
use Rattle.map_printer.specs.ItemTexts.{item_text}
use Rattle.bt_meaning.specs.Prints.{emitted, lost_after, of_maps, printed_text, rows_after}

abbrev pub text_with : List (List Piece) → List MapDecl → ℕ → List Step → List ℕ
text_with formats maps cpus steps =
    flat_map (item_text formats maps) (emitted steps)
    ++ end_text maps (of_maps (rows_after maps cpus steps) 0 maps) (of_maps (lost_after maps cpus steps) 0 maps)

pub with_maps : (script : Typed) (maps : List MapDecl) (cpus : ℕ) (steps : List Step) → script.maps ≡ maps
    → printed_text script cpus steps ≡ text_with script.formats maps cpus steps
unfolding printed_text
with_maps script maps cpus steps m = λ i. text_with script.formats (m i) cpus steps

pub with_formats : (script : Typed) (formats : List (List Piece)) (maps : List MapDecl) (cpus : ℕ) (steps : List Step) → script.formats ≡ formats → script.maps ≡ maps
    → printed_text script cpus steps ≡ text_with formats maps cpus steps
unfolding printed_text
with_formats script formats maps cpus steps f m = λ i. text_with (f i) (m i) cpus steps
