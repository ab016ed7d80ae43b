use Rattle.std.proofs.Common.{ℕ, List, map, ap, ◌∙◌}
use Rattle.bt_core.specs.declared.map.MapKind.{MapKind}
use Rattle.typed_tree.specs.Parts.{made_of}
use Rattle.expr_types.specs.Known.{decl_in}
use Rattle.expr_types.specs.Maps.{kind_held, read_made}
use Rattle.expr_types.proofs.maps.read.Goals as goal

pub returns-in-Ok-clause-made : goal.returns-in-Ok-clause-made
returns-in-Ok-clause-made c =
    c.value_of.ensures
    ∙ ap (λ (k : MapKind). read_made k c.args.keyed.map.0 (map made_of c.args.keyed.keys))
    (c.kind_held.ensures ∙ ap kind_held (c.decl.ensures ∙ ap (λ (n : List ℕ). decl_in n c.read_mention.new.known.decided) c.as_slice.ensures))
