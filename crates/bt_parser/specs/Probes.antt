-- The steps of the functions that read probes.
use Rattle.std.specs.Prelude.{true, List, [], ◌∷◌, ◌++◌, Option, Some, None, if◌then◌else◌}
use Rattle.bt_ast.specs.declared.expr.Expr.{Expr}
use Rattle.bt_ast.specs.declared.probe.Point.{Point}
use Rattle.bt_ast.specs.declared.probe.Probe.{Probe}
use Rattle.bt_ast.specs.declared.stmt.Block.{Block}
use Rattle.bt_core.specs.declared.operator.BinOp.TheVariants.{Div}
use Rattle.bt_grammar.specs.declared.class.Class.TheVariants.{Comma, Operator}
use Rattle.bt_grammar.specs.Classes.{is_point}
use Rattle.bt_grammar.specs.Form.{Item, Expression, Points, Braced, Form, Tok, Call, Map, Then, Until}
use Rattle.bt_grammar.specs.Reading.{Out, Done, read, reads, goes_on, starts, rest_of}
use Rattle.bt_grammar.specs.Rules.{mark, ends, optional, after_comma}
use Rattle.bt_grammar.specs.Trees.{second, snoc, point_at, probe_of}
use Rattle.bt_parser.specs.Mirror.{◌>>=◌}

abbrev pub point_form : Form Point
point_form = Map point_at (Tok is_point)

abbrev pub points_on : List Point → List Item → Out (List Point)
points_on points ts = goes_on snoc (after_comma point_form) points ts

abbrev pub points_by : List Item → Out (List Point)
points_by ts = read reads point_form ts >>= λ p r. points_on (p ∷ []) r

abbrev pub points_turn : List Point → List Item → Out (List Point)
points_turn points ts = if starts (ends Comma) ts then (read reads point_form (rest_of ts) >>= λ p r. points_on (points ++ p ∷ []) r) else Done points ts

abbrev pub predicate_form : Form (Option Expr)
predicate_form = optional (Then second (mark (Operator Div)) (Until (Call (Expression true)) (Operator Div)))

abbrev pub predicate_by : List Item → Out (Option Expr)
predicate_by ts = if starts (ends (Operator Div)) ts
    then (reads (Expression true) (rest_of ts) >>= λ x r. read reads (mark (Operator Div)) r >>= λ _ r1. Done (Some x) r1)
    else Done None ts

-- a predicate or none, and a block
abbrev pub guarded_by : List Item → Out (Option Expr × Block)
guarded_by ts = read reads predicate_form ts >>= λ x r. reads Braced r >>= λ b r1. Done (x, b) r1

abbrev pub probe_by : List Item → Out Probe
probe_by ts = reads Points ts >>= λ ps r. guarded_by r >>= λ g r1. Done (probe_of g.0 g.1 ps) r1
