-- The texts of probes and scripts.
use Rattle.std.specs.Prelude.{ℕ, ◌++◌, List, [], ◌∷◌, Option, Some, None, map, codes, decimal}
use Rattle.bt_ast.specs.declared.expr.Expr.{Expr}
use Rattle.bt_ast.specs.declared.probe.Point.{Point}
use Rattle.bt_ast.specs.declared.probe.Point.TheVariants.{Begin, End, Tracepoint, Interval}
use Rattle.bt_ast.specs.declared.probe.Probe.{Probe}
use Rattle.bt_ast.specs.declared.probe.Script.{Script}
use Rattle.ast_text.specs.Words.{token, unit_word}
use Rattle.ast_text.specs.Exprs.{expr_text}
use Rattle.ast_text.specs.Stmts.{block_text, joined}

abbrev pub point_text : Point → List ℕ
point_text (Begin place) = token (codes "BEGIN")
point_text (End place) = token (codes "END")
point_text (Tracepoint system name place) = token (codes "tracepoint:" ++ (system ++ (codes ":" ++ name)))
point_text (Interval unit number place) = token (codes "interval:" ++ (unit_word unit ++ (codes ":" ++ decimal number)))

-- points, with a separator before the first and a comma before each other
abbrev pub points_after : List ℕ → List Point → List ℕ
points_after separator [] = []
points_after separator (p ∷ points) = separator ++ (point_text p ++ points_after (token (codes ",")) points)

abbrev pub points_text : List Point → List ℕ
points_text points = points_after [] points

-- a condition between slashes, where there is one
abbrev pub predicate_text : Option Expr → List ℕ
predicate_text None = []
predicate_text (Some e) = token (codes "/") ++ (expr_text e ++ token (codes "/"))

abbrev pub probe_text : Probe → List ℕ
probe_text p = points_text p.points ++ (predicate_text p.predicate ++ block_text p.block)

abbrev pub script_text : Script → List ℕ
script_text s = joined (map probe_text s.probes)
