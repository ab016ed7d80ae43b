-- The tree of the script's tokens, and that nothing of them is refused.
use Rattle.std.proofs.Common.{◌≡◌, ℕ, zero, suc, ◌+◌, ◌<◌, ◌≤◌, Bool, true, List, [], ◌∷◌, length, take, None, refl, sym, subst, inl, inr, arith}
use Rattle.std.specs.Prelude.{codes, nat_le, ◌&&◌}
use Rattle.std.proofs.lemmas.Bool.Decides.{leb_tells}
use Rattle.std.proofs.lemmas.Bool.{and_parts}
use Rattle.bt_core.specs.declared.limits.TheConstants.{NESTING}
use Rattle.bt_core.specs.declared.place.Place.{Place}
use Rattle.bt_ast.specs.declared.expr.Builtin.TheVariants.{Comm}
use Rattle.bt_ast.specs.declared.expr.Expr.{Expr}
use Rattle.bt_ast.specs.declared.expr.ExprKind.TheVariants as exprs
use Rattle.bt_ast.specs.declared.expr.MapRef.{MapRef, roll-MapRef}
use Rattle.bt_ast.specs.declared.probe.Point.TheVariants as points
use Rattle.bt_ast.specs.declared.probe.Probe.{Probe}
use Rattle.bt_ast.specs.declared.probe.Script.{Script}
use Rattle.bt_ast.specs.declared.gathering.Gathering.TheVariants.{Sum, Hist}
use Rattle.bt_ast.specs.declared.stmt.AggCall.{AggCall}
use Rattle.bt_ast.specs.declared.stmt.AggCall.TheVariants as aggs
use Rattle.bt_ast.specs.declared.stmt.Stmt.{Stmt}
use Rattle.bt_ast.specs.declared.stmt.StmtKind.TheVariants as stmts
use Rattle.bt_grammar.specs.Counts.{probes_read}
use Rattle.bt_grammar.specs.Form.{Item}
use Rattle.bt_grammar.specs.Grammar.{Tree}
use Rattle.bt_grammar.specs.Reading.{Done, reads}
use Rattle.bt_grammar.specs.Refusals.{IsAccepted, NoDepthFault}
use Rattle.bt_grammar.specs.Tokens.{items}
use Rattle.bt_grammar.specs.Trees.{expr, stmt, block_of, place_of_map}
use Rattle.bt_grammar.specs.Weights.{weight, level_weight, levels_behind, levels_from}
use Rattle.bt_grammar.specs.Words.{word_class, mark_class}
use Rattle.bt_grammar.proofs.Decide.{accepted}
use Rattle.bt_grammar.proofs.Scripts.{whole_end}
use Rattle.rec_gen.proofs.Tokens.{the_tokens}

abbrev pub place : ℕ → Place
place column = record { line = 1; column = column }

abbrev pub map_at : ℕ → List ℕ → List Expr → MapRef
map_at column name keys = roll-MapRef (record { name = name; keys = keys; place = place column })

abbrev pub id_at : ℕ → ℕ → Expr
id_at column word = expr (exprs.Field (codes "id") (place word)) (place column)

abbrev pub comm_at : ℕ → Expr
comm_at column = expr (exprs.Builtin Comm) (place column)

abbrev pub gather_at : ℕ → List ℕ → List Expr → ℕ → AggCall → Stmt
gather_at column name keys word call = stmt (place_of_map (map_at column name keys)) (stmts.SetAgg (map_at column name keys) call (place word))

abbrev pub the_statements : List Stmt
the_statements =
    gather_at 37 (codes "@calls") (comm_at 44 ∷ []) 52 aggs.Count
    ∷ gather_at 61 (codes "@ids") [] 68 (aggs.Gather Hist (id_at 73 78))
    ∷ gather_at 83 (codes "@sum") [] 90 (aggs.Gather Sum (id_at 94 99))
    ∷ []

abbrev pub the_probe : Probe
the_probe = record {
  points = points.Tracepoint (codes "raw_syscalls") (codes "sys_enter") (place 1) ∷ [];
  predicate = None;
  block = block_of (place 35) the_statements;
  place = place 1;
}

abbrev pub the_tree : Script
the_tree = record { probes = the_probe ∷ [] }

abbrev pub the_items : List Item
the_items = items the_tokens

one_probe : probes_read 1 the_items ≡ Done (the_probe ∷ []) []
unfolding reads word_class mark_class
one_probe = refl

tree : Tree the_items (the_probe ∷ [])
tree = whole_end 0 the_items (the_probe ∷ []) one_probe

-- no token behind these levels is too heavy
abbrev is_light : List ℕ → List Item → Bool
is_light levels [] = true
is_light levels (t ∷ ts) = nat_le (level_weight (levels_behind t.class levels)) NESTING && is_light (levels_behind t.class levels) ts

light_one : (n limit : ℕ) → nat_le n limit ≡ true → n ≤ limit
light_one n limit h = elim (leb_tells n limit) [ inl t ↦ t.1 | inr t ↦ absurd (cc (h, t.0)) ]

light_at : (levels : List ℕ) (ts : List Item) (n : ℕ) → is_light levels ts ≡ true → n < length ts → level_weight (levels_from levels (take (n + 1) ts)) ≤ NESTING
light_at levels [] n h within = absurd (omega (arith, within))
light_at levels (t ∷ ts) zero h within =
    let parts = and_parts (nat_le (level_weight (levels_behind t.class levels)) NESTING) (is_light (levels_behind t.class levels) ts) h in
    light_one (level_weight (levels_behind t.class levels)) NESTING parts.0
light_at levels (t ∷ ts) (suc n) h within =
    let parts = and_parts (nat_le (level_weight (levels_behind t.class levels)) NESTING) (is_light (levels_behind t.class levels) ts) h in
    let e : suc n + 1 ≡ suc (n + 1) = omega arith in
    subst (λ (k : ℕ). level_weight (levels_from levels (take k (t ∷ ts))) ≤ NESTING) (sym e)
    (light_at (levels_behind t.class levels) ts n parts.1 (omega (arith, within)))

all_light : is_light (0 ∷ []) the_items ≡ true
unfolding word_class mark_class
all_light = refl

shallow : NoDepthFault the_items
unfolding weight
shallow n f = let light = light_at (0 ∷ []) the_items n all_light f.within in let deep : NESTING < level_weight (levels_from (0 ∷ []) (take (n + 1) the_items)) = f.deep in absurd (omega (arith, light, deep))

pub is_accepted : IsAccepted the_items the_tree
is_accepted = accepted the_items the_tree tree (omega arith) shallow
