-- The trees of token lists, what begins a script, and where a list is refused.
use Rattle.std.specs.Prelude.{◌≡◌, ℕ, zero, suc, List, [], ◌∷◌, ◌++◌}
use Rattle.bt_ast.specs.declared.probe.Probe.{Probe}
use Rattle.bt_ast.specs.declared.probe.Script.{Script}
use Rattle.bt_grammar.specs.Form.{Item, WholeScript, Rel, Front, whole, begins}
use Rattle.bt_grammar.specs.Reading.{Out, Done, Refused, Unfinished, read_at}
use Rattle.bt_grammar.specs.Rules.{rule}

-- a part, with parts in it to this depth
abbrev pub whole_at : ℕ → Rel
whole_at zero n ts a = ⊥
whole_at (suc d) n ts a = whole (whole_at d) (rule n) ts a

abbrev pub begins_at : ℕ → Front
begins_at zero n ts = ⊥
begins_at (suc d) n ts = begins (whole_at d) (begins_at d) (rule n) ts

-- the tokens are the probes, by the grammar
abbrev pub Tree : List Item → List Probe → Type 0
Tree ts probes = (d : ℕ) × whole_at d WholeScript ts probes

-- the script is a tree of the tokens
abbrev pub IsTreeOf : List Item → Script → Type 0
IsTreeOf ts script = Tree ts script.probes

-- the tokens begin a script
abbrev pub Begins : List Item → Type 0
Begins ts = (d : ℕ) × begins_at d WholeScript ts

-- up to the rest the tokens begin a script, no longer front of them does, however it goes on, and they are no script
pub record RefusedAt (ts rest : List Item) : Type 0 where
  pub front : List Item
  pub is : ts ≡ front ++ rest
  pub begun : Begins front
  pub no_further : (t : Item) (z more : List Item) → rest ≡ t ∷ z → Begins (front ++ t ∷ more) → ⊥
  pub no_tree : (probes : List Probe) → Tree ts probes → ⊥

abbrev pub Answer : List Item → Out (List Probe) → Type 0
Answer ts (Done probes []) = Tree ts probes × ((other : List Probe) → Tree ts other → other ≡ probes)
Answer ts (Done probes (t ∷ r)) = RefusedAt ts (t ∷ r)
Answer ts (Refused r) = RefusedAt ts r
Answer ts Unfinished = Unit {0}

-- what reading a text answers: its one tree, or the first place where no script goes on
abbrev pub Exact : Type 0
Exact = (d : ℕ) (ts : List Item) → Answer ts (read_at d WholeScript ts)
