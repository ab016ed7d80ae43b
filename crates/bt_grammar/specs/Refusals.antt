-- Where a list of tokens is refused, and for what.
use Rattle.std.specs.Prelude.{◌≡◌, ℕ, ◌+◌, ◌<◌, ◌≤◌, true, List, ◌∷◌, length, take, drop, ◌⊎◌}
use Rattle.bt_core.specs.declared.limits.TheConstants.{NESTING, PROBES}
use Rattle.bt_ast.specs.declared.probe.Probe.{Probe}
use Rattle.bt_ast.specs.declared.probe.Script.{Script}
use Rattle.bt_grammar.specs.declared.error.ParseError.{ParseError}
use Rattle.bt_grammar.specs.declared.error.ParseError.TheVariants.{Syntax, TooDeep, TooMany, Memory}
use Rattle.bt_grammar.specs.Classes.{is_point}
use Rattle.bt_grammar.specs.Form.{Item}
use Rattle.bt_grammar.specs.Grammar.{Tree, IsTreeOf, Begins}
use Rattle.bt_grammar.specs.Weights.{weight}

-- the tokens are no script, and the longest front of them that begins one has so many
pub record IsSyntaxFault (ts : List Item) (n : ℕ) : Type 0 where
  pub no_tree : (probes : List Probe) → Tree ts probes → ⊥
  pub within : n ≤ length ts
  pub begun : Begins (take n ts)
  pub longest : (m : ℕ) → n < m → m ≤ length ts → Begins (take m ts) → ⊥

-- the first token whose weight is above the limit
pub record IsDepthFault (ts : List Item) (n : ℕ) : Type 0 where
  pub within : n < length ts
  pub deep : NESTING < weight (take (n + 1) ts)
  pub first : (m : ℕ) → m < n → weight (take (m + 1) ts) ≤ NESTING

-- as many tokens are as many probes as there may be, and the next one begins another
pub record IsCountFault (ts : List Item) (n : ℕ) : Type 0 where
  pub probes : List Probe
  pub tree : Tree (take n ts) probes
  pub full : length probes ≡ PROBES
  pub next : Item
  pub rest : List Item
  pub is : drop n ts ≡ next ∷ rest
  pub begins : is_point next.class ≡ true

abbrev pub NoDepthFault : List Item → Type 0
NoDepthFault ts = (n : ℕ) → IsDepthFault ts n → ⊥

abbrev pub NoCountFault : List Item → Type 0
NoCountFault ts = (n : ℕ) → IsCountFault ts n → ⊥

abbrev pub Holds : List Item → ParseError → Type 0
Holds ts (Syntax n) = IsSyntaxFault ts n
Holds ts (TooDeep n) = IsDepthFault ts n
Holds ts (TooMany n) = IsCountFault ts n
Holds ts Memory = ⊥

abbrev pub token_of : ParseError → ℕ
token_of (Syntax n) = n
token_of (TooDeep n) = n
token_of (TooMany n) = n
token_of Memory = 0

abbrev pub order_of : ParseError → ℕ
order_of (Syntax n) = 0
order_of (TooDeep n) = 1
order_of (TooMany n) = 2
order_of Memory = 3

-- the least token comes first, and at one token syntax before depth and depth before the number of probes
abbrev pub NotAfter : ParseError → ParseError → Type 0
NotAfter a b = (token_of a < token_of b) ⊎ ((token_of a ≡ token_of b) × (order_of a ≤ order_of b))

-- the first fault of the tokens
pub record IsRefusal (ts : List Item) (fault : ParseError) : Type 0 where
  pub holds : Holds ts fault
  pub first : (other : ParseError) → Holds ts other → NotAfter fault other

-- the tree of the tokens, in which nothing is refused
pub record IsAccepted (ts : List Item) (script : Script) : Type 0 where
  pub tree : IsTreeOf ts script
  pub no_fault : (other : ParseError) → Holds ts other → ⊥
