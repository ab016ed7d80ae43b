-- Each list of tokens has one answer at most.
use Rattle.std.proofs.Common.{◌≡◌, ℕ, ◌+◌, ◌<◌, ◌≤◌, List, [], refl, sym, ◌∙◌, ap, inl, inr, ◌⊎◌, arith}
use Rattle.bt_ast.specs.declared.probe.Probe.{Probe}
use Rattle.bt_ast.specs.declared.probe.Script.{Script}
use Rattle.bt_grammar.specs.declared.error.ParseError.{ParseError}
use Rattle.bt_grammar.specs.declared.error.ParseError.TheVariants.{Syntax, TooDeep, TooMany, Memory}
use Rattle.bt_grammar.specs.Form.{Item, WholeScript}
use Rattle.bt_grammar.specs.Reading.{Done, read_at}
use Rattle.bt_grammar.specs.Grammar.{Tree, IsTreeOf, Begins}
use Rattle.bt_grammar.specs.Refusals.{NotAfter, IsRefusal, IsAccepted}
use Rattle.bt_grammar.proofs.Depth.{tree_is_done}
use Rattle.bt_grammar.proofs.Decide.{tree_begins}

one_list : (ts : List Item) (one other : List Probe) → Tree ts one → Tree ts other → one ≡ other
one_list ts one other (d, w) (k, v) =
    let m : ℕ = d + k in
    let a : read_at m WholeScript ts ≡ Done one [] = tree_is_done d m ts one w (omega arith) in
    let b : read_at m WholeScript ts ≡ Done other [] = tree_is_done k m ts other v (omega arith) in
    let q : Done one [] ≡ Done other [] = sym a ∙ b in cc (q)

pub one_tree : (ts : List Item) (one other : Script) → IsTreeOf ts one → IsTreeOf ts other → one ≡ other
one_tree ts one other w v = ap (λ probes. record { probes = probes }) (one_list ts one.probes other.probes w v)

-- neither comes after the other
same_place : (a b : ℕ) (x y : ℕ) → (a < b) ⊎ ((a ≡ b) × (x ≤ y)) → (b < a) ⊎ ((b ≡ a) × (y ≤ x)) → (a ≡ b) × (x ≡ y)
same_place a b x y (inl h) (inl k) = absurd (omega (arith, h, k))
same_place a b x y (inl h) (inr k) = absurd (omega (arith, h, k.0))
same_place a b x y (inr h) (inl k) = absurd (omega (arith, h.0, k))
same_place a b x y (inr h) (inr k) = (h.0, omega (arith, h.1, k.1))

same_fault : (one other : ParseError) → NotAfter one other → NotAfter other one → one ≡ other
same_fault (Syntax n) (Syntax m) h k = ap Syntax (same_place n m 0 0 h k).0
same_fault (Syntax n) (TooDeep m) h k = let q : 0 ≡ 1 = (same_place n m 0 1 h k).1 in cc (q)
same_fault (Syntax n) (TooMany m) h k = let q : 0 ≡ 2 = (same_place n m 0 2 h k).1 in cc (q)
same_fault (Syntax n) Memory h k = let q : 0 ≡ 3 = (same_place n 0 0 3 h k).1 in cc (q)
same_fault (TooDeep n) (Syntax m) h k = let q : 1 ≡ 0 = (same_place n m 1 0 h k).1 in cc (q)
same_fault (TooDeep n) (TooDeep m) h k = ap TooDeep (same_place n m 1 1 h k).0
same_fault (TooDeep n) (TooMany m) h k = let q : 1 ≡ 2 = (same_place n m 1 2 h k).1 in cc (q)
same_fault (TooDeep n) Memory h k = let q : 1 ≡ 3 = (same_place n 0 1 3 h k).1 in cc (q)
same_fault (TooMany n) (Syntax m) h k = let q : 2 ≡ 0 = (same_place n m 2 0 h k).1 in cc (q)
same_fault (TooMany n) (TooDeep m) h k = let q : 2 ≡ 1 = (same_place n m 2 1 h k).1 in cc (q)
same_fault (TooMany n) (TooMany m) h k = ap TooMany (same_place n m 2 2 h k).0
same_fault (TooMany n) Memory h k = let q : 2 ≡ 3 = (same_place n 0 2 3 h k).1 in cc (q)
same_fault Memory (Syntax m) h k = let q : 3 ≡ 0 = (same_place 0 m 3 0 h k).1 in cc (q)
same_fault Memory (TooDeep m) h k = let q : 3 ≡ 1 = (same_place 0 m 3 1 h k).1 in cc (q)
same_fault Memory (TooMany m) h k = let q : 3 ≡ 2 = (same_place 0 m 3 2 h k).1 in cc (q)
same_fault Memory Memory h k = refl

pub one_fault : (ts : List Item) (one other : ParseError) → IsRefusal ts one → IsRefusal ts other → one ≡ other
one_fault ts one other r s = same_fault one other (r.first other s.holds) (s.first one r.holds)

pub not_both : (ts : List Item) (script : Script) (fault : ParseError) → IsAccepted ts script → IsRefusal ts fault → ⊥
not_both ts script fault a r = a.no_fault fault r.holds

pub script_begins : (ts : List Item) (script : Script) → IsTreeOf ts script → Begins ts
script_begins ts script w = tree_begins ts script.probes w
