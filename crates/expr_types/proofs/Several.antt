-- Several expressions, one behind the other.
use Rattle.std.proofs.Common.{◌≡◌, ◌++◌, ◌+◌, ℕ, ◌<◌, ◌≤◌, suc, List, [], ◌∷◌, length, map, take, drop, get_or, Result, sym, ap, subst, ◌∙◌, arith, drop-cons}
use Rattle.std.proofs.lemmas.List.{drop_all, take_all, map-append}
use Rattle.std.proofs.Math.Seq.{take-suc}
use Rattle.bt_ast.specs.declared.expr.Expr.{Expr}
use Rattle.typed_tree.specs.declared.expr.AnyExpr.{AnyExpr}
use Rattle.typed_tree.specs.Parts.{Made, made_of}
use Rattle.expr_types.specs.declared.fault.Fault.{Fault}
use Rattle.expr_types.specs.declared.fault.TypeError.{TypeError}
use Rattle.expr_types.specs.declared.known.Known.{Known}
use Rattle.expr_types.specs.Grows.{Grows}
use Rattle.expr_types.specs.Judge.{judged, SaysFault}
use Rattle.expr_types.specs.Walk.{Seen, points_of, of_expr}
use Rattle.expr_types.specs.Typing.{IsTyping, AreTyping}
use Rattle.expr_types.specs.Checked.{Checked, AllChecked}
use Rattle.expr_types.proofs.Judging.{judged_ok}
use Rattle.expr_types.proofs.Growing.{grows_on}
use Rattle.expr_types.proofs.Later.{typing_later}
use Rattle.expr_types.proofs.Composing.{front_refused}

pub are_later : (a b : Known) → Grows a b → (ss : List Seen) (ms : List Made) → AreTyping a ss ms → AreTyping b ss ms
are_later a b g [] [] h = tt
are_later a b g [] (m ∷ ms) h = h
are_later a b g (s ∷ ss) [] h = h
are_later a b g (s ∷ ss) (m ∷ ms) h = (typing_later a b g s.sort s.words m h.0, are_later a b g ss ms h.1)

are_more : (k : Known) (ss : List Seen) (ms : List Made) (s : Seen) (m : Made) → AreTyping k ss ms → IsTyping k s.sort s.words m → AreTyping k (ss ++ s ∷ []) (ms ++ m ∷ [])
are_more k [] [] s m h t = (t, tt)
are_more k [] (n ∷ ms) s m h t = absurd h
are_more k (r ∷ ss) [] s m h t = absurd h
are_more k (r ∷ ss) (n ∷ ms) s m h t = (h.0, are_more k ss ms s m h.1 t)

left_at : (xs : List Expr) (i : ℕ) (x : Expr) (k : Known) → i < length xs → x ≡ get_or xs i x → judged (points_of (map of_expr (drop i xs))) k ≡ judged ((of_expr x).points ++ points_of (map of_expr (drop (suc i) xs))) k
left_at xs i x k within is =
    ap (λ (l : List Expr). judged (points_of (map of_expr l)) k) (drop-cons xs i x within)
    ∙ ap (λ (y : Expr). judged ((of_expr y).points ++ points_of (map of_expr (drop (suc i) xs))) k) (sym is)

one_more : (i : ℕ) → suc i ≡ i + 1
one_more i = omega arith

-- what is left behind one more
pub next_left : (xs : List Expr) (i : ℕ) (x : Expr) (k1 k2 : Known) (m : Made) (v : Result Known Fault) → i < length xs → x ≡ get_or xs i x → judged (points_of (map of_expr (drop i xs))) k1 ≡ v → Checked (of_expr x) k1 k2 m
    → judged (points_of (map of_expr (drop (i + 1) xs))) k2 ≡ v
next_left xs i x k1 k2 m v within is left c =
    subst (λ (n : ℕ). judged (points_of (map of_expr (drop n xs))) k2 ≡ v) (one_more i)
    (sym (judged_ok (of_expr x).points (points_of (map of_expr (drop (suc i) xs))) k1 k2 c.whole) ∙ (sym (left_at xs i x k1 within is) ∙ left))

pub next_typing : (xs : List Expr) (i : ℕ) (x : Expr) (k1 k2 : Known) (es : List AnyExpr) (e : AnyExpr) → i < length xs → x ≡ get_or xs i x → AreTyping k1 (map of_expr (take i xs)) (map made_of es) → Checked (of_expr x) k1 k2 (made_of e)
    → AreTyping k2 (map of_expr (take (i + 1) xs)) (map made_of (es ++ e ∷ []))
next_typing xs i x k1 k2 es e within is typing c =
    let longer : take (i + 1) xs ≡ take i xs ++ x ∷ [] = ap (λ (n : ℕ). take n xs) (sym (one_more i)) ∙ (take-suc xs i x within ∙ ap (λ (y : Expr). take i xs ++ y ∷ []) (sym is)) in
    rw (longer, map-append of_expr (take i xs) (x ∷ []), map-append made_of es (e ∷ []))
    (are_more k2 (map of_expr (take i xs)) (map made_of es) (of_expr x) (made_of e) (are_later k1 k2 c.grows (map of_expr (take i xs)) (map made_of es) typing) c.typing)

pub next_grows : (x : Expr) (k0 k1 k2 : Known) (m : Made) → Grows k0 k1 → Checked (of_expr x) k1 k2 m → Grows k0 k2
next_grows x k0 k1 k2 m g c = grows_on k0 k1 k2 g c.grows

pub left_refused : (xs : List Expr) (i : ℕ) (x : Expr) (k : Known) (v : Result Known Fault) (e : TypeError) → i < length xs → x ≡ get_or xs i x → judged (points_of (map of_expr (drop i xs))) k ≡ v → SaysFault (judged (of_expr x).points k) e → SaysFault v e
left_refused xs i x k v e within is left h =
    subst (λ (u : Result Known Fault). SaysFault u e) (sym (left_at xs i x k within is) ∙ left) (front_refused (of_expr x).points (points_of (map of_expr (drop (suc i) xs))) k e h)

pub all_checked : (xs : List Expr) (i : ℕ) (k0 k : Known) (es : List AnyExpr) → length xs ≤ i → judged (points_of (map of_expr (drop i xs))) k ≡ judged (points_of (map of_expr xs)) k0 → Grows k0 k
    → AreTyping k (map of_expr (take i xs)) (map made_of es) → AllChecked (map of_expr xs) k0 k (map made_of es)
all_checked xs i k0 k es past left g typing =
    record {
      whole = sym left ∙ ap (λ (l : List Expr). judged (points_of (map of_expr l)) k) (drop_all i xs past);
      grows = g;
      typing = subst (λ (l : List Expr). AreTyping k (map of_expr l) (map made_of es)) (take_all i xs past) typing;
    }
