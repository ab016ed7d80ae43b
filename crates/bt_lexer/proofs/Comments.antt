-- Comments, byte by byte.
use Rattle.std.proofs.Common.{◌≡◌, ◌+◌, ◌<◌, ℕ, suc, false, List, ◌∷◌, drop, length, get_or, refl, sym, subst, add-one}
use Rattle.std.proofs.Math.Seq.{drop-cons}
use Rattle.bt_lexer.specs.Scan.{closes, comment_len}

at_cons : (b : ℕ) (r : List ℕ) (n : ℕ) → closes (b ∷ r) ≡ false → comment_len n (b ∷ r) ≡ comment_len (n + 1) r
at_cons b r n h = rw h refl

pub one_further : (i : ℕ) (bs : List ℕ) (n m : ℕ) → m ≡ n + 1 → i < length bs → closes (drop i bs) ≡ false → comment_len m (drop (i + 1) bs) ≡ comment_len n (drop i bs)
one_further i bs n m q h c =
    let e : drop i bs ≡ get_or bs i 0 ∷ drop (suc i) bs = drop-cons bs i 0 h in
    let c' : closes (get_or bs i 0 ∷ drop (suc i) bs) ≡ false = subst (λ z. closes z ≡ false) e c in
    rw (q, e, add-one i) (sym (at_cons (get_or bs i 0) (drop (suc i) bs) n c'))
