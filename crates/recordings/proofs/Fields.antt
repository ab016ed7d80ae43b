-- A part that is read is the part that was written, and what was written is read again.
use Rattle.std.proofs.Common.{◌≡◌, ℕ, ◌+◌, ◌^◌, ◌<◌, ◌≤◌, Bool, true, false, leb, List, ◌++◌, length, get_or, take, drop, Option, Some, None, refl, sym, ap, subst, ◌∙◌, append_assoc, arith, inl, inr}
use Rattle.std.proofs.lemmas.Bool.{cases_lt, leb-true, le-leb}
use Rattle.std.proofs.lemmas.List.{take_at, drop_at, take-append-drop, length-append, length-take, get_or-drop, get_or-take, get_or_past}
use Rattle.std.proofs.lemmas.Nat.{le_bytes_2, le_bytes_4, le_bytes_8}
use Rattle.std.specs.Int.{Width, w16, w32, w64, byte_len, to_le_bytes, from_le_bytes}
use Rattle.byteorder.specs.Endian.{little_number}
use Rattle.byteorder.specs.Numbers.{length-bytes_low_first, little_number-reads_back, little_from-lt, little_from-append}
use Rattle.recordings.specs.Parts.{sized_bytes}
use Rattle.recordings.specs.Fronts.{◌>>=◌, where_true, bytes_at, number_at, sized_at}

abbrev pub IsBytes : List ℕ → Type 0
IsBytes bytes = (i : ℕ) → get_or bytes i 0 < 256

pub IsBytes-drop : (n : ℕ) (bytes : List ℕ) → IsBytes bytes → IsBytes (drop n bytes)
IsBytes-drop n bytes h i = rw get_or-drop (h (n + i))

pub IsBytes-take : (n : ℕ) (bytes : List ℕ) → IsBytes bytes → IsBytes (take n bytes)
IsBytes-take n bytes h i =
    elim (cases_lt i n) [
      | inl lt ↦ rw (get_or-take n bytes i 0 lt) (h i)
      | inr le ↦ rw (get_or_past (take n bytes) i 0 (omega (arith, length-take n bytes))) (omega arith)
    ]

-- the value of a step that did not fail
pub bind_some : {A B : Type 0} (r : Option A) (f : A → Option B) (y : B) → (r >>= f) ≡ Some y → (x : A) × (r ≡ Some x) × (f x ≡ Some y)
bind_some (Some x) f y e = (x, refl, e)
bind_some None f y e = absurd cc

pub where_true_some : {A : Type 0} (b : Bool) (x y : A) → where_true b x ≡ Some y → (b ≡ true) × (x ≡ y)
where_true_some true x y e = (refl, cc)
where_true_some false x y e = absurd cc

-- what a reader took from the front
pub record Takes (bytes text rest : List ℕ) : Type 0 where
  pub parts : bytes ≡ text ++ rest
  pub rest_fits : IsBytes rest

pub Takes-then : (a x b y c : List ℕ) → Takes a x b → Takes b y c → Takes a (x ++ y) c
Takes-then a x b y c p q = record { parts = p.parts ∙ ap (λ (t : List ℕ). x ++ t) q.parts ∙ sym (append_assoc x y c); rest_fits = q.rest_fits }

-- ---- bytes

pub bytes_takes : (n : ℕ) (bytes front rest : List ℕ) → IsBytes bytes → bytes_at n bytes ≡ Some (front, rest) → Takes bytes front rest × (length front ≡ n) × IsBytes front
bytes_takes n bytes front rest fits e =
    let g = where_true_some (leb n (length bytes)) (take n bytes, drop n bytes) (front, rest) e in
    let front-is : take n bytes ≡ front = ap (λ (p : List ℕ × List ℕ). p.0) g.1 in
    let rest-is : drop n bytes ≡ rest = ap (λ (p : List ℕ × List ℕ). p.1) g.1 in
    let long : n ≤ length bytes = leb-true n (length bytes) g.0 in (
      record { parts = rw (← front-is, ← rest-is) (sym (take-append-drop n bytes)); rest_fits = rw (← rest-is) (IsBytes-drop n bytes fits) },
      rw (← front-is) (omega (arith, length-take n bytes)),
      rw (← front-is) (IsBytes-take n bytes fits),
    )

pub bytes_again : (n : ℕ) (front rest : List ℕ) → length front ≡ n → bytes_at n (front ++ rest) ≡ Some (front, rest)
bytes_again n front rest len =
    let long : leb n (length (front ++ rest)) ≡ true = le-leb n _ (omega (arith, length-append front rest)) in
    rw (long, take_at front rest n len, drop_at front rest n len) refl

-- ---- numbers, by their width

pub record IsWide (w : Width) : Type 0 where
  pub back : (bytes : List ℕ) → length bytes ≡ byte_len w → IsBytes bytes → to_le_bytes w (from_le_bytes w bytes) ≡ bytes
  pub read : (bytes : List ℕ) → from_le_bytes w bytes ≡ little_number (byte_len w) bytes

pub wide16 : IsWide w16
wide16 = record { back = λ bytes len fits. le_bytes_2 bytes (from_le_bytes w16 bytes) len fits refl; read = λ bytes. omega arith }

pub wide32 : IsWide w32
wide32 = record { back = λ bytes len fits. le_bytes_4 bytes (from_le_bytes w32 bytes) len fits refl; read = λ bytes. omega arith }

pub wide64 : IsWide w64
wide64 = record { back = λ bytes len fits. le_bytes_8 bytes (from_le_bytes w64 bytes) len fits refl; read = λ bytes. omega arith }

-- no byte behind the number is looked at
pub from_le_bytes-front : (w : Width) → IsWide w → (bytes : List ℕ) → byte_len w ≤ length bytes → from_le_bytes w (take (byte_len w) bytes) ≡ from_le_bytes w bytes
from_le_bytes-front w wide bytes long =
    let n = byte_len w in
    wide.read (take n bytes)
    ∙ sym (little_from-append n (take n bytes) (drop n bytes) (omega (arith, length-take n bytes)))
    ∙ ap (λ (bs : List ℕ). little_number n bs) (take-append-drop n bytes)
    ∙ sym (wide.read bytes)

pub number_takes : (w : Width) → IsWide w → (bytes : List ℕ) (x : ℕ) (rest : List ℕ) → IsBytes bytes → number_at w bytes ≡ Some (x, rest) → Takes bytes (to_le_bytes w x) rest × (x < 256 ^ byte_len w)
number_takes w wide bytes x rest fits e =
    let n = byte_len w in
    let g = where_true_some (leb n (length bytes)) (from_le_bytes w bytes, drop n bytes) (x, rest) e in
    let x-is : from_le_bytes w bytes ≡ x = ap (λ (p : ℕ × List ℕ). p.0) g.1 in
    let rest-is : drop n bytes ≡ rest = ap (λ (p : ℕ × List ℕ). p.1) g.1 in
    let long : n ≤ length bytes = leb-true n (length bytes) g.0 in
    let len : length (take n bytes) ≡ n = omega (arith, length-take n bytes) in
    let front : to_le_bytes w (from_le_bytes w bytes) ≡ take n bytes =
    ap (to_le_bytes w) (sym (from_le_bytes-front w wide bytes long)) ∙ wide.back (take n bytes) len (IsBytes-take n bytes fits) in (
      record { parts = sym (take-append-drop n bytes) ∙ ap (λ (l : List ℕ). l ++ drop n bytes) (sym front) ∙ ap (λ (m : ℕ). to_le_bytes w m ++ drop n bytes) x-is ∙ ap (λ (l : List ℕ). to_le_bytes w x ++ l) rest-is; rest_fits = rw (← rest-is) (IsBytes-drop n bytes fits) },
      subst (λ (m : ℕ). m < 256 ^ n) (sym (wide.read bytes) ∙ x-is) (little_from-lt 0 n bytes fits),
    )

pub number_again : (w : Width) → IsWide w → (x : ℕ) (rest : List ℕ) → x < 256 ^ byte_len w → number_at w (to_le_bytes w x ++ rest) ≡ Some (x, rest)
number_again w wide x rest lt =
    let n = byte_len w in
    let len : length (to_le_bytes w x) ≡ n = length-bytes_low_first 0 n x in
    let long : leb n (length (to_le_bytes w x ++ rest)) ≡ true = le-leb n _ (omega (arith, length-append (to_le_bytes w x) rest)) in
    let value : from_le_bytes w (to_le_bytes w x ++ rest) ≡ x = wide.read (to_le_bytes w x ++ rest) ∙ little_number-reads_back n x rest lt in
    ap (λ b. where_true b (from_le_bytes w (to_le_bytes w x ++ rest), drop n (to_le_bytes w x ++ rest))) long
    ∙ ap (λ (m : ℕ). Some (m, drop n (to_le_bytes w x ++ rest))) value ∙ ap (λ (l : List ℕ). Some (x, l)) (drop_at (to_le_bytes w x) rest n len)

-- ---- bytes behind their length

pub sized_takes : (w : Width) → IsWide w → (bytes piece rest : List ℕ) → IsBytes bytes → sized_at w bytes ≡ Some (piece, rest) → Takes bytes (sized_bytes w piece) rest × (length piece < 256 ^ byte_len w) × IsBytes piece
unfolding sized_at
sized_takes w wide bytes piece rest fits e =
    let a = bind_some (number_at w bytes) (λ len. bytes_at len.0 len.1) (piece, rest) e in
    let number = number_takes w wide bytes a.0.0 a.0.1 fits a.1 in
    let body = bytes_takes a.0.0 a.0.1 piece rest number.0.rest_fits a.2 in
    let both = Takes-then bytes (to_le_bytes w a.0.0) a.0.1 piece rest number.0 body.0 in
    (subst (λ (k : ℕ). Takes bytes (to_le_bytes w k ++ piece) rest) (sym body.1) both, subst (λ (k : ℕ). k < 256 ^ byte_len w) (sym body.1) number.1, body.2)

pub sized_again : (w : Width) → IsWide w → (piece rest : List ℕ) → length piece < 256 ^ byte_len w → sized_at w (sized_bytes w piece ++ rest) ≡ Some (piece, rest)
unfolding sized_at
sized_again w wide piece rest lt =
    ap (λ (bs : List ℕ). number_at w bs >>= λ len. bytes_at len.0 len.1) (append_assoc (to_le_bytes w (length piece)) piece rest)
    ∙ ap (λ read. read >>= λ len. bytes_at len.0 len.1) (number_again w wide (length piece) (piece ++ rest) lt)
    ∙ bytes_again (length piece) piece rest refl
