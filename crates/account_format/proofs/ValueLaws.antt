-- A value or a key that is read is the one that was written, and what was written is read again.
use Rattle.std.proofs.Common.{◌≡◌, ◌≢◌, ℕ, zero, suc, ◌-◌, ◌^◌, ◌<◌, ◌≤◌, Bool, true, false, cond, List, [], ◌∷◌, ◌++◌, length, take, drop, min, replicate, ℤ, pos, negsuc, FitsSigned, w64, Option, Some, None, refl, sym, ap, subst, ◌∙◌, append_assoc, length-append, arith}
use Rattle.std.specs.List.{AllByRecursion, take_while}
use Rattle.std.specs.Int.{to_le_bytes, cast_signed, cast_unsigned}
use Rattle.std.specs.Cmp.Lexicographic.{pointwise, nat_list_eq_equiv, same_text}
use Rattle.std.specs.Prelude.{nat_eq, nat_le}
use Rattle.std.proofs.Math.Facts.{sfits_to_z}
use Rattle.std.proofs.lemmas.Bool.{leb-true, le-leb}
use Rattle.std.proofs.lemmas.Int.{ints, to_z-of_z, of_z-to_z}
use Rattle.std.proofs.lemmas.List.{length-replicate, drop-replicate}
use Rattle.std.proofs.lemmas.List.Sums.{take_while-cons}
use Rattle.std.proofs.lemmas.Option.{same_Some}
use Rattle.bt_core.specs.declared.limits.TheConstants.{KEY_PARTS}
use Rattle.bt_core.specs.declared.map.Shape.{Shape}
use Rattle.bt_core.specs.declared.map.Shape.TheVariants as shapes
use Rattle.bt_core.specs.declared.value.Value.{Value}
use Rattle.bt_core.specs.declared.value.Value.TheVariants.{Int, Str}
use Rattle.bt_core.specs.Kinds.{IsOfShape, HasShape}
use Rattle.bt_core.specs.KeyBytes.{FitsValue, value_bytes, key_bytes}
use Rattle.bt_core.specs.Text.{IsShortText, is_text_byte, short_text}
use Rattle.bt_core.proofs.TextLemmas.{kept_front, kept_IsShortText}
use Rattle.recordings.specs.Fronts.{where_true, bytes_at, number_at}
use Rattle.recordings.proofs.Fields.{IsBytes, bind_some, where_true_some, Takes, Takes-then, bytes_takes, bytes_again, wide64, number_takes, number_again}
use Rattle.recordings.proofs.PartLaws.{bind_to}
use Rattle.account_format.specs.Entries.{FitsKey}
use Rattle.account_format.specs.Reading.{text_at, value_at, values_at, key_at}

-- ---- numbers

pub bits-small : (a : ℤ) → FitsSigned w64 a → cast_unsigned w64 a < 2 ^ 64
bits-small (pos n) f = omega (arith, ints, f)
bits-small (negsuc n) f = omega (arith, ints, f)

pub signed_fits : (n : ℕ) → n < 2 ^ 64 → FitsSigned w64 (cast_signed w64 n)
signed_fits n lt = sfits_to_z {w = w64} (record { fits = lt })

-- ---- strings

short_is : (bytes : List ℕ) → IsShortText (short_text bytes)
short_is bytes =
    let m = min (length bytes) 63 in
    let len = length (take_while is_text_byte (take m bytes)) in
    subst IsShortText (kept_front bytes bytes len m refl refl refl) (kept_IsShortText bytes bytes len m refl refl refl).1

text_byte : (b : ℕ) → b ≢ 0 → is_text_byte b ≡ true
text_byte b ne = grind arith

no_text : (m n : ℕ) → take_while is_text_byte (take m (replicate n 0)) ≡ []
no_text zero n = refl
no_text (suc m) zero = refl
no_text (suc m) (suc n) = take_while-cons is_text_byte 0 (take m (replicate n 0))

-- a string before zeros
text_front : (s : List ℕ) (m n : ℕ) → length s ≤ m → AllByRecursion (λ b. b ≢ 0) s → take_while is_text_byte (take m (s ++ replicate n 0)) ≡ s
text_front [] m n le h = no_text m n
text_front (x ∷ s) zero n le h = absurd (omega (arith, le))
text_front (x ∷ s) (suc m) n le h =
    take_while-cons is_text_byte x (take m (s ++ replicate n 0))
    ∙ ap (λ (b : Bool). cond b (x ∷ take_while is_text_byte (take m (s ++ replicate n 0))) []) (text_byte x h.0)
    ∙ ap (λ (l : List ℕ). x ∷ l) (text_front s m n (omega (arith, le)) h.1)

text_back : (s : List ℕ) → IsShortText s → short_text (value_bytes (Str s)) ≡ s
text_back s h = text_front s 63 (64 - length s) h.short h.no_zero

pub text_length : (s : List ℕ) → length s ≤ 63 → length (value_bytes (Str s)) ≡ 64
text_length s h = length-append s (replicate (64 - length s) 0) ∙ (omega (arith, length-replicate {A = ℕ} (64 - length s) 0))

-- a string that was copied to the front of zeros
pub text_padded : (given text copied : List ℕ) → given ≡ text → copied ≡ given → copied ++ drop (length given) (replicate 64 0) ≡ value_bytes (Str text)
text_padded given text copied same e =
    ap (λ (l : List ℕ). l ++ drop (length given) (replicate 64 0)) (e ∙ same) ∙ ap (λ (l : List ℕ). text ++ drop (length l) (replicate 64 0)) same
    ∙ ap (λ (l : List ℕ). text ++ l) (drop-replicate (length text) 64 0)

text_takes : (bytes s rest : List ℕ) → IsBytes bytes → text_at bytes ≡ Some (s, rest) → Takes bytes (value_bytes (Str s)) rest × IsShortText s
text_takes bytes s rest fits e =
    let a = bind_some (bytes_at 64 bytes) _ (s, rest) e in
    let b = where_true_some (pointwise nat_eq (value_bytes (Str (short_text a.0.0))) a.0.0) (short_text a.0.0, a.0.1) (s, rest) a.2 in
    let same : value_bytes (Str (short_text a.0.0)) ≡ a.0.0 = same_text (value_bytes (Str (short_text a.0.0))) a.0.0 (sym b.0) in
    let took = (bytes_takes 64 bytes a.0.0 a.0.1 fits a.1).0 in
    let whole : Takes bytes (value_bytes (Str (short_text a.0.0))) a.0.1 = subst (λ (l : List ℕ). Takes bytes l a.0.1) (sym same) took in
    subst (λ (p : List ℕ × List ℕ). Takes bytes (value_bytes (Str p.0)) p.1 × IsShortText p.0) b.1 (whole, short_is a.0.0)

text_again : (s rest : List ℕ) → IsShortText s → text_at (value_bytes (Str s) ++ rest) ≡ Some (s, rest)
text_again s rest h =
    let v : List ℕ = value_bytes (Str s) in
    let back : short_text v ≡ s = text_back s h in
    let same : pointwise nat_eq (value_bytes (Str (short_text v))) v ≡ true = ap (λ (t : List ℕ). pointwise nat_eq (value_bytes (Str t)) v) back ∙ nat_list_eq_equiv.refl v in
    bind_to (bytes_at 64 (v ++ rest)) _ (v, rest) _ (bytes_again 64 v rest (text_length s h.short))
    (ap (λ (b : Bool). where_true b (short_text v, rest)) same ∙ ap (λ (t : List ℕ). Some (t, rest)) back)

-- ---- values

pub value_takes : (h : Shape) (bytes : List ℕ) (v : Value) (rest : List ℕ) → IsBytes bytes → value_at h bytes ≡ Some (v, rest) → Takes bytes (value_bytes v) rest × IsOfShape h v × FitsValue v
value_takes shapes.Int bytes v rest fits e =
    let a = bind_some (number_at w64 bytes) _ (v, rest) e in
    let took = number_takes w64 wide64 bytes a.0.0 a.0.1 fits a.1 in
    let whole : Takes bytes (to_le_bytes w64 (cast_unsigned w64 (cast_signed w64 a.0.0))) a.0.1 = subst (λ (n : ℕ). Takes bytes (to_le_bytes w64 n) a.0.1) (sym (of_z-to_z w64 a.0.0 took.1)) took.0 in
    let number : FitsSigned w64 (cast_signed w64 a.0.0) = signed_fits a.0.0 took.1 in
    subst (λ (p : Value × List ℕ). Takes bytes (value_bytes p.0) p.1 × IsOfShape shapes.Int p.0 × FitsValue p.0) (same_Some (Int (cast_signed w64 a.0.0), a.0.1) (v, rest) a.2) (whole, tt, number)
value_takes shapes.Str bytes v rest fits e =
    let a = bind_some (text_at bytes) _ (v, rest) e in
    let took = text_takes bytes a.0.0 a.0.1 fits a.1 in
    subst (λ (p : Value × List ℕ). Takes bytes (value_bytes p.0) p.1 × IsOfShape shapes.Str p.0 × FitsValue p.0) (same_Some (Str a.0.0, a.0.1) (v, rest) a.2) (took.0, tt, took.1)

pub value_again : (h : Shape) (v : Value) (rest : List ℕ) → IsOfShape h v → FitsValue v → value_at h (value_bytes v ++ rest) ≡ Some (v, rest)
value_again shapes.Int (Int n) rest shaped fits =
    bind_to (number_at w64 (value_bytes (Int n) ++ rest)) _ (cast_unsigned w64 n, rest) _ (number_again w64 wide64 (cast_unsigned w64 n) rest (bits-small n fits))
    (ap (λ (z : ℤ). Some (Int z, rest)) (to_z-of_z w64 n fits))
value_again shapes.Int (Str s) rest shaped fits = absurd shaped
value_again shapes.Str (Int n) rest shaped fits = absurd shaped
value_again shapes.Str (Str s) rest shaped fits = bind_to (text_at (value_bytes (Str s) ++ rest)) _ (s, rest) _ (text_again s rest fits) refl

-- ---- keys

values_takes : (hs : List Shape) (bytes : List ℕ) (vs : List Value) (rest : List ℕ) → IsBytes bytes → values_at hs bytes ≡ Some (vs, rest) → Takes bytes (key_bytes vs) rest × HasShape hs vs × AllByRecursion FitsValue vs
values_takes [] bytes vs rest fits e =
    subst (λ (p : List Value × List ℕ). Takes bytes (key_bytes p.0) p.1 × HasShape [] p.0 × AllByRecursion FitsValue p.0) (same_Some ([], bytes) (vs, rest) e) (record { parts = refl; rest_fits = fits }, tt, tt)
values_takes (h ∷ hs) bytes vs rest fits e =
    let a = bind_some (value_at h bytes) _ (vs, rest) e in
    let b = bind_some (values_at hs a.0.1) _ (vs, rest) a.2 in
    let first = value_takes h bytes a.0.0 a.0.1 fits a.1 in
    let more = values_takes hs a.0.1 b.0.0 b.0.1 first.0.rest_fits b.1 in
    let whole = Takes-then bytes (value_bytes a.0.0) a.0.1 (key_bytes b.0.0) b.0.1 first.0 more.0 in
    subst (λ (p : List Value × List ℕ). Takes bytes (key_bytes p.0) p.1 × HasShape (h ∷ hs) p.0 × AllByRecursion FitsValue p.0) (same_Some (a.0.0 ∷ b.0.0, b.0.1) (vs, rest) b.2) (whole, (first.1, more.1), (first.2, more.2))

values_again : (hs : List Shape) (vs : List Value) (rest : List ℕ) → HasShape hs vs → AllByRecursion FitsValue vs → values_at hs (key_bytes vs ++ rest) ≡ Some (vs, rest)
values_again [] [] rest shaped fits = refl
values_again [] (v ∷ vs) rest shaped fits = absurd shaped
values_again (h ∷ hs) [] rest shaped fits = absurd shaped
values_again (h ∷ hs) (v ∷ vs) rest shaped fits =
    ap (values_at (h ∷ hs)) (append_assoc (value_bytes v) (key_bytes vs) rest)
    ∙ bind_to (value_at h (value_bytes v ++ (key_bytes vs ++ rest))) _ (v, key_bytes vs ++ rest) _ (value_again h v (key_bytes vs ++ rest) shaped.0 fits.0)
    (bind_to (values_at hs (key_bytes vs ++ rest)) _ (vs, rest) _ (values_again hs vs rest shaped.1 fits.1) refl)

shaped-length : (hs : List Shape) (vs : List Value) → HasShape hs vs → length vs ≡ length hs
shaped-length [] [] h = refl
shaped-length [] (v ∷ vs) h = absurd h
shaped-length (x ∷ hs) [] h = absurd h
shaped-length (x ∷ hs) (v ∷ vs) h = ap (λ (n : ℕ). suc n) (shaped-length hs vs h.1)

if_some : {A : Type 0} (b : Bool) (r : Option A) (y : A) → cond b r None ≡ Some y → (b ≡ true) × (r ≡ Some y)
if_some true r y e = (refl, e)
if_some false r y e = absurd cc

pub key_takes : (hs : List Shape) (bytes : List ℕ) (key : List Value) (rest : List ℕ) → IsBytes bytes → key_at hs bytes ≡ Some (key, rest) → Takes bytes (key_bytes key) rest × HasShape hs key × FitsKey key
unfolding key_at
key_takes hs bytes key rest fits e =
    let a = if_some (nat_le (length hs) KEY_PARTS) (values_at hs bytes) (key, rest) e in
    let few : length hs ≤ KEY_PARTS = leb-true (length hs) KEY_PARTS a.0 in
    let b = values_takes hs bytes key rest fits a.1 in
    let same = shaped-length hs key b.1 in
    (b.0, b.1, record { few = omega (arith, few, same); values = b.2 })

pub key_again : (hs : List Shape) (key : List Value) (rest : List ℕ) → HasShape hs key → FitsKey key → key_at hs (key_bytes key ++ rest) ≡ Some (key, rest)
unfolding key_at
key_again hs key rest shaped fits =
    let same = shaped-length hs key shaped in
    let few : length hs ≤ KEY_PARTS = omega (arith, fits.few, same) in
    ap (λ (b : Bool). cond b (values_at hs (key_bytes key ++ rest)) None) (le-leb (length hs) KEY_PARTS few) ∙ values_again hs key rest shaped fits.values
