-- The values of a key that were read so far, and one more.
use Rattle.std.proofs.Common.{◌≡◌, ℕ, zero, suc, ◌+◌, ◌<◌, ◌≤◌, Bool, List, [], ◌∷◌, ◌++◌, length, drop, get_or, cond, Option, Some, None, refl, sym, ap, ◌∙◌, append_assoc, append-nil, add-one, arith}
use Rattle.std.proofs.Math.Seq.{drop-cons}
use Rattle.std.proofs.lemmas.Bool.{le-leb}
use Rattle.std.proofs.lemmas.List.{drop_all}
use Rattle.bt_core.specs.declared.limits.TheConstants.{KEY_PARTS}
use Rattle.bt_core.specs.declared.map.Shape.{Shape}
use Rattle.bt_core.specs.declared.value.Value.{Value}
use Rattle.recordings.specs.Fronts.{◌>>=◌}
use Rattle.account_format.specs.Reading.{value_at, values_at, key_at}

-- these values, and then those that are read
abbrev pub rejoined : List Value → Option (List Value × List ℕ) → Option (List Value × List ℕ)
rejoined values None = None
rejoined values (Some more) = Some (values ++ more.0, more.1)

rejoined_none : (r : Option (List Value × List ℕ)) → r ≡ rejoined [] r
rejoined_none None = refl
rejoined_none (Some more) = refl

rejoined_more : (values : List Value) (v : Value) (r : Option (List Value × List ℕ)) → rejoined values (r >>= λ more. Some (v ∷ more.0, more.1)) ≡ rejoined (values ++ v ∷ []) r
rejoined_more values v None = refl
rejoined_more values v (Some more) = ap (λ (l : List Value). Some (l, more.1)) (sym (append_assoc values (v ∷ []) more.0))

-- what is read so far, and what is left
pub record SoFar (shapes : List Shape) (bytes : List ℕ) (place : ℕ) (values : List Value) (rest : List ℕ) : Type 0 where
  pub read : values_at shapes bytes ≡ rejoined values (values_at (drop place shapes) rest)
  pub count : length values ≡ place

pub so_far_none : (shapes : List Shape) (bytes : List ℕ) → SoFar shapes bytes 0 [] bytes
so_far_none shapes bytes = record { read = rejoined_none (values_at shapes bytes); count = refl }

-- of a shape that is there it is no matter what is said for one that is not
pub any_default : (hs : List Shape) (n : ℕ) (d : Shape) → n < length hs → get_or hs n d ≡ get_or hs n (get_or hs n d)
any_default [] n d h = absurd (omega (arith, h))
any_default (x ∷ xs) zero d h = refl
any_default (x ∷ xs) (suc n) d h = told xs n d (get_or xs n d) (omega (arith, h))
  where
    told : (hs : List Shape) (n : ℕ) (d e : Shape) → n < length hs → get_or hs n d ≡ get_or hs n e
    told [] n d e h = absurd (omega (arith, h))
    told (x ∷ xs) zero d e h = refl
    told (x ∷ xs) (suc n) d e h = told xs n d e (omega (arith, h))

left_is : (shapes : List Shape) (place : ℕ) (h : Shape) → place < length shapes → h ≡ get_or shapes place h → drop place shapes ≡ h ∷ drop (place + 1) shapes
left_is shapes place h lt is = rw add-one (drop-cons shapes place h lt ∙ ap (λ (x : Shape). x ∷ drop (suc place) shapes) (sym is))

pub so_far_more : (shapes : List Shape) (bytes : List ℕ) (place : ℕ) (values : List Value) (rest after : List ℕ) (h : Shape) (v : Value) → place < length shapes → h ≡ get_or shapes place h
    → SoFar shapes bytes place values rest → value_at h rest ≡ Some (v, after) → SoFar shapes bytes (place + 1) (values ++ v ∷ []) after
so_far_more shapes bytes place values rest after h v lt is so e = record {
  read =
      so.read ∙ ap (λ (hs : List Shape). rejoined values (values_at hs rest)) (left_is shapes place h lt is)
      ∙ ap (λ (r : Option (Value × List ℕ)). rejoined values (r >>= λ value. values_at (drop (place + 1) shapes) value.1 >>= λ more. Some (value.0 ∷ more.0, more.1))) e
      ∙ rejoined_more values v (values_at (drop (place + 1) shapes) after);
  count = omega (arith, so.count, length_one values v);
}
  where
    length_one : (vs : List Value) (x : Value) → length (vs ++ x ∷ []) ≡ length vs + 1
    length_one [] x = refl
    length_one (y ∷ vs) x = omega (arith, length_one vs x)

few_is : (shapes : List Shape) (bytes : List ℕ) → length shapes ≤ KEY_PARTS → values_at shapes bytes ≡ key_at shapes bytes
unfolding key_at
few_is shapes bytes few = ap (λ (b : Bool). cond b (values_at shapes bytes) None) (sym (le-leb (length shapes) KEY_PARTS few))

pub so_far_stop : (shapes : List Shape) (bytes : List ℕ) (place : ℕ) (values : List Value) (rest : List ℕ) (h : Shape) → length shapes ≤ KEY_PARTS → place < length shapes → h ≡ get_or shapes place h
    → SoFar shapes bytes place values rest → value_at h rest ≡ None → None ≡ key_at shapes bytes
so_far_stop shapes bytes place values rest h few lt is so e =
    sym (so.read ∙ ap (λ (hs : List Shape). rejoined values (values_at hs rest)) (left_is shapes place h lt is)
    ∙ ap (λ (r : Option (Value × List ℕ)). rejoined values (r >>= λ value. values_at (drop (place + 1) shapes) value.1 >>= λ more. Some (value.0 ∷ more.0, more.1))) e)
    ∙ few_is shapes bytes few

pub so_far_all : (shapes : List Shape) (bytes : List ℕ) (place : ℕ) (values : List Value) (rest : List ℕ) → length shapes ≤ KEY_PARTS → length shapes ≤ place
    → SoFar shapes bytes place values rest → Some (values, rest) ≡ key_at shapes bytes
so_far_all shapes bytes place values rest few all so =
    sym (so.read ∙ ap (λ (hs : List Shape). rejoined values (values_at hs rest)) (drop_past shapes place all) ∙ ap (λ (l : List Value). Some (l, rest)) (append-nil values))
    ∙ few_is shapes bytes few
  where
    drop_past : (hs : List Shape) (n : ℕ) → length hs ≤ n → drop n hs ≡ []
    drop_past hs n le = drop_all n hs le
