-- What `==` of two classes says.
use Rattle.std.proofs.Common.{◌≡◌, Bool, true, false, List, [], ◌∷◌, refl, sym, ◌∙◌, ap, subst, inl, inr}
use Rattle.std.proofs.lemmas.Bool.{false≢true}
use denote.Enum.Bare.{Bare, same_true, true_same}
use denote.Enum.Compared.{Each, by}
use denote.Enum.Declared.{Choice, intoss}
use denote.Struct.Field.{Field}
use denote.Struct.Values.{Values}
use Rattle.bt_core.specs.contracts.operator.BinOp.{the_type as operator_type}
use Rattle.bt_core.specs.contracts.operator.BinOpPartialEq.TheImpl as operators
use Rattle.bt_ast.specs.contracts.expr.Builtin.{the_type as builtin_type}
use Rattle.bt_ast.specs.contracts.expr.BuiltinPartialEq.TheImpl as builtins
use Rattle.bt_ast.specs.contracts.gathering.Gathering.{the_type as gathering_type}
use Rattle.bt_ast.specs.contracts.gathering.GatheringPartialEq.TheImpl as gatherings
use Rattle.bt_grammar.specs.contracts.class.Class.{the_type, as_values}
use Rattle.bt_grammar.specs.contracts.class.ClassPartialEq.TheImpl.{ghosts}
use Rattle.bt_grammar.specs.Classes.{is}
use Rattle.bt_grammar.proofs.AllClasses.{is_same, is_refl}
use Rattle.bt_grammar.specs.declared.class.Class.{Class}
use Rattle.bt_grammar.specs.declared.class.Class.TheVariants.{BuiltinWord, GatherWord, Operator, UpdateMark, BeginWord}

-- each variant's own comparison tells what is the same
abbrev Sound : (Fss : List (List Field)) → Each Bool Fss → Type 0
Sound [] each = Unit {0}
Sound (Fs ∷ Fss) each = ((x y : Values Fs) → each.0 x y ≡ true → x ≡ y) × Sound Fss each.1

by_same : (Fss : List (List Field)) (each : Each Bool Fss) → Sound Fss each → (c d : Choice Fss) → by false false Fss each c d ≡ true → c ≡ d
by_same [] each s c d h = absurd c
by_same (Fs ∷ Fss) each s (inl x) (inl y) h = ap inl (s.0 x y h)
by_same (Fs ∷ Fss) each s (inl x) (inr y) h = cc (h)
by_same (Fs ∷ Fss) each s (inr x) (inl y) h = cc (h)
by_same (Fs ∷ Fss) each s (inr x) (inr y) h = ap inr (by_same Fss each.1 s.1 x y h)

-- the variants that carry nothing
abbrev bare_each : (Fss : List (List Field)) → Bare Fss → Each Bool Fss
bare_each [] bare = tt
bare_each ([] ∷ Fss) bare = ((λ x y. true), bare_each Fss bare)
bare_each ((F ∷ Fs) ∷ Fss) bare = absurd bare

bare_sound : (Fss : List (List Field)) (bare : Bare Fss) → Sound Fss (bare_each Fss bare)
bare_sound [] bare = tt
bare_sound ([] ∷ Fss) bare = ((λ x y e. refl), bare_sound Fss bare)
bare_sound ((F ∷ Fs) ∷ Fss) bare = absurd bare

abbrev behind_four : List (List Field) → List (List Field)
behind_four (a ∷ b ∷ c ∷ d ∷ Fss) = Fss
behind_four _ = []

pub class_same : (a b : Class) → ghosts.eq a b ≡ true → a ≡ b
class_same a b h = the_type.to_one a b (ap (intoss the_type.parts) (by_same the_type.parts
    ((λ x y. builtins.ghosts.eq x.0 y.0), ((λ x y. gatherings.ghosts.eq x.0 y.0), ((λ x y. operators.ghosts.eq x.0 y.0), ((λ x y. operators.ghosts.eq x.0 y.0), bare_each (behind_four the_type.parts) tt)))) (
      (λ x y e. ap (λ v. (v, tt)) (same_true builtin_type tt x.0 y.0 e)),
      (
        (λ x y e. ap (λ v. (v, tt)) (same_true gathering_type tt x.0 y.0 e)),
        ((λ x y e. ap (λ v. (v, tt)) (same_true operator_type tt x.0 y.0 e)), ((λ x y e. ap (λ v. (v, tt)) (same_true operator_type tt x.0 y.0 e)), bare_sound (behind_four the_type.parts) tt)),
      ),
    )
    (as_values a) (as_values b) h))

pub class_own : (a : Class) → ghosts.eq a a ≡ true
class_own (BuiltinWord x) = true_same builtin_type x x refl
class_own (GatherWord x) = true_same gathering_type x x refl
class_own (Operator x) = true_same operator_type x x refl
class_own (UpdateMark x) = true_same operator_type x x refl
class_own BeginWord = refl
class_own _ = refl

-- `==` is the test by numbers
pub equals_is : (a b : Class) → ghosts.eq a b ≡ is b a
equals_is a b = decided (ghosts.eq a b) (is b a) refl refl
  where
    decided : (e i : Bool) → ghosts.eq a b ≡ e → is b a ≡ i → ghosts.eq a b ≡ is b a
    decided true i h k = h ∙ sym (is_refl b a (class_same a b h))
    decided false true h k = absurd (false≢true (sym h ∙ subst (λ d. ghosts.eq a d ≡ true) (is_same b a k) (class_own a)))
    decided false false h k = h ∙ sym k
