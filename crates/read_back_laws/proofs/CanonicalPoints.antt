-- What a probe's points were read of can be written again, with the long words.
use Rattle.std.proofs.Common.{◌≡◌, ℕ, ◌^◌, ◌<◌, Bool, true, false, cond, ◌&&◌, List, [], ◌∷◌, ◌++◌, length, Option, Some, None, refl, ap, sym, subst, ◌∙◌, inl, inr, arith}
use Rattle.std.specs.Prelude.{codes, decimal, nat_lt, ◌==◌, ◌⊎◌}
use Rattle.std.specs.Char.{digit_value}
use Rattle.std.specs.List.{slice_split, list_all, AllByRecursion}
use Rattle.std.specs.Str.Parse.{AllDigits, digits_value}
use Rattle.std.proofs.lemmas.Bool.{false≢true}
use Rattle.std.proofs.lemmas.Bool.Decides.{nat_tests}
use Rattle.std.proofs.lemmas.Fmt.{decimal_is_IsNumeral}
use Rattle.std.proofs.lemmas.List.{append-nil}
use Rattle.std.proofs.lemmas.List.Elements.{All-from_recursion}
use Rattle.std.proofs.lemmas.List.Splits.{slice_split_at, slice_split_none}
use Rattle.std.proofs.Common.{append_assoc}
use Rattle.bt_core.specs.Bytes.{is_digit}
use Rattle.bt_lexer.specs.Bytes.{is_attach_byte, Every}
use Rattle.bt_lexer.specs.Words.{IsAttachWord}
use Rattle.bt_lexer.specs.declared.token.TokenKind.{TokenKind}
use Rattle.bt_lexer.specs.declared.token.TokenKind.TheVariants as kinds
use Rattle.bt_core.specs.declared.place.Place.{Place}
use Rattle.bt_ast.specs.declared.probe.Unit.{Unit as TimeUnit}
use Rattle.bt_ast.specs.declared.probe.Unit.TheVariants as units
use Rattle.bt_ast.specs.declared.probe.Point.{Point}
use Rattle.bt_ast.specs.declared.probe.Point.TheVariants as points
use Rattle.ast_text.specs.Words.{token, unit_word}
use Rattle.ast_text.specs.Scripts.{point_text, points_after}
use Rattle.bt_grammar.specs.declared.class.Class.{Class}
use Rattle.bt_grammar.specs.declared.class.Class.TheVariants.{BeginWord, EndWord, TracepointPoint, IntervalPoint, Foreign}
use Rattle.bt_grammar.specs.Classes.{is_point}
use Rattle.bt_grammar.specs.Attach.{is_name_byte, is_name, are_digits, is_tracepoint_word, is_interval_word, unit_of, tracepoint_point, interval_point, point_of_parts, attach_point}
use Rattle.bt_grammar.specs.Form.{Item, Tok, Points, Rel, whole}
use Rattle.bt_grammar.specs.Tokens.{point_class, class_of, origin}
use Rattle.bt_grammar.specs.Trees.{kind_bytes, single, snoc, found_point, point_of, point_at}
use Rattle.bt_grammar.specs.Rules.{rule}
use Rattle.read_back_laws.specs.Bare.{bare_point}
use Rattle.bt_grammar.proofs.AllClasses.{and_first, and_second}
use Rattle.read_back_laws.proofs.Lexemes.{lexeme, Valid, Honest}
use Rattle.bt_grammar.proofs.KindClasses.{tracepoint_kind, interval_kind, apart}
use Rattle.read_back_laws.proofs.LexemesFixed.{kind_of, fixed_class, fixed_valid}
use Rattle.read_back_laws.proofs.CanonicalWeights.{shallow_token}
use Rattle.read_back_laws.proofs.CanonicalForms.{Lift, Again, Behind, one_item, lift_map, lift_chain, lift_comma}
use Rattle.read_back_laws.proofs.CanonicalValues.{IsPoint, IsPoints}
use Rattle.read_back_laws.proofs.CanonicalExprs.{joined_by, snoc_same}

-- ---- what an attach token is, whatever its place

abbrev View : (Place → Option Point) → Type 0
View f =
    ((p : Place) → f p ≡ None)
    ⊎ (((system name : List ℕ) × (is_name system ≡ true) × (is_name name ≡ true) × ((p : Place) → f p ≡ Some (points.Tracepoint system name p)))
    ⊎ ((unit : TimeUnit) × (number : ℕ) × (number < 2 ^ 64) × ((p : Place) → f p ≡ Some (points.Interval unit number p))))

pick : (b : Bool) (f g : Place → Option Point) → View f → View g → View (λ p. cond b (f p) (g p))
pick true f g v w = v
pick false f g v w = w

tracepoint_view : (system name : List ℕ) → View (tracepoint_point system name)
tracepoint_view system name = by_test (is_name system && is_name name) refl
  where
    by_test : (b : Bool) → (is_name system && is_name name) ≡ b → View (λ p. cond b (Some (points.Tracepoint system name p)) None)
    by_test true h = inr (inl (system, name, and_first (is_name system) (is_name name) h, and_second (is_name system) (is_name name) h, λ p. refl))
    by_test false h = inl (λ p. refl)

interval_view : (unit : Option TimeUnit) (number : List ℕ) → View (interval_point unit number)
interval_view None number = inl (λ p. refl)
interval_view (Some unit) number = by_test (are_digits number && nat_lt (digits_value 10 number) (2 ^ 64)) refl
  where
    by_test : (b : Bool) → (are_digits number && nat_lt (digits_value 10 number) (2 ^ 64)) ≡ b → View (λ p. cond b (Some (points.Interval unit (digits_value 10 number) p)) None)
    by_test true h = let k = and_second (are_digits number) (nat_lt (digits_value 10 number) (2 ^ 64)) h in
        inr (inr (unit, digits_value 10 number, grind (arith, nat_tests), λ p. refl))
    by_test false h = inl (λ p. refl)

view_parts : (parts : List (List ℕ)) → View (point_of_parts parts)
view_parts [] = inl (λ p. refl)
view_parts (a ∷ []) = inl (λ p. refl)
view_parts (a ∷ b ∷ []) = inl (λ p. refl)
view_parts (a ∷ b ∷ c ∷ []) = pick (is_tracepoint_word a) (tracepoint_point b c) (λ p. cond (is_interval_word a) (interval_point (unit_of b) c p) None) (tracepoint_view b c)
    (pick (is_interval_word a) (interval_point (unit_of b) c) (λ p. None) (interval_view (unit_of b) c) (inl (λ p. refl)))
view_parts (a ∷ b ∷ c ∷ d ∷ more) = inl (λ p. refl)

-- ---- the long spellings

name_no_colon : (b : ℕ) → is_name_byte b ≡ true → (b == 58) ≡ false
name_no_colon b h = grind (arith, nat_tests)

name_attaches : (b : ℕ) → is_name_byte b ≡ true → is_attach_byte b ≡ true
name_attaches b h = grind (arith, nat_tests)

digit_names : (b : ℕ) → digit_value b < 10 → is_name_byte b ≡ true
digit_names b h = grind (arith, nat_tests)

digit_is : (b : ℕ) → digit_value b < 10 → is_digit b ≡ true
digit_is b h = grind (arith, nat_tests)

no_colons : (bs : List ℕ) → list_all is_name_byte bs ≡ true → AllByRecursion (λ b. (b == 58) ≡ false) bs
no_colons [] h = tt
no_colons (b ∷ bs) h = (name_no_colon b (and_first (is_name_byte b) (list_all is_name_byte bs) h), no_colons bs (and_second (is_name_byte b) (list_all is_name_byte bs) h))

attaching : (bs : List ℕ) → list_all is_name_byte bs ≡ true → Every is_attach_byte bs
attaching [] h = tt
attaching (b ∷ bs) h = (name_attaches b (and_first (is_name_byte b) (list_all is_name_byte bs) h), attaching bs (and_second (is_name_byte b) (list_all is_name_byte bs) h))

digits_name : (bs : List ℕ) → AllDigits 10 bs → list_all is_name_byte bs ≡ true
digits_name [] h = refl
digits_name (b ∷ bs) h = rw (digit_names b h.0) (digits_name bs h.1)

digits_digits : (bs : List ℕ) → AllDigits 10 bs → list_all is_digit bs ≡ true
digits_digits [] h = refl
digits_digits (b ∷ bs) h = rw (digit_is b h.0) (digits_digits bs h.1)

digits_are : (bs : List ℕ) → 0 < length bs → AllDigits 10 bs → are_digits bs ≡ true
digits_are [] l h = absurd (omega arith)
digits_are (b ∷ bs) l h = digits_digits (b ∷ bs) h

name_all : (bs : List ℕ) → is_name bs ≡ true → list_all is_name_byte bs ≡ true
name_all [] h = refl
name_all (b ∷ bs) h = h

every_both : (p : ℕ → Bool) (xs ys : List ℕ) → Every p xs → Every p ys → Every p (xs ++ ys)
every_both p [] ys h k = k
every_both p (x ∷ xs) ys h k = (h.0, every_both p xs ys h.1 k)

colon_parts : (word first second : List ℕ) → list_all is_name_byte word ≡ true → list_all is_name_byte first ≡ true → list_all is_name_byte second ≡ true
    → slice_split (λ b. b == 58) (word ++ 58 ∷ (first ++ 58 ∷ second)) ≡ word ∷ first ∷ second ∷ []
colon_parts word first second w f s =
    slice_split_at (λ b. b == 58) word 58 (first ++ 58 ∷ second) (All-from_recursion (λ b. (b == 58) ≡ false) word (no_colons word w)) refl
    ∙ ap (λ (l : List (List ℕ)). word ∷ l) (slice_split_at (λ b. b == 58) first 58 second (All-from_recursion (λ b. (b == 58) ≡ false) first (no_colons first f)) refl
    ∙ ap (λ (l : List (List ℕ)). first ∷ l) (slice_split_none (λ b. b == 58) second (All-from_recursion (λ b. (b == 58) ≡ false) second (no_colons second s))))

attach_valid : (word first second : List ℕ) → IsAttachWord word → list_all is_name_byte first ≡ true → list_all is_name_byte second ≡ true → Valid (kinds.Attach (word ++ 58 ∷ (first ++ 58 ∷ second)))
attach_valid word first second w f s = ((refl, (word, first ++ 58 ∷ second, refl, w, every_both is_attach_byte first (58 ∷ second) (attaching first f) (refl, attaching second s))), tt)

tracepoint_read : (system name : List ℕ) → is_name system ≡ true → is_name name ≡ true → (p : Place) → attach_point (codes "tracepoint:" ++ (system ++ (codes ":" ++ name))) p ≡ Some (points.Tracepoint system name p)
tracepoint_read system name s n p = ap (λ (l : List (List ℕ)). point_of_parts l p) (colon_parts (codes "tracepoint") system name refl (name_all system s) (name_all name n))
    ∙ rw (s, n) refl

abbrev interval_bytes : TimeUnit → ℕ → List ℕ
interval_bytes unit number = codes "interval:" ++ (unit_word unit ++ (codes ":" ++ decimal number))

unit_names : (unit : TimeUnit) → list_all is_name_byte (unit_word unit) ≡ true
unit_names units.S = refl
unit_names units.Ms = refl
unit_names units.Us = refl
unit_names units.Hz = refl

unit_back : (unit : TimeUnit) → unit_of (unit_word unit) ≡ Some unit
unit_back units.S = refl
unit_back units.Ms = refl
unit_back units.Us = refl
unit_back units.Hz = refl

number_read : (unit : TimeUnit) (ds : List ℕ) (n : ℕ) → n < 2 ^ 64 → are_digits ds ≡ true → digits_value 10 ds ≡ n → (p : Place) → interval_point (Some unit) ds p ≡ Some (points.Interval unit n p)
number_read unit ds n small d v p = let fits : nat_lt n (2 ^ 64) ≡ true = grind (arith, nat_tests) in rw (d, v, fits) refl

interval_read : (unit : TimeUnit) (number : ℕ) → number < 2 ^ 64 → (p : Place) → attach_point (interval_bytes unit number) p ≡ Some (points.Interval unit number p)
interval_read unit number small p =
    let d = decimal_is_IsNumeral number small in
    ap (λ (l : List (List ℕ)). point_of_parts l p) (colon_parts (codes "interval") (unit_word unit) (decimal number) refl (unit_names unit) (digits_name (decimal number) d.0.1))
    ∙ (ap (λ (u : Option TimeUnit). interval_point u (decimal number) p) (unit_back unit) ∙ number_read unit (decimal number) number small (digits_are (decimal number) d.0.0 d.0.1) d.1 p)

interval_valid : (unit : TimeUnit) (number : ℕ) → number < 2 ^ 64 → Valid (kinds.Attach (interval_bytes unit number))
interval_valid unit number small = attach_valid (codes "interval") (unit_word unit) (decimal number) (inr (inr (inl refl))) (unit_names unit) (digits_name (decimal number) (decimal_is_IsNumeral number small).0.1)

-- ---- points

-- a kind of the class that writes the point, of whatever token it is read again
abbrev Written : Class → Point → Type 0
Written class point = (l : TokenKind) × Valid l × (class_of l ≡ class) × ((c : Class) (p : Place) → c ≡ class_of l → (is_point c ≡ true) × IsPoint point (lexeme l) (point_of c l p))

written_as : (class : Class) (point other : Point) → other ≡ point → Written class point → Written class other
written_as class point other e w = subst (Written class) (sym e) w

begin_written : (p : Place) → Written BeginWord (points.Begin p)
begin_written p = (kind_of BeginWord, fixed_valid BeginWord refl, fixed_class BeginWord refl, λ c q e. subst (λ (z : Class). (is_point z ≡ true) × IsPoint (points.Begin p) (lexeme (kind_of BeginWord)) (point_of z (kind_of BeginWord) q)) (sym (e ∙ fixed_class BeginWord refl)) (refl, (refl, refl)))

end_written : (p : Place) → Written EndWord (points.End p)
end_written p = (kind_of EndWord, fixed_valid EndWord refl, fixed_class EndWord refl, λ c q e. subst (λ (z : Class). (is_point z ≡ true) × IsPoint (points.End p) (lexeme (kind_of EndWord)) (point_of z (kind_of EndWord) q)) (sym (e ∙ fixed_class EndWord refl)) (refl, (refl, refl)))

tracepoint_written : (system name : List ℕ) → is_name system ≡ true → is_name name ≡ true → (p : Place) → Written TracepointPoint (points.Tracepoint system name p)
tracepoint_written system name s n p = (
  kinds.Attach bytes,
  attach_valid (codes "tracepoint") system name (inl refl) (name_all system s) (name_all name n),
  ap point_class (tracepoint_read system name s n origin),
  λ c q e.
      let e' : c ≡ TracepointPoint = e ∙ ap point_class (tracepoint_read system name s n origin) in
      let same : point_of TracepointPoint (kinds.Attach bytes) q ≡ points.Tracepoint system name q = ap (λ (o : Option Point). found_point o q) (tracepoint_read system name s n q) in
      subst (λ (z : Class). (is_point z ≡ true) × IsPoint (points.Tracepoint system name p) (token bytes) (point_of z (kinds.Attach bytes) q)) (sym e') (refl, (refl, ap bare_point same)),
)
  where
    bytes : List ℕ
    bytes = codes "tracepoint:" ++ (system ++ (codes ":" ++ name))

interval_written : (unit : TimeUnit) (number : ℕ) → number < 2 ^ 64 → (p : Place) → Written IntervalPoint (points.Interval unit number p)
interval_written unit number small p = (
  kinds.Attach (interval_bytes unit number),
  interval_valid unit number small,
  ap point_class (interval_read unit number small origin),
  λ c q e.
      let e' : c ≡ IntervalPoint = e ∙ ap point_class (interval_read unit number small origin) in
      let same : point_of IntervalPoint (kinds.Attach (interval_bytes unit number)) q ≡ points.Interval unit number q = ap (λ (o : Option Point). found_point o q) (interval_read unit number small q) in
      subst (λ (z : Class). (is_point z ≡ true) × IsPoint (points.Interval unit number p) (token (interval_bytes unit number)) (point_of z (kinds.Attach (interval_bytes unit number)) q)) (sym e') (refl, (refl, ap bare_point same)),
)

point_written : (c : Class) (k : TokenKind) (p : Place) → c ≡ class_of k → is_point c ≡ true → Written c (point_of c k p)
point_written BeginWord k p e q = begin_written p
point_written EndWord k p e q = end_written p
point_written TracepointPoint k p e q = by_view (view_parts (slice_split (λ b. b == 58) (kind_bytes k)))
  where
    is_class : TracepointPoint ≡ point_class (attach_point (kind_bytes k) origin)
    is_class = e ∙ ap class_of (tracepoint_kind k e)

    by_view : View (attach_point (kind_bytes k)) → Written TracepointPoint (found_point (attach_point (kind_bytes k) p) p)
    by_view (inl v) = absurd (apart TracepointPoint Foreign (is_class ∙ ap point_class (v origin)) refl)
    by_view (inr (inl (s, n, hs, hn, v))) = written_as TracepointPoint (points.Tracepoint s n p) _ (ap (λ (o : Option Point). found_point o p) (v p)) (tracepoint_written s n hs hn p)
    by_view (inr (inr (u, n, small, v))) = absurd (apart TracepointPoint IntervalPoint (is_class ∙ ap point_class (v origin)) refl)
point_written IntervalPoint k p e q = by_view (view_parts (slice_split (λ b. b == 58) (kind_bytes k)))
  where
    is_class : IntervalPoint ≡ point_class (attach_point (kind_bytes k) origin)
    is_class = e ∙ ap class_of (interval_kind k e)

    by_view : View (attach_point (kind_bytes k)) → Written IntervalPoint (found_point (attach_point (kind_bytes k) p) p)
    by_view (inl v) = absurd (apart IntervalPoint Foreign (is_class ∙ ap point_class (v origin)) refl)
    by_view (inr (inl (s, n, hs, hn, v))) = absurd (apart IntervalPoint TracepointPoint (is_class ∙ ap point_class (v origin)) refl)
    by_view (inr (inr (u, n, small, v))) = written_as IntervalPoint (points.Interval u n p) _ (ap (λ (o : Option Point). found_point o p) (v p)) (interval_written u n small p)
point_written _ k p e q = absurd (false≢true q)

-- ---- lists of points

commas_point : (ps : List Point) (p : Point) → points_after (token (codes ",")) (ps ++ p ∷ []) ≡ points_after (token (codes ",")) ps ++ (token (codes ",") ++ point_text p)
commas_point [] p = ap (λ (z : List ℕ). token (codes ",") ++ z) (append-nil (point_text p))
commas_point (q ∷ ps) p = ap (λ (z : List ℕ). token (codes ",") ++ (point_text q ++ z)) (commas_point ps p)
    ∙ ap (λ (z : List ℕ). token (codes ",") ++ z) (sym (append_assoc (point_text q) (points_after (token (codes ",")) ps) (token (codes ",") ++ point_text p)))

first_case : (t u : Item) (x : List ℕ) → IsPoint (point_at t) x (point_at u) → IsPoints (single (point_at t)) x (single (point_at u))
first_case t u x (ex, eb) = (point_at t, [], refl, ex ∙ sym (append-nil (point_text (point_at t))), ap (λ (z : Point). z ∷ []) eb)

next_case : (ps qs : List Point) (p q : Point) (x y : List ℕ) → IsPoints ps x qs → Behind (token (codes ",")) IsPoint p y q → IsPoints (snoc ps p) (x ++ y) (snoc qs q)
next_case ps qs p q x y (g, more, eps, ex, eb) (z, ey, (ez, ef)) = (
  g,
  more ++ p ∷ [],
  ap (λ (l : List Point). l ++ p ∷ []) eps,
  joined_by ex (ey ∙ ap (λ (l : List ℕ). token (codes ",") ++ l) ez) ∙ (append_assoc (point_text g) (points_after (token (codes ",")) more) (token (codes ",") ++ point_text p) ∙ ap (λ (l : List ℕ). point_text g ++ l) (sym (commas_point more p))),
  snoc_same bare_point ps qs p q eb ef,
)

module _ (R : Rel) where
  lift_point : Lift R (Tok is_point) (λ t x u. IsPoint (point_at t) x (point_at u))
  lift_point = record { lift = go }
    where
      again : (t : Item) → Honest (t ∷ []) → is_point t.class ≡ true → Again R (Tok is_point) (λ t x u. IsPoint (point_at t) x (point_at u)) (t ∷ []) t
      again t h q = let (l, v, lc, w) = point_written t.class t.kind t.place h.0 q in (
        l ∷ [],
        (v, tt),
        shallow_token t l lc,
        λ us are.
            let (u, e, ek, ec) = one_item l us are in
            let (qu, r) = w u.class u.place ec in (
              u,
              (e, qu),
              subst (λ (k : TokenKind). IsPoint (point_at t) (lexeme l ++ []) (point_of u.class k u.place)) (sym ek)
                  (subst (λ (z : List ℕ). IsPoint (point_at t) z (point_of u.class l u.place)) (sym (append-nil (lexeme l))) r),
            ),
      )

      go : (ts : List Item) (a : Item) → Honest ts → whole R (Tok is_point) ts a → Again R (Tok is_point) (λ t x u. IsPoint (point_at t) x (point_at u)) ts a
      go ts a h (e, q) = subst (λ (l : List Item). Again R (Tok is_point) (λ t x u. IsPoint (point_at t) x (point_at u)) l a) (sym e) (again a (subst Honest e h) q)

  pub lift_Points : Lift R (rule Points) IsPoints
  lift_Points = lift_chain R (lift_map R lift_point first_case) (lift_comma R (lift_map R lift_point (λ t u x r. r))) next_case
