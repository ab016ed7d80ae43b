-- What places tell, with keys and deeds behind those that there are.
use Rattle.std.proofs.Common.{◌≡◌, ◌≢◌, ℕ, zero, suc, ◌+◌, ◌<◌, ◌≤◌, nat_lt, true, false, List, [], ◌∷◌, ◌++◌, length, get_or, take, slice_get, Some, None, refl, sym, ap, ◌∙◌, subst, arith, length-append, append_assoc, add-one}
use Rattle.std.proofs.Math.Seq.{take-suc}
use Rattle.std.proofs.Math.ListN.{get_or-append}
use Rattle.std.proofs.lemmas.List.{get_or_default, get_or_past, get_or_push, length_push}
use Rattle.std.proofs.lemmas.Bool.{and_from, and_parts, ltb-false}
use Rattle.std.proofs.lemmas.Bool.Decides.{nat_tests}
use Rattle.bt_core.specs.declared.item.Item.{Item}
use Rattle.bt_core.specs.declared.step.ObjectId.{ObjectId}
use Rattle.bt_core.specs.declared.step.ObjectId.TheVariants.{Out}
use Rattle.bt_core.specs.declared.step.Op.{Op}
use Rattle.bt_core.specs.declared.step.Op.TheVariants.{Emit}
use Rattle.bt_core.specs.declared.step.Step.{Step}
use Rattle.bt_core.specs.declared.step.Reply.{Reply}
use Rattle.bt_core.specs.declared.step.Reply.TheVariants.{Done}
use Rattle.bt_core.specs.declared.value.Value.{Value}
use Rattle.step_list.specs.declared.deed.Deed.{Deed}
use Rattle.step_list.specs.declared.deed.Mark.{Mark}
use Rattle.step_list.specs.declared.deed.Mark.TheVariants as marks
use Rattle.step_list.specs.declared.list.Place.{Place}
use Rattle.step_list.specs.Deeds.{deed, deed_of, emitted, is_within, no_deed, no_item, reply_told, Extends}
use Rattle.step_list.specs.Places.{step_by_deed, expanded, is_all_within, last_told}

pub expanded_length : (ks : List (List Value)) (ws : List Deed) (ts : List Item) (ps : List Place) → length (expanded ks ws ts ps) ≡ length ps
expanded_length ks ws ts [] = refl
expanded_length ks ws ts (p ∷ ps) = ap suc (expanded_length ks ws ts ps)

pub expanded_none : (ks : List (List Value)) (ws : List Deed) (ts : List Item) (ps qs : List Place) (i : ℕ) → qs ≡ ps → length qs ≤ i → slice_get (expanded ks ws ts ps) i ≡ None
expanded_none ks ws ts [] qs i e le = refl
expanded_none ks ws ts (p ∷ ps) qs zero e le = absurd (let h : length qs ≡ suc (length ps) = ap length e in omega (arith, h))
expanded_none ks ws ts (p ∷ ps) qs (suc i) e le = expanded_none ks ws ts ps ps i refl (let h : length qs ≡ suc (length ps) = ap length e in omega (arith, h))

found_at : (ks : List (List Value)) (ws : List Deed) (ts : List Item) (ps : List Place) (i : ℕ) (p : Place) → i < length ps → p ≡ get_or ps i p
    → Some (step_by_deed p.stamp (deed_of ks ws ts p.mark)) ≡ slice_get (expanded ks ws ts ps) i
found_at ks ws ts [] i p lt e = absurd (omega arith)
found_at ks ws ts (q ∷ ps) zero p lt e = ap (λ (r : Place). Some (step_by_deed r.stamp (deed_of ks ws ts r.mark))) e
found_at ks ws ts (q ∷ ps) (suc i) p lt e = found_at ks ws ts ps i p (omega arith) e

pub expanded_some : (ks js : List (List Value)) (ws us : List Deed) (ts ss : List Item) (ps qs : List Place) (i : ℕ) (p : Place) (s : Step) → js ≡ ks → us ≡ ws → ss ≡ ts → qs ≡ ps → i < length qs → p ≡ get_or qs i p
    → s ≡ step_by_deed p.stamp (deed_of js us ss p.mark) → Some s ≡ slice_get (expanded ks ws ts ps) i
expanded_some ks js ws us ts ss ps qs i p s j u v q lt e f = ap (λ (x : Step). Some x) (f ∙ (λ k. step_by_deed p.stamp (deed_of (j k) (u k) (v k) p.mark)))
    ∙ found_at ks ws ts ps i p (subst (λ (l : List Place). i < length l) q lt) (e ∙ ap (λ (l : List Place). get_or l i p) q)

pub expanded_append : (ks : List (List Value)) (ws : List Deed) (ts : List Item) (ps qs : List Place) → expanded ks ws ts (ps ++ qs) ≡ expanded ks ws ts ps ++ expanded ks ws ts qs
expanded_append ks ws ts [] qs = refl
expanded_append ks ws ts (p ∷ ps) qs = ap (λ (l : List Step). step_by_deed p.stamp (deed_of ks ws ts p.mark) ∷ l) (expanded_append ks ws ts ps qs)

-- the steps of one place more
pub one_more_step : (ks : List (List Value)) (ws : List Deed) (ts : List Item) (ps : List Place) (i : ℕ) (d : Place) (start found news : List Step) (s : Step) → i < length ps
    → found ≡ start ++ expanded ks ws ts (take i ps) → s ≡ step_by_deed (get_or ps i d).stamp (deed_of ks ws ts (get_or ps i d).mark) → news ≡ found ++ s ∷ []
    → news ≡ start ++ expanded ks ws ts (take (i + 1) ps)
one_more_step ks ws ts ps i d start found news s lt h f g =
    let t : take (i + 1) ps ≡ take i ps ++ get_or ps i d ∷ [] = ap (λ (n : ℕ). take n ps) (add-one i) ∙ take-suc ps i d lt in
    g ∙ ((λ k. h k ++ f k ∷ [])
    ∙ (append_assoc start (expanded ks ws ts (take i ps)) (expanded ks ws ts (get_or ps i d ∷ []))
    ∙ ap (λ (l : List Step). start ++ l) (sym (expanded_append ks ws ts (take i ps) (get_or ps i d ∷ [])) ∙ ap (expanded ks ws ts) (sym t))))

-- a deed is told by its parts where the mark is none of a whole deed
pub told_by_parts : (ks : List (List Value)) (ws : List Deed) (ts : List Item) (m : Mark) (a : ℕ) (o : ObjectId) (p : Op) (r : Reply) → ((k : ℕ) → m ≢ marks.Whole k)
    → a ≡ (deed_of [] [] [] m).actor → o ≡ (deed_of [] [] [] m).object → p ≡ (deed_of ks [] ts m).op → r ≡ reply_told m → deed a o p r ≡ deed_of ks ws ts m
told_by_parts ks ws ts (marks.GetInt actor map part key number) a o p r n e f g h = λ i. deed (e i) (f i) (g i) (h i)
told_by_parts ks ws ts (marks.SetInt actor map part key number) a o p r n e f g h = λ i. deed (e i) (f i) (g i) (h i)
told_by_parts ks ws ts (marks.Delete actor map part key) a o p r n e f g h = λ i. deed (e i) (f i) (g i) (h i)
told_by_parts ks ws ts (marks.Add actor map key number) a o p r n e f g h = λ i. deed (e i) (f i) (g i) (h i)
told_by_parts ks ws ts (marks.Check actor stopped) a o p r n e f g h = λ i. deed (e i) (f i) (g i) (h i)
told_by_parts ks ws ts (marks.Print actor print) a o p r n e f g h = λ i. deed (e i) (f i) (g i) (h i)
told_by_parts ks ws ts (marks.Whole place) a o p r n e f g h = absurd (n place refl)

below : (a b : ℕ) → nat_lt a b ≡ true → a < b
below a b e = grind (arith, nat_tests)

is_below : (a b : ℕ) → a < b → nat_lt a b ≡ true
is_below a b e = grind (arith, nat_tests)

-- what a mark within tells stays where there are more keys, deeds and printed items
module _ (ks ls : List (List Value)) (ws vs : List Deed) (ts xs : List Item) where
  key_stays : (k : ℕ) → nat_lt k (length ks) ≡ true → get_or (ks ++ ls) k [] ≡ get_or ks k []
  key_stays k e = get_or-append ks ls [] k (below k (length ks) e)

  pub deed_stays : (m : Mark) → is_within (length ks) (length ws) (length ts) m ≡ true → deed_of (ks ++ ls) (ws ++ vs) (ts ++ xs) m ≡ deed_of ks ws ts m
  deed_stays (marks.GetInt actor map part key number) e = ap (λ (k : List Value). deed_of (k ∷ []) ws ts (marks.GetInt actor map part 0 number)) (key_stays key e)
  deed_stays (marks.SetInt actor map part key number) e = ap (λ (k : List Value). deed_of (k ∷ []) ws ts (marks.SetInt actor map part 0 number)) (key_stays key e)
  deed_stays (marks.Delete actor map part key) e = ap (λ (k : List Value). deed_of (k ∷ []) ws ts (marks.Delete actor map part 0)) (key_stays key e)
  deed_stays (marks.Add actor map key number) e = ap (λ (k : List Value). deed_of (k ∷ []) ws ts (marks.Add actor map 0 number)) (key_stays key e)
  deed_stays (marks.Check actor stopped) e = refl
  deed_stays (marks.Print actor print) e = ap (λ (x : Item). deed_of ks ws (x ∷ []) (marks.Print actor 0)) (get_or-append ts xs no_item print (below print (length ts) e))
  deed_stays (marks.Whole place) e = get_or-append ws vs no_deed place (below place (length ws) e)

  pub steps_stay : (ps : List Place) → is_all_within (length ks) (length ws) (length ts) ps ≡ true → expanded (ks ++ ls) (ws ++ vs) (ts ++ xs) ps ≡ expanded ks ws ts ps
  steps_stay [] e = refl
  steps_stay (p ∷ ps) e = let h = and_parts (is_within (length ks) (length ws) (length ts) p.mark) (is_all_within (length ks) (length ws) (length ts) ps) e in
      λ i. step_by_deed p.stamp (deed_stays p.mark h.0 i) ∷ steps_stay ps h.1 i

later : (k n m : ℕ) → n ≤ m → nat_lt k n ≡ true → nat_lt k m ≡ true
later k n m le e = grind (arith, nat_tests)

module _ (n m u v y z : ℕ) (le : n ≤ m) (lf : u ≤ v) (lg : y ≤ z) where
  within_later : (q : Mark) → is_within n u y q ≡ true → is_within m v z q ≡ true
  within_later (marks.GetInt actor map part key number) e = later key n m le e
  within_later (marks.SetInt actor map part key number) e = later key n m le e
  within_later (marks.Delete actor map part key) e = later key n m le e
  within_later (marks.Add actor map key number) e = later key n m le e
  within_later (marks.Check actor stopped) e = refl
  within_later (marks.Print actor print) e = later print y z lg e
  within_later (marks.Whole place) e = later place u v lf e

  pub all_within_snoc : (ps : List Place) (p : Place) → is_all_within n u y ps ≡ true → is_within m v z p.mark ≡ true → is_all_within m v z (ps ++ p ∷ []) ≡ true
  all_within_snoc [] p e f = and_from (is_within m v z p.mark) true f refl
  all_within_snoc (q ∷ qs) p e f = let h = and_parts (is_within n u y q.mark) (is_all_within n u y qs) e in
      and_from (is_within m v z q.mark) (is_all_within m v z (qs ++ p ∷ [])) (within_later q.mark h.0) (all_within_snoc qs p h.1 f)

-- one more place, with the keys, deeds and printed items that it needs
module _ (ks js : List (List Value)) (ws us : List Deed) (ts ss : List Item) (ps qs : List Place) (p : Place) (d : Deed) where
  pub steps_snoc : Extends ks js → Extends ws us → Extends ts ss → is_all_within (length ks) (length ws) (length ts) ps ≡ true → qs ≡ ps ++ p ∷ []
      → deed_of js us ss p.mark ≡ d → expanded js us ss qs ≡ expanded ks ws ts ps ++ step_by_deed p.stamp d ∷ []
  steps_snoc x y z w e f = ap (expanded js us ss) e ∙ (expanded_append js us ss ps (p ∷ [])
      ∙ (λ i. (ap (λ (l : List (List Value)). expanded l us ss ps) x.1 ∙ (ap (λ (l : List Deed). expanded (ks ++ x.0) l ss ps) y.1
      ∙ (ap (λ (l : List Item). expanded (ks ++ x.0) (ws ++ y.0) l ps) z.1 ∙ steps_stay ks x.0 ws y.0 ts z.0 ps w))) i
      ++ step_by_deed p.stamp (f i) ∷ []))

  pub within_snoc : Extends ks js → Extends ws us → Extends ts ss → is_all_within (length ks) (length ws) (length ts) ps ≡ true → qs ≡ ps ++ p ∷ []
      → is_within (length js) (length us) (length ss) p.mark ≡ true → is_all_within (length js) (length us) (length ss) qs ≡ true
  within_snoc x y z w e f = ap (is_all_within (length js) (length us) (length ss)) e
      ∙ all_within_snoc (length ks) (length js) (length ws) (length us) (length ts) (length ss)
      (let h : length ks ≤ length js = subst (λ (l : List (List Value)). length ks ≤ length l) (sym x.1) (omega (arith, length-append ks x.0)) in h)
      (let h : length ws ≤ length us = subst (λ (l : List Deed). length ws ≤ length l) (sym y.1) (omega (arith, length-append ws y.0)) in h)
      (let h : length ts ≤ length ss = subst (λ (l : List Item). length ts ≤ length l) (sym z.1) (omega (arith, length-append ts z.0)) in h) ps p w f

pub last_told_snoc : (ps : List Place) (p : Place) → last_told (ps ++ p ∷ []) ≡ reply_told p.mark
last_told_snoc [] p = refl
last_told_snoc (q ∷ []) p = refl
last_told_snoc (q ∷ r ∷ ps) p = last_told_snoc (r ∷ ps) p

-- the last place is the last step's
pub record Last (ks : List (List Value)) (ws : List Deed) (ts : List Item) (ps : List Place) (p : Place) : Type 0 where
  pub before : List Step
  pub steps : expanded ks ws ts ps ≡ before ++ step_by_deed p.stamp (deed_of ks ws ts p.mark) ∷ []
  pub told : last_told ps ≡ reply_told p.mark
  pub within : is_within (length ks) (length ws) (length ts) p.mark ≡ true

pub last_place : (ks : List (List Value)) (ws : List Deed) (ts : List Item) (ps : List Place) (i : ℕ) (p : Place) → length ps ≡ i + 1 → p ≡ get_or ps i p
    → is_all_within (length ks) (length ws) (length ts) ps ≡ true → Last ks ws ts ps p
last_place ks ws ts [] i p n e w = absurd (omega (arith, n))
last_place ks ws ts (q ∷ []) zero p n e w = record {
  before = [];
  steps = ap (λ (r : Place). step_by_deed r.stamp (deed_of ks ws ts r.mark) ∷ []) (sym e);
  told = ap (λ (r : Place). reply_told r.mark) (sym e);
  within = ap (λ (r : Place). is_within (length ks) (length ws) (length ts) r.mark) e ∙ (and_parts (is_within (length ks) (length ws) (length ts) q.mark) true w).0;
}
last_place ks ws ts (q ∷ []) (suc i) p n e w = absurd (omega (arith, n))
last_place ks ws ts (q ∷ r ∷ ps) zero p n e w = absurd (omega (arith, n))
last_place ks ws ts (q ∷ r ∷ ps) (suc i) p n e w =
    let l = last_place ks ws ts (r ∷ ps) i p (omega (arith, n)) e (and_parts (is_within (length ks) (length ws) (length ts) q.mark) (is_all_within (length ks) (length ws) (length ts) (r ∷ ps)) w).1 in record {
      before = step_by_deed q.stamp (deed_of ks ws ts q.mark) ∷ l.before;
      steps = ap (λ (z : List Step). step_by_deed q.stamp (deed_of ks ws ts q.mark) ∷ z) l.steps;
      told = l.told;
      within = l.within;
    }

-- the reply of the last step, by the place
module _ (ks : List (List Value)) (ws : List Deed) (ts : List Item) (ps : List Place) (p : Place) (last : Last ks ws ts ps p) (r : Reply) where
  pub reply_told_last : r ≡ last_told ps → ((js : List (List Value)) (us : List Deed) (ss : List Item) → (deed_of js us ss p.mark).reply ≡ reply_told p.mark)
      → (before : List Step) × (step : Step) × (expanded ks ws ts ps ≡ before ++ step ∷ []) × (r ≡ step.reply)
  reply_told_last e f = (last.before, step_by_deed p.stamp (deed_of ks ws ts p.mark), last.steps, e ∙ (last.told ∙ sym (f ks ws ts)))

  pub reply_kept : (k : ℕ) (d : Deed) → p.mark ≡ marks.Whole k → d ≡ get_or ws k d → k < length ws → r ≡ d.reply
      → (before : List Step) × (step : Step) × (expanded ks ws ts ps ≡ before ++ step ∷ []) × (r ≡ step.reply)
  reply_kept k d e f lt g = (
    last.before,
    step_by_deed p.stamp (deed_of ks ws ts p.mark),
    last.steps,
    g ∙ (ap (λ (x : Deed). x.reply) (f ∙ get_or_default ws k d no_deed lt) ∙ ap (λ (m : Mark). (deed_of ks ws ts m).reply) (sym e)),
  )

  pub place_kept : (k : ℕ) → p.mark ≡ marks.Whole k → k < length ws
  place_kept k e = below k (length ws) (ap (λ (m : Mark). is_within (length ks) (length ws) (length ts) m) (sym e) ∙ last.within)

-- a number that is none of a whole deed's tells no deed
pub none_told : (ks : List (List Value)) (ws : List Deed) (ts : List Item) (m : Mark) (k : ℕ) → m ≡ marks.Whole k → false ≡ nat_lt k (length ws) → no_deed ≡ deed_of ks ws ts m
none_told ks ws ts m k e past = sym (ap (deed_of ks ws ts) e ∙ get_or_past ws k no_deed (ltb-false k (length ws) (sym past)))

-- what was printed is the last of the printed items
pub print_kept : (op : Op) (reply : Reply) (ts news : List Item) (n : ℕ) (item : Item) → op ≡ Emit item → reply ≡ Done → n ≡ length ts → news ≡ ts ++ item ∷ []
    → (n < length news) × ((actor : ℕ) → deed actor Out op reply ≡ emitted actor (get_or news n no_item))
print_kept op reply ts news n item f g long grew =
    let last : get_or news n no_item ≡ item = ap (λ (l : List Item). get_or l n no_item) grew ∙ get_or_push ts item no_item n (sym long) in
    let more : length news ≡ length ts + 1 = ap length grew ∙ length_push ts item in
    (omega (arith, more, long), λ actor i. deed actor Out ((f ∙ ap Emit (sym last)) i) (g i))
