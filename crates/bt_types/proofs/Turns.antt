-- What is done in turn.
use Rattle.std.proofs.Common.{◌≡◌, ◌++◌, ℕ, Bool, List, [], ◌∷◌, Option, None, Result, Ok, Err, IsErrAnd, refl, sym, ap, subst, ◌∙◌, append-nil}
use Rattle.bt_core.specs.declared.place.Place.{Place}
use Rattle.expr_types.specs.declared.fault.Fault.{Fault}
use Rattle.expr_types.specs.declared.fault.Rule.{Rule}
use Rattle.expr_types.specs.declared.fault.TypeError.{TypeError}
use Rattle.expr_types.specs.declared.fault.TypeError.TheVariants.{Broken, Memory}
use Rattle.expr_types.specs.declared.known.Known.{Known}
use Rattle.expr_types.specs.Grows.{Grows}
use Rattle.expr_types.specs.Mentions.{Mention, Point, Word}
use Rattle.expr_types.specs.Known.{learn}
use Rattle.expr_types.specs.Judge.{unless_broken, judged, SaysFault, IsBreach}
use Rattle.expr_types.specs.Rules.{broken_at}
use Rattle.expr_types.specs.Walk.{Seen, MapSeen, at}
use Rattle.typed_tree.specs.Parts.{TreePart, Made, parts_in}
use Rattle.expr_types.specs.Typing.{Fits, AllFit, titles_of, word_of, words_by}
use Rattle.expr_types.specs.Checked.{Checked, KeyChecked}
use Rattle.bt_types.specs.Told.{Told, told, next, says, asks, value_told}
use Rattle.bt_types.specs.Done.{Done, Does, DoesIn}
use Rattle.expr_types.proofs.Judging.{judged_ok, judged_err}
use Rattle.expr_types.proofs.Growing.{grows_none, grows_on, grows_learn, IsInner}
use Rattle.expr_types.proofs.Later.{all_later, words_later, fits_both, words_both}

-- mentions that break no rule inside a body
pub record Went (ps : List Point) (before now : Known) : Type 0 where
  pub whole : judged ps before ≡ Ok now
  pub grows : Grows before now

pub went_both : (ps qs : List Point) (a b c : Known) → Went ps a b → Went qs b c → Went (ps ++ qs) a c
went_both ps qs a b c f g = record { whole = judged_ok ps qs a b f.whole ∙ g.whole; grows = grows_on a b c f.grows g.grows }

pub went_none : (k : Known) → Went [] k k
went_none k = record { whole = refl; grows = grows_none k }

pub went_one : (place : Place) (m : Mention) (k : Known) → IsInner m → broken_at k m ≡ None → Went (at place m ∷ []) k (learn k m)
went_one place m k inner h = record { whole = ap (λ (o : Option Rule). unless_broken o place (Ok (learn k m))) h; grows = grows_learn k m inner }

pub went_at : (place : Place) (m : Mention) (k now : Known) → IsInner m → broken_at k m ≡ None → learn k m ≡ now → Went (at place m ∷ []) k now
went_at place m k now inner h is = subst (λ (x : Known). Went (at place m ∷ []) k x) is (went_one place m k inner h)

pub went_more : (place : Place) (m : Mention) (qs : List Point) (k now : Known) → IsInner m → broken_at k m ≡ None → Went qs (learn k m) now → Went (at place m ∷ qs) k now
went_more place m qs k now inner h g =
    record { whole = ap (λ (o : Option Rule). unless_broken o place (judged qs (learn k m))) h ∙ g.whole; grows = grows_on k (learn k m) now (grows_learn k m inner) g.grows }

pub went_seen : (s : Seen) (a b : Known) (m : Made) → Checked s a b m → Went s.points a b
went_seen s a b m c = record { whole = c.whole; grows = c.grows }

pub went_key : (m : MapSeen) (a b : Known) (number : ℕ) (keys : List Made) → KeyChecked m a b number keys → Went m.points a b
went_key m a b number keys c = record { whole = c.whole; grows = c.grows }

pub went_done : (t : Told) (a b : Known) (ps : List TreePart) → Done t a b ps → Went t.points a b
went_done t a b ps d = record { whole = d.whole; grows = d.grows }

-- faults: of the first part, of what stands behind a part, and of one mention
pub fault_first : (ps qs : List Point) (k : Known) (e : TypeError) → SaysFault (judged ps k) e → SaysFault (judged (ps ++ qs) k) e
fault_first ps qs k (Broken fault) h = judged_err ps qs k fault h
fault_first ps qs k Memory h = tt

pub fault_behind : (ps qs : List Point) (a b : Known) (e : TypeError) → Went ps a b → SaysFault (judged qs b) e → SaysFault (judged (ps ++ qs) a) e
fault_behind ps qs a b e w h = subst (λ (v : Result Known Fault). SaysFault v e) (sym (judged_ok ps qs a b w.whole)) h

broken_here : (rule : Option Rule) (place : Place) (u : Result Known Fault) (e : TypeError) → IsBreach rule place e → SaysFault (unless_broken rule place u) e
broken_here rule place u Memory h = tt
broken_here rule place u (Broken fault) h = ap (λ (r : Option Rule). unless_broken r place u) h.0 ∙ ap (λ (p : Place). Err (let f : Fault = record { rule = fault.rule; place = p } in f)) (sym h.1)

pub fault_here : (place : Place) (m : Mention) (qs : List Point) (k : Known) (e : TypeError) → IsBreach (broken_at k m) place e → SaysFault (judged (at place m ∷ qs) k) e
fault_here place m qs k e h = broken_here (broken_at k m) place (judged qs (learn k m)) e h

-- typed parts and their words
pub record Held (k : Known) (ps : List TreePart) (ws : List Word) : Type 0 where
  pub fits : AllFit k ps
  pub written : words_by (titles_of k) ps ≡ ws

pub held_none : (k : Known) → Held k [] []
held_none k = record { fits = tt; written = refl }

pub held_more : (k : Known) (p : TreePart) (w : Word) (ps : List TreePart) (ws : List Word) → Fits k p → word_of (titles_of k) p ≡ w → Held k ps ws → Held k (p ∷ ps) (w ∷ ws)
held_more k p w ps ws f e h = record { fits = (f, h.fits); written = (let g = h.written in cc) }

pub held_both : (k : Known) (ps qs : List TreePart) (ws vs : List Word) → Held k ps ws → Held k qs vs → Held k (ps ++ qs) (ws ++ vs)
held_both k ps qs ws vs f g =
    record { fits = fits_both k ps qs f.fits g.fits; written = words_both (titles_of k) ps qs ∙ (ap (λ (l : List Word). l ++ words_by (titles_of k) qs) f.written ∙ ap (λ (l : List Word). ws ++ l) g.written) }

pub held_later : (a b : Known) (ps : List TreePart) (ws : List Word) → Grows a b → Held a ps ws → Held b ps ws
held_later a b ps ws g h = record { fits = all_later a b g ps h.fits; written = words_later a b g ps h.fits ∙ h.written }

pub held_seen : (s : Seen) (a b : Known) (m : Made) → Checked s a b m → Held b m.parts s.words
held_seen s a b m c = record { fits = c.typing.fits; written = c.typing.written }

pub held_key : (m : MapSeen) (a b : Known) (number : ℕ) (keys : List Made) → KeyChecked m a b number keys → Held b (parts_in keys) m.key_words
held_key m a b number keys c = record { fits = c.fits; written = c.written }

pub held_done : (t : Told) (a b : Known) (ps : List TreePart) → Done t a b ps → Held b ps t.words
held_done t a b ps d = record { fits = d.fits; written = d.written }

-- what went and what is held is done
pub done_of : (t : Told) (a b : Known) (ps : List TreePart) → Went t.points a b → Held b ps t.words → Done t a b ps
done_of t a b ps w h = record { whole = w.whole; grows = w.grows; fits = h.fits; written = h.written }

pub nothing_done : (k : Known) → Done (told [] []) k k []
nothing_done k = done_of (told [] []) k k [] (went_none k) (held_none k)

pub done_next : (s t : Told) (k0 k1 k2 : Known) (ps qs : List TreePart) → Done s k0 k1 ps → Done t k1 k2 qs → Done (next s t) k0 k2 (ps ++ qs)
done_next s t k0 k1 k2 ps qs c d =
    done_of (next s t) k0 k2 (ps ++ qs) (went_both s.points t.points k0 k1 k2 (went_done s k0 k1 ps c) (went_done t k1 k2 qs d))
    (held_both k2 ps qs s.words t.words (held_later k1 k2 ps s.words d.grows (held_done s k0 k1 ps c)) (held_done t k1 k2 qs d))

pub done_says : (w : Word) (p : TreePart) (k : Known) → Fits k p → word_of (titles_of k) p ≡ w → Done (says w) k k (p ∷ [])
done_says w p k f e = done_of (says w) k k (p ∷ []) (went_none k) (held_more k p w [] [] f e (held_none k))

-- a mention behind what was done
pub done_then : (s : Told) (k0 k1 : Known) (ps : List TreePart) (place : Place) (m : Mention) → IsInner m → Done s k0 k1 ps → broken_at k1 m ≡ None → Done (next s (asks place m)) k0 (learn k1 m) ps
done_then s k0 k1 ps place m inner c h =
    let one = went_one place m k1 inner h in
    let here = held_later k1 (learn k1 m) ps s.words one.grows (held_done s k0 k1 ps c) in
    done_of (next s (asks place m)) k0 (learn k1 m) ps (went_both s.points (at place m ∷ []) k0 k1 (learn k1 m) (went_done s k0 k1 ps c) one)
    (record { fits = here.fits; written = here.written ∙ sym (append-nil s.words) })

pub done_value : (s : Seen) (k0 k1 : Known) (m : Made) → Checked s k0 k1 m → Done (value_told s) k0 k1 m.parts
done_value s k0 k1 m c = record { whole = c.whole; grows = c.grows; fits = c.typing.fits; written = c.typing.written }

-- a fault of the first part, and of the second
pub refused_front : (s t : Told) (k : Known) (e : TypeError) → SaysFault (judged s.points k) e → SaysFault (judged (next s t).points k) e
refused_front s t k e h = fault_first s.points t.points k e h

pub refused_next : (s t : Told) (k0 k1 : Known) (ps : List TreePart) (e : TypeError) → Done s k0 k1 ps → SaysFault (judged t.points k1) e → SaysFault (judged (next s t).points k0) e
refused_next s t k0 k1 ps e c h = fault_behind s.points t.points k0 k1 e (went_done s k0 k1 ps c) h

-- an error that is handed on
pub does_err : {A : Type 0} (t : Told) (ps : A → List TreePart) (k0 now : Known) (r : Result A TypeError) (f : TypeError) → IsErrAnd r (λ e. e ≡ f) → SaysFault (judged t.points k0) f → Does t ps k0 now r
does_err t ps k0 now (Ok a) f is h = absurd is
does_err t ps k0 now (Err e) f is h = subst (λ (x : TypeError). SaysFault (judged t.points k0) x) (sym is) h

pub does_in_err : {A : Type 0} (t : Told) (ps : A → Bool → List TreePart) (k0 now : Known) (r : Result A TypeError) (f : TypeError) → IsErrAnd r (λ e. e ≡ f) → SaysFault (judged t.points k0) f → DoesIn t ps k0 now r
does_in_err t ps k0 now (Ok a) f is h = absurd is
does_in_err t ps k0 now (Err e) f is h = subst (λ (x : TypeError). SaysFault (judged t.points k0) x) (sym is) h

-- inside a loop or outside
pub does_at : {A : Type 0} (t : Told) (ps : A → Bool → List TreePart) (k0 now : Known) (r : Result A TypeError) (inside : Bool) → DoesIn t ps k0 now r → Does t (λ a. ps a inside) k0 now r
does_at t ps k0 now (Ok a) inside h = h inside
does_at t ps k0 now (Err e) inside h = h

-- what an answer says of a value that it has, and of its error
pub done_in : {A : Type 0} (t : Told) (ps : A → List TreePart) (k0 now : Known) (r : Result A TypeError) (a : A) → r ≡ Ok a → Does t ps k0 now r → Done t k0 now (ps a)
done_in t ps k0 now r a is h = subst (λ (x : Result _ TypeError). Does t ps k0 now x) is h

pub fault_in : {A : Type 0} (t : Told) (ps : A → List TreePart) (k0 now : Known) (r : Result A TypeError) (e : TypeError) → r ≡ Err e → Does t ps k0 now r → SaysFault (judged t.points k0) e
fault_in t ps k0 now r e is h = subst (λ (x : Result _ TypeError). Does t ps k0 now x) is h
