-- A construct from its parts.
use Rattle.std.proofs.Common.{◌≡◌, ◌++◌, List, [], ◌∷◌, Option, Some, None, Result, Ok, Err, IfOk, refl, sym, ap, subst, ◌∙◌}
use Rattle.bt_core.specs.declared.place.Place.{Place}
use Rattle.bt_core.specs.declared.map.Shape.{Shape}
use Rattle.bt_core.specs.declared.map.Shape.TheVariants.{Int, Str}
use Rattle.bt_core.specs.declared.operator.BinOp.{BinOp}
use Rattle.bt_core.specs.declared.operator.BinOp.TheVariants.{Eq, Ne}
use Rattle.bt_core.specs.declared.operator.UnOp.{UnOp}
use Rattle.typed_tree.specs.declared.expr.AnyExpr.{AnyExpr}
use Rattle.typed_tree.specs.Parts.{TreePart, Prefixed, Chosen, Made, made, made_of}
use Rattle.expr_types.specs.declared.fault.Fault.{Fault}
use Rattle.expr_types.specs.declared.fault.Rule.{Rule}
use Rattle.expr_types.specs.declared.fault.Rule.TheVariants.{WrongType}
use Rattle.expr_types.specs.declared.fault.TypeError.{TypeError}
use Rattle.expr_types.specs.declared.fault.TypeError.TheVariants.{Broken, Memory}
use Rattle.expr_types.specs.declared.known.Known.{Known}
use Rattle.expr_types.specs.Mentions.{Sort, Whole, NeedsWhole, NeedsSame, Point, Word, UnaryWord, ChooseWord}
use Rattle.expr_types.specs.Known.{shape_in}
use Rattle.expr_types.specs.Judge.{unless_broken, judged, SaysFault, IsBreach, Refuses}
use Rattle.expr_types.specs.Rules.{first_of_rules, are_two}
use Rattle.expr_types.specs.Walk.{Seen, seen, at, operands, both_whole, choice, choose_seen}
use Rattle.expr_types.specs.Typing.{Fits, titles_of, word_of, IsTyping}
use Rattle.expr_types.specs.Join.{whole_breaks, both_break, same_breaks, joined_breaks, choose_breaks}
use Rattle.expr_types.specs.Checked.{Checked, Checks}
use Rattle.expr_types.proofs.Judging.{judged_ok, judged_err}
use Rattle.expr_types.proofs.Growing.{grows_on}
use Rattle.expr_types.proofs.Later.{typing_later, fits_both, words_both}

-- a fault of the first part is a fault of the whole
pub front_refused : (ps qs : List Point) (before : Known) (e : TypeError) → SaysFault (judged ps before) e → SaysFault (judged (ps ++ qs) before) e
front_refused ps qs before (Broken fault) h = judged_err ps qs before fault h
front_refused ps qs before Memory h = tt

-- what is judged behind a part without fault
pub behind_refused : (ps qs : List Point) (before now : Known) (e : TypeError) → judged ps before ≡ Ok now → SaysFault (judged qs now) e → SaysFault (judged (ps ++ qs) before) e
behind_refused ps qs before now e c h = subst (λ (v : Result Known Fault). SaysFault v e) (sym (judged_ok ps qs before now c)) h

pub later_refused : (s : Seen) (before now : Known) (m : Made) (qs : List Point) (e : TypeError) → Checked s before now m → SaysFault (judged qs now) e → SaysFault (judged (s.points ++ qs) before) e
later_refused s before now m qs e c h = behind_refused s.points qs before now e c.whole h

-- a breach is the fault of one mention
pub breach : (rule : Option Rule) (place : Place) (u : Result Known Fault) (e : TypeError) → IsBreach rule place e → SaysFault (unless_broken rule place u) e
breach rule place u Memory h = tt
breach rule place u (Broken fault) h =
    ap (λ (r : Option Rule). unless_broken r place u) h.0 ∙ ap (λ (p : Place). Err (let f : Fault = record { rule = fault.rule; place = p } in f)) (sym h.1)

-- mentions that break a rule or none
pub asked_refused : (qs : List Point) (k now : Known) (rule : Option Rule) (place : Place) (e : TypeError) → judged qs k ≡ unless_broken rule place (Ok now) → IsBreach rule place e → SaysFault (judged qs k) e
asked_refused qs k now rule place e is h = subst (λ (v : Result Known Fault). SaysFault v e) (sym is) (breach rule place (Ok now) e h)

pub asked_whole : (qs : List Point) (k now : Known) (rule : Option Rule) (place : Place) → judged qs k ≡ unless_broken rule place (Ok now) → rule ≡ None → judged qs k ≡ Ok now
asked_whole qs k now rule place is h = is ∙ ap (λ (r : Option Rule). unless_broken r place (Ok now)) h

-- where the type is known, a test of types is one of it
pub needs_whole : (k : Known) (s : Sort) (t : Shape) (place : Place) (qs : List Point) → shape_in k s ≡ Some t → judged (at place (NeedsWhole s) ∷ qs) k ≡ unless_broken (whole_breaks t) place (judged qs k)
needs_whole k s t place qs h = rw h

-- one operand
unary_asked : (s : Seen) (now : Known) (m : Made) (place : Place) → shape_in now s.sort ≡ Some m.shape → judged (at place (NeedsWhole s.sort) ∷ []) now ≡ unless_broken (whole_breaks m.shape) place (Ok now)
unary_asked s now m place h = needs_whole now s.sort m.shape place [] h

pub unary_checks : (s : Seen) (before now : Known) (m : Made) (op : UnOp) (place : Place) (r : Result AnyExpr TypeError) → Checked s before now m → Refuses (whole_breaks m.shape) place r → IfOk r (λ e. made_of e ≡ made Int (Prefixed op ∷ m.parts))
    → Checks (seen (s.points ++ at place (NeedsWhole s.sort) ∷ []) Whole (UnaryWord op ∷ s.words)) before now r
unary_checks s before now m op place (Ok e) c h is =
    let a = asked_whole (at place (NeedsWhole s.sort) ∷ []) now now (whole_breaks m.shape) place (unary_asked s now m place c.typing.shape) h in
    rw is (record {
      whole = judged_ok s.points (at place (NeedsWhole s.sort) ∷ []) before now c.whole ∙ a;
      grows = c.grows;
      typing = record { shape = refl; fits = (tt, c.typing.fits); written = ap (λ (l : List Word). UnaryWord op ∷ l) c.typing.written };
    })
unary_checks s before now m op place (Err e) c h is =
    later_refused s before now m (at place (NeedsWhole s.sort) ∷ []) e c (asked_refused (at place (NeedsWhole s.sort) ∷ []) now now (whole_breaks m.shape) place e (unary_asked s now m place c.typing.shape) h)

-- what was made of an operand is that when the next is checked
pub still : (s t : Seen) (k0 k1 k2 : Known) (m n : Made) → Checked s k0 k1 m → Checked t k1 k2 n → IsTyping k2 s.sort s.words m
still s t k0 k1 k2 m n c d = typing_later k1 k2 d.grows s.sort s.words m c.typing

-- the parts of two operands behind a word of their own
pair_typing : (k : Known) (s t : Seen) (m n : Made) (p : TreePart) (w : Word) → Fits k p → word_of (titles_of k) p ≡ w → IsTyping k s.sort s.words m → IsTyping k t.sort t.words n → IsTyping k Whole (w ∷ (s.words ++ t.words)) (made Int (p ∷ (m.parts ++ n.parts)))
pair_typing k s t m n p w f e c d =
    record {
      shape = refl;
      fits = (f, fits_both k m.parts n.parts c.fits d.fits);
      written = (let g = words_both (titles_of k) m.parts n.parts in let a = c.written in let b = d.written in cc);
    }

-- two operands, and what is asked of them
pub pair_checks : (s t : Seen) (k0 k1 k2 : Known) (m n : Made) (p : TreePart) (w : Word) (qs : List Point) (rule : Option Rule) (place : Place) (r : Result AnyExpr TypeError) → Checked s k0 k1 m → Checked t k1 k2 n
    → Fits k2 p → word_of (titles_of k2) p ≡ w → judged qs k2 ≡ unless_broken rule place (Ok k2) → Refuses rule place r → IfOk r (λ e. made_of e ≡ made Int (p ∷ (m.parts ++ n.parts)))
    → Checks (seen (s.points ++ (t.points ++ qs)) Whole (w ∷ (s.words ++ t.words))) k0 k2 r
pair_checks s t k0 k1 k2 m n p w qs rule place (Ok e) c d f g asked h is =
    let a = asked_whole qs k2 k2 rule place asked h in
    rw is (record {
      whole = judged_ok s.points (t.points ++ qs) k0 k1 c.whole ∙ (judged_ok t.points qs k1 k2 d.whole ∙ a);
      grows = grows_on k0 k1 k2 c.grows d.grows;
      typing = pair_typing k2 s t m n p w f g (still s t k0 k1 k2 m n c d) d.typing;
    })
pair_checks s t k0 k1 k2 m n p w qs rule place (Err e) c d f g asked h is =
    later_refused s k0 k1 m (t.points ++ qs) e c (later_refused t k1 k2 n qs e d (asked_refused qs k2 k2 rule place e asked h))

pair_is : {A B : Type 0} (a c : A) (b d : B) → a ≡ c → b ≡ d → (let p : A × B = (a, b) in p) ≡ (c, d)
pair_is a c b d g h = cc

-- two tests in turn are the two tests
both_in_turn : (a b : Shape) (place : Place) (u : Result Known Fault) → unless_broken (whole_breaks a) place (unless_broken (whole_breaks b) place u) ≡ unless_broken (both_break a b) place u
both_in_turn Int b place u = refl
both_in_turn Str b place u = refl

same_judged : (k : Known) (place : Place) (s t : Sort) (a b : Shape) → shape_in k s ≡ Some a → shape_in k t ≡ Some b → judged (at place (NeedsSame s t) ∷ []) k ≡ unless_broken (same_breaks a b) place (Ok k)
same_judged k place s t a b g h =
    ap (λ (o : Option Shape × Option Shape). unless_broken (first_of_rules ((are_two o.0 o.1, WrongType) ∷ [])) place (Ok k)) (pair_is (shape_in k s) (Some a) (shape_in k t) (Some b) g h)

pub both_judged : (k : Known) (place : Place) (s t : Sort) (a b : Shape) → shape_in k s ≡ Some a → shape_in k t ≡ Some b → judged (both_whole place s t) k ≡ unless_broken (both_break a b) place (Ok k)
both_judged k place s t a b g h =
    needs_whole k s a place (at place (NeedsWhole t) ∷ []) g
    ∙ (ap (λ (u : Result Known Fault). unless_broken (whole_breaks a) place u) (needs_whole k t b place [] h) ∙ both_in_turn a b place (Ok k))

pub operands_judged : (k : Known) (op : BinOp) (place : Place) (s t : Sort) (a b : Shape) → shape_in k s ≡ Some a → shape_in k t ≡ Some b → judged (operands op place s t) k ≡ unless_broken (joined_breaks op a b) place (Ok k)
operands_judged k op place s t a b g h =
    elim op as (λ o. judged (operands o place s t) k ≡ unless_broken (joined_breaks o a b) place (Ok k))
    [ Eq ↦ same_judged k place s t a b g h | Ne ↦ same_judged k place s t a b g h | _ ↦ both_judged k place s t a b g h ]

-- the test of a choice and that of its values
choice_in_turn : (a b c : Shape) (place : Place) (u : Result Known Fault) → unless_broken (whole_breaks a) place (unless_broken (same_breaks b c) place u) ≡ unless_broken (choose_breaks a b c) place u
choice_in_turn Int b c place u = refl
choice_in_turn Str b c place u = refl

choice_judged : (k : Known) (place : Place) (s t u : Sort) (a b c : Shape) → shape_in k s ≡ Some a → shape_in k t ≡ Some b → shape_in k u ≡ Some c → judged (choice place s t u) k ≡ unless_broken (choose_breaks a b c) place (Ok k)
choice_judged k place s t u a b c f g h =
    needs_whole k s a place (at place (NeedsSame t u) ∷ []) f
    ∙ (ap (λ (v : Result Known Fault). unless_broken (whole_breaks a) place v) (same_judged k place t u b c g h) ∙ choice_in_turn a b c place (Ok k))

choose_typing : (k : Known) (s t u : Seen) (l m n : Made) → IsTyping k s.sort s.words l → IsTyping k t.sort t.words m → IsTyping k u.sort u.words n
    → IsTyping k t.sort (ChooseWord ∷ (s.words ++ (t.words ++ u.words))) (made m.shape (Chosen ∷ (l.parts ++ (m.parts ++ n.parts))))
choose_typing k s t u l m n c d e =
    record {
      shape = d.shape;
      fits = (tt, fits_both k l.parts (m.parts ++ n.parts) c.fits (fits_both k m.parts n.parts d.fits e.fits));
      written = (
          let f = words_both (titles_of k) l.parts (m.parts ++ n.parts) in
          let g = words_both (titles_of k) m.parts n.parts in
          let x = c.written in
          let y = d.written in
          let z = e.written in
          cc
          );
    }

pub choose_checks : (s t u : Seen) (k0 k1 k2 k3 : Known) (l m n : Made) (place : Place) (r : Result AnyExpr TypeError) → Checked s k0 k1 l → Checked t k1 k2 m → Checked u k2 k3 n → Refuses (choose_breaks l.shape m.shape n.shape) place r
    → IfOk r (λ e. made_of e ≡ made m.shape (Chosen ∷ (l.parts ++ (m.parts ++ n.parts)))) → Checks (choose_seen place s t u) k0 k3 r
choose_checks s t u k0 k1 k2 k3 l m n place (Ok e) c d f h is =
    let g = grows_on k1 k2 k3 d.grows f.grows in
    let first = typing_later k1 k3 g s.sort s.words l c.typing in
    let second = still t u k1 k2 k3 m n d f in
    let asked = choice_judged k3 place s.sort t.sort u.sort l.shape m.shape n.shape first.shape second.shape f.typing.shape in
    let a = asked_whole (choice place s.sort t.sort u.sort) k3 k3 (choose_breaks l.shape m.shape n.shape) place asked h in
    rw is (record {
      whole = judged_ok s.points (t.points ++ (u.points ++ choice place s.sort t.sort u.sort)) k0 k1 c.whole
          ∙ (judged_ok t.points (u.points ++ choice place s.sort t.sort u.sort) k1 k2 d.whole ∙ (judged_ok u.points (choice place s.sort t.sort u.sort) k2 k3 f.whole ∙ a));
      grows = grows_on k0 k1 k3 c.grows g;
      typing = choose_typing k3 s t u l m n first second f.typing;
    })
choose_checks s t u k0 k1 k2 k3 l m n place (Err e) c d f h is =
    let g = grows_on k1 k2 k3 d.grows f.grows in
    let first = typing_later k1 k3 g s.sort s.words l c.typing in
    let second = still t u k1 k2 k3 m n d f in
    let asked = choice_judged k3 place s.sort t.sort u.sort l.shape m.shape n.shape first.shape second.shape f.typing.shape in
    later_refused s k0 k1 l (t.points ++ (u.points ++ choice place s.sort t.sort u.sort)) e c (later_refused t k1 k2 m (u.points ++ choice place s.sort t.sort u.sort) e d
    (later_refused u k2 k3 n (choice place s.sort t.sort u.sort) e f (asked_refused (choice place s.sort t.sort u.sort) k3 k3 (choose_breaks l.shape m.shape n.shape) place e asked h)))
