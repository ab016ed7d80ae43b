-- What is made of what was read.
use Rattle.std.proofs.Common.{◌≡◌, ℕ, ◌<◌, ◌≤◌, List, [], ◌∷◌, ◌++◌, Result, Ok, Err, subst, refl, sym, ◌∙◌}
use Rattle.std.specs.Prelude.{◌≢◌, IsErrAnd, IsOkAnd, MatchResult, OnOk}
use Rattle.std.proofs.Math.Nat.{lt_of_lt_of_le}
use Rattle.bt_core.specs.declared.place.Place.{Place}
use Rattle.bt_grammar.specs.declared.class.Class.{Class}
use Rattle.bt_grammar.specs.Classes.{is}
use Rattle.bt_grammar.specs.Rules.{mark}
use Rattle.bt_parser.proofs.Mirrored.{and_then_assoc, and_then_same, refused_reads}
use Rattle.bt_core.specs.Want.{out_of_memory}
use Rattle.bt_lexer.specs.declared.token.Token.{Token}
use Rattle.bt_parser.specs.declared.fault.Fault.{Fault}
use Rattle.bt_parser.specs.declared.fault.Fault.TheVariants.{OutOfMemory}
use Rattle.bt_grammar.specs.Form.{Form, Item, Tok, Until}
use Rattle.bt_grammar.specs.Reading.{Out, Done, Refused, and_then, read, reads}
use Rattle.bt_grammar.specs.Tokens.{items}
use Rattle.bt_parser.specs.Contract.{Reads, behind}

-- what goes on with the longer list goes on with what was read behind the list
pub added_reads : {A B : Type 0} (next : List A → List Item → Out B) (out : Out A) (answer : Result A Fault) (left : List Token) (list longer : List A) → Reads out answer left
    → IsOkAnd answer (λ item. longer ≡ list ++ item ∷ []) → next longer (items left) ≡ and_then out (λ item r. next (list ++ item ∷ []) r)
added_reads next out (Ok item) left list longer h k = rw (h, k) refl
added_reads next out (Err e) left list longer h k = absurd k

-- what holds if something was read
pub added_on : {A : Type 0} (answer : Result A Fault) (list longer : List A) (P : Type 0) → OnOk answer P → IsOkAnd answer (λ item. longer ≡ list ++ item ∷ []) → P
added_on (Ok item) list longer P h k = h
added_on (Err e) list longer P h k = absurd k

-- what was refused
pub refused_added : {A : Type 0} (out : Out A) (answer : Result A Fault) (e : Fault) (left : List Token) → Reads out answer left
    → (e ≢ OutOfMemory out_of_memory → answer ≡ Err e) → e ≢ OutOfMemory out_of_memory → out ≡ Refused (items left)
refused_added out answer e left h k other = subst (λ a. Reads out a left) (k other) h other

-- ---- what was read beside a value that was kept

pub beside_reads : {A K B : Type 0} (next : K → A → B) (out : Out A) (answer : Result A Fault) (left : List Token) (kept same : K) (value : A) → Reads out answer left
    → (same ≡ kept) × (answer ≡ Ok value) → and_then out (λ x r. Done (next kept x) r) ≡ Done (next same value) (items left)
beside_reads next out answer left kept same value h k =
    let e : out ≡ Done value (items left) = subst (λ a. Reads out a left) k.1 h in rw (e, k.0) refl

pub beside_on : {A : Type 0} (answer : Result A Fault) (value : A) (P : Type 0) → OnOk answer P → answer ≡ Ok value → P
beside_on answer value P h k = subst (λ a. OnOk a P) k h

pub refused_beside : {A : Type 0} (out : Out A) (answer : Result A Fault) (e : Fault) (left : List Token) → Reads out answer left → answer ≡ Err e → e ≢ OutOfMemory out_of_memory
    → out ≡ Refused (items left)
refused_beside out answer e left h k other = subst (λ a. Reads out a left) k h other

-- both as they are
abbrev pub Besides : {A K : Type 0} → K → Result A Fault → Result (K × A) Fault → Type 0
Besides kept answer r = MatchResult r (λ both. (both.0 ≡ kept) × (answer ≡ Ok both.1)) (λ e. answer ≡ Err e)

pub pair_reads : {A K : Type 0} (out : Out A) (answer : Result A Fault) (left : List Token) (kept : K) (r : Result (K × A) Fault) → Reads out answer left → Besides kept answer r
    → Reads (and_then out (λ x r1. Done (kept, x) r1)) r left
pair_reads out answer left kept (Ok both) h k =
    let e : out ≡ Done both.1 (items left) = subst (λ a. Reads out a left) k.1 h in rw (e, k.0) refl
pair_reads out answer left kept (Err e) h k = λ other. rw (refused_beside out answer e left h k other) refl

pub pair_on : {A K : Type 0} (answer : Result A Fault) (kept : K) (r : Result (K × A) Fault) (P : Type 0) → OnOk answer P → Besides kept answer r → OnOk r P
pair_on answer kept (Ok both) P h k = beside_on answer both.1 P h k.1
pair_on answer kept (Err e) P h k = tt

-- ---- a token behind what was read

pub behind_err : {A : Type 0} (class : Class) (out : Out A) (answer : Result A Fault) (e : Fault) (r : Result A Fault) (left : List Token) → answer ≡ Err e → IsErrAnd r (λ d. d ≡ e)
    → Reads out answer left → Reads (behind class out) r left
behind_err class out answer e r left w m h = refused_reads _ e r left m (λ other. let q : out ≡ Refused (items left) = subst (λ a. Reads out a left) w h other in rw q refl)

pub behind_refused : {A : Type 0} (class : Class) (out : Out A) (answer : Result A Fault) (value : A) (e : Fault) (r : Result A Fault) (old left : List Token) → answer ≡ Ok value
    → (e ≢ OutOfMemory out_of_memory → read reads (mark class) (items old) ≡ Refused (items left)) → IsErrAnd r (λ d. d ≡ e) → Reads out answer old → Reads (behind class out) r left
behind_refused class out answer value e r old left w k m h =
    refused_reads _ e r left m (λ other. let q : out ≡ Done value (items old) = subst (λ a. Reads out a old) w h in rw (q, k other) refl)

pub behind_ok : {A : Type 0} (class : Class) (out : Out A) (answer : Result A Fault) (value : A) (place : Place) (old left : List Token) → answer ≡ Ok value
    → read reads (mark class) (items old) ≡ Done place (items left) → Reads out answer old → behind class out ≡ Done value (items left)
behind_ok class out answer value place old left w k h = let q : out ≡ Done value (items old) = subst (λ a. Reads out a old) w h in rw (q, k) refl

pub behind_shorter : {A : Type 0} (answer : Result A Fault) (value : A) (new old most : ℕ) → answer ≡ Ok value → new < old → OnOk answer (old ≤ most) → new < most
behind_shorter answer value new old most w short h = lt_of_lt_of_le short (subst (λ a. OnOk a (old ≤ most)) w h)

-- a part until a token is the part with the token behind it
pub until_is : {A : Type 0} (class : Class) (form : Form A) (ts : List Item) → read reads (Until form class) ts ≡ behind class (read reads form ts)
until_is class form ts = and_then_same (read reads form ts) _ _ (λ a r. sym (and_then_assoc (read reads (Tok (is class)) r) _ _))

pub behind_then : {A B : Type 0} (class : Class) (out : Out A) (next : A → List Item → Out B)
    → and_then out (λ a r. and_then (read reads (mark class) r) (λ _ r1. next a r1)) ≡ and_then (behind class out) next
behind_then class out next = sym (and_then_assoc out _ next ∙ and_then_same out _ _ (λ a r. and_then_assoc (read reads (mark class) r) _ next))
