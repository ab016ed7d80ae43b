-- What the getters of clap's matches answer, by the rows.
use Rattle.std.proofs.Common.{◌≡◌, ◌∙◌, Bool, List, true, false, codes, Option, Some, None, IsSome, is_some, option_map, ap, refl, sym, true≢false}
use Rattle.std.specs.Borrow.{Bor}
use Rattle.std.specs.Option.{unwrap_or}
use Rattle.std.specs.Prelude.{Result, Ok, Err, IfOk}
use Rattle.clap.specs.Words.{App, Row, Text, first_of, first_value, one_of, one_text, rows_of, takes}
use Rattle.bt_words.proofs.ClapEnd.{flag_text}
use Rattle.clap.specs.declared.parser.matches.Found.{Found}
use Rattle.clap.proofs.WalkLemmas.{first_value-rows, one_text-rows}

-- a command that was made takes what its description takes
pub taken : {C E : Type 0} (made : Result C E) (described : C → App) (app : App) (words : List Text) → takes app words ≡ true → IfOk made (λ c. described c ≡ app)
    → IfOk made (λ c. takes (described c) words ≡ true)
taken (Ok c) described app words there is = ap (λ (a : App). takes a words) is ∙ there
taken (Err e) described app words there is = tt

-- what is said of an answer, said of what follows from it
pub grown : {C E : Type 0} {P Q : C → Type 0} (r : Result C E) → IfOk r P → ((c : C) → P c → Q c) → IfOk r Q
grown (Ok c) p f = f c p
grown (Err e) p f = tt

-- a text that clap read is there
pub text_there : (f : Found) (id : Text) (o : Option (Bor Text)) → option_map (λ s. s.now) o ≡ first_value f id → IsSome (first_of id (rows_of f)) → IsSome o
text_there f id None got there = absurd (true≢false (sym (ap is_some (got ∙ first_value-rows f id) ∙ there)))
text_there f id (Some s) got there = refl

pub text_read : (f : Found) (id : Text) (o : Option (Bor Text)) (s : Bor Text) → option_map (λ s. s.now) o ≡ first_value f id → o ≡ Some s
    → first_of id (rows_of f) ≡ Some s.now
text_read f id o s got is = sym (first_value-rows f id) ∙ sym got ∙ ap (option_map (λ s. s.now)) is

pub first_there : (id t : Text) (rows all : List Row) → rows ≡ all → first_of id all ≡ Some t → IsSome (first_of id rows)
first_there id t rows all is first = ap is_some (ap (first_of id) is ∙ first)

pub text_is : (id s t : Text) (rows all : List Row) → rows ≡ all → first_of id all ≡ Some t → first_of id rows ≡ Some s → s ≡ t
text_is id s t rows all is first got = ap (λ (x : Option Text). unwrap_or x t) (sym got ∙ ap (first_of id) is ∙ first)

-- a flag is as its text says
pub flag_is : (f : Found) (id : Text) (rows : List Row) (flag result : Bool) → rows_of f ≡ rows → one_of id rows ≡ Some (flag_text flag)
    → (one_text f id ≡ Some (codes "true") → result ≡ true) → (one_text f id ≡ Some (codes "false") → result ≡ false) → result ≡ flag
flag_is f id rows true result is one on off = on (one_text-rows f id ∙ ap (one_of id) is ∙ one)
flag_is f id rows false result is one on off = off (one_text-rows f id ∙ ap (one_of id) is ∙ one)
