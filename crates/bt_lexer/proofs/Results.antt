-- What a result says of a text.
use Rattle.std.proofs.Common.{◌≡◌, ◌≢◌, ℕ, List, Result, Ok, Err, subst, refl, sym, ◌∙◌, inl, inr, IfOk, IfErr}
use Rattle.std.specs.Prelude.{◌⊎◌}
use Rattle.bt_lexer.specs.Tokens.{IsTokensOf, IsFirstFault, Gives}
use Rattle.bt_lexer.specs.Scan.{lexed}
use Rattle.bt_lexer.specs.declared.token.Token.{Token}
use Rattle.bt_lexer.specs.declared.error.LexError.{LexError}
use Rattle.bt_lexer.specs.declared.error.LexError.TheVariants as faults
use Rattle.bt_lexer.proofs.Whole.{tokens_found, first_fault_found, tokens_only, first_fault_only}

pub answered_tokens : (text : List ℕ) (r : Result (List Token) LexError) → Gives r (lexed text) → IfOk r (IsTokensOf text)
answered_tokens text (Ok tokens) h = tokens_found text tokens h
answered_tokens text (Err fault) h = tt

pub answered_fault : (text : List ℕ) (r : Result (List Token) LexError) → Gives r (lexed text) → IfErr r (λ fault. fault ≢ faults.Memory → IsFirstFault text fault)
answered_fault text (Ok tokens) h = tt
answered_fault text (Err fault) h = λ ne. first_fault_found text fault (h ne)

pub only_tokens : (text : List ℕ) (r : Result (List Token) LexError) → Gives r (lexed text) → (tokens : List Token) → IsTokensOf text tokens → Gives r (Ok tokens)
only_tokens text r h tokens t = subst (Gives r) (tokens_only text tokens t) h

pub only_fault : (text : List ℕ) (r : Result (List Token) LexError) → Gives r (lexed text) → (fault : LexError) → IsFirstFault text fault → Gives r (Err fault)
only_fault text r h fault f = subst (Gives r) (first_fault_only text fault f) h

-- ---- of every text

pub some_answer : (text : List ℕ) → ((tokens : List Token) × IsTokensOf text tokens) ⊎ ((fault : LexError) × IsFirstFault text fault)
some_answer text = by_result (lexed text) refl
  where
    by_result : (found : Result (List Token) LexError) → lexed text ≡ found → ((tokens : List Token) × IsTokensOf text tokens) ⊎ ((fault : LexError) × IsFirstFault text fault)
    by_result (Ok tokens) e = inl (tokens, tokens_found text tokens e)
    by_result (Err fault) e = inr (fault, first_fault_found text fault e)

pub one_list : (text : List ℕ) (one other : List Token) → IsTokensOf text one → IsTokensOf text other → one ≡ other
one_list text one other h k = ok_same (sym (tokens_only text one h) ∙ tokens_only text other k)
  where
    ok_same : ◌≡◌ {A = Result (List Token) LexError} (Ok one) (Ok other) → one ≡ other
    ok_same e = cc

pub one_fault : (text : List ℕ) (one other : LexError) → IsFirstFault text one → IsFirstFault text other → one ≡ other
one_fault text one other h k = err_same (sym (first_fault_only text one h) ∙ first_fault_only text other k)
  where
    err_same : ◌≡◌ {A = Result (List Token) LexError} (Err one) (Err other) → one ≡ other
    err_same e = cc

pub not_both : (text : List ℕ) (tokens : List Token) (fault : LexError) → IsTokensOf text tokens → IsFirstFault text fault → ⊥
not_both text tokens fault h k = ok_or_err (sym (tokens_only text tokens h) ∙ first_fault_only text fault k)
  where
    ok_or_err : ◌≡◌ {A = Result (List Token) LexError} (Ok tokens) (Err fault) → ⊥
    ok_or_err e = cc
