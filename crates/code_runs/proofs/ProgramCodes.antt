-- The codes of programs that keep the bodies of a script.
use Rattle.std.proofs.Common.{◌≡◌, ℕ, zero, suc, ◌+◌, ◌<◌, ◌≤◌, ◌^◌, List, [], ◌∷◌, ◌++◌, length, take, get_or, Some, refl, sym, ap, ◌∙◌, subst, arith}
use Rattle.std.specs.Prelude.{slice_get}
use Rattle.std.specs.List.{AllByRecursion}
use Rattle.std.proofs.lemmas.List.{take_all, take_more}
use Rattle.std.proofs.lemmas.Option.{slice_get-get_or}
use Rattle.bpf_insn.specs.declared.insn.Insn.{Insn}
use Rattle.bpf_encode.specs.Decoding.{IsCodeOf}
use Rattle.bpf_encode.proofs.CodeLemmas.{length-code_bytes}
use Rattle.bpf_encode.specs.declared.program.Program.{Program}
use Rattle.typed_tree.specs.declared.body.TypedBody.{TypedBody}
use Rattle.typed_tree.specs.declared.script.Typed.{Typed}
use Rattle.code_runs.specs.Coding.{CanRunCode}
use Rattle.code_runs.specs.Kept.{KeepBodies, KeepsWalk}
use Rattle.code_runs.specs.Programs.{AreCodesOf, IsProgram, KeepScript, KeepsItsBody}

same : {A : Type 0} (a b : A) → Some a ≡ Some b → a ≡ b
same a b e = cc

-- a code of few slots has few bytes
pub short_bytes : (code : List Insn) (program : Program) → IsProgram code program → length program.bytes < 2 ^ 35
short_bytes code program is =
    let many = length-code_bytes code in let few = is.few in let spelt = ap length is.spelt.spelt in omega (arith, many, few, spelt)

module _ (script : Typed) where
  -- one program for each body and one code for each program: the program is the code, which keeps the body
  abbrev pub AreKept : List TypedBody → List Program → List (List Insn) → Type 0
  AreKept [] [] [] = Unit {0}
  AreKept (b ∷ bs) (p ∷ ps) (c ∷ cs) = (IsProgram c p × KeepsWalk script b c) × AreKept bs ps cs
  AreKept _ _ _ = ⊥

  pub kept_codes : (bodies : List TypedBody) (programs : List Program) → length programs ≡ length bodies
      → ((n : ℕ) (body : TypedBody) (program : Program) → slice_get bodies n ≡ Some body → slice_get programs n ≡ Some program → KeepsItsBody script body program)
      → (codes : List (List Insn)) × AreKept bodies programs codes
  kept_codes [] [] e each = ([], tt)
  kept_codes [] (p ∷ ps) e each = absurd (omega (arith, e))
  kept_codes (b ∷ bs) [] e each = absurd (omega (arith, e))
  kept_codes (b ∷ bs) (p ∷ ps) e each =
      let first = each 0 b p refl refl in
      let rest = kept_codes bs ps (omega (arith, e)) (λ n body program at on. each (suc n) body program at on) in
      (first.code ∷ rest.0, ((first.is, first.keeps), rest.1))

  as_many : (bodies : List TypedBody) (programs : List Program) (codes : List (List Insn)) → AreKept bodies programs codes → (length codes ≡ length programs) × (length codes ≡ length bodies)
  as_many [] [] [] kept = (refl, refl)
  as_many (b ∷ bs) (p ∷ ps) (c ∷ cs) kept = let r = as_many bs ps cs kept.1 in (ap suc r.0, ap suc r.1)
  as_many [] (p ∷ ps) cs kept = absurd kept
  as_many [] [] (c ∷ cs) kept = absurd kept
  as_many (b ∷ bs) [] cs kept = absurd kept
  as_many (b ∷ bs) (p ∷ ps) [] kept = absurd kept

  each_code : (bodies : List TypedBody) (programs : List Program) (codes : List (List Insn)) → AreKept bodies programs codes
      → (n : ℕ) (program : Program) (code : List Insn) → slice_get programs n ≡ Some program → slice_get codes n ≡ Some code → IsProgram code program
  each_code [] [] [] kept n q d at on = absurd (let none : ⊥ = cc in none)
  each_code (b ∷ bs) (p ∷ ps) (c ∷ cs) kept zero q d at on = subst (λ (z : List Insn × Program). IsProgram z.0 z.1) (λ i. (same c d on i, same p q at i)) kept.0.0
  each_code (b ∷ bs) (p ∷ ps) (c ∷ cs) kept (suc n) q d at on = each_code bs ps cs kept.1 n q d at on
  each_code [] (p ∷ ps) cs kept n q d at on = absurd kept
  each_code [] [] (c ∷ cs) kept n q d at on = absurd kept
  each_code (b ∷ bs) [] cs kept n q d at on = absurd kept
  each_code (b ∷ bs) (p ∷ ps) [] kept n q d at on = absurd kept

  each_body : (bodies : List TypedBody) (programs : List Program) (codes : List (List Insn)) → AreKept bodies programs codes
      → (n : ℕ) (body : TypedBody) (code : List Insn) → slice_get bodies n ≡ Some body → slice_get codes n ≡ Some code → KeepsWalk script body code
  each_body [] [] [] kept n a d at on = absurd (let none : ⊥ = cc in none)
  each_body (b ∷ bs) (p ∷ ps) (c ∷ cs) kept zero a d at on = subst (λ (z : TypedBody × List Insn). KeepsWalk script z.0 z.1) (λ i. (same b a at i, same c d on i)) kept.0.1
  each_body (b ∷ bs) (p ∷ ps) (c ∷ cs) kept (suc n) a d at on = each_body bs ps cs kept.1 n a d at on
  each_body [] (p ∷ ps) cs kept n a d at on = absurd kept
  each_body [] [] (c ∷ cs) kept n a d at on = absurd kept
  each_body (b ∷ bs) [] cs kept n a d at on = absurd kept
  each_body (b ∷ bs) (p ∷ ps) [] kept n a d at on = absurd kept

  all_run : (bodies : List TypedBody) (programs : List Program) (codes : List (List Insn)) → AreKept bodies programs codes → AllByRecursion CanRunCode codes
  all_run [] [] [] kept = tt
  all_run (b ∷ bs) (p ∷ ps) (c ∷ cs) kept =
      (record { well_formed = kept.0.1.well_formed; begins = kept.0.1.begins; few = kept.0.0.few }, all_run bs ps cs kept.1)
  all_run [] (p ∷ ps) cs kept = absurd kept
  all_run [] [] (c ∷ cs) kept = absurd kept
  all_run (b ∷ bs) [] cs kept = absurd kept
  all_run (b ∷ bs) (p ∷ ps) [] kept = absurd kept

  module _ (programs : List Program) (keep : KeepScript script programs) where
    found : (codes : List (List Insn)) × AreKept script.bodies programs codes
    found = kept_codes script.bodies programs keep.as_many keep.each

    pub the_codes : List (List Insn)
    the_codes = found.0

    pub are_codes : AreCodesOf programs the_codes
    unfolding the_codes
    are_codes = record {
      as_many = (as_many script.bodies programs the_codes found.1).0;
      each = λ n program code at on. (each_code script.bodies programs the_codes found.1 n program code at on).spelt;
    }

    pub keep_bodies : KeepBodies script the_codes
    unfolding the_codes
    keep_bodies = record { as_many = (as_many script.bodies programs the_codes found.1).1; each = each_body script.bodies programs the_codes found.1 }

    pub can_run : AllByRecursion CanRunCode the_codes
    unfolding the_codes
    can_run = all_run script.bodies programs the_codes found.1

    -- each program is short
    pub each_short : (n : ℕ) (program : Program) → n < length programs → program ≡ get_or programs n program → length program.bytes < 2 ^ 35
    unfolding the_codes
    each_short n program lt at =
        let many = are_codes.as_many in
        let on = slice_get-get_or programs n program lt ∙ ap Some (sym at) in
        let code = get_or the_codes n [] in
        let is = each_code script.bodies programs the_codes found.1 n program code on (slice_get-get_or the_codes n [] (omega (arith, many, lt))) in
        short_bytes code program is

    -- and its bytes spell a code
    pub each_spelt : (n : ℕ) (program : Program) → n < length programs → program ≡ get_or programs n program → (code : List Insn) × IsCodeOf code program.bytes
    unfolding the_codes
    each_spelt n program lt at =
        let many = are_codes.as_many in
        let on = slice_get-get_or programs n program lt ∙ ap Some (sym at) in
        let code = get_or the_codes n [] in
        (code, are_codes.each n program code on (slice_get-get_or the_codes n [] (omega (arith, many, lt))))

-- one code more, and all
module _ (programs : List Program) (others : List (List Insn)) (are : AreCodesOf programs others) (i : ℕ) (codes : List (List Insn)) (so_far : codes ≡ take i others) where
  pub one_more : (program : Program) (got : List Insn) (new : List (List Insn)) → i < length programs → program ≡ get_or programs i program
      → ((code : List Insn) → IsCodeOf code program.bytes → got ≡ code) → new ≡ codes ++ got ∷ [] → new ≡ take (i + 1) others
  one_more program got new lt at is e =
      let many = are.as_many in
      let low : i < length others = omega (arith, many, lt) in
      let code = get_or others i [] in
      let one : got ≡ code = is code (are.each i program code (slice_get-get_or programs i program lt ∙ ap Some (sym at)) (slice_get-get_or others i [] low)) in
      e ∙ (λ k. so_far k ++ one k ∷ []) ∙ sym (take_more others i [] low)

  pub are_all : length programs ≤ i → codes ≡ others
  are_all le = let many = are.as_many in so_far ∙ take_all i others (omega (arith, many, le))
