-- Listings, body by body.
use Rattle.std.proofs.Common.{◌≡◌, ℕ, zero, suc, ◌+◌, ◌<◌, ◌≤◌, List, [], ◌∷◌, ◌++◌, length, take, get_or, refl, sym, ap, ◌∙◌, subst, arith, append_assoc, append-nil}
use Rattle.std.specs.Prelude.{min, Some, Result, Ok, Err, OnOk, slice_get}
use Rattle.std.specs.List.{AllByRecursion}
use Rattle.bpf_encode.specs.declared.program.Program.{Program}
use Rattle.bpf_encode.proofs.CodeLemmas.{length-code_bytes}
use Rattle.bt_ast.specs.declared.attached.BodyId.{BodyId}
use Rattle.code_runs.specs.Programs.{KeepScript, KeepsItsBody}
use Rattle.typed_tree.specs.declared.body.TypedBody.{TypedBody}
use Rattle.typed_tree.specs.declared.script.Typed.{Typed}
use Rattle.top_jobs.specs.Doing.{CanBeListed}
use Rattle.top_jobs.specs.Listings.{of_bodies}

pub on_ok-map : {T E : Type 0} (r : Result T E) (P Q : Type 0) → (P → Q) → OnOk r P → OnOk r Q
on_ok-map (Ok x) P Q f p = f p
on_ok-map (Err e) P Q f p = tt

-- one body more
listing_more : (said : BodyId → Program → List ℕ) (ids : List BodyId) (programs : List Program) (n : ℕ) (id d : BodyId) (program : Program)
    → n < length ids → n < length programs → id ≡ get_or ids n d → program ≡ get_or programs n program
    → of_bodies said (take (suc n) ids) (take (suc n) programs) ≡ of_bodies said (take n ids) (take n programs) ++ said id program
listing_more said [] programs n id d program low few at on = absurd (omega (arith, low))
listing_more said (i ∷ is) [] n id d program low few at on = absurd (omega (arith, few))
listing_more said (i ∷ is) (p ∷ ps) zero id d program low few at on =
    let first = sym at in
    let second = sym on in
    append-nil (said i p) ∙ λ k. said (first k) (second k)
listing_more said (i ∷ is) (p ∷ ps) (suc n) id d program low few at on =
    ap (λ (l : List ℕ). said i p ++ l) (listing_more said is ps n id d program (omega (arith, low)) (omega (arith, few)) at on)
    ∙ sym (append_assoc (said i p) (of_bodies said (take n is) (take n ps)) (said id program))

-- all of them
pub listing_all : (said : BodyId → Program → List ℕ) (ids : List BodyId) (programs : List Program) (n : ℕ) → min (length ids) (length programs) ≤ n
    → of_bodies said (take n ids) (take n programs) ≡ of_bodies said ids programs
listing_all said [] programs zero past = refl
listing_all said [] programs (suc n) past = refl
listing_all said (i ∷ is) [] zero past = refl
listing_all said (i ∷ is) [] (suc n) past = refl
listing_all said (i ∷ is) (p ∷ ps) zero past = absurd (omega (arith, past))
listing_all said (i ∷ is) (p ∷ ps) (suc n) past =
    ap (λ (l : List ℕ). said i p ++ l) (listing_all said is ps n (omega (arith, past)))

-- programs that keep a script's bodies can be listed
kept_listed : (script : Typed) (body : TypedBody) (program : Program) → KeepsItsBody script body program → CanBeListed program
kept_listed script body program keeps =
    let many = length-code_bytes keeps.code in let spelt = ap length keeps.is.spelt.spelt in let few = keeps.is.few in
    (omega (arith, many, spelt), omega (arith, many, spelt, few))

all_listed : (script : Typed) (bodies : List TypedBody) (programs : List Program) → length programs ≡ length bodies
    → ((n : ℕ) (body : TypedBody) (program : Program) → slice_get bodies n ≡ Some body → slice_get programs n ≡ Some program → KeepsItsBody script body program)
    → AllByRecursion CanBeListed programs
all_listed script bodies [] e each = tt
all_listed script [] (p ∷ ps) e each = absurd (omega (arith, e))
all_listed script (b ∷ bs) (p ∷ ps) e each =
    (kept_listed script b p (each 0 b p refl refl), all_listed script bs ps (omega (arith, e)) (λ n body program at on. each (suc n) body program at on))

pub can_be_listed : (script : Typed) (programs : List Program) → KeepScript script programs → AllByRecursion CanBeListed programs
can_be_listed script programs keep = all_listed script script.bodies programs keep.as_many keep.each

-- the next of the bodies in a loop
pub next_listed : (said : BodyId → Program → List ℕ) (ids : List BodyId) (programs : List Program) (n : ℕ) (id d : BodyId) (program : Program) (old new : List ℕ)
    → n < length ids → n < length programs → id ≡ get_or ids n d → program ≡ get_or programs n program
    → old ≡ of_bodies said (take n ids) (take n programs) → new ≡ old ++ said id program
    → new ≡ of_bodies said (take (n + 1) ids) (take (n + 1) programs)
next_listed said ids programs n id d program old new low few at on before grown =
    let more : suc n ≡ n + 1 = omega arith in
    grown ∙ ap (λ (l : List ℕ). l ++ said id program) before
    ∙ sym (listing_more said ids programs n id d program low few at on)
    ∙ ap (λ (m : ℕ). of_bodies said (take m ids) (take m programs)) more

pub listed_at : (programs : List Program) (n : ℕ) (program : Program) → n < length programs → program ≡ get_or programs n program
    → AllByRecursion CanBeListed programs → CanBeListed program
listed_at [] n program low at all = absurd (omega (arith, low))
listed_at (p ∷ ps) zero program low at all = subst CanBeListed (sym at) all.0
listed_at (p ∷ ps) (suc n) program low at all = listed_at ps n program (omega (arith, low)) at all.1
