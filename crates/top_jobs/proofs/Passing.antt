-- The check of programs, body by body.
use Rattle.std.proofs.Common.{◌≡◌, ◌≢◌, ℕ, ◌+◌, ◌*◌, ◌<◌, ◌≤◌, List, [], ◌∷◌, length, get_or, refl, sym, ap, subst, ◌∙◌, arith, inl, inr}
use Rattle.std.specs.Prelude.{◌⊎◌, ◌/◌, Some, Result, Ok, Err, IfOk, IfErr, slice_get}
use Rattle.std.proofs.lemmas.Bool.{cases_eq}
use Rattle.std.proofs.lemmas.Option.{slice_get-get_or, slice_get_within}
use Rattle.bpf_check.specs.declared.check.CodeFault.{CodeFault}
use Rattle.bpf_check.specs.declared.check.CodeFault.TheVariants.{S1, S2, Memory}
use Rattle.bpf_check.specs.Answers.{IsAnswer}
use Rattle.bpf_check.specs.Sheet.{sheet_of}
use Rattle.bpf_encode.specs.declared.program.Program.{Program}
use Rattle.bpf_encode.proofs.CodeLemmas.{length-code_bytes}
use Rattle.bt_ast.specs.declared.attached.BodyId.{BodyId}
use Rattle.bt_core.specs.declared.memory.Memory.{Memory as NoMemory}
use Rattle.bt_core.specs.Want.{out_of_memory}
use Rattle.bt_types.specs.Script.{AreTypedBodies}
use Rattle.bt_ast.specs.declared.probe.Script.{Script as Tree}
use Rattle.expr_types.specs.declared.known.Known.{Known}
use Rattle.run_output.specs.declared.job.Job.{Job}
use Rattle.event_layout.specs.declared.format.Format.{Format}
use Rattle.typed_tree.specs.declared.body.TypedBody.{TypedBody}
use Rattle.typed_tree.specs.declared.script.Typed.{Typed}
use Rattle.walk_meaning.specs.Served.{least_length}
use Rattle.top_refusals.specs.declared.refusal.CodeRefusal.{CodeRefusal}
use Rattle.top_jobs.specs.Jobs.{IsJobFor}
use Rattle.top_refusals.specs.Orders.{OperandFile}
use Rattle.top_jobs.specs.Vetting.{AllPass, IsAnswerOf, IsFirstRefused, PassBefore, Passes, most_of, refusal_of}
use Rattle.top_jobs.proofs.Asked.{IsAskedFor, of_files}

-- ---- the program of a body

-- what the check says of bytes: its answer holds of them, and no other but for want of memory
pub record Says (typed : Typed) (least : ℕ) (bytes : List ℕ) (answer : Result ℕ CodeFault) : Type 0 where
  pub holds : answer ≢ Err (Memory out_of_memory) → IsAnswer (sheet_of typed least) bytes answer
  pub only : (other : Result ℕ CodeFault) → IsAnswer (sheet_of typed least) bytes other → (answer ≡ other) ⊎ (answer ≡ Err (Memory out_of_memory))

module _ (typed : Typed) (body : TypedBody) (program : Program) where
  pub of_program : (least : ℕ) (bytes : List ℕ) (answer : Result ℕ CodeFault) → least ≡ least_length body.layout → bytes ≡ program.bytes
      → Says typed least bytes answer → Says typed (least_length body.layout) program.bytes answer
  of_program least bytes answer long same says =
      subst (λ (b : List ℕ). Says typed (least_length body.layout) b answer) same (subst (λ (n : ℕ). Says typed n bytes answer) long says)

  is_most : (most : ℕ) → IsAnswerOf typed body program (Ok most) → most ≡ most_of program
  is_most most is =
      let many = length-code_bytes is.code in let spelt = ap length is.is_code_of.spelt in
      let slots : length is.code ≡ length program.bytes / 8 = omega (arith, many, spelt) in
      is.is_most ∙ ap (λ (n : ℕ). 4097 * n) slots

  ok_err : (most : ℕ) (fault : CodeFault) → ◌≡◌ {A = Result ℕ CodeFault} (Ok most) (Err fault) → ⊥
  ok_err most fault e = cc

  accepts : (most : ℕ) → Says typed (least_length body.layout) program.bytes (Ok most) → IsAnswerOf typed body program (Ok most)
  accepts most says = says.holds (ok_err most (Memory out_of_memory))

  pub answer_most : (answer : Result ℕ CodeFault) → Says typed (least_length body.layout) program.bytes answer → IfOk answer (λ most. most ≡ most_of program)
  answer_most (Ok most) says = is_most most (accepts most says)
  answer_most (Err fault) says = tt

  pub answer_passes : (answer : Result ℕ CodeFault) → Says typed (least_length body.layout) program.bytes answer → IfOk answer (λ most. Passes typed body program)
  answer_passes (Ok most) says = record {
    accepted = subst (λ (n : ℕ). IsAnswerOf typed body program (Ok n)) (is_most most (accepts most says)) (accepts most says);
    not_refused = λ fault is. by fault (says.only (Err fault) is);
  }
    where
      by : (fault : CodeFault) → (◌≡◌ {A = Result ℕ CodeFault} (Ok most) (Err fault)) ⊎ (◌≡◌ {A = Result ℕ CodeFault} (Ok most) (Err (Memory out_of_memory))) → ⊥
      by fault (inl e) = ok_err most fault e
      by fault (inr e) = ok_err most (Memory out_of_memory) e
  answer_passes (Err fault) says = tt

  err_is : (one other : CodeFault) → ◌≡◌ {A = Result ℕ CodeFault} (Err one) (Err other) → one ≡ other
  err_is one other e = cc

  pub answer_refused : (answer : Result ℕ CodeFault) → Says typed (least_length body.layout) program.bytes answer
      → IfErr answer (λ fault. fault ≢ Memory out_of_memory → IsAnswerOf typed body program (Err fault))
  answer_refused (Ok most) says = tt
  answer_refused (Err fault) says = λ other. says.holds (λ e. other (err_is fault (Memory out_of_memory) e))

-- ---- the programs of all bodies

pub none_before : (typed : Typed) (programs : List Program) → PassBefore typed programs 0
none_before typed programs = λ n body program low. absurd (omega (arith, low))

same_some : {A : Type 0} (a b : A) → Some a ≡ Some b → a ≡ b
same_some a b e = cc

-- one program more is accepted
pub pass_more : (typed : Typed) (programs : List Program) (many : ℕ) (body : TypedBody) (program : Program) → slice_get typed.bodies many ≡ Some body
    → slice_get programs many ≡ Some program → PassBefore typed programs many → Passes typed body program → PassBefore typed programs (many + 1)
pass_more typed programs many body program of_body of_program before passes = λ n other made low on at. by n other made low on at (cases_eq n many)
  where
    by : (n : ℕ) (other : TypedBody) (made : Program) → n < many + 1 → slice_get typed.bodies n ≡ Some other → slice_get programs n ≡ Some made
        → (n ≡ many) ⊎ (n ≡ many → ⊥) → Passes typed other made
    by n other made low on at (inr ne) = before n other made (omega (arith, low, ne)) on at
    by n other made low on at (inl last) =
        let same_body : body ≡ other = same_some body other (sym of_body ∙ sym (ap (slice_get typed.bodies) last) ∙ on) in
        let same_program : program ≡ made = same_some program made (sym of_program ∙ sym (ap (slice_get programs) last) ∙ at) in
        subst (λ (p : Program). Passes typed other p) same_program (subst (λ (b : TypedBody). Passes typed b program) same_body passes)

-- what stands at a place of a list
pub read_at : {X : Type 0} (seen xs : List X) (n : ℕ) (x : X) → seen ≡ xs → x ≡ get_or seen n x → n < length xs → slice_get xs n ≡ Some x
read_at {X = X} seen xs n x same is low =
    subst (λ (l : List X). slice_get l n ≡ Some x) same
    (slice_get-get_or seen n x (subst (λ (l : List X). n < length l) (sym same) low) ∙ ap Some (sym is))

same_ok : (a b : CodeRefusal) → ◌≡◌ {A = Result CodeRefusal NoMemory} (Ok a) (Ok b) → a ≡ b
same_ok a b e = cc

refused_by : (id : BodyId) (fault : CodeFault) (why : CodeRefusal) → refusal_of id fault ≡ Ok why
    → (fault ≢ Memory out_of_memory) × (◌≡◌ {A = CodeRefusal} (record { probe = id.probe; fault = fault }) why)
refused_by id (S1 error) why e = (λ same. cc, same_ok _ why e)
refused_by id S2 why e = (λ same. cc, same_ok _ why e)
refused_by id (Memory memory) why e = absurd (let none : ◌≡◌ {A = Result CodeRefusal NoMemory} (Err memory) (Ok why) = e in cc)

-- a program is refused, and none before it is
pub first_refused : (ids : List BodyId) (typed : Typed) (programs : List Program) (n : ℕ) (id : BodyId) (body : TypedBody) (program : Program)
    (fault : CodeFault) (why : CodeRefusal) → slice_get ids n ≡ Some id → slice_get typed.bodies n ≡ Some body → slice_get programs n ≡ Some program
    → PassBefore typed programs n → (fault ≢ Memory out_of_memory → IsAnswerOf typed body program (Err fault)) → refusal_of id fault ≡ Ok why
    → IsFirstRefused ids typed programs why
first_refused ids typed programs n id body program fault why of_id of_body of_program before says e =
    let by = refused_by id fault why e in
    subst (λ (w : CodeRefusal). IsFirstRefused ids typed programs w) by.1 (record {
      number = n;
      refused = record { body = body; program = program; of_body = of_body; of_program = of_program; is = says by.0 };
      before = before;
      id = id;
      named = of_id;
      probe = refl;
    })

-- where the loop ends all programs were looked at
pub all_passed : (typed : Typed) (programs : List Program) (many : ℕ) → length programs ≤ many → PassBefore typed programs many → AllPass typed programs
all_passed typed programs many past before = λ n body program on at.
    let low = slice_get_within programs n program at in before n body program (omega (arith, past, low)) on at

-- ---- of a job

-- a body is named by the id at its place
as_many : (tree : Tree) (formats : List Format) (k : Known) (ids : List BodyId) (bodies : List TypedBody) → AreTypedBodies tree formats k ids bodies
    → length bodies ≤ length ids
as_many tree formats k [] [] are = omega arith
as_many tree formats k [] (b ∷ bs) are = absurd are
as_many tree formats k (id ∷ ids) [] are = omega arith
as_many tree formats k (id ∷ ids) (b ∷ bs) are = let later = as_many tree formats k ids bs are.1 in omega (arith, later)

named : (job : Job) → IsAskedFor job → length job.typed.bodies ≤ length job.attached.bodies
named job is = as_many is.asks.tree job.recording.formats is.asks.typed.known job.attached.bodies job.typed.bodies is.asks.typed.each

pub names_bodies : (files : List OperandFile) (contents : List (List ℕ)) (job : Job) → IsJobFor files contents job
    → length job.typed.bodies ≤ length job.attached.bodies
names_bodies files contents job is = named job (of_files files contents job is)
