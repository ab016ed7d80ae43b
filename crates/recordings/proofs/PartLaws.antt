-- How a part is read goes with how it is spelled: an event that is read is the event that was written, and what was written is read again.
use Rattle.std.proofs.Common.{◌≡◌, ℕ, List, ◌++◌, Option, Some, refl, ap, subst, ◌∙◌, append_assoc}
use Rattle.std.proofs.lemmas.Option.{same_Some}
use Rattle.std.specs.Int.{w32, w64, to_le_bytes}
use Rattle.recordings.specs.Fronts.{◌>>=◌, bytes_at, number_at, sized_at, event_at}
use Rattle.recordings.specs.Parts.{sized_bytes, EventPart, IsEventPart, event_bytes}
use Rattle.recordings.proofs.Fields.{IsBytes, bind_some, Takes, Takes-then, bytes_takes, bytes_again, wide32, wide64, number_takes, number_again, sized_takes, sized_again}

-- a step that read something
pub bind_to : {A B : Type 0} (r : Option A) (f : A → Option B) (x : A) (y : Option B) → r ≡ Some x → f x ≡ y → (r >>= f) ≡ y
bind_to r f x y e h = ap (λ read. read >>= f) e ∙ h

-- how a part is read goes with how it is spelled
pub record Reads {P : Type 0} (read : List ℕ → Option (P × List ℕ)) (IsWhole : P → Type 0) (spelling : P → List ℕ) : Type 0 where
  pub takes : (bytes : List ℕ) (part : P) (rest : List ℕ) → IsBytes bytes → read bytes ≡ Some (part, rest) → Takes bytes (spelling part) rest × IsWhole part
  pub again : (part : P) (rest : List ℕ) → IsWhole part → read (spelling part ++ rest) ≡ Some (part, rest)

regroup7 : (a b c d e f g r : List ℕ) → (a ++ (b ++ (c ++ (d ++ (e ++ (f ++ g)))))) ++ r ≡ a ++ (b ++ (c ++ (d ++ (e ++ (f ++ (g ++ r))))))
regroup7 a b c d e f g r = simp append_assoc

-- what was read of each field, one after the other, is what an event spells
event_read : (v : EventPart) (bytes b1 b2 b3 b4 b5 b6 rest : List ℕ) → IsBytes bytes → number_at w64 bytes ≡ Some (v.time, b1) → number_at w32 b1 ≡ Some (v.pid, b2) → number_at w32 b2 ≡ Some (v.tid, b3)
    → number_at w32 b3 ≡ Some (v.uid, b4) → number_at w32 b4 ≡ Some (v.gid, b5) → bytes_at 16 b5 ≡ Some (v.comm, b6) → sized_at w32 b6 ≡ Some (v.payload, rest) → Takes bytes (event_bytes v) rest × IsEventPart v
event_read v bytes b1 b2 b3 b4 b5 b6 rest fits r0 r1 r2 r3 r4 r5 r6 =
    let time = number_takes w64 wide64 bytes v.time b1 fits r0 in
    let pid = number_takes w32 wide32 b1 v.pid b2 time.0.rest_fits r1 in
    let tid = number_takes w32 wide32 b2 v.tid b3 pid.0.rest_fits r2 in
    let uid = number_takes w32 wide32 b3 v.uid b4 tid.0.rest_fits r3 in
    let gid = number_takes w32 wide32 b4 v.gid b5 uid.0.rest_fits r4 in
    let comm = bytes_takes 16 b5 v.comm b6 gid.0.rest_fits r5 in
    let payload = sized_takes w32 wide32 b6 v.payload rest comm.0.rest_fits r6 in
    let t6 : List ℕ = v.comm ++ sized_bytes w32 v.payload in
    let t5 : List ℕ = to_le_bytes w32 v.gid ++ t6 in
    let t4 : List ℕ = to_le_bytes w32 v.uid ++ t5 in
    let t3 : List ℕ = to_le_bytes w32 v.tid ++ t4 in
    let t2 : List ℕ = to_le_bytes w32 v.pid ++ t3 in
    let six = Takes-then b5 v.comm b6 (sized_bytes w32 v.payload) rest comm.0 payload.0 in
    let five = Takes-then b4 (to_le_bytes w32 v.gid) b5 t6 rest gid.0 six in
    let four = Takes-then b3 (to_le_bytes w32 v.uid) b4 t5 rest uid.0 five in
    let three = Takes-then b2 (to_le_bytes w32 v.tid) b3 t4 rest tid.0 four in
    let two = Takes-then b1 (to_le_bytes w32 v.pid) b2 t3 rest pid.0 three in (
      Takes-then bytes (to_le_bytes w64 v.time) b1 t2 rest time.0 two,
      record { time = time.1; pid = pid.1; tid = tid.1; uid = uid.1; gid = gid.1; comm = comm.1; payload = payload.1 },
    )

-- with the value of a step that did not fail
step : {A B G : Type 0} (r : Option A) (f : A → Option B) (y : B) → (r >>= f) ≡ Some y → ((x : A) → r ≡ Some x → f x ≡ Some y → G) → G
step r f y e then = let found = bind_some r f y e in then found.0 found.1 found.2

event_takes : (bytes : List ℕ) (v : EventPart) (rest : List ℕ) → IsBytes bytes → event_at bytes ≡ Some (v, rest) → Takes bytes (event_bytes v) rest × IsEventPart v
unfolding event_at
event_takes bytes v rest fits e0 =
    step (number_at w64 bytes) _ (v, rest) e0 (λ time r0 e1.
    step (number_at w32 time.1) _ (v, rest) e1 (λ pid r1 e2.
    step (number_at w32 pid.1) _ (v, rest) e2 (λ tid r2 e3.
    step (number_at w32 tid.1) _ (v, rest) e3 (λ uid r3 e4.
    step (number_at w32 uid.1) _ (v, rest) e4 (λ gid r4 e5.
    step (bytes_at 16 gid.1) _ (v, rest) e5 (λ comm r5 e6.
    step (sized_at w32 comm.1) _ (v, rest) e6 (λ payload r6 e7.
    let made : EventPart = record { time = time.0; pid = pid.0; tid = tid.0; uid = uid.0; gid = gid.0; comm = comm.0; payload = payload.0 } in
    subst (λ (p : EventPart × List ℕ). Takes bytes (event_bytes p.0) p.1 × IsEventPart p.0) (same_Some (made, payload.1) (v, rest) e7)
    (event_read made bytes time.1 pid.1 tid.1 uid.1 gid.1 comm.1 payload.1 fits r0 r1 r2 r3 r4 r5 r6))))))))

event_again : (v : EventPart) (rest : List ℕ) → IsEventPart v → event_at (event_bytes v ++ rest) ≡ Some (v, rest)
unfolding event_at
event_again v rest is =
    let r6 : List ℕ = sized_bytes w32 v.payload ++ rest in
    let r5 : List ℕ = v.comm ++ r6 in
    let r4 : List ℕ = to_le_bytes w32 v.gid ++ r5 in
    let r3 : List ℕ = to_le_bytes w32 v.uid ++ r4 in
    let r2 : List ℕ = to_le_bytes w32 v.tid ++ r3 in
    let r1 : List ℕ = to_le_bytes w32 v.pid ++ r2 in
    ap event_at (regroup7 (to_le_bytes w64 v.time) (to_le_bytes w32 v.pid) (to_le_bytes w32 v.tid) (to_le_bytes w32 v.uid) (to_le_bytes w32 v.gid) v.comm (sized_bytes w32 v.payload) rest)
    ∙ bind_to (number_at w64 (to_le_bytes w64 v.time ++ r1)) _ (v.time, r1) _ (number_again w64 wide64 v.time r1 is.time)
    (bind_to (number_at w32 r1) _ (v.pid, r2) _ (number_again w32 wide32 v.pid r2 is.pid)
    (bind_to (number_at w32 r2) _ (v.tid, r3) _ (number_again w32 wide32 v.tid r3 is.tid)
    (bind_to (number_at w32 r3) _ (v.uid, r4) _ (number_again w32 wide32 v.uid r4 is.uid)
    (bind_to (number_at w32 r4) _ (v.gid, r5) _ (number_again w32 wide32 v.gid r5 is.gid)
    (bind_to (bytes_at 16 r5) _ (v.comm, r6) _ (bytes_again 16 v.comm r6 is.comm)
    (bind_to (sized_at w32 r6) _ (v.payload, rest) _ (sized_again w32 wide32 v.payload rest is.payload) refl))))))

pub event_reads : Reads event_at IsEventPart event_bytes
event_reads = record { takes = event_takes; again = event_again }
