-- What bodies see of a recording's events and moments are numbers, names and bytes as a program holds them.
use Rattle.std.proofs.Common.{◌≡◌, ℕ, zero, suc, ◌<◌, ◌≤◌, ◌^◌, min, Bool, true, false, cond, List, [], ◌∷◌, length, take, Some, refl, subst, arith}
use Rattle.std.specs.Prelude.{slice_get}
use Rattle.std.specs.List.{AllByRecursion, take_while}
use Rattle.std.proofs.lemmas.List.Sums.{take_while-cons}
use Rattle.bt_ast.specs.declared.attached.Attached.{Attached}
use Rattle.bt_core.specs.Text.{IsShortText, is_text_byte, short_text}
use Rattle.bt_core.proofs.TextLemmas.{kept_front, kept_IsShortText}
use Rattle.event_layout.proofs.Lists.{all_at}
use Rattle.recordings.specs.declared.recording.CpuTrack.{CpuTrack}
use Rattle.recordings.specs.declared.recording.Entry.TheVariants as entry
use Rattle.recordings.specs.declared.recording.Event.{Event}
use Rattle.recordings.specs.declared.recording.Recording.{Recording}
use Rattle.recordings.specs.Checks.{has_marks}
use Rattle.recordings.specs.EntryParts.{IsEntry}
use Rattle.recordings.specs.Places.{IsHeldEntry}
use Rattle.recordings.specs.Recordings.{IsTrack, IsValidRecording}
use Rattle.typed_tree.specs.declared.body.TypedBody.{TypedBody}
use Rattle.actor_plan.specs.Contexts.{event_context, moment_context}
use Rattle.walk_meaning.specs.Served.{least_length}
use Rattle.code_runs.specs.Kept.{AreHeld, IsSeen}
use Rattle.event_record.specs.Contexts.{AreBytes}

short_is : (bytes : List ℕ) → IsShortText (short_text bytes)
short_is bytes =
    let m = min (length bytes) 63 in
    let len = length (take_while is_text_byte (take m bytes)) in
    subst IsShortText (kept_front bytes bytes len m refl refl refl) (kept_IsShortText bytes bytes len m refl refl refl).1

while_bytes : (p : ℕ → Bool) (xs : List ℕ) → AreBytes xs → AreBytes (take_while p xs)
while_bytes p [] h = tt
while_bytes p (x ∷ xs) h = rw (take_while-cons p x xs) (elim (p x) as (λ b. AreBytes (cond b (x ∷ take_while p xs) [])) [ true ↦ (h.0, while_bytes p xs h.1) | false ↦ tt ])

take_bytes : (n : ℕ) (xs : List ℕ) → AreBytes xs → AreBytes (take n xs)
take_bytes zero xs h = tt
take_bytes (suc n) [] h = tt
take_bytes (suc n) (x ∷ xs) h = (h.0, take_bytes n xs h.1)

module _ (r : Recording) (valid : IsValidRecording r) where
  pub event_seen : (attached : Attached) (cpu place : ℕ) (track : CpuTrack) (e : Event) (body : TypedBody) → AreHeld attached r
      → slice_get r.cpus cpu ≡ Some track → slice_get track.entries place ≡ Some (entry.Event e) → least_length body.layout ≤ length e.payload → IsSeen body (event_context r track e) e.payload
  event_seen attached cpu place track e body held at there long =
      let on_track = all_at (IsTrack (has_marks r.version) r.formats r.start r.end) r.cpus cpu track valid.cpus.each at in
      let fine = all_at (IsEntry (has_marks r.version) r.formats) track.entries place (entry.Event e) on_track.entries.each there in
      let bytes = all_at IsHeldEntry track.entries place (entry.Event e) (all_at (λ (t : CpuTrack). AllByRecursion IsHeldEntry t.entries) r.cpus cpu track held.entries at) there in
      record {
        long = long;
        short = fine.whole.payload;
        bytes = bytes.1;
        named = refl;
        fits = record {
          time = fine.whole.time;
          start = valid.start;
          pid = fine.whole.pid;
          tid = fine.whole.tid;
          uid = fine.whole.uid;
          gid = fine.whole.gid;
          cpu = on_track.number;
          comm = short_is e.comm;
          comm_bytes = while_bytes is_text_byte (take 63 e.comm) (take_bytes 63 e.comm bytes.0);
        };
      }

  pub moment_seen : (number time : ℕ) (body : TypedBody) → number < 2 ^ 32 → time < 2 ^ 64 → least_length body.layout ≤ 0 → IsSeen body (moment_context r number time) []
  moment_seen number time body low early long = record {
    long = long;
    short = omega arith;
    bytes = tt;
    named = refl;
    fits = record {
      time = early;
      start = valid.start;
      pid = omega arith;
      tid = omega arith;
      uid = omega arith;
      gid = omega arith;
      cpu = low;
      comm = record { short = omega arith; no_zero = tt };
      comm_bytes = tt;
    };
  }

  pub number_small : (cpu : ℕ) (track : CpuTrack) → slice_get r.cpus cpu ≡ Some track → track.number < 2 ^ 32
  number_small cpu track at = (all_at (IsTrack (has_marks r.version) r.formats r.start r.end) r.cpus cpu track valid.cpus.each at).number
