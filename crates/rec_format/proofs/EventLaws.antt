-- What a payload that passes has, and which event a part makes.
use Rattle.std.proofs.Common.{◌≡◌, ℕ, zero, suc, ◌≤◌, true, false, cond, Option, Some, None, List, [], ◌∷◌, ◌++◌, length, take, refl, ap, sym, ◌∙◌, append_assoc, arith}
use Rattle.std.specs.Prelude.{nat_lt, unwrap_or, ◌==◌}
use Rattle.std.specs.Int.{w16, w32, w64, to_le_bytes, from_le_bytes}
use Rattle.std.specs.List.{slice_get}
use Rattle.std.specs.Option.{option_map}
use Rattle.std.proofs.lemmas.Bool.{ltb-false, le-ltb, eq-eqb, or_parts}
use Rattle.std.proofs.lemmas.List.{length-take}
use Rattle.std.proofs.lemmas.Option.{same_Some}
use Rattle.event_layout.specs.declared.format.Format.{Format}
use Rattle.event_layout.proofs.Lists.{all_at}
use Rattle.recordings.specs.declared.error.RecordingError.{RecordingError}
use Rattle.recordings.specs.declared.error.RecordingError.TheVariants as fault
use Rattle.recordings.specs.declared.recording.Event.{Event}
use Rattle.recordings.specs.Parts.{EventPart, IsEventPart, event_bytes}
use Rattle.recordings.specs.Checks.{is_same_event}
use Rattle.recordings.specs.Events.{part_of_event, IsEvent, format_with, length_fault, payload_fault}
use Rattle.recordings.specs.Recordings.{AreApart, AreFormats}
use Rattle.recordings.specs.Events.{event_of}
use Rattle.recordings.proofs.Fields.{IsBytes, IsBytes-take, wide16, from_le_bytes-front}
use Rattle.recordings.proofs.PayloadLaws.{event_id, two_bytes}
use Rattle.rec_format.proofs.Lists.{suffix_fits, prefix_fits}
use Rattle.rec_format.proofs.TableLaws.{later, found_there}

-- ---- the format of a payload

-- the format at a place is the one that is found by its ID
known_format : (fs : List Format) (i : ℕ) (f : Format) → AreApart fs → slice_get fs i ≡ Some f → format_with f.layout.id fs ≡ Some (i, f)
known_format [] i f apart h = absurd cc
known_format (g ∷ gs) zero f apart h =
    let same : g ≡ f = same_Some g f h in
    ap (λ b. cond b (Some (0, g)) (option_map later (format_with f.layout.id gs))) (eq-eqb g.layout.id f.layout.id (ap (λ (x : Format). x.layout.id) same)) ∙ ap (λ (x : Format). Some (0, x)) same
known_format (g ∷ gs) (suc i) f apart h =
    let other : is_same_event f g ≡ false = all_at (λ x. is_same_event x g ≡ false) gs i f apart.0 h in
    ap (λ b. cond b (Some (0, g)) (option_map later (format_with f.layout.id gs))) (or_parts (g.layout.id == f.layout.id) _ other).0 ∙ ap (option_map later) (known_format gs i f apart.1 h)

-- the place of the format whose ID a payload begins with
pub place_of : List Format → List ℕ → ℕ
place_of formats payload = unwrap_or (option_map (λ found. found.0) (format_with (from_le_bytes w16 payload) formats)) 0

pub place_of-Some : (formats : List Format) (payload : List ℕ) (place : ℕ) → option_map (λ found. found.0) (format_with (from_le_bytes w16 payload) formats) ≡ Some place → place_of formats payload ≡ place
unfolding place_of
place_of-Some formats payload place h = ap (λ (o : Option ℕ). unwrap_or o 0) h

event_known : (formats : List Format) (e : Event) → AreFormats formats → (is : IsEvent formats e) → format_with (from_le_bytes w16 e.payload) formats ≡ Some (e.format, is.format)
event_known formats e pass is = ap (λ (id : ℕ). format_with id formats) (event_id formats e pass is) ∙ known_format formats e.format is.format pass.apart is.placed

-- ---- a payload that passes

record PayloadPasses (formats : List Format) (payload : List ℕ) : Type 0 where
  two : 2 ≤ length payload
  found : ℕ × Format
  known : format_with (from_le_bytes w16 payload) formats ≡ Some found
  long : found.1.layout.size ≤ length payload

payload_passes : (formats : List Format) (cpu place : ℕ) (part : EventPart) → payload_fault formats cpu place part ≡ None → PayloadPasses formats part.payload
payload_passes formats cpu place part none =
    let len : ℕ = length part.payload in
    let id : ℕ = from_le_bytes w16 part.payload in
    let behind : Option RecordingError = length_fault cpu place len (format_with id formats) in
    (elim (nat_lt len 2) as (λ b. nat_lt len 2 ≡ b → cond b (Some (fault.ShortPayload cpu place)) behind ≡ None → PayloadPasses formats part.payload) [
      | true ↦ λ f g. absurd cc
      | false ↦ λ f g.
          (elim (format_with id formats) as (λ o. format_with id formats ≡ o → length_fault cpu place len o ≡ None → PayloadPasses formats part.payload) [
            | None ↦ λ k m. absurd cc
            | Some found ↦ λ k m.
                (elim (nat_lt len found.1.layout.size) as (λ b. nat_lt len found.1.layout.size ≡ b → cond b (Some (fault.ShortPayload cpu place)) None ≡ None → PayloadPasses formats part.payload) [
                  | true ↦ λ p q. absurd cc
                  | false ↦ λ p q. record { two = ltb-false len 2 f; found = found; known = k; long = ltb-false len found.1.layout.size p }
                ]) refl m
          ]) refl g
    ]) refl none

pub faultless : (formats : List Format) (cpu place : ℕ) (e : Event) → AreFormats formats → IsEvent formats e → payload_fault formats cpu place (part_of_event e) ≡ None
faultless formats cpu place e pass is =
    let len : ℕ = length e.payload in
    let behind : Option RecordingError = length_fault cpu place len (format_with (from_le_bytes w16 e.payload) formats) in
    ap (λ b. cond b (Some (fault.ShortPayload cpu place)) behind) (le-ltb len 2 (two_bytes formats e is))
    ∙ ap (length_fault cpu place len) (event_known formats e pass is)
    ∙ ap (λ b. cond b (Some (fault.ShortPayload cpu place)) None) (le-ltb len is.format.layout.size is.long)

payload_front : (a b c d e f g p r : List ℕ) → (a ++ (b ++ (c ++ (d ++ (e ++ (f ++ (g ++ p))))))) ++ r ≡ (a ++ (b ++ (c ++ (d ++ (e ++ (f ++ g)))))) ++ (p ++ r)
payload_front a b c d e f g p r = simp append_assoc

payload_fits : (v : EventPart) (after : List ℕ) → IsBytes (event_bytes v ++ after) → IsBytes v.payload
payload_fits v after fits =
    let front : List ℕ = to_le_bytes w64 v.time ++ (to_le_bytes w32 v.pid ++ (to_le_bytes w32 v.tid ++ (to_le_bytes w32 v.uid ++ (to_le_bytes w32 v.gid ++ (v.comm ++ to_le_bytes w32 (length v.payload)))))) in
    let split : event_bytes v ++ after ≡ front ++ (v.payload ++ after) =
    payload_front (to_le_bytes w64 v.time) (to_le_bytes w32 v.pid) (to_le_bytes w32 v.tid) (to_le_bytes w32 v.uid) (to_le_bytes w32 v.gid) v.comm (to_le_bytes w32 (length v.payload)) v.payload after in
    prefix_fits v.payload after (suffix_fits front (v.payload ++ after) (event_bytes v ++ after) split fits)

id_begins : (payload : List ℕ) → IsBytes payload → 2 ≤ length payload → take 2 payload ≡ to_le_bytes w16 (from_le_bytes w16 payload)
id_begins payload fits two =
    let len : length (take 2 payload) ≡ 2 = omega (arith, length-take 2 payload) in
    sym (wide16.back (take 2 payload) len (IsBytes-take 2 payload fits)) ∙ ap (to_le_bytes w16) (from_le_bytes-front w16 wide16 payload two)

abbrev pub event_made : List Format → EventPart → Event
event_made formats part = event_of part (place_of formats part.payload)

pub event_fine : (formats : List Format) (cpu place : ℕ) (part : EventPart) (after : List ℕ) → IsEventPart part → IsBytes (event_bytes part ++ after) → payload_fault formats cpu place part ≡ None
    → IsEvent formats (event_made formats part)
event_fine formats cpu place part after whole fits none =
    let p = payload_passes formats cpu place part none in
    let there = found_there (from_le_bytes w16 part.payload) formats p.found p.known in
    let here : place_of formats part.payload ≡ p.found.0 = place_of-Some formats part.payload p.found.0 (ap (option_map (λ (found : ℕ × Format). found.0)) p.known) in
    record {
      whole = whole;
      format = p.found.1;
      placed = ap (slice_get formats) here ∙ there.0;
      begins = id_begins part.payload (payload_fits part after fits) p.two ∙ ap (to_le_bytes w16) (sym there.1);
      long = p.long;
    }

pub event_again : (formats : List Format) (e : Event) → AreFormats formats → IsEvent formats e → event_made formats (part_of_event e) ≡ e
event_again formats e pass is =
    ap (λ (i : ℕ). event_of (part_of_event e) i) (place_of-Some formats e.payload e.format (ap (option_map (λ (found : ℕ × Format). found.0)) (event_known formats e pass is)))
