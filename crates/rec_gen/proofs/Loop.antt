-- One event more.
use Rattle.std.proofs.Common.{◌≡◌, ◌≢◌, ℕ, suc, ◌+◌, ◌*◌, ◌%◌, ◌/◌, Bool, [], ◌∷◌, ◌++◌, ap, sym, ◌∙◌, arith}
use Rattle.std.specs.Prelude.{cond}
use Rattle.std.proofs.lemmas.Bool.{eq-eqb, ne_eqb}
use Rattle.std.proofs.lemmas.List.{append-nil}
use Rattle.recordings.specs.declared.recording.Event.{Event}
use Rattle.rec_gen.specs.Draws.{next_state, state_after}
use Rattle.rec_gen.specs.Made.{name_of, payload_of, made_event, events_on}

next : (n : ℕ) → n + 1 ≡ suc n
next n = omega arith

pub more : (seed cpu n : ℕ) → n % 4 ≡ cpu → events_on seed cpu (n + 1) ≡ events_on seed cpu n ++ made_event seed n ∷ []
more seed cpu n e =
    ap (events_on seed cpu) (next n) ∙ ap (λ (b : Bool). events_on seed cpu n ++ cond b (made_event seed n ∷ []) []) (eq-eqb (n % 4) cpu e)

pub no_more : (seed cpu n : ℕ) → n % 4 ≢ cpu → events_on seed cpu (n + 1) ≡ events_on seed cpu n
no_more seed cpu n e =
    ap (events_on seed cpu) (next n) ∙ ap (λ (b : Bool). events_on seed cpu n ++ cond b (made_event seed n ∷ []) []) (ne_eqb (n % 4) cpu e)
    ∙ append-nil (events_on seed cpu n)

-- the states after the draws of an event
pub one_on : (seed place : ℕ) → state_after seed (3 * place + 1) ≡ next_state (state_after seed (3 * place))
one_on seed place = ap (state_after seed) (next (3 * place))

pub two_on : (seed place : ℕ) → state_after seed (3 * place + 2) ≡ next_state (next_state (state_after seed (3 * place)))
two_on seed place = ap (state_after seed) (let e : 3 * place + 2 ≡ suc (suc (3 * place)) = omega arith in e)

pub three_on : (seed place : ℕ) → state_after seed (3 * (place + 1)) ≡ next_state (next_state (next_state (state_after seed (3 * place))))
three_on seed place = ap (state_after seed) (let e : 3 * (place + 1) ≡ suc (suc (suc (3 * place))) = omega arith in e)

-- the event of what was drawn
abbrev pub event_for : ℕ → ℕ → ℕ → ℕ → Event
event_for place name thread id = record {
  time = 1000 * (place + 1);
  pid = 1000 + thread % 8;
  tid = 1000 + thread % 8;
  uid = 0;
  gid = 0;
  comm = name_of (name % 4);
  format = 0;
  payload = payload_of (1000 + thread % 8) (id % 400);
}

pub drawn_event : (seed place s name thread id : ℕ) → s ≡ state_after seed (3 * place) → name ≡ next_state s / 65536 → thread ≡ next_state (next_state s) / 65536
    → id ≡ next_state (next_state (next_state s)) / 65536 → event_for place name thread id ≡ made_event seed place
drawn_event seed place s name thread id e n t k =
    let names = n ∙ ap (λ (x : ℕ). next_state x / 65536) e in
    let threads = t ∙ ap (λ (x : ℕ). next_state x / 65536) (ap next_state e ∙ sym (one_on seed place)) in
    let ids = k ∙ ap (λ (x : ℕ). next_state x / 65536) (ap (λ (x : ℕ). next_state (next_state x)) e ∙ sym (two_on seed place)) in λ i. event_for place (names i) (threads i) (ids i)
