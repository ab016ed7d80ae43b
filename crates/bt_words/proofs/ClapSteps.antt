-- Steps of clap's walk over the words of a command without subcommands.
use Rattle.std.proofs.Common.{◌≡◌, ◌∙◌, ◌==◌, ◌&&◌, ◌||◌, ◌+◌, ℕ, Bool, cond, true, false, not, List, [], ◌∷◌, Some, None, min, is_some, ap, refl, sym, true≢false}
use Rattle.std.specs.List.{list_all}
use Rattle.std.specs.Option.{option_map_or}
use Rattle.std.specs.Str.{bytes_eq}
use Rattle.clap.specs.Lexer.{long_of, short_of, usize_max}
use Rattle.clap.specs.Simple.{Shape, entered}
use Rattle.clap.specs.Takes.{built_takes, bundle_passes, default_passes, entered_passes, flag_word_passes, is_valid, positional_passes, settle_passes, step_passes, turn_passes, walk_passes, word_passes}
use Rattle.clap.specs.Walk.{Held, Rule, Step, Text, Walk, arg_by_index, finished, idle, is_multiple, is_pending, long_or_other, positional_held, pushed, settled, short_or_plain, nothing_held, takes_several, trailing, value, walk, walk_from, walked, word_met}
use Rattle.clap.proofs.WalkLemmas.{positional_is, walked_is}
use Rattle.bt_words.specs.Words.{is_operand}

-- the walk between two words, at a position
abbrev pub at : Held → ℕ → Walk
at h position = record { held = h; waiting = idle; position = position; is_trailing = false; stopped = None }

pub not_true : (b : Bool) → not b ≡ true → b ≡ false
not_true true h = absurd (true≢false (sym h))
not_true false h = refl

-- ---- an operand is no flag

not_trailing : (word : Text) → is_operand word ≡ true → bytes_eq word (45 ∷ 45 ∷ []) ≡ false
not_trailing [] h = refl
not_trailing (x ∷ xs) h = rw (not_true (x == 45) h) refl

not_long : (word : Text) → is_operand word ≡ true → long_of word ≡ None
not_long [] h = refl
not_long (x ∷ xs) h = rw (not_true (x == 45) h) refl

not_short : (word : Text) → is_operand word ≡ true → short_of word ≡ None
not_short [] h = refl
not_short (x ∷ xs) h = rw (not_true (x == 45) h) refl

and_false : (a b : Bool) → b ≡ false → (a && b) ≡ false
and_false true b h = h
and_false false b h = refl

or_right : (a b : Bool) → b ≡ true → (a || b) ≡ true
or_right true b h = refl
or_right false b h = h

-- what is held after an operand: it waits for its use
abbrev pub operand_held : List Rule → Rule → Text → Held → Held
operand_held c a word h = record (settled c h) { pending = Some (a.id, word ∷ []) }

-- a positional that takes one value
pub record IsOne (a : Rule) : Type 0 where
  pub multiple : is_multiple a ≡ false
  pub several : takes_several a ≡ false
  pub trailing : a.trailing_var_arg ≡ false

module _ (s : Shape) (h : Held) (position : ℕ) (word : Text) (operand : is_operand word ≡ true) where
  met : word_met s.rules [] false idle position word h ≡ (h, value)
  met =
      ap (λ (b : Bool). cond b (h, trailing position) (long_or_other s.rules idle word (long_of word) h)) (not_trailing word operand)
      ∙ ap (λ o. long_or_other s.rules idle word o h) (not_long word operand) ∙ ap (λ o. short_or_plain s.rules idle word o h) (not_short word operand)

  pub walked_operand : (a : Rule) → arg_by_index s.rules position ≡ Some a → IsOne a
      → walked s.rules [] (at h position) word ≡ at (operand_held s.rules a word h) (min (position + 1) usize_max)
  walked_operand a found one =
      let held : operand_held s.rules a word h ≡ positional_held s.rules a word h =
      sym (ap (λ (b : Bool). pushed a.id word (cond b h (settled s.rules h))) (and_false (is_pending a h.pending) (takes_several a) one.several)) in
      sym (walked_is s.rules [] (at h position) word h value (sym met))
      ∙ sym (positional_is s.rules (at h position) word h (operand_held s.rules a word h) a idle (min (position + 1) usize_max) false (sym found) held
      (rw one.multiple refl) (rw one.multiple refl) (sym one.trailing))

  word_is_no_flag : word_passes s [] false idle word h ≡ true
  word_is_no_flag =
      or_right (bytes_eq word (45 ∷ 45 ∷ [])) _ (ap (λ o. flag_word_passes s.rules s.args_override_self o word h) (not_long word operand)
      ∙ ap (λ o. option_map_or (λ flags. bundle_passes s.rules s.args_override_self flags h) o true) (not_short word operand))

  pub operand_passes : (a : Rule) → arg_by_index s.rules position ≡ Some a → settle_passes s.rules s.args_override_self h ≡ true
      → turn_passes s [] (at h position) word ≡ true
  operand_passes a found passes =
      ap (λ (b : Bool). b && step_passes s position (word_met s.rules [] false idle position word h).0 (word_met s.rules [] false idle position word h).1) word_is_no_flag
      ∙ ap (λ (m : Held × Step). step_passes s position m.0 m.1) met
      ∙ ap (λ o. option_map_or (λ (x : Rule). positional_passes s.rules s.args_override_self x h) o false) found
      ∙ or_right (is_pending a h.pending && takes_several a) _ passes

-- a command without subcommands takes words, by where its walk over them ends
pub takes_by : (s : Shape) (words : List Text) (h : Held) (position : ℕ) → walk s.rules [] nothing_held words ≡ at h position
    → walk_passes s [] (walk_from nothing_held) words ≡ true → settle_passes s.rules s.args_override_self h ≡ true → list_all default_passes s.rules ≡ true
    → is_valid s (finished s.rules h) false ≡ true → built_takes (record { top = s; subs = [] }) nothing_held words ≡ true
takes_by s words h position end passes settles defaults valid =
    ap (λ (w : Walk). entered_passes (record { top = s; subs = [] }) w.stopped
    && (walk_passes s [] (walk_from nothing_held) words && (settle_passes s.rules s.args_override_self w.held
    && (list_all default_passes s.rules && is_valid s (finished s.rules w.held) (is_some (entered (record { top = s; subs = [] }) w.stopped)))))) end
    ∙ rw (passes, settles, defaults) valid
