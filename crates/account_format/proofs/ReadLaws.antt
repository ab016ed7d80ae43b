-- The parts of an account as they are read, and each place where reading stops.
use Rattle.std.proofs.Common.{◌≡◌, ◌≢◌, ℕ, ◌-◌, ◌<◌, ◌≤◌, ◌^◌, List, [], ◌++◌, length, w64, Some, None, sym, ap, subst, ◌∙◌, append-nil, length-append, arith}
use Rattle.std.specs.Prelude.{codes}
use Rattle.std.specs.Int.{to_le_bytes}
use Rattle.std.specs.List.{AllByRecursion}
use Rattle.bt_core.specs.declared.step.Step.{Step}
use Rattle.bt_core.specs.Ports.{Setting}
use Rattle.recordings.specs.Fronts.{number_at}
use Rattle.recordings.proofs.Fields.{IsBytes, wide64, number_takes}
use Rattle.account_format.specs.declared.error.AccountFault.{AccountFault}
use Rattle.account_format.specs.declared.error.AccountFault.TheVariants.{BadAccount}
use Rattle.account_format.specs.Answers.{IsFault}
use Rattle.account_format.specs.Entries.{IsEntry}
use Rattle.account_format.specs.Accounts.{entries_bytes, IsAccount}
use Rattle.account_format.specs.Reading.{magic_at, steps_at, behind}
use Rattle.account_format.specs.Wrong.{AtCount, AtEntries, AtText, IsWrongAccount}
use Rattle.account_format.proofs.AccountLaws.{magic_takes, IsLater, behind_magic, bad_count, behind_count, bad_entry, behind_entries, bad_size, behind_size, bad_text, left_over}
use Rattle.account_format.proofs.EntryLaws.{walked}

module _ (setting : Setting) (bytes : List ℕ) where
  -- the bytes end with the rest, and are wrong where it begins
  abbrev pub IsBadFrom : List ℕ → Type 0
  IsBadFrom rest = (length rest ≤ length bytes) × IsWrongAccount setting bytes (length bytes - length rest)

  -- behind the magic
  pub record Counted (counted : List ℕ) : Type 0 where
    pub later : IsLater setting AtCount bytes counted
    pub fits : IsBytes counted
    pub spelled : bytes ≡ codes "BACCT001" ++ counted

  pub is_counted : (counted : List ℕ) → IsBytes bytes → magic_at bytes ≡ Some counted → Counted counted
  is_counted counted fits e = let m = magic_takes bytes counted fits e in record { later = behind_magic setting bytes counted fits e; fits = m.1; spelled = m.0 }

  pub stops_at_count : (counted : List ℕ) → Counted counted → number_at w64 counted ≡ None → IsBadFrom counted
  stops_at_count counted h e = (h.later.within, bad_count setting bytes counted h.later e)

  -- behind the number of entries
  pub record Listed (count : ℕ) (listed : List ℕ) : Type 0 where
    pub later : IsLater setting (AtEntries count) bytes listed
    pub fits : IsBytes listed
    pub few : count < 2 ^ 64
    pub spelled : bytes ≡ codes "BACCT001" ++ (to_le_bytes w64 count ++ listed)

  pub is_listed : (counted listed : List ℕ) (count : ℕ) → Counted counted → number_at w64 counted ≡ Some (count, listed) → Listed count listed
  is_listed counted listed count h e =
      let n = number_takes w64 wide64 counted count listed h.fits e in
      record {
        later = behind_count setting bytes counted listed count h.fits h.later e;
        fits = n.0.rest_fits;
        few = n.1;
        spelled = h.spelled ∙ ap (λ (l : List ℕ). codes "BACCT001" ++ l) n.0.parts;
      }

  pub stops_at_entry : (count : ℕ) (listed sized : List ℕ) → Listed count listed → sized ≡ behind setting count listed → length (steps_at setting count listed) ≢ count → IsBadFrom sized
  stops_at_entry count listed sized h e ne =
      let w = walked setting count listed h.fits in
      let there : IsWrongAccount setting bytes (length bytes - length (behind setting count listed)) = bad_entry setting count bytes listed (behind setting count listed) (steps_at setting count listed) h.later w ne in
      let long : length (behind setting count listed) ≤ length bytes =
      omega (arith, h.later.within, ap (λ (l : List ℕ). length l) w.spelled, length-append (entries_bytes (steps_at setting count listed)) (behind setting count listed)) in
      (subst (λ (l : List ℕ). length l ≤ length bytes) (sym e) long, subst (λ (l : List ℕ). IsWrongAccount setting bytes (length bytes - length l)) (sym e) there)

  -- behind the entries
  pub record Sized (count : ℕ) (listed sized : List ℕ) : Type 0 where
    pub later : IsLater setting (AtEntries 0) bytes sized
    pub fits : IsBytes sized
    pub few : count < 2 ^ 64
    pub each : AllByRecursion (IsEntry setting) (steps_at setting count listed)
    pub counted : length (steps_at setting count listed) ≡ count
    pub spelled : bytes ≡ codes "BACCT001" ++ (to_le_bytes w64 count ++ (entries_bytes (steps_at setting count listed) ++ sized))

  pub is_sized : (count : ℕ) (listed sized : List ℕ) → Listed count listed → sized ≡ behind setting count listed → length (steps_at setting count listed) ≡ count → Sized count listed sized
  is_sized count listed sized h e same =
      let w = walked setting count listed h.fits in
      let made : Sized count listed (behind setting count listed) = record {
        later = behind_entries setting count bytes listed (behind setting count listed) (steps_at setting count listed) h.later w same;
        fits = w.rest_fits;
        few = h.few;
        each = w.each;
        counted = same;
        spelled = h.spelled ∙ ap (λ (l : List ℕ). codes "BACCT001" ++ (to_le_bytes w64 count ++ l)) w.spelled;
      } in
      subst (λ (l : List ℕ). Sized count listed l) (sym e) made

  pub stops_at_size : (count : ℕ) (listed sized : List ℕ) → Sized count listed sized → number_at w64 sized ≡ None → IsBadFrom sized
  stops_at_size count listed sized h e = (h.later.within, bad_size setting bytes sized h.later e)

  -- behind the text's length
  pub record Ended (count : ℕ) (listed : List ℕ) (size : ℕ) (rest : List ℕ) : Type 0 where
    pub later : IsLater setting (AtText size) bytes rest
    pub few : count < 2 ^ 64
    pub short : size < 2 ^ 64
    pub each : AllByRecursion (IsEntry setting) (steps_at setting count listed)
    pub counted : length (steps_at setting count listed) ≡ count
    pub spelled : bytes ≡ codes "BACCT001" ++ (to_le_bytes w64 count ++ (entries_bytes (steps_at setting count listed) ++ (to_le_bytes w64 size ++ rest)))

  pub is_ended : (count : ℕ) (listed sized rest : List ℕ) (size : ℕ) → Sized count listed sized → number_at w64 sized ≡ Some (size, rest) → Ended count listed size rest
  is_ended count listed sized rest size h e =
      let n = number_takes w64 wide64 sized size rest h.fits e in
      record {
        later = behind_size setting bytes sized rest size h.fits h.later e;
        few = h.few;
        short = n.1;
        each = h.each;
        counted = h.counted;
        spelled = h.spelled ∙ ap (λ (l : List ℕ). codes "BACCT001" ++ (to_le_bytes w64 count ++ (entries_bytes (steps_at setting count listed) ++ l))) n.0.parts;
      }

  pub stops_at_text : (count : ℕ) (listed : List ℕ) (size : ℕ) (rest : List ℕ) → Ended count listed size rest → length rest < size → IsBadFrom rest
  stops_at_text count listed size rest h short = (h.later.within, bad_text setting size bytes rest h.later short)

  pub stops_behind : (count : ℕ) (listed : List ℕ) (size : ℕ) (rest text after : List ℕ) → Ended count listed size rest → length text ≡ size → rest ≡ text ++ after → after ≢ [] → IsBadFrom after
  stops_behind count listed size rest text after h same e some =
      let there : IsLater setting (AtText (length text)) bytes rest = subst (λ (n : ℕ). IsLater setting (AtText n) bytes rest) (sym same) h.later in
      let long : length after ≤ length bytes = omega (arith, h.later.within, ap (λ (l : List ℕ). length l) e, length-append text after) in
      (long, left_over setting bytes rest text after there e some)

  pub is_read : (count : ℕ) (listed : List ℕ) (size : ℕ) (rest text after : List ℕ) → Ended count listed size rest → length text ≡ size → rest ≡ text ++ after → after ≡ [] → IsAccount setting bytes (steps_at setting count listed) text
  is_read count listed size rest text after h same e none =
      let steps : List Step = steps_at setting count listed in
      let all : rest ≡ text = e ∙ ap (λ (l : List ℕ). text ++ l) none ∙ append-nil text in
      record {
        each = h.each;
        few = subst (λ (n : ℕ). n < 2 ^ 64) (sym h.counted) h.few;
        short = subst (λ (n : ℕ). n < 2 ^ 64) (sym same) h.short;
        spelled = h.spelled ∙ (λ i. codes "BACCT001" ++ (to_le_bytes w64 (sym h.counted i) ++ (entries_bytes steps ++ (to_le_bytes w64 (sym same i) ++ all i))));
      }

  -- ---- all that was read so far

  pub as_listed : (counted listed : List ℕ) (count : ℕ) → IsBytes bytes → magic_at bytes ≡ Some counted → number_at w64 counted ≡ Some (count, listed) → Listed count listed
  as_listed counted listed count fits magic number = is_listed counted listed count (is_counted counted fits magic) number

  pub as_sized : (counted listed sized : List ℕ) (count : ℕ) → IsBytes bytes → magic_at bytes ≡ Some counted → number_at w64 counted ≡ Some (count, listed)
      → sized ≡ behind setting count listed → length (steps_at setting count listed) ≡ count → Sized count listed sized
  as_sized counted listed sized count fits magic number passed all = is_sized count listed sized (as_listed counted listed count fits magic number) passed all

  pub as_ended : (counted listed sized rest : List ℕ) (count size : ℕ) → IsBytes bytes → magic_at bytes ≡ Some counted → number_at w64 counted ≡ Some (count, listed)
      → sized ≡ behind setting count listed → length (steps_at setting count listed) ≡ count → number_at w64 sized ≡ Some (size, rest) → Ended count listed size rest
  as_ended counted listed sized rest count size fits magic number passed all last = is_ended count listed sized rest size (as_sized counted listed sized count fits magic number passed all) last

  -- the fault that is told there
  pub told_from : (rest : List ℕ) (told : AccountFault) → told ≡ BadAccount (length bytes - length rest) → IsBadFrom rest → IsFault setting bytes told
  told_from rest told e bad = subst (λ (f : AccountFault). IsFault setting bytes f) (sym e) bad.1
