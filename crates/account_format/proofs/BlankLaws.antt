-- An account tells of a list what it tells of the list without replies and items.
use Rattle.std.proofs.Common.{◌≡◌, ℕ, ◌<◌, ◌^◌, List, [], ◌∷◌, ◌++◌, length, map, w64, w32, refl, sym, ap, subst, ◌∙◌}
use Rattle.std.specs.Int.{to_le_bytes}
use Rattle.std.specs.Prelude.{codes}
use Rattle.std.specs.List.{AllByRecursion}
use Rattle.std.proofs.lemmas.List.{length-map}
use Rattle.bt_core.specs.declared.item.Item.{Item}
use Rattle.bt_core.specs.declared.item.Item.TheVariants.{Cut}
use Rattle.bt_core.specs.declared.step.ObjectId.{ObjectId}
use Rattle.bt_core.specs.declared.step.ObjectId.TheVariants.{Shared, Cpu, Clock, Out}
use Rattle.bt_core.specs.declared.step.Op.{Op}
use Rattle.bt_core.specs.declared.step.Op.TheVariants.{Emit}
use Rattle.bt_core.specs.declared.step.Reply.TheVariants.{Done}
use Rattle.bt_core.specs.declared.step.Step.{Step}
use Rattle.bt_core.specs.Ports.{Setting, CanStep}
use Rattle.step_entries.specs.Blank.{blank, blank_op}
use Rattle.account_format.specs.Entries.{call_bytes, IsAtHome, FitsOp, IsTold, IsEntry}
use Rattle.account_format.specs.Accounts.{entries_bytes, account_bytes, IsAccount}
use Rattle.account_format.proofs.AccountLaws.{one_account}

-- what holds of an operation holds of it without its item, where it does so of what is emitted
on_blank : (P : Op → Type 0) → ((item : Item) → P (Emit item) → P (Emit (Cut 0))) → (op : Op) → P op → P (blank_op op)
on_blank P emits (Emit item) h = emits item h
on_blank P emits op h = h

blank_twice : (op : Op) → blank_op (blank_op op) ≡ blank_op op
blank_twice (Emit item) = refl
blank_twice op = refl

emit_own : (setting : Setting) (object : ObjectId) (item : Item) → CanStep setting object (Emit item) → CanStep setting object (Emit (Cut 0))
emit_own setting (Shared m part) item h = h
emit_own setting (Cpu table) item h = h
emit_own setting Clock item h = h
emit_own setting Out item h = h

emit_home : (actor : ℕ) (object : ObjectId) (item : Item) → IsAtHome actor object (Emit item) → IsAtHome actor object (Emit (Cut 0))
emit_home actor (Shared m part) item h = h
emit_home actor (Cpu table) item h = h
emit_home actor Clock item h = h
emit_home actor Out item h = h

emit_bytes : (object : ObjectId) (item : Item) → call_bytes object (Emit (Cut 0)) ≡ call_bytes object (Emit item)
emit_bytes (Shared m part) item = refl
emit_bytes (Cpu table) item = refl
emit_bytes Clock item = refl
emit_bytes Out item = refl

blank_bytes : (object : ObjectId) (op : Op) → call_bytes object (blank_op op) ≡ call_bytes object op
blank_bytes object (Emit item) = emit_bytes object item
blank_bytes object op = refl

blank_entry : (setting : Setting) (s : Step) → IsTold setting s → IsEntry setting (blank s)
blank_entry setting s h = record {
  told = record {
    fits = record { actor = h.fits.actor; stamp = h.fits.stamp; object = h.fits.object; op = on_blank FitsOp (λ item g. g) s.op h.fits.op };
    actor = h.actor;
    own = on_blank (λ op. CanStep setting s.object op) (λ item g. emit_own setting s.object item g) s.op h.own;
    home = on_blank (λ op. IsAtHome s.actor s.object op) (λ item g. emit_home s.actor s.object item g) s.op h.home;
  };
  is_blank = ap (λ (op : Op). record { actor = s.actor; object = s.object; stamp = s.stamp; op = op; reply = Done }) (blank_twice s.op);
}

blank_entries : (setting : Setting) (steps : List Step) → AllByRecursion (IsTold setting) steps → AllByRecursion (IsEntry setting) (map blank steps)
blank_entries setting [] h = tt
blank_entries setting (s ∷ ss) h = (blank_entry setting s h.0, blank_entries setting ss h.1)

blank_spelled : (steps : List Step) → entries_bytes (map blank steps) ≡ entries_bytes steps
blank_spelled [] = refl
blank_spelled (s ∷ ss) = λ i. (to_le_bytes w32 s.actor ++ (to_le_bytes w64 s.stamp ++ blank_bytes s.object s.op i)) ++ blank_spelled ss i

-- the account of a list is the account of the list without replies and items
pub account_of : (setting : Setting) (bytes : List ℕ) (steps : List Step) (text : List ℕ) → AllByRecursion (IsTold setting) steps → length steps < 2 ^ 64 → length text < 2 ^ 64 → bytes ≡ account_bytes steps text
    → IsAccount setting bytes (map blank steps) text
account_of setting bytes steps text each few short e =
    let same : length (map blank steps) ≡ length steps = length-map steps blank in
    record {
      each = blank_entries setting steps each;
      few = subst (λ (n : ℕ). n < 2 ^ 64) (sym same) few;
      short = short;
      spelled = e ∙ (λ i. codes "BACCT001" ++ (to_le_bytes w64 (sym same i) ++ (sym (blank_spelled steps) i ++ (to_le_bytes w64 (length text) ++ text))));
    }

pub lists_told : (setting : Setting) (steps others : List Step) (text other : List ℕ) → AllByRecursion (IsTold setting) steps → AllByRecursion (IsTold setting) others
    → length steps < 2 ^ 64 → length others < 2 ^ 64 → length text < 2 ^ 64 → length other < 2 ^ 64 → account_bytes steps text ≡ account_bytes others other
    → (map blank steps ≡ map blank others) × (text ≡ other)
lists_told setting steps others text other each each2 few few2 short short2 e =
    one_account setting (account_bytes steps text) (map blank steps) (map blank others) text other
    (account_of setting (account_bytes steps text) steps text each few short refl) (account_of setting (account_bytes steps text) others other each2 few2 short2 e)
