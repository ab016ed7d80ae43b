-- An entry that is read is the one that was written, and what was written is read again; and so are entries one after the other.
use Rattle.std.proofs.Common.{◌≡◌, ◌≢◌, ℕ, zero, suc, ◌+◌, ◌-◌, ◌<◌, ◌^◌, Bool, List, [], ◌∷◌, ◌++◌, length, drop, w64, w32, Option, Some, None, ◌⊎◌, inl, inr, refl, sym, ap, subst, ◌∙◌, append_assoc, arith}
use Rattle.std.specs.Prelude.{nat_lt, slice_get}
use Rattle.std.proofs.Math.Seq.{drop-nil}
use Rattle.std.specs.Int.{to_le_bytes}
use Rattle.std.specs.List.{AllByRecursion}
use Rattle.std.proofs.lemmas.Bool.{ltb-true, lt-ltb}
use Rattle.std.proofs.lemmas.Option.{same_Some}
use Rattle.bt_core.specs.declared.step.ObjectId.{ObjectId}
use Rattle.bt_core.specs.declared.step.Op.{Op}
use Rattle.bt_core.specs.declared.step.Reply.{Reply}
use Rattle.bt_core.specs.declared.step.Reply.TheVariants.{Done}
use Rattle.bt_core.specs.declared.step.Step.{Step}
use Rattle.bt_core.specs.Ports.{Setting}
use Rattle.recordings.specs.Fronts.{where_true, number_at}
use Rattle.recordings.proofs.Fields.{IsBytes, bind_some, where_true_some, Takes, wide32, wide64, number_takes, number_again}
use Rattle.recordings.proofs.PartLaws.{bind_to}
use Rattle.account_format.specs.declared.kind.Kind.{Kind}
use Rattle.account_format.specs.Entries.{call_bytes, entry_bytes, FitsStep, IsTold, IsEntry}
use Rattle.account_format.specs.Accounts.{entries_bytes}
use Rattle.account_format.specs.Reading.{kind_at, head_at, call_of_kind, unanswered, entry_at, with_first, behind_first, steps_at, behind}
use Rattle.account_format.proofs.KindLaws.{kind_byte, kind_takes}
use Rattle.account_format.proofs.CallLaws.{call_takes, call_again}

regroup : (a b c d : List ℕ) → (a ++ (b ++ c)) ++ d ≡ a ++ (b ++ (c ++ d))
regroup a b c d = simp append_assoc

-- ---- heads

record HeadTook (actors : ℕ) (bytes : List ℕ) (actor stamp : ℕ) (kind : Kind) (rest : List ℕ) : Type 0 where
  pub parts : bytes ≡ to_le_bytes w32 actor ++ (to_le_bytes w64 stamp ++ (kind_byte kind ∷ rest))
  pub rest_fits : IsBytes rest
  pub below : actor < actors
  pub few : actor < 2 ^ 32
  pub stamped : stamp < 2 ^ 64

head_takes : (actors : ℕ) (bytes : List ℕ) (actor stamp : ℕ) (kind : Kind) (rest : List ℕ) → IsBytes bytes → head_at actors bytes ≡ Some ((actor, (stamp, kind)), rest) → HeadTook actors bytes actor stamp kind rest
unfolding head_at
head_takes actors bytes actor stamp kind rest fits e =
    let a = bind_some (number_at w32 bytes) _ ((actor, (stamp, kind)), rest) e in
    let b = bind_some (number_at w64 a.0.1) _ ((actor, (stamp, kind)), rest) a.2 in
    let c = bind_some (kind_at b.0.1) _ ((actor, (stamp, kind)), rest) b.2 in
    let d = where_true_some (nat_lt a.0.0 actors) ((a.0.0, (b.0.0, c.0.0)), c.0.1) ((actor, (stamp, kind)), rest) c.2 in
    let n = number_takes w32 wide32 bytes a.0.0 a.0.1 fits a.1 in
    let s = number_takes w64 wide64 a.0.1 b.0.0 b.0.1 n.0.rest_fits b.1 in
    let k = kind_takes b.0.1 c.0.0 c.0.1 s.0.rest_fits c.1 in
    let made : HeadTook actors bytes a.0.0 b.0.0 c.0.0 c.0.1 = record {
      parts = n.0.parts ∙ ap (λ (l : List ℕ). to_le_bytes w32 a.0.0 ++ l) (s.0.parts ∙ ap (λ (l : List ℕ). to_le_bytes w64 b.0.0 ++ l) k.0);
      rest_fits = k.1;
      below = ltb-true a.0.0 actors d.0;
      few = n.1;
      stamped = s.1;
    } in
    subst (λ (p : (ℕ × (ℕ × Kind)) × List ℕ). HeadTook actors bytes p.0.0 p.0.1.0 p.0.1.1 p.1) d.1 made

head_again : (actors actor stamp : ℕ) (kind : Kind) (tail rest : List ℕ) → actor < actors → actor < 2 ^ 32 → stamp < 2 ^ 64 → kind_at tail ≡ Some (kind, rest)
    → head_at actors (to_le_bytes w32 actor ++ (to_le_bytes w64 stamp ++ tail)) ≡ Some ((actor, (stamp, kind)), rest)
unfolding head_at
head_again actors actor stamp kind tail rest below few stamped e =
    bind_to (number_at w32 (to_le_bytes w32 actor ++ (to_le_bytes w64 stamp ++ tail))) _ (actor, to_le_bytes w64 stamp ++ tail) _ (number_again w32 wide32 actor (to_le_bytes w64 stamp ++ tail) few)
    (bind_to (number_at w64 (to_le_bytes w64 stamp ++ tail)) _ (stamp, tail) _ (number_again w64 wide64 stamp tail stamped)
    (bind_to (kind_at tail) _ (kind, rest) _ e
    (ap (λ (b : Bool). where_true b ((actor, (stamp, kind)), rest)) (lt-ltb actor actors below))))

module _ (setting : Setting) where
  -- ---- entries

  pub entry_takes : (bytes : List ℕ) (s : Step) (rest : List ℕ) → IsBytes bytes → entry_at setting bytes ≡ Some (s, rest) → Takes bytes (entry_bytes s) rest × IsEntry setting s
  unfolding entry_at
  entry_takes bytes s rest fits e =
      let a = bind_some (head_at setting.actors bytes) _ (s, rest) e in
      let actor : ℕ = a.0.0.0 in let stamp : ℕ = a.0.0.1.0 in let kind : Kind = a.0.0.1.1 in
      let b = bind_some (call_of_kind setting actor kind a.0.1) _ (s, rest) a.2 in
      let object : ObjectId = b.0.0.0 in let op : Op = b.0.0.1 in
      let h = head_takes setting.actors bytes actor stamp kind a.0.1 fits a.1 in
      let c = call_takes setting actor kind a.0.1 object op b.0.1 h.below h.few h.rest_fits b.1 in
      let made : Step = unanswered actor stamp object op in
      let laid = regroup (to_le_bytes w32 actor) (to_le_bytes w64 stamp) (call_bytes object op) b.0.1 in
      let took : Takes bytes (entry_bytes made) b.0.1 = record {
        parts = h.parts ∙ ap (λ (l : List ℕ). to_le_bytes w32 actor ++ (to_le_bytes w64 stamp ++ l)) c.parts ∙ sym laid;
        rest_fits = c.rest_fits;
      } in
      let fits_step : FitsStep made = record { actor = h.few; stamp = h.stamped; object = c.object_fits; op = c.op_fits } in
      let told : IsTold setting made = record { fits = fits_step; actor = h.below; own = c.own; home = c.home } in
      let is : IsEntry setting made = record { told = told; is_blank = ap (λ (o : Op). unanswered actor stamp object o) c.is_blank } in
      subst (λ (p : Step × List ℕ). Takes bytes (entry_bytes p.0) p.1 × IsEntry setting p.0) (same_Some (made, b.0.1) (s, rest) b.2) (took, is)

  pub entry_again : (s : Step) (rest : List ℕ) → IsEntry setting s → entry_at setting (entry_bytes s ++ rest) ≡ Some (s, rest)
  unfolding entry_at
  entry_again s rest is =
      let t = is.told in
      let c = call_again setting s.actor s.object s.op rest t.own t.home t.fits.object t.fits.op (ap (λ (x : Step). x.op) is.is_blank) in
      let tail : List ℕ = call_bytes s.object s.op ++ rest in
      let laid = regroup (to_le_bytes w32 s.actor) (to_le_bytes w64 s.stamp) (call_bytes s.object s.op) rest in
      let done : Done ≡ s.reply = ap (λ (x : Step). x.reply) is.is_blank in
      let made : (unanswered s.actor s.stamp s.object s.op) ≡ s = ap (λ (r : Reply). record { actor = s.actor; object = s.object; stamp = s.stamp; op = s.op; reply = r }) done in
      ap (entry_at setting) laid
      ∙ bind_to (head_at setting.actors (to_le_bytes w32 s.actor ++ (to_le_bytes w64 s.stamp ++ tail))) _ ((s.actor, (s.stamp, c.kind)), c.bytes) _
      (head_again setting.actors s.actor s.stamp c.kind tail c.bytes t.actor t.fits.actor t.fits.stamp c.kind_is)
      (bind_to (call_of_kind setting s.actor c.kind c.bytes) _ ((s.object, s.op), rest) _ c.call_is (ap (λ (x : Step). Some (x, rest)) made))

  -- ---- entries one after the other

  -- the bytes are these steps' entries, and then the rest; and there are so many entries, or the next one is wrong
  pub record Walked (n : ℕ) (bytes : List ℕ) (steps : List Step) (rest : List ℕ) : Type 0 where
    pub spelled : bytes ≡ entries_bytes steps ++ rest
    pub each : AllByRecursion (IsEntry setting) steps
    pub rest_fits : IsBytes rest
    pub whole_or_not : (length steps ≡ n) ⊎ ((length steps < n) × (entry_at setting rest ≡ None))

  walked_first : (n : ℕ) (bytes : List ℕ) → IsBytes bytes → ((later : List ℕ) → IsBytes later → Walked n later (steps_at setting n later) (behind setting n later))
      → (found : Option (Step × List ℕ)) → entry_at setting bytes ≡ found → Walked (suc n) bytes (with_first found (steps_at setting n)) (behind_first bytes found (behind setting n))
  walked_first n bytes fits more None e = record { spelled = refl; each = tt; rest_fits = fits; whole_or_not = inr (omega arith, e) }
  walked_first n bytes fits more (Some found) e =
      let first = entry_takes bytes found.0 found.1 fits e in
      let w = more found.1 first.0.rest_fits in
      record {
        spelled = first.0.parts ∙ ap (λ (l : List ℕ). entry_bytes found.0 ++ l) w.spelled ∙ sym (append_assoc (entry_bytes found.0) (entries_bytes (steps_at setting n found.1)) (behind setting n found.1));
        each = (first.1, w.each);
        rest_fits = w.rest_fits;
        whole_or_not = elim w.whole_or_not [ inl h ↦ inl (ap (λ (k : ℕ). suc k) h) | inr h ↦ inr (omega (arith, h.0), h.1) ];
      }

  pub walked : (n : ℕ) (bytes : List ℕ) → IsBytes bytes → Walked n bytes (steps_at setting n bytes) (behind setting n bytes)
  unfolding steps_at behind
  walked zero bytes fits = record { spelled = refl; each = tt; rest_fits = fits; whole_or_not = inl refl }
  walked (suc n) bytes fits = walked_first n bytes fits (λ later h. walked n later h) (entry_at setting bytes) refl

  -- ---- for the loop over entries

  pub behind_next : (n : ℕ) (bytes : List ℕ) (s : Step) (rest : List ℕ) → entry_at setting bytes ≡ Some (s, rest)
      → (behind setting (suc n) bytes ≡ behind setting n rest) × (steps_at setting (suc n) bytes ≡ s ∷ steps_at setting n rest)
  unfolding steps_at behind
  behind_next n bytes s rest e =
      (ap (λ (r : Option (Step × List ℕ)). behind_first bytes r (behind setting n)) e, ap (λ (r : Option (Step × List ℕ)). with_first r (steps_at setting n)) e)

  pub behind_none : (n : ℕ) (bytes : List ℕ) → entry_at setting bytes ≡ None → (behind setting (suc n) bytes ≡ bytes) × (steps_at setting (suc n) bytes ≡ [])
  unfolding steps_at behind
  behind_none n bytes e =
      (ap (λ (r : Option (Step × List ℕ)). behind_first bytes r (behind setting n)) e, ap (λ (r : Option (Step × List ℕ)). with_first r (steps_at setting n)) e)

  pub behind_zero : (bytes : List ℕ) → (behind setting 0 bytes ≡ bytes) × (steps_at setting 0 bytes ≡ [])
  unfolding steps_at behind
  behind_zero bytes = (refl, refl)

  -- so many of the entries were passed, and then come these bytes
  pub record Passed (count place : ℕ) (bytes rest : List ℕ) : Type 0 where
    pub behind_is : behind setting count bytes ≡ behind setting (count - place) rest
    pub passed : length (steps_at setting count bytes) ≡ place + length (steps_at setting (count - place) rest)

  pub passed_first : (count : ℕ) (bytes : List ℕ) → Passed count 0 bytes bytes
  passed_first count bytes =
      let all : count ≡ count - 0 = omega arith in
      let steps : length (steps_at setting count bytes) ≡ length (steps_at setting (count - 0) bytes) = ap (λ (n : ℕ). length (steps_at setting n bytes)) all in
      record { behind_is = ap (λ (n : ℕ). behind setting n bytes) all; passed = omega (arith, steps) }

  pub passed_more : (count place : ℕ) (bytes rest after : List ℕ) (s : Step) → place < count → Passed count place bytes rest → entry_at setting rest ≡ Some (s, after) → Passed count (place + 1) bytes after
  passed_more count place bytes rest after s lt h e =
      let m : ℕ = count - (place + 1) in
      let left : count - place ≡ suc m = omega arith in
      let next = behind_next m rest s after e in
      let steps : length (steps_at setting (count - place) rest) ≡ suc (length (steps_at setting m after)) = ap (λ (n : ℕ). length (steps_at setting n rest)) left ∙ ap (λ (l : List Step). length l) next.1 in
      record { behind_is = h.behind_is ∙ ap (λ (n : ℕ). behind setting n rest) left ∙ next.0; passed = omega (arith, h.passed, steps) }

  pub passed_stop : (count place : ℕ) (bytes rest : List ℕ) → place < count → Passed count place bytes rest → entry_at setting rest ≡ None → (rest ≡ behind setting count bytes) × (length (steps_at setting count bytes) ≢ count)
  passed_stop count place bytes rest lt h e =
      let m : ℕ = count - (place + 1) in
      let left : count - place ≡ suc m = omega arith in
      let next = behind_none m rest e in
      let steps : length (steps_at setting (count - place) rest) ≡ 0 = ap (λ (n : ℕ). length (steps_at setting n rest)) left ∙ ap (λ (l : List Step). length l) next.1 in
      (sym (h.behind_is ∙ ap (λ (n : ℕ). behind setting n rest) left ∙ next.0), λ same. omega (arith, h.passed, steps, same))

  pub passed_all : (count place : ℕ) (bytes rest : List ℕ) → place ≡ count → Passed count place bytes rest → (rest ≡ behind setting count bytes) × (length (steps_at setting count bytes) ≡ count)
  passed_all count place bytes rest same h =
      let left : count - place ≡ 0 = omega arith in
      let last = behind_zero rest in
      let steps : length (steps_at setting (count - place) rest) ≡ 0 = ap (λ (n : ℕ). length (steps_at setting n rest)) left ∙ ap (λ (l : List Step). length l) last.1 in
      (sym (h.behind_is ∙ ap (λ (n : ℕ). behind setting n rest) left ∙ last.0), omega (arith, h.passed, steps, same))

  -- ---- for one entry after the other

  pub none_next : (left : ℕ) (bytes : List ℕ) (now : List Step) → steps_at setting left bytes ≡ now → (left ≡ 0) ⊎ (entry_at setting bytes ≡ None) → (None ≡ slice_get now 0) × (now ≡ drop 1 now)
  none_next left bytes now is stop = let none : now ≡ [] = sym is ∙ nothing left stop in (ap (λ (l : List Step). slice_get l 0) (sym none), none ∙ sym (ap (λ (l : List Step). drop 1 l) none ∙ drop-nil 1))
    where
      nothing : (n : ℕ) → (n ≡ 0) ⊎ (entry_at setting bytes ≡ None) → steps_at setting n bytes ≡ []
      nothing zero h = (behind_zero bytes).1
      nothing (suc n) (inl h) = absurd (omega (arith, h))
      nothing (suc n) (inr h) = (behind_none n bytes h).1

  pub one_next : (left : ℕ) (bytes rest : List ℕ) (s : Step) (now : List Step) → steps_at setting left bytes ≡ now → left ≢ 0 → entry_at setting bytes ≡ Some (s, rest)
      → (Some s ≡ slice_get now 0) × (steps_at setting (left - 1) rest ≡ drop 1 now)
  one_next left bytes rest s now is some e =
      let m : ℕ = left - 1 in
      let more : left ≡ suc m = omega (arith, some) in
      let all : s ∷ steps_at setting m rest ≡ now = sym (behind_next m bytes s rest e).1 ∙ ap (λ (n : ℕ). steps_at setting n bytes) (sym more) ∙ is in
      (ap (λ (l : List Step). slice_get l 0) all, ap (λ (l : List Step). drop 1 l) all)
