-- What comes of the reads of files, one behind the other.
use Rattle.std.proofs.Common.{◌≡◌, ℕ, suc, ◌<◌, ◌≤◌, ◌⊎◌, List, [], ◌∷◌, ◌++◌, length, map, refl, sym, ap, subst, arith, inl, inr, ◌∙◌, append_assoc, append-nil}
use Rattle.std.specs.Prelude.{Bool, true, false, cond, Option, Some, None, Result, Ok, Err, IfOk, IfErr, IfSome, unwrap_or, replicate}
use Rattle.std.proofs.lemmas.List.{length-replicate}
use Rattle.bt_io.specs.Faults.{Rose}
use Rattle.bt_io.specs.declared.shelf.ShelfError.{ShelfError}
use Rattle.top_refusals.specs.declared.refusal.Operand.{Operand}
use Rattle.top_refusals.specs.declared.refusal.Operand.TheVariants as operand
use Rattle.top_refusals.specs.declared.refusal.RecordingRefusal.TheVariants as recording
use Rattle.top_refusals.specs.declared.refusal.ScriptRefusal.TheVariants as script
use Rattle.top_refusals.specs.declared.refusal.Refusal.{Refusal}
use Rattle.top_refusals.specs.declared.refusal.Refusal.TheVariants.{Usage, Script, Recording, ReadFault, WriteFault, Memory, LongAccount, Denied}
use Rattle.top_jobs.specs.Doing.{ComesOfFiles, IsRead, IsUnread, refusal_in}
use Rattle.top_jobs.specs.Due.{AreShort, IsDue, IsFinding, IsFirstRefusal, IsTooLong}
use Rattle.top_refusals.specs.Orders.{OperandFile, limit_of, names_of}
use Rattle.top_refusals.specs.Refusals.{too_long}
use Rattle.top_jobs.specs.Reads.{ShelfUse, ShelfFailed, AreContentsOf, AsksExactly, AsksFirst, ComesIfDue, IsReached, MayCome, MayStandFor, OnTold, ReadStandsFor, ends_at, names_read}

-- ---- files and their contents

-- each of these files was read
abbrev pub AreRead : (List ℕ → Option (List ℕ)) → List OperandFile → List (List ℕ) → Type 0
AreRead held [] [] = Unit {0}
AreRead held (file ∷ files) (bytes ∷ contents) = IsRead held file bytes × AreRead held files contents
AreRead held files contents = ⊥

-- these are what the shelf tells of them
abbrev AreTold : (List ℕ → Option (List ℕ)) → List OperandFile → List (List ℕ) → Type 0
AreTold held [] [] = Unit {0}
AreTold held (file ∷ files) (bytes ∷ contents) = (held file.name ≡ Some bytes) × AreTold held files contents
AreTold held files contents = ⊥

are_short : (held : List ℕ → Option (List ℕ)) (files : List OperandFile) (contents : List (List ℕ)) → AreRead held files contents → AreShort files contents
are_short held [] [] are = tt
are_short held (file ∷ files) (bytes ∷ contents) are = (are.0.fits, are_short held files contents are.1)
are_short held [] (bytes ∷ contents) are = absurd are
are_short held (file ∷ files) [] are = absurd are

are_contents : (held : List ℕ → Option (List ℕ)) (files : List OperandFile) (contents : List (List ℕ)) → AreRead held files contents
    → AreContentsOf held files contents
are_contents held [] [] are = tt
are_contents held (file ∷ files) (bytes ∷ contents) are = (are.0.told, are_contents held files contents are.1)
are_contents held [] (bytes ∷ contents) are = absurd are
are_contents held (file ∷ files) [] are = absurd are

-- what is told of a file that was read is what was read
same_told : (o : Option (List ℕ)) (bytes other : List ℕ) → IfSome o (λ told. bytes ≡ told) → o ≡ Some other → bytes ≡ other
same_told None bytes other is e = absurd (let none : ⊥ = cc in none)
same_told (Some told) bytes other is e = is ∙ the told other e
  where
    the : (a b : List ℕ) → Some a ≡ Some b → a ≡ b
    the a b e = cc

same_contents : (held : List ℕ → Option (List ℕ)) (files : List OperandFile) (contents others : List (List ℕ)) → AreRead held files contents
    → AreTold held files others → contents ≡ others
same_contents held [] [] [] are told = refl
same_contents held [] [] (x ∷ xs) are told = absurd told
same_contents held [] (bytes ∷ contents) others are told = absurd are
same_contents held (file ∷ files) [] others are told = absurd are
same_contents held (file ∷ files) (bytes ∷ contents) [] are told = absurd told
same_contents held (file ∷ files) (bytes ∷ contents) (other ∷ others) are told =
    let one = same_told (held file.name) bytes other are.0.told told.0 in
    let more = same_contents held files contents others are.1 told.1 in
    λ i. one i ∷ more i

-- what holds of told contents
on_each : (o : Option (List ℕ)) (Q : List ℕ → Type 0) → ((bytes : List ℕ) → o ≡ Some bytes → Q bytes) → IfSome o Q
on_each None Q q = tt
on_each (Some bytes) Q q = q bytes refl

on_told_by : (held : List ℕ → Option (List ℕ)) (files : List OperandFile) (P : List (List ℕ) → Type 0)
    → ((contents : List (List ℕ)) → AreTold held files contents → P contents) → OnTold held files P
on_told_by held [] P p = p [] tt
on_told_by held (file ∷ files) P p =
    on_each (held file.name) (λ bytes. OnTold held files (λ contents. P (bytes ∷ contents)))
    (λ bytes e. on_told_by held files (λ contents. P (bytes ∷ contents)) (λ contents told. p (bytes ∷ contents) (e, told)))

-- ---- files of which the shelf may tell nothing

pub held_or : (told : Option (List ℕ)) (other : List ℕ) → IfSome told (λ bytes. unwrap_or told other ≡ bytes)
held_or None other = tt
held_or (Some bytes) other = refl

-- bytes that are longer than a bound
long_list : (n : ℕ) → (bytes : List ℕ) × (n < length bytes)
long_list n = (replicate (suc n) 0, is_longer n)
  where
    is_longer : (k : ℕ) → k < length {A = ℕ} (replicate (suc k) 0)
    is_longer k = omega (arith, length-replicate {A = ℕ} (suc k) 0)

long_or : (n : ℕ) (told : Option (List ℕ)) → IfSome told (λ bytes. n < length bytes) → n < length (unwrap_or told (long_list n).0)
long_or n None long = (long_list n).1
long_or n (Some bytes) long = long

pub others_of : (List ℕ → Option (List ℕ)) → List OperandFile → List (List ℕ)
others_of held [] = []
others_of held (file ∷ files) = unwrap_or (held file.name) [] ∷ others_of held files

pub are_others : (held : List ℕ → Option (List ℕ)) (files : List OperandFile) → AreContentsOf held files (others_of held files)
unfolding others_of
are_others held [] = tt
are_others held (file ∷ files) = (held_or _ _, are_others held files)

-- ---- names that are asked for

asks_to : (old new names more : List (List ℕ)) → new ≡ old ++ names → AsksFirst old new (names ++ more)
asks_to old new [] [] e = e ∙ append-nil old
asks_to old new [] (m ∷ more) e = inl (e ∙ append-nil old)
asks_to old new (n ∷ names) more e = inr (asks_to (old ++ n ∷ []) new names more (e ∙ sym (append_assoc old (n ∷ []) names)))

names_on : (front : List OperandFile) (file : OperandFile) (more : List OperandFile) → names_of (front ++ file ∷ more) ≡ names_of front ++ file.name ∷ names_of more
names_on [] file more = refl
names_on (f ∷ front) file more = ap (λ (l : List (List ℕ)). f.name ∷ l) (names_on front file more)

-- what is no want of memory tells of files which names were asked for
exactly : (first : OperandFile) (files : List OperandFile) (refusal : Refusal) (seen : ShelfUse) → (refusal ≡ Memory → ⊥)
    → seen.asked_after ≡ seen.asked ++ names_read (first ∷ files) (Some refusal) → AsksExactly (first ∷ files) (Some refusal) seen
exactly first files Memory seen known asked = absurd (known refl)
exactly first files Usage seen known asked = asked
exactly first files (Script why) seen known asked = asked
exactly first files (Recording why) seen known asked = asked
exactly first files (ReadFault file) seen known asked = asked
exactly first files WriteFault seen known asked = asked
exactly first files LongAccount seen known asked = asked
exactly first files (Denied why) seen known asked = asked

-- ---- a file is not read, and those before it are

-- the operands of files before it are others
abbrev pub AreOthers : Operand → List OperandFile → Type 0
AreOthers one [] = Unit {0}
AreOthers one (file ∷ files) = (file.operand ≡ one → ⊥) × AreOthers one files

long_of : (one other : Operand) → Some (too_long one) ≡ Some (too_long other) → one ≡ other
long_of operand.Script operand.Script e = refl
long_of operand.Script operand.Recording e = absurd (let none : ◌≡◌ {A = Option Refusal} (Some (Script script.TooLong)) (Some (Recording recording.TooLong)) → ⊥ = λ x. cc in none e)
long_of operand.Script operand.Account e = absurd (let none : ◌≡◌ {A = Option Refusal} (Some (Script script.TooLong)) (Some LongAccount) → ⊥ = λ x. cc in none e)
long_of operand.Recording operand.Script e = absurd (let none : ◌≡◌ {A = Option Refusal} (Some (Recording recording.TooLong)) (Some (Script script.TooLong)) → ⊥ = λ x. cc in none e)
long_of operand.Recording operand.Recording e = refl
long_of operand.Recording operand.Account e = absurd (let none : ◌≡◌ {A = Option Refusal} (Some (Recording recording.TooLong)) (Some LongAccount) → ⊥ = λ x. cc in none e)
long_of operand.Account operand.Script e = absurd (let none : ◌≡◌ {A = Option Refusal} (Some LongAccount) (Some (Script script.TooLong)) → ⊥ = λ x. cc in none e)
long_of operand.Account operand.Recording e = absurd (let none : ◌≡◌ {A = Option Refusal} (Some LongAccount) (Some (Recording recording.TooLong)) → ⊥ = λ x. cc in none e)
long_of operand.Account operand.Account e = refl

-- nothing that is found of contents is that a file is too long
some_none : (refusal : Refusal) → ◌≡◌ {A = Option Refusal} (Some refusal) None → ⊥
some_none refusal e = cc

judged_not_long : (one : Operand) (text bytes : List ℕ) → IsFirstRefusal text bytes (too_long one) → ⊥
judged_not_long operand.Script text bytes is = is
judged_not_long operand.Recording text bytes is = is
judged_not_long operand.Account text bytes is = is

not_long : (one : Operand) (contents : List (List ℕ)) → IsFinding contents (Some (too_long one)) → ⊥
not_long one [] is = some_none (too_long one) is
not_long one (text ∷ []) is = some_none (too_long one) is
not_long one (text ∷ bytes ∷ more) is = judged_not_long one text bytes is

module _ (held : List ℕ → Option (List ℕ)) (file : OperandFile) (more : List OperandFile) where
  -- of told contents those of the files before it are short
  abbrev FrontShort : List OperandFile → List (List ℕ) → Type 0
  FrontShort [] contents = Unit {0}
  FrontShort (f ∷ front) [] = ⊥
  FrontShort (f ∷ front) (bytes ∷ contents) = (length bytes ≤ limit_of f.operand) × FrontShort front contents

  front_short : (front : List OperandFile) (texts contents : List (List ℕ)) → AreRead held front texts → AreTold held (front ++ file ∷ more) contents
      → FrontShort front contents
  front_short [] [] contents are told = tt
  front_short [] (t ∷ texts) contents are told = absurd are
  front_short (f ∷ front) [] contents are told = absurd are
  front_short (f ∷ front) (t ∷ texts) [] are told = absurd told
  front_short (f ∷ front) (t ∷ texts) (bytes ∷ contents) are told = (
    subst (λ (l : List ℕ). length l ≤ limit_of f.operand) (same_told (held f.name) t bytes are.0.told told.0) are.0.fits,
    front_short front texts contents are.1 told.1,
  )

  -- the read of the file is reached
  reached : (front : List OperandFile) (texts : List (List ℕ)) (bytes : List ℕ) (others : List (List ℕ)) → AreRead held front texts
      → IsReached (front ++ file ∷ more) (texts ++ bytes ∷ others) file.operand
  reached [] [] bytes others are = inl refl
  reached [] (t ∷ texts) bytes others are = absurd are
  reached (f ∷ front) [] bytes others are = absurd are
  reached (f ∷ front) (t ∷ texts) bytes others are = inr (are.0.fits, reached front texts bytes others are.1)

  -- where the file is too long, that is due
  too_long_due : (front : List OperandFile) (texts : List (List ℕ)) (bytes : List ℕ) (others : List (List ℕ)) → AreRead held front texts
      → limit_of file.operand < length bytes → IsTooLong (front ++ file ∷ more) (texts ++ bytes ∷ others) (Some (too_long file.operand))
  too_long_due [] [] bytes others are long = inl (long, refl)
  too_long_due [] (t ∷ texts) bytes others are long = absurd are
  too_long_due (f ∷ front) [] bytes others are long = absurd are
  too_long_due (f ∷ front) (t ∷ texts) bytes others are long = inr (are.0.fits, too_long_due front texts bytes others are.1 long)

  contents_held : (front : List OperandFile) (texts : List (List ℕ)) (bytes : List ℕ) (others : List (List ℕ)) → AreRead held front texts
      → IfSome (held file.name) (λ told. bytes ≡ told) → AreContentsOf held more others → AreContentsOf held (front ++ file ∷ more) (texts ++ bytes ∷ others)
  contents_held [] [] bytes others are here rest = (here, rest)
  contents_held [] (t ∷ texts) bytes others are here rest = absurd are
  contents_held (f ∷ front) [] bytes others are here rest = absurd are
  contents_held (f ∷ front) (t ∷ texts) bytes others are here rest = (are.0.told, contents_held front texts bytes others are.1 here rest)

  -- each file before it has another operand than it and those behind it
  abbrev pub AllApart : List OperandFile → Type 0
  AllApart [] = Unit {0}
  AllApart (f ∷ front) = AreOthers f.operand (file ∷ more) × AllApart front

  -- the names up to that of the file are read
  read_to : (front : List OperandFile) (refusal : Option Refusal) → ends_at file.operand refusal ≡ true
      → ((one : Operand) → (file.operand ≡ one → ⊥) → ends_at one refusal ≡ false) → AllApart front
      → names_read (front ++ file ∷ more) refusal ≡ names_of front ++ file.name ∷ []
  read_to [] refusal here before apart = ap (λ (b : Bool). file.name ∷ cond b [] (names_read more refusal)) here
  read_to (f ∷ front) refusal here before apart =
      ap (λ (b : Bool). f.name ∷ cond b [] (names_read (front ++ file ∷ more) refusal)) (before f.operand apart.0.0)
      ∙ ap (λ (l : List (List ℕ)). f.name ∷ l) (read_to front refusal here before apart.1)

  -- the contents of no file with this operand are too long
  abbrev ShortAt : Operand → List OperandFile → List (List ℕ) → Type 0
  ShortAt one [] contents = Unit {0}
  ShortAt one (f ∷ files) [] = Unit {0}
  ShortAt one (f ∷ files) (bytes ∷ contents) = (f.operand ≡ one → length bytes ≤ limit_of f.operand) × ShortAt one files contents

  not_long_at : (one : Operand) (files : List OperandFile) (contents : List (List ℕ)) → ShortAt one files contents
      → IsTooLong files contents (Some (too_long one)) → ⊥
  not_long_at one [] contents short is = is
  not_long_at one (f ∷ files) [] short is = is
  not_long_at one (f ∷ files) (bytes ∷ contents) short (inl e) =
      let low = short.0 (sym (long_of one f.operand e.1)) in let long = e.0 in omega (arith, low, long)
  not_long_at one (f ∷ files) (bytes ∷ contents) short (inr e) = not_long_at one files contents short.1 e.1

  others_short : (one : Operand) (files : List OperandFile) (contents : List (List ℕ)) → AreOthers one files → ShortAt one files contents
  others_short one [] contents others = tt
  others_short one (f ∷ files) [] others = tt
  others_short one (f ∷ files) (bytes ∷ contents) others = (λ e. absurd (others.0 e), others_short one files contents others.1)

  short_at : (one : Operand) (front : List OperandFile) (contents : List (List ℕ)) → FrontShort front contents → AreOthers one (file ∷ more)
      → ShortAt one (front ++ file ∷ more) contents
  short_at one [] contents short others = others_short one (file ∷ more) contents others
  short_at one (f ∷ front) [] short others = absurd short
  short_at one (f ∷ front) (bytes ∷ contents) short others = (λ e. short.0, short_at one front contents short.1 others)

  -- the fault of its read stands for what is due
  stands : (front : List OperandFile) (due : Option Refusal) → AllApart front
      → ((one : Operand) → AreOthers one (file ∷ more) → due ≡ Some (too_long one) → ⊥) → ReadStandsFor (front ++ file ∷ more) file.operand due
  stands [] due apart other = inl refl
  stands (f ∷ front) due apart other = inr (other f.operand apart.0, stands front due apart.1 other)

  not_due : (front : List OperandFile) (contents : List (List ℕ)) (due : Option Refusal) → FrontShort front contents
      → IsDue (front ++ file ∷ more) contents due → (one : Operand) → AreOthers one (file ∷ more) → due ≡ Some (too_long one) → ⊥
  not_due front contents due short is one others e =
      by (subst (λ (d : Option Refusal). IsDue (front ++ file ∷ more) contents d) e is)
    where
      by : IsDue (front ++ file ∷ more) contents (Some (too_long one)) → ⊥
      by (inl long) = not_long_at one (front ++ file ∷ more) contents (short_at one front contents short others) long
      by (inr found) = not_long one contents found.1

  -- the contents of the file are longer than they may be
  abbrev LongAt : List OperandFile → List (List ℕ) → Type 0
  LongAt [] [] = ⊥
  LongAt [] (bytes ∷ contents) = limit_of file.operand < length bytes
  LongAt (f ∷ front) [] = ⊥
  LongAt (f ∷ front) (bytes ∷ contents) = LongAt front contents

  if_told : (o : Option (List ℕ)) (bytes : List ℕ) → IfSome o (λ told. limit_of file.operand < length told) → o ≡ Some bytes
      → limit_of file.operand < length bytes
  if_told None bytes long e = absurd (let none : ⊥ = cc in none)
  if_told (Some told) bytes long e = subst (λ (l : List ℕ). limit_of file.operand < length l) (let same : told ≡ bytes = cc in same) long

  long_at : (front : List OperandFile) (contents : List (List ℕ)) → AreTold held (front ++ file ∷ more) contents
      → IfSome (held file.name) (λ told. limit_of file.operand < length told) → LongAt front contents
  long_at [] [] told long = absurd told
  long_at [] (bytes ∷ contents) told long = if_told (held file.name) bytes long told.0
  long_at (f ∷ front) [] told long = absurd told
  long_at (f ∷ front) (bytes ∷ contents) told long = long_at front contents told.1 long

  due_is_long : (front : List OperandFile) (contents : List (List ℕ)) (due : Option Refusal) → FrontShort front contents → LongAt front contents
      → IsTooLong (front ++ file ∷ more) contents due → Some (too_long file.operand) ≡ due
  due_is_long [] [] due short long is = absurd long
  due_is_long [] (bytes ∷ contents) due short long (inl e) = sym e.1
  due_is_long [] (bytes ∷ contents) due short long (inr e) = absurd (let low = e.0 in omega (arith, low, long))
  due_is_long (f ∷ front) [] due short long is = absurd long
  due_is_long (f ∷ front) (bytes ∷ contents) due short long (inl e) = absurd (let low = short.0 in let high = e.0 in omega (arith, low, high))
  due_is_long (f ∷ front) (bytes ∷ contents) due short long (inr e) = due_is_long front contents due short.1 long e.1

  not_all_short : (front : List OperandFile) (contents : List (List ℕ)) → LongAt front contents → AreShort (front ++ file ∷ more) contents → ⊥
  not_all_short [] [] long are = long
  not_all_short [] (bytes ∷ contents) long are = let low = are.0 in omega (arith, low, long)
  not_all_short (f ∷ front) [] long are = long
  not_all_short (f ∷ front) (bytes ∷ contents) long are = not_all_short front contents long are.1

  long_due : (front : List OperandFile) (contents : List (List ℕ)) (due : Option Refusal) → FrontShort front contents → LongAt front contents
      → IsDue (front ++ file ∷ more) contents due → Some (too_long file.operand) ≡ due
  long_due front contents due short long (inl is) = due_is_long front contents due short long is
  long_due front contents due short long (inr is) = absurd (not_all_short front contents long is.0)

-- which reads end a call
ends_here : (one : Operand) → ends_at one (Some (ReadFault one)) ≡ true
ends_here operand.Script = refl
ends_here operand.Recording = refl
ends_here operand.Account = refl

ends_not : (one other : Operand) → (one ≡ other → ⊥) → ends_at other (Some (ReadFault one)) ≡ false
ends_not operand.Script operand.Script apart = absurd (apart refl)
ends_not operand.Script operand.Recording apart = refl
ends_not operand.Script operand.Account apart = refl
ends_not operand.Recording operand.Script apart = refl
ends_not operand.Recording operand.Recording apart = absurd (apart refl)
ends_not operand.Recording operand.Account apart = refl
ends_not operand.Account operand.Script apart = refl
ends_not operand.Account operand.Recording apart = refl
ends_not operand.Account operand.Account apart = absurd (apart refl)

ends_long : (one : Operand) → ends_at one (Some (too_long one)) ≡ true
ends_long operand.Script = refl
ends_long operand.Recording = refl
ends_long operand.Account = refl

ends_not_long : (one other : Operand) → (one ≡ other → ⊥) → ends_at other (Some (too_long one)) ≡ false
ends_not_long operand.Script operand.Script apart = absurd (apart refl)
ends_not_long operand.Script operand.Recording apart = refl
ends_not_long operand.Script operand.Account apart = refl
ends_not_long operand.Recording operand.Script apart = refl
ends_not_long operand.Recording operand.Recording apart = absurd (apart refl)
ends_not_long operand.Recording operand.Account apart = refl
ends_not_long operand.Account operand.Script apart = refl
ends_not_long operand.Account operand.Recording apart = refl
ends_not_long operand.Account operand.Account apart = absurd (apart refl)

not_memory_fault : (one : Operand) → ReadFault one ≡ Memory → ⊥
not_memory_fault one e = cc

not_memory_long : (one : Operand) → too_long one ≡ Memory → ⊥
not_memory_long operand.Script e = let none : Script script.TooLong ≡ Memory → ⊥ = λ x. cc in none e
not_memory_long operand.Recording e = let none : Recording recording.TooLong ≡ Memory → ⊥ = λ x. cc in none e
not_memory_long operand.Account e = let none : LongAccount ≡ Memory → ⊥ = λ x. cc in none e

long_comes : (one : Operand) (files : List OperandFile) (contents : List (List ℕ)) (failed : Type 0) → IsTooLong files contents (Some (too_long one))
    → MayCome files contents failed ⊥ (Some (too_long one))
long_comes operand.Script files contents failed is = inl is
long_comes operand.Recording files contents failed is = inl is
long_comes operand.Account files contents failed is = inl is

module _ (seen : ShelfUse) (file : OperandFile) (more front : List OperandFile) (texts : List (List ℕ)) (refusal : Refusal)
    (are : AreRead seen.held front texts) (apart : AllApart seen.held file more front) (unread : IsUnread file seen refusal) where
  abbrev listed : List OperandFile
  listed = front ++ file ∷ more

  abbrev last : List ℕ
  last = unwrap_or (seen.held file.name) (long_list (limit_of file.operand)).0

  abbrev bytes_of : List (List ℕ)
  bytes_of = texts ++ last ∷ others_of seen.held more

  came : IsUnread file seen refusal → MayCome listed bytes_of (ShelfFailed seen) ⊥ (Some refusal)
  came (inl memory) = subst (λ (r : Refusal). MayCome listed bytes_of (ShelfFailed seen) ⊥ (Some r)) (sym memory) tt
  came (inr (inl e)) = subst (λ (r : Refusal). MayCome listed bytes_of (ShelfFailed seen) ⊥ (Some r)) (sym e.0)
      (e.1, reached seen.held file more front texts last (others_of seen.held more) are)
  came (inr (inr e)) = subst (λ (r : Refusal). MayCome listed bytes_of (ShelfFailed seen) ⊥ (Some r)) (sym e.0)
      (long_comes file.operand listed bytes_of (ShelfFailed seen)
      (too_long_due seen.held file more front texts last (others_of seen.held more) are (long_or (limit_of file.operand) (seen.held file.name) e.1)))

  memory_asked : (before : List OperandFile) → AsksExactly (before ++ file ∷ more) (Some Memory) seen
  memory_asked [] = tt
  memory_asked (f ∷ before) = tt

  exactly_on : (before : List OperandFile) (why : Refusal) → (why ≡ Memory → ⊥)
      → seen.asked_after ≡ seen.asked ++ names_read (before ++ file ∷ more) (Some why) → AsksExactly (before ++ file ∷ more) (Some why) seen
  exactly_on [] why known asked = exactly file more why seen known asked
  exactly_on (f ∷ before) why known asked = exactly f (before ++ file ∷ more) why seen known asked

  known_asked : (why : Refusal) → refusal ≡ why → (why ≡ Memory → ⊥) → names_read listed (Some why) ≡ names_of front ++ file.name ∷ []
      → ((refusal ≡ Memory → ⊥) → seen.asked_after ≡ seen.asked ++ (names_of front ++ file.name ∷ [])) → AsksExactly listed (Some refusal) seen
  known_asked why e known read named =
      subst (λ (r : Refusal). AsksExactly listed (Some r) seen) (sym e)
      (exactly_on front why known (named (λ m. known (sym e ∙ m)) ∙ ap (λ (l : List (List ℕ)). seen.asked ++ l) (sym read)))

  asked_exactly : IsUnread file seen refusal → ((refusal ≡ Memory → ⊥) → seen.asked_after ≡ seen.asked ++ (names_of front ++ file.name ∷ []))
      → AsksExactly listed (Some refusal) seen
  asked_exactly (inl memory) named = subst (λ (r : Refusal). AsksExactly listed (Some r) seen) (sym memory) (memory_asked front)
  asked_exactly (inr (inl e)) named =
      known_asked (ReadFault file.operand) e.0 (not_memory_fault file.operand)
      (read_to seen.held file more front (Some (ReadFault file.operand)) (ends_here file.operand) (λ one other. ends_not file.operand one other) apart) named
  asked_exactly (inr (inr e)) named =
      known_asked (too_long file.operand) e.0 (not_memory_long file.operand)
      (read_to seen.held file more front (Some (too_long file.operand)) (ends_long file.operand) (λ one other. ends_not_long file.operand one other) apart) named

  comes : IsUnread file seen refusal → (told : List (List ℕ)) → AreTold seen.held listed told → ComesIfDue listed (Some refusal) told
  comes (inl memory) told are_told due is = inr (subst (λ (r : Refusal). MayStandFor listed (Some r) due) (sym memory) tt)
  comes (inr (inl e)) told are_told due is = inr (subst (λ (r : Refusal). MayStandFor listed (Some r) due) (sym e.0)
      (stands seen.held file more front due apart
      (not_due seen.held file more front told due (front_short seen.held file more front texts told are are_told) is)))
  comes (inr (inr e)) told are_told due is =
      inl (ap (λ (r : Refusal). Some r) e.0
      ∙ long_due seen.held file more front told due (front_short seen.held file more front texts told are are_told)
      (long_at seen.held file more front told are_told e.1) is)

  asked_first : (seen.asked_after ≡ seen.asked ++ (names_of front ++ file.name ∷ [])) ⊎ (seen.asked_after ≡ seen.asked ++ names_of front)
      → AsksFirst seen.asked seen.asked_after (names_of listed)
  asked_first (inl e) = subst (λ (l : List (List ℕ)). AsksFirst seen.asked seen.asked_after l)
      (append_assoc (names_of front) (file.name ∷ []) (names_of more) ∙ sym (names_on front file more))
      (asks_to seen.asked seen.asked_after (names_of front ++ file.name ∷ []) (names_of more) e)
  asked_first (inr e) = subst (λ (l : List (List ℕ)). AsksFirst seen.asked seen.asked_after l) (sym (names_on front file more))
      (asks_to seen.asked seen.asked_after (names_of front) (file.name ∷ names_of more) e)

  -- what comes of files of which the first ones are read and the next one is not
  pub file_unread : {B : Type 0} (Comes : List (List ℕ) → B → Type 0)
      → ((refusal ≡ Memory → ⊥) → seen.asked_after ≡ seen.asked ++ (names_of front ++ file.name ∷ []))
      → (seen.asked_after ≡ seen.asked ++ (names_of front ++ file.name ∷ [])) ⊎ (seen.asked_after ≡ seen.asked ++ names_of front)
      → ComesOfFiles listed Comes seen (Err refusal)
  file_unread Comes named named_or_not = record {
    reads = record {
      contents = bytes_of;
      held = contents_held seen.held file more front texts last (others_of seen.held more) are (held_or _ _) (are_others seen.held more);
      value = tt;
      came = came unread;
    };
    asked = asked_first named_or_not;
    asked_exactly = asked_exactly unread named;
    exact = on_told_by seen.held listed (ComesIfDue listed (Some refusal)) (comes unread);
  }

-- ---- all files are read

no_read_found : (one : Operand) (contents : List (List ℕ)) → IsFinding contents (Some (ReadFault one)) → ⊥
no_read_found one [] is = some_none (ReadFault one) is
no_read_found one (text ∷ []) is = some_none (ReadFault one) is
no_read_found one (text ∷ bytes ∷ more) is = is

no_write_found : (contents : List (List ℕ)) → IsFinding contents (Some WriteFault) → ⊥
no_write_found [] is = some_none WriteFault is
no_write_found (text ∷ []) is = some_none WriteFault is
no_write_found (text ∷ bytes ∷ more) is = is

found_comes : (files : List OperandFile) (contents : List (List ℕ)) (failed : Type 0) (refusal : Refusal) → AreShort files contents
    → IsFinding contents (Some refusal) → MayCome files contents failed ⊥ (Some refusal)
found_comes files contents failed Usage short found = inr (short, found)
found_comes files contents failed (Script why) short found = inr (short, found)
found_comes files contents failed (Recording why) short found = inr (short, found)
found_comes files contents failed (ReadFault file) short found = absurd (no_read_found file contents found)
found_comes files contents failed WriteFault short found = absurd (no_write_found contents found)
found_comes files contents failed Memory short found = tt
found_comes files contents failed LongAccount short found = inr (short, found)
found_comes files contents failed (Denied why) short found = inr (short, found)

-- no read ends a call where something is found of the contents
ends_none : (one : Operand) → ends_at one None ≡ false
ends_none operand.Script = refl
ends_none operand.Recording = refl
ends_none operand.Account = refl

first_ends : (text bytes : List ℕ) (refusal : Refusal) → IsFirstRefusal text bytes refusal → (one : Operand) → ends_at one (Some refusal) ≡ false
first_ends text bytes Usage is one = absurd is
first_ends text bytes (Script script.TooLong) is one = absurd is
first_ends text bytes (Script (script.Fault wrong place)) is operand.Script = refl
first_ends text bytes (Script (script.Fault wrong place)) is operand.Recording = refl
first_ends text bytes (Script (script.Fault wrong place)) is operand.Account = refl
first_ends text bytes (Recording recording.TooLong) is one = absurd is
first_ends text bytes (Recording (recording.Fault error)) is operand.Script = refl
first_ends text bytes (Recording (recording.Fault error)) is operand.Recording = refl
first_ends text bytes (Recording (recording.Fault error)) is operand.Account = refl
first_ends text bytes (ReadFault file) is one = absurd is
first_ends text bytes WriteFault is one = absurd is
first_ends text bytes Memory is one = absurd is
first_ends text bytes LongAccount is one = absurd is
first_ends text bytes (Denied why) is one = absurd is

found_ends : (contents : List (List ℕ)) (refusal : Refusal) → IsFinding contents (Some refusal) → (one : Operand) → ends_at one (Some refusal) ≡ false
found_ends [] refusal is one = absurd (some_none refusal is)
found_ends (text ∷ []) refusal is one = absurd (some_none refusal is)
found_ends (text ∷ bytes ∷ more) refusal is one = first_ends text bytes refusal is one

found_known : (contents : List (List ℕ)) (refusal : Refusal) → IsFinding contents (Some refusal) → refusal ≡ Memory → ⊥
found_known [] refusal is memory = some_none refusal is
found_known (text ∷ []) refusal is memory = some_none refusal is
found_known (text ∷ bytes ∷ more) refusal is memory = subst (λ (r : Refusal). IsFirstRefusal text bytes r) memory is

reads_all : (files : List OperandFile) (refusal : Option Refusal) → ((one : Operand) → ends_at one refusal ≡ false) → names_read files refusal ≡ names_of files
reads_all [] refusal none = refl
reads_all (file ∷ files) refusal none =
    ap (λ (b : Bool). file.name ∷ cond b [] (names_read files refusal)) (none file.operand)
    ∙ ap (λ (l : List (List ℕ)). file.name ∷ l) (reads_all files refusal none)

module _ {B : Type 0} (seen : ShelfUse) (first : OperandFile) (more : List OperandFile) (contents : List (List ℕ))
    (are : AreRead seen.held (first ∷ more) contents) (answer : Result B Refusal) where
  abbrev all : List OperandFile
  all = first ∷ more

  -- what is found of the contents comes, or memory runs out
  abbrev IsFoundIn : Refusal → Type 0
  IsFoundIn refusal = (refusal ≡ Memory) ⊎ IsFinding contents (Some refusal)

  all_came : (a : Result B Refusal) → IfErr a IsFoundIn → IfErr a (λ refusal. MayCome all contents (ShelfFailed seen) ⊥ (Some refusal))
  all_came (Ok b) found = tt
  all_came (Err refusal) (inl memory) = subst (λ (r : Refusal). MayCome all contents (ShelfFailed seen) ⊥ (Some r)) (sym memory) tt
  all_came (Err refusal) (inr found) = found_comes all contents (ShelfFailed seen) refusal (are_short seen.held all contents are) found

  all_asked : (a : Result B Refusal) → IfErr a IsFoundIn → seen.asked_after ≡ seen.asked ++ names_of all → AsksExactly all (refusal_in a) seen
  all_asked (Ok b) found asked = asked ∙ ap (λ (l : List (List ℕ)). seen.asked ++ l) (sym (reads_all all None ends_none))
  all_asked (Err refusal) (inl memory) asked = subst (λ (r : Refusal). AsksExactly all (Some r) seen) (sym memory) tt
  all_asked (Err refusal) (inr found) asked =
      exactly first more refusal seen (found_known contents refusal found)
      (asked ∙ ap (λ (l : List (List ℕ)). seen.asked ++ l) (sym (reads_all all (Some refusal) (found_ends contents refusal found))))

  not_too_long : (files : List OperandFile) (bytes : List (List ℕ)) (due : Option Refusal) → AreShort files bytes → IsTooLong files bytes due → ⊥
  not_too_long [] bytes due short is = is
  not_too_long (file ∷ files) [] due short is = is
  not_too_long (file ∷ files) (b ∷ bytes) due short (inl e) = let low = short.0 in let long = e.0 in omega (arith, low, long)
  not_too_long (file ∷ files) (b ∷ bytes) due short (inr e) = not_too_long files bytes due short.1 e.1

  all_comes : ((due : Option Refusal) → IsFinding contents due → (refusal_in answer ≡ due) ⊎ (refusal_in answer ≡ Some Memory))
      → ComesIfDue all (refusal_in answer) contents
  all_comes exact due (inl long) = absurd (not_too_long all contents due (are_short seen.held all contents are) long)
  all_comes exact due (inr found) = by (exact due found.1)
    where
      by : (refusal_in answer ≡ due) ⊎ (refusal_in answer ≡ Some Memory) → (refusal_in answer ≡ due) ⊎ MayStandFor all (refusal_in answer) due
      by (inl same) = inl same
      by (inr memory) = inr (subst (λ (r : Option Refusal). MayStandFor all r due) (sym memory) tt)

  pub all_read : (Comes : List (List ℕ) → B → Type 0) → IfOk answer (Comes contents) → IfErr answer IsFoundIn
      → ((due : Option Refusal) → IsFinding contents due → (refusal_in answer ≡ due) ⊎ (refusal_in answer ≡ Some Memory))
      → seen.asked_after ≡ seen.asked ++ names_of all → ComesOfFiles all Comes seen answer
  all_read Comes value found exact asked = record {
    reads = record { contents = contents; held = are_contents seen.held all contents are; value = value; came = all_came answer found };
    asked = subst (λ (l : List (List ℕ)). AsksFirst seen.asked seen.asked_after l) (append-nil (names_of all))
        (asks_to seen.asked seen.asked_after (names_of all) [] asked);
    asked_exactly = all_asked answer found asked;
    exact = on_told_by seen.held all (ComesIfDue all (refusal_in answer))
        (λ told is. subst (λ (l : List (List ℕ)). ComesIfDue all (refusal_in answer) l) (same_contents seen.held all contents told are is) (all_comes exact));
  }

-- ---- one read

-- a count that rose in a part of a call rose in the call
pub rose_from : (before between after : ℕ) → before ≤ between → Rose between after → Rose before after
rose_from before between after later rose = omega (arith, later, rose)

-- two errors of a read that are equal
pub read_error : {A : Type 0} {a b : ShelfError} → a ≡ b → ◌≡◌ {A = Result A ShelfError} (Err a) (Err b)
read_error e = ap (λ (x : ShelfError). Err x) e
