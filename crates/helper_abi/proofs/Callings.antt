-- Calls of helpers, by their arguments and by what is read.
use Rattle.std.proofs.Common.{◌≡◌, ℕ, List, [], Bool, true, false, cond, Option, Some, None, Ok, Err, Result, refl, sym, subst}
use Rattle.bt_core.specs.declared.step.Step.{Step}
use Rattle.bt_core.specs.Interaction.{Interaction, Ended, and_then, Whole}
use Rattle.bt_core.proofs.InteractionLaws.{Whole-Ended, Whole-and_then, Part-after, Performed-none}
use Rattle.bpf_insn.specs.Regions.{is_in_frame}
use Rattle.bpf_insn.specs.Machine.{Answer, BadBytes, BadArgument}
use Rattle.bpf_interp.specs.declared.helper_calls.HelperFault.{HelperFault}
use Rattle.bpf_interp.specs.declared.helper_calls.HelperFault.TheVariants.{Address, Helper, Memory}
use Rattle.bpf_interp.specs.Running.{Called, FaultCalled}
use Rattle.helper_abi.specs.Helpers.{in_range, if_range, with_read, with_room}
use Rattle.helper_abi.specs.Served.{IsReadFault}

-- what was called is written otherwise
pub Called-is : (t u : Interaction Answer) (old new : List Step) (r : Result ℕ HelperFault) (frame : List ℕ) → u ≡ t → Called t old new r frame → Called u old new r frame
Called-is t u old new r frame e h = subst (λ (x : Interaction Answer). Called x old new r frame) (sym e) h

-- an argument that is not in range, and one that is
pub range-none : {A : Type 0} (o : Option A) (go : A → Interaction Answer) (steps : List Step) (frame : List ℕ) → o ≡ None → Called (in_range o go) steps steps (Err Helper) frame
range-none {A} o go steps frame e = subst (λ (x : Option A). Called (in_range x go) steps steps (Err Helper) frame) (sym e) (Whole-Ended BadArgument BadArgument steps refl)

pub range-some : {A : Type 0} (o : Option A) (go : A → Interaction Answer) (a : A) (old new : List Step) (r : Result ℕ HelperFault) (frame : List ℕ) → o ≡ Some a → Called (go a) old new r frame → Called (in_range o go) old new r frame
range-some {A} o go a old new r frame e h = subst (λ (x : Option A). Called (in_range x go) old new r frame) (sym e) h

pub range-false : (b : Bool) (go : Interaction Answer) (steps : List Step) (frame : List ℕ) → b ≡ false → Called (if_range b go) steps steps (Err Helper) frame
range-false b go steps frame e = subst (λ (x : Bool). Called (if_range x go) steps steps (Err Helper) frame) (sym e) (Whole-Ended BadArgument BadArgument steps refl)

pub range-true : (b : Bool) (go : Interaction Answer) (old new : List Step) (r : Result ℕ HelperFault) (frame : List ℕ) → b ≡ true → Called go old new r frame → Called (if_range b go) old new r frame
range-true b go old new r frame e h = subst (λ (x : Bool). Called (if_range x go) old new r frame) (sym e) h

-- nothing is read there, and something is
pub read-none : {A : Type 0} (o : Option A) (go : A → Interaction Answer) (steps : List Step) (frame : List ℕ) → o ≡ None → Called (with_read o go) steps steps (Err Address) frame
read-none {A} o go steps frame e = subst (λ (x : Option A). Called (with_read x go) steps steps (Err Address) frame) (sym e) (Whole-Ended BadBytes BadBytes steps refl)

pub read-some : {A : Type 0} (o : Option A) (go : A → Interaction Answer) (a : A) (old new : List Step) (r : Result ℕ HelperFault) (frame : List ℕ) → o ≡ Some a → Called (go a) old new r frame → Called (with_read o go) old new r frame
read-some {A} o go a old new r frame e h = subst (λ (x : Option A). Called (with_read x go) old new r frame) (sym e) h

pub read-fault : {A : Type 0} (o : Option A) (go : A → Interaction Answer) (fault : HelperFault) (steps : List Step) (frame : List ℕ) → IsReadFault o fault → Called (with_read o go) steps steps (Err fault) frame
read-fault o go Address steps frame h = read-none o go steps frame h
read-fault o go Helper steps frame h = absurd h
read-fault o go (Memory m) steps frame h = Performed-none _ _ _ refl

-- the same of a fault
pub fault-some : {A : Type 0} (o : Option A) (go : A → Interaction Answer) (a : A) (old new : List Step) (fault : HelperFault) → o ≡ Some a → FaultCalled (go a) old new fault → FaultCalled (in_range o go) old new fault
fault-some {A} o go a old new fault e h = subst (λ (x : Option A). FaultCalled (in_range x go) old new fault) (sym e) h

pub fault-read : {A : Type 0} (o : Option A) (go : A → Interaction Answer) (fault : HelperFault) (steps : List Step) → IsReadFault o fault → FaultCalled (with_read o go) steps steps fault
fault-read o go fault steps h = read-fault o go fault steps [] h

-- the frame has no room, and it has
pub room-none : (to n : ℕ) (go : Interaction Answer) (steps : List Step) (frame : List ℕ) → is_in_frame to n ≡ false → Called (with_room to n go) steps steps (Err Address) frame
room-none to n go steps frame e = subst (λ (x : Bool). Called (cond x go (Ended BadBytes)) steps steps (Err Address) frame) (sym e) (Whole-Ended BadBytes BadBytes steps refl)

pub room-some : (to n : ℕ) (go : Interaction Answer) (old new : List Step) (r : Result ℕ HelperFault) (frame : List ℕ) → is_in_frame to n ≡ true → Called go old new r frame → Called (with_room to n go) old new r frame
room-some to n go old new r frame e h = subst (λ (x : Bool). Called (cond x go (Ended BadBytes)) old new r frame) (sym e) h

-- the one was performed whole, and then what was called
pub Called-after : {A : Type 0} (t : Interaction A) (k : A → Interaction Answer) (old mid new : List Step) (a : A) (r : Result ℕ HelperFault) (frame : List ℕ) → Whole t old mid a → Called (k a) mid new r frame → Called (and_then t k) old new r frame
Called-after t k old mid new a (Ok n) frame p q = Whole-and_then t k old mid new a _ p q
Called-after t k old mid new a (Err Address) frame p q = Whole-and_then t k old mid new a _ p q
Called-after t k old mid new a (Err Helper) frame p q = Whole-and_then t k old mid new a _ p q
Called-after t k old mid new a (Err (Memory m)) frame p q = Part-after t k old mid new a p q

-- the frame has no room, whatever is read
pub read-no-room : {A : Type 0} (o : Option A) (to n : ℕ) (go : A → Interaction Answer) (steps : List Step) → is_in_frame to n ≡ false → Whole (with_read o (λ a. with_room to n (go a))) steps steps BadBytes
read-no-room None to n go steps e = Whole-Ended BadBytes BadBytes steps refl
read-no-room (Some a) to n go steps e = room-none to n (go a) steps [] e

-- a second thing that is read is not there, whatever the first is
pub read-no-second : {A B : Type 0} (o : Option A) (p : Option B) (go : A → B → Interaction Answer) (steps : List Step) → p ≡ None → Whole (with_read o (λ a. with_read p (go a))) steps steps BadBytes
read-no-second None p go steps e = Whole-Ended BadBytes BadBytes steps refl
read-no-second (Some a) p go steps e = read-none p (go a) steps [] e

pub whole-some : {A : Type 0} (o : Option A) (go : A → Interaction Answer) (a : A) (old new : List Step) (b : Answer) → o ≡ Some a → Whole (go a) old new b → Whole (in_range o go) old new b
whole-some {A} o go a old new b e h = subst (λ (x : Option A). Whole (in_range x go) old new b) (sym e) h
