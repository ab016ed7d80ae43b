-- Written recordings, runs of bodies, and steps.
use Rattle.std.specs.Prelude.{ℕ, zero, suc, ◌+◌, pos, Bool, List, [], ◌∷◌, ◌++◌, map, codes, Some}
use Rattle.bt_ast.specs.declared.attached.Attached.{Attached}
use Rattle.bt_ast.specs.declared.attached.Tick.{Tick}
use Rattle.bt_core.specs.declared.agg.Agg.{Agg}
use Rattle.bt_core.specs.declared.agg.Buckets.TheVariants.{Plain}
use Rattle.bt_core.specs.declared.item.Cell.{Cell}
use Rattle.bt_core.specs.declared.item.Cell.TheVariants as cells
use Rattle.bt_core.specs.declared.item.Item.TheVariants as items
use Rattle.bt_core.specs.declared.map.AggKind.TheVariants.{Count}
use Rattle.bt_core.specs.declared.map.MapDecl.{MapDecl}
use Rattle.bt_core.specs.declared.map.MapId.{MapId}
use Rattle.bt_core.specs.declared.map.MapKind.TheVariants.{Aggs}
use Rattle.bt_core.specs.declared.step.ObjectId.{ObjectId}
use Rattle.bt_core.specs.declared.step.ObjectId.TheVariants.{Cpu, Clock, Out}
use Rattle.bt_core.specs.declared.step.Op.{Op}
use Rattle.bt_core.specs.declared.step.Op.TheVariants.{Add, Read, ClearOf, Emit, Cross, Stop}
use Rattle.bt_core.specs.declared.step.Reply.{Reply}
use Rattle.bt_core.specs.declared.step.Reply.TheVariants.{Done, Last}
use Rattle.bt_core.specs.declared.step.Reply.TheVariants as replies
use Rattle.bt_core.specs.declared.step.Step.{Step}
use Rattle.bt_core.specs.declared.value.Value.{Value}
use Rattle.bt_core.specs.Interaction.{Interaction, Ended, Asks}
use Rattle.recordings.specs.declared.recording.CpuTrack.{CpuTrack}
use Rattle.recordings.specs.declared.recording.Entry.{Entry}
use Rattle.recordings.specs.declared.recording.Entry.TheVariants as entries
use Rattle.recordings.specs.declared.recording.Recording.{Recording}
use Rattle.map_rows.specs.Merged.{merged}

-- ---- recordings

-- an event of the first format
abbrev pub event_at : ℕ → Entry
event_at time = entries.Event (record { time = time; pid = 1; tid = 1; uid = 0; gid = 0; comm = codes "p"; format = 0; payload = [] })

-- a mark of so many lost events
abbrev pub lost_at : ℕ → ℕ → Entry
lost_at time count = entries.Lost time count

abbrev pub cpu_with : ℕ → List ℕ → CpuTrack
cpu_with number times = record { number = number; entries = map event_at times }

-- a recording of these CPUs with events alone
abbrev pub recording_of : ℕ → List CpuTrack → Recording
recording_of end cpus = record { version = 1; start = 0; end = end; formats = []; cpus = cpus }

-- a tick at a time, which runs this body
abbrev pub tick_at : ℕ → ℕ → Tick
tick_at body time = record { time = time; body = body }

-- body 0 at the events of the first format, and ticks
abbrev pub attached_with : List Tick → Attached
attached_with ticks = record { bodies = []; by_format = (0 ∷ []) ∷ []; ticks = ticks; begin = []; end = [] }

-- ---- the map @ of counts

abbrev pub counts : MapId
counts = record { 0 = 0 }

abbrev pub counts_decl : MapDecl
counts_decl = record { name = codes "@"; kind = Aggs Count; key_shape = [] }

-- so many ones, counted
abbrev pub counted : ℕ → Agg
counted n = record { kind = Count; count = pos n; sum = pos n; least = Some (pos 1); greatest = Some (pos 1); buckets = Plain }

-- the rows of a map without keys
abbrev pub row_of : ℕ → List (List Value × Cell)
row_of n = ([], cells.Agg (counted n)) ∷ []

-- ---- runs of bodies, which end with a value

-- one is added under a key: `@ = count()`, or `@[..] = count()`
abbrev pub counts_one : {A : Type 0} → ℕ → List Value → A → Interaction A
counts_one actor key ending = Asks (record { object = Cpu actor; op = Add counts key (pos 1) }) (λ reply. Ended ending)

-- at so many tables, from this one on, an operation
abbrev pub at_tables : {A : Type 0} → Op → ℕ → ℕ → List Reply → (List Reply → Interaction A) → Interaction A
at_tables op first zero replies rest = rest replies
at_tables op first (suc n) replies rest =
    Asks (record { object = Cpu first; op = op }) (λ reply. at_tables op (first + 1) n (replies ++ reply ∷ []) rest)

-- `print(@)` where there are so many actors, and then more
abbrev pub prints : {A : Type 0} → ℕ → Interaction A → Interaction A
prints actors rest = at_tables (Read counts) 0 actors [] (λ replies.
    Asks (record { object = Out; op = Emit (items.Map counts (merged (Aggs Count) replies) 0 (pos 1)) }) (λ reply. rest))

-- `clear(@)` where there are so many actors
abbrev pub clears : {A : Type 0} → ℕ → A → Interaction A
clears actors ending = at_tables (ClearOf counts) 0 actors [] (λ replies. Ended ending)

-- `exit()`
abbrev pub stops : {A : Type 0} → A → Interaction A
stops ending = Asks (record { object = Clock; op = Stop }) (λ reply. Ended ending)

-- ---- steps

abbrev pub step : ℕ → ObjectId → Op → Reply → Step
step actor object op reply = record { actor = actor; object = object; stamp = 0; op = op; reply = reply }

abbrev pub adds : ℕ → Step
adds actor = step actor (Cpu actor) (Add counts [] (pos 1)) Done

-- a crossing, and whether it is the last
abbrev pub crosses : ℕ → ℕ → Bool → Step
crosses actor tick last = step actor Clock (Cross tick) (Last last)

-- the table of an actor is read, and the number of its ones is answered, if it has a key
abbrev pub reads : ℕ → ℕ → ℕ → Step
reads actor table zero = step actor (Cpu table) (Read counts) (replies.Aggs [])
reads actor table (suc n) = step actor (Cpu table) (Read counts) (replies.Aggs (([], counted (suc n)) ∷ []))

abbrev pub clears_of : ℕ → ℕ → Step
clears_of actor table = step actor (Cpu table) (ClearOf counts) Done

-- the number is printed
abbrev pub emits : ℕ → ℕ → Step
emits actor n = step actor Out (Emit (items.Map counts (row_of n) 0 (pos 1))) Done
