use Rattle.std.proofs.Common.{refl}
use Rattle.std.specs.Vec.{with_item}
use Rattle.run_objects.specs.declared.objects.MapParts.{MapParts}
use Rattle.run_objects.proofs.ObjectLemmas.{ticks_answer, ticks_kept, out_answer, out_kept, table_answers, table_kept, shared_answers, shared_kept, part_there, part_own}
use Rattle.run_objects.proofs.objects.take_at.Goals as goal

pub take_in-requires-clause-there : goal.take_in-requires-clause-there
take_in-requires-clause-there c = let o = c.args.objects.now in
    part_there o c.args.op.now c.args.clock c.args.object c.in-Shared.map c.in-Shared.part c.index_mut-held.result.now c.index_mut-held.result.now
    (record { shared = with_item o.shared c.in-Shared.map.0 c.index_mut-held.result.now; tables = o.tables; ticks = o.ticks; out = o.out })
    c.in-Shared.is c.index_mut-held.ensures.value refl refl refl refl c.requires.stand

pub take_in-requires-clause-own : goal.take_in-requires-clause-own
take_in-requires-clause-own c = let o = c.args.objects.now in
    part_own o c.args.op.now c.args.clock c.args.object c.in-Shared.map c.in-Shared.part c.index_mut-held.result.now c.index_mut-held.result.now
    (record { shared = with_item o.shared c.in-Shared.map.0 c.index_mut-held.result.now; tables = o.tables; ticks = o.ticks; out = o.out })
    c.in-Shared.is c.index_mut-held.ensures.value refl refl refl refl c.requires.stand

pub returns-in-Shared-clause-taken : goal.returns-in-Shared-clause-taken
returns-in-Shared-clause-taken c = let o = c.args.objects.now in let new : MapParts = record { parts = c.take_in.new.list } in
    shared_answers o c.args.op.now c.args.clock c.args.object c.in-Shared.map c.in-Shared.part c.index_mut-held.result.now new
    (record { shared = with_item o.shared c.in-Shared.map.0 new; tables = o.tables; ticks = o.ticks; out = o.out })
    c.in-Shared.is c.index_mut-held.ensures.value refl refl refl refl c.take_in.new.reply c.take_in.result c.take_in.ensures

pub returns-in-Shared-clause-memory : goal.returns-in-Shared-clause-memory
returns-in-Shared-clause-memory c = let o = c.args.objects.now in let new : MapParts = record { parts = c.take_in.new.list } in
    shared_kept o c.args.op.now c.args.clock c.args.object c.in-Shared.map c.in-Shared.part c.index_mut-held.result.now new
    (record { shared = with_item o.shared c.in-Shared.map.0 new; tables = o.tables; ticks = o.ticks; out = o.out })
    c.in-Shared.is c.index_mut-held.ensures.value refl refl refl refl c.take_in.new.reply c.take_in.result c.take_in.ensures

pub returns-in-Cpu-clause-taken : goal.returns-in-Cpu-clause-taken
returns-in-Cpu-clause-taken c = let o = c.args.objects.now in
    table_answers o c.args.op.now c.args.clock c.args.object c.in-Cpu.actor
    (record { shared = o.shared; tables = c.take_in-in-Cpu.new.list; ticks = o.ticks; out = o.out })
    c.in-Cpu.is refl refl refl c.take_in-in-Cpu.new.reply c.take_in-in-Cpu.result c.take_in-in-Cpu.ensures

pub returns-in-Cpu-clause-memory : goal.returns-in-Cpu-clause-memory
returns-in-Cpu-clause-memory c = let o = c.args.objects.now in
    table_kept o c.args.op.now c.args.clock c.args.object c.in-Cpu.actor
    (record { shared = o.shared; tables = c.take_in-in-Cpu.new.list; ticks = o.ticks; out = o.out })
    c.in-Cpu.is refl refl refl c.take_in-in-Cpu.new.reply c.take_in-in-Cpu.result c.take_in-in-Cpu.ensures

pub returns-in-Clock-clause-taken : goal.returns-in-Clock-clause-taken
returns-in-Clock-clause-taken c = let e = c.take.ensures in
    ticks_answer c.args.objects.now c.args.op.now c.args.clock c.args.object c.take.new.self c.in-Clock.is c.take.new.reply c.take.result
    (record { kind = e.kind; replies = e.replies; taken = e.taken; stamp = e.stamp; clock = e.clock; memory = e.memory; same = e.same })

pub returns-in-Clock-clause-memory : goal.returns-in-Clock-clause-memory
returns-in-Clock-clause-memory c = let e = c.take.ensures in
    ticks_kept c.args.objects.now c.args.op.now c.args.clock c.args.object c.take.new.self c.in-Clock.is c.take.new.reply c.take.result
    (record { kind = e.kind; replies = e.replies; taken = e.taken; stamp = e.stamp; clock = e.clock; memory = e.memory; same = e.same })

pub returns-in-Out-clause-taken : goal.returns-in-Out-clause-taken
returns-in-Out-clause-taken c = let e = c.take-in-Out.ensures in
    out_answer c.args.objects.now c.args.op.now c.args.clock c.args.object c.take-in-Out.new.self c.in-Out.is c.take-in-Out.new.reply c.take-in-Out.result
    (record { kind = e.kind; replies = e.replies; taken = e.taken; stamp = e.stamp; clock = e.clock; memory = e.memory; same = e.same })

pub returns-in-Out-clause-memory : goal.returns-in-Out-clause-memory
returns-in-Out-clause-memory c = let e = c.take-in-Out.ensures in
    out_kept c.args.objects.now c.args.op.now c.args.clock c.args.object c.take-in-Out.new.self c.in-Out.is c.take-in-Out.result e.same
