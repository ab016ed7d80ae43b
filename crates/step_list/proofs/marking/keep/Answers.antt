use Rattle.std.proofs.Common.{[], append-nil, length, sym, ap, ◌∙◌}
use Rattle.bt_core.specs.declared.step.ObjectId.{ObjectId}
use Rattle.step_list.specs.Deeds.{deed}
use Rattle.step_list.proofs.marking.keep.Goals as goal

pub keep_whole-requires : goal.keep_whole-requires
keep_whole-requires c = record { whole = c.requires.whole }

pub returns-then-len-ge4294967295-clause-keys : goal.returns-then-len-ge4294967295-clause-keys
returns-then-len-ge4294967295-clause-keys c = ([], sym (append-nil c.args.keys.now.items))

pub returns-then-len-ge4294967295-clause-whole : goal.returns-then-len-ge4294967295-clause-whole
returns-then-len-ge4294967295-clause-whole c = c.keep_whole.ensures.whole

pub returns-then-len-ge4294967295-clause-prints : goal.returns-then-len-ge4294967295-clause-prints
returns-then-len-ge4294967295-clause-prints c = ([], sym (append-nil c.args.prints.now))

pub returns-then-len-ge4294967295-clause-within : goal.returns-then-len-ge4294967295-clause-within
returns-then-len-ge4294967295-clause-within c = c.keep_whole.ensures.within (length c.args.keys.now.items) (length c.args.prints.now)

pub returns-then-len-ge4294967295-clause-deed : goal.returns-then-len-ge4294967295-clause-deed
returns-then-len-ge4294967295-clause-deed c = c.keep_whole.ensures.deed c.args.keys.now.items c.args.prints.now

pub keep_shared-requires-clause-keys : goal.keep_shared-requires-clause-keys
keep_shared-requires-clause-keys c = c.requires.keys

pub keep_shared-requires-clause-whole : goal.keep_shared-requires-clause-whole
keep_shared-requires-clause-whole c = c.requires.whole

pub keep_add-requires-clause-keys : goal.keep_add-requires-clause-keys
keep_add-requires-clause-keys c = c.requires.keys

pub keep_add-requires-clause-whole : goal.keep_add-requires-clause-whole
keep_add-requires-clause-whole c = c.requires.whole

pub keep_check-requires-clause-whole : goal.keep_check-requires-clause-whole
keep_check-requires-clause-whole c = c.requires.whole

pub keep_emit-requires-clause-whole : goal.keep_emit-requires-clause-whole
keep_emit-requires-clause-whole c = c.requires.whole

pub returns-in-Shared-clause-keys : goal.returns-in-Shared-clause-keys
returns-in-Shared-clause-keys c = c.keep_shared.ensures.keys

pub returns-in-Shared-clause-whole : goal.returns-in-Shared-clause-whole
returns-in-Shared-clause-whole c = c.keep_shared.ensures.whole

pub returns-in-Shared-clause-prints : goal.returns-in-Shared-clause-prints
returns-in-Shared-clause-prints c = ([], sym (append-nil c.args.prints.now))

pub returns-in-Shared-clause-within : goal.returns-in-Shared-clause-within
returns-in-Shared-clause-within c = c.keep_shared.ensures.within (length c.args.prints.now)

pub returns-in-Shared-clause-deed : goal.returns-in-Shared-clause-deed
returns-in-Shared-clause-deed c =
    c.keep_shared.ensures.deed c.args.prints.now ∙ ap (λ (object : ObjectId). deed c.args.actor object c.args.op.now c.args.reply.now) (sym c.in-Shared.is)

pub returns-in-Cpu-clause-keys : goal.returns-in-Cpu-clause-keys
returns-in-Cpu-clause-keys c = c.keep_add.ensures.keys

pub returns-in-Cpu-clause-whole : goal.returns-in-Cpu-clause-whole
returns-in-Cpu-clause-whole c = c.keep_add.ensures.whole

pub returns-in-Cpu-clause-prints : goal.returns-in-Cpu-clause-prints
returns-in-Cpu-clause-prints c = ([], sym (append-nil c.args.prints.now))

pub returns-in-Cpu-clause-within : goal.returns-in-Cpu-clause-within
returns-in-Cpu-clause-within c = c.keep_add.ensures.within (length c.args.prints.now)

pub returns-in-Cpu-clause-deed : goal.returns-in-Cpu-clause-deed
returns-in-Cpu-clause-deed c =
    c.keep_add.ensures.deed c.args.prints.now ∙ ap (λ (object : ObjectId). deed c.args.actor object c.args.op.now c.args.reply.now) (sym c.in-Cpu.is)

pub returns-in-Clock-clause-keys : goal.returns-in-Clock-clause-keys
returns-in-Clock-clause-keys c = ([], sym (append-nil c.args.keys.now.items))

pub returns-in-Clock-clause-whole : goal.returns-in-Clock-clause-whole
returns-in-Clock-clause-whole c = c.keep_check.ensures.whole

pub returns-in-Clock-clause-prints : goal.returns-in-Clock-clause-prints
returns-in-Clock-clause-prints c = ([], sym (append-nil c.args.prints.now))

pub returns-in-Clock-clause-within : goal.returns-in-Clock-clause-within
returns-in-Clock-clause-within c = c.keep_check.ensures.within (length c.args.keys.now.items) (length c.args.prints.now)

pub returns-in-Clock-clause-deed : goal.returns-in-Clock-clause-deed
returns-in-Clock-clause-deed c =
    c.keep_check.ensures.deed c.args.keys.now.items c.args.prints.now ∙ ap (λ (object : ObjectId). deed c.args.actor object c.args.op.now c.args.reply.now) (sym c.in-Clock.is)

pub returns-in-Out-clause-keys : goal.returns-in-Out-clause-keys
returns-in-Out-clause-keys c = ([], sym (append-nil c.args.keys.now.items))

pub returns-in-Out-clause-whole : goal.returns-in-Out-clause-whole
returns-in-Out-clause-whole c = c.keep_emit.ensures.whole

pub returns-in-Out-clause-prints : goal.returns-in-Out-clause-prints
returns-in-Out-clause-prints c = c.keep_emit.ensures.prints

pub returns-in-Out-clause-within : goal.returns-in-Out-clause-within
returns-in-Out-clause-within c = c.keep_emit.ensures.within (length c.args.keys.now.items)

pub returns-in-Out-clause-deed : goal.returns-in-Out-clause-deed
returns-in-Out-clause-deed c =
    c.keep_emit.ensures.deed c.args.keys.now.items ∙ ap (λ (object : ObjectId). deed c.args.actor object c.args.op.now c.args.reply.now) (sym c.in-Out.is)
