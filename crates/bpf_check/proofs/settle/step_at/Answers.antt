use Rattle.std.proofs.Common.{◌≤◌, arith}
use Rattle.bpf_check.specs.Sheet.{sheet_of}
use Rattle.bpf_check.proofs.Tables.{refuses_all, settles_at, skips_at}
use Rattle.bpf_check.proofs.Inside.{ways_inside, ways_few}
use Rattle.bpf_check.proofs.Weights.{few_credit}
use Rattle.bpf_check.proofs.settle.step_at.Goals as goal

pub returns-in-None : goal.returns-in-None
returns-in-None c = skips_at _ _ _ _ c.requires.settled c.requires.inside c.in-None.is

pub leads-requires-clause-credit : goal.leads-requires-clause-credit
leads-requires-clause-credit c =
    let table = c.args.table.now in
    let seen = c.in-Some.seen in
    let few : seen.credit ≤ 4096 = few_credit table seen 4096 (c.requires.settled.few c.args.at seen c.in-Some.is) (omega (arith, c.requires.settled.long, c.requires.few)) in
    omega (arith, few)

pub returns-in-None-leads : goal.returns-in-None-leads
returns-in-None-leads c = refuses_all _ _ _ _ _ _ c.requires.settled c.in-Some.is c.leads.ensures c.in-None-leads.is

pub advance-requires : goal.advance-requires
advance-requires c = ways_inside _ c.args.code.now _ c.args.at c.in-Some.seen c.leads.result c.in-Some-leads.ways c.requires.settled.long c.leads.ensures c.in-Some-leads.is

pub returns-in-Some-leads : goal.returns-in-Some-leads
returns-in-Some-leads c =
    settles_at _ _ _ _ _ _ _ _ _ c.requires.settled c.requires.few c.requires.inside c.in-Some.is c.leads.ensures c.in-Some-leads.is
    (ways_few (sheet_of c.args.typed.now c.args.payload) c.args.code.now c.args.at c.in-Some.seen c.leads.result c.in-Some-leads.ways c.leads.ensures c.in-Some-leads.is)
    c.advance.ensures
