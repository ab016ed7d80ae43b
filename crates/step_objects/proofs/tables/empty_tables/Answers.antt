use Rattle.step_objects.specs.declared.table.Table.{Table}
use Rattle.bt_core.specs.declared.agg.Agg.{Agg}
use Rattle.std.proofs.Common.{◌≡◌, [], ◌∷◌, ◌++◌, replicate, ap, ◌∙◌, arith, length, List}
use Rattle.std.proofs.lemmas.List.{replicate_more, length-replicate}
use Rattle.step_objects.proofs.tables.empty_tables.Goals as goal

pub loop-at-init : goal.loop-at-init
loop-at-init c = (c.in_ok-tables.ensures.items, c.in_ok-tables.ensures.exact)

pub loop-at-preserved : goal.loop-at-preserved
loop-at-preserved c = (
  c.push_reserved.ensures.items ∙ (λ i. c.loop-at.invariant.0 i ++ (record { rows = c.new.ensures i; lost = 0 }) ∷ [])
      ∙ replicate_more c.loop-at._at (record { rows = []; lost = 0 }),
  c.push_reserved.ensures.capacity ∙ c.loop-at.invariant.1,
)

pub push_reserved-requires : goal.push_reserved-requires
push_reserved-requires c = let blank : Table Agg = record { rows = []; lost = 0 } in
    let made = ap (λ (ts : List (Table Agg)). length ts) c.loop-at.invariant.0 in
    omega (arith, made, length-replicate {A = Table Agg} c.loop-at._at blank, c.loop-at.tables.ok.0, c.loop-at.invariant.1, c.loop-at-test.true)

pub returns : goal.returns
returns c = c.loop-at.invariant.0 ∙ ap (λ n. replicate n (record { rows = []; lost = 0 })) (let all : c.loop-at._at ≡ c.args.count = omega arith in all)
