use Rattle.std.proofs.Common.{◌≡◌, List, Some, None, sym, subst, arith}
use Rattle.bt_core.specs.declared.map.Shape.{Shape}
use Rattle.bt_core.specs.declared.map.Shape.TheVariants.{Int}
use Rattle.bt_core.specs.Kinds.{HasShape}
use Rattle.helper_abi.specs.Reading.{values_at}
use Rattle.helper_abi.proofs.ReadingLemmas.{HasShape-length, one_of, some_not_none}
use Rattle.helper_abi.proofs.reading.key_at.Goals as goal

pub of-requires : goal.of-requires
of-requires c = rw c.into_vec.ensures (omega (arith, HasShape-length c.args.shapes.now c.in-Ok.values c.in-Ok.ensures.shaped))

pub returns-in-Some-clause-read : goal.returns-in-Some-clause-read
returns-in-Some-clause-read c =
    let one = sym (one_of c.args.shapes.now Int c.in-len1.len_at_least c.in-len1.len_below) in
    subst (λ (hs : List Shape). values_at c.args.memory.now hs c.args.address ≡ Some c.in-Some.key) one c.in-Some.ensures.value

pub returns-in-Some-clause-outside : goal.returns-in-Some-clause-outside
returns-in-Some-clause-outside c =
    let one = sym (one_of c.args.shapes.now Int c.in-len1.len_at_least c.in-len1.len_below) in
    some_not_none (values_at c.args.memory.now c.args.shapes.now c.args.address) c.in-Some.key (subst (λ (hs : List Shape). values_at c.args.memory.now hs c.args.address ≡ Some c.in-Some.key) one c.in-Some.ensures.value)

pub returns-in-Some-clause-shaped : goal.returns-in-Some-clause-shaped
returns-in-Some-clause-shaped c =
    let one = sym (one_of c.args.shapes.now Int c.in-len1.len_at_least c.in-len1.len_below) in
    subst (λ (hs : List Shape). HasShape hs c.in-Some.key) one c.in-Some.ensures.shaped

pub returns-in-None-clause-read : goal.returns-in-None-clause-read
returns-in-None-clause-read c =
    let one = sym (one_of c.args.shapes.now Int c.in-len1.len_at_least c.in-len1.len_below) in
    subst (λ (hs : List Shape). values_at c.args.memory.now hs c.args.address ≡ None) one c.in-None.ensures.value
