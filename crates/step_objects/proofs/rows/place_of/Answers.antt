use Rattle.std.proofs.Common.{◌≤◌, List, Bool, true, false, sym, ap, ◌∙◌, is_some, subst}
use Rattle.std.specs.List.{position}
use Rattle.std.specs.Map.{keys_of, lookup}
use Rattle.bt_core.specs.declared.value.Value.{Value}
use Rattle.step_objects.proofs.KeyEq.{eq_is}
use Rattle.step_objects.proofs.PlaceLaws.{place-of-index, only-first, only-known}
use Rattle.step_objects.proofs.rows.place_of.Goals as goal

pub returns-then-len-gt1-clause-first : goal.returns-then-len-gt1-clause-first
returns-then-len-gt1-clause-first g c =
    let es = c.args.table.now.entries in let k = c.args.key.now in
    place-of-index k c.get_index_of.result es (c.get_index_of.ensures.index ∙ ap (λ (e : List Value → List Value → Bool). position (e k) (keys_of es)) eq_is)

pub returns-then-len-gt1-clause-known : goal.returns-then-len-gt1-clause-known
returns-then-len-gt1-clause-known g c =
    let es = c.args.table.now.entries in let k = c.args.key.now in
    c.get_index_of.ensures.found ∙ ap (λ (e : List Value → List Value → Bool). is_some (lookup (e k) es)) eq_is

pub returns-then-eq-clause-first : goal.returns-then-eq-clause-first
returns-then-eq-clause-first g c =
    let es = c.args.table.now.entries in let k = c.args.key.now in let first = c.in-Some.first.now in
    only-first k (first, c.in-Some.field-0-1.now) es (sym c.in-Some.ensures.entry) (subst (λ n. n ≤ 1) c.len.ensures.len c.if-len-gt1.false)
    (sym (ap (λ (e : List Value → List Value → Bool). e first k) eq_is) ∙ sym c.eq.ensures ∙ c.if-eq.true)

pub returns-then-eq-clause-known : goal.returns-then-eq-clause-known
returns-then-eq-clause-known g c =
    let es = c.args.table.now.entries in let k = c.args.key.now in let first = c.in-Some.first.now in
    only-known k (first, c.in-Some.field-0-1.now) es true (sym c.in-Some.ensures.entry) (subst (λ n. n ≤ 1) c.len.ensures.len c.if-len-gt1.false)
    (sym (ap (λ (e : List Value → List Value → Bool). e first k) eq_is) ∙ sym c.eq.ensures ∙ c.if-eq.true)

pub returns-else-eq-clause-known : goal.returns-else-eq-clause-known
returns-else-eq-clause-known g c =
    let es = c.args.table.now.entries in let k = c.args.key.now in let first = c.in-Some.first.now in
    only-known k (first, c.in-Some.field-0-1.now) es false (sym c.in-Some.ensures.entry) (subst (λ n. n ≤ 1) c.len.ensures.len c.if-len-gt1.false)
    (sym (ap (λ (e : List Value → List Value → Bool). e first k) eq_is) ∙ sym c.eq.ensures ∙ c.if-eq.false)
