use Rattle.std.proofs.Common.{◌≡◌, ◌≢◌, List, sym, subst, IfSome, Some}
use Rattle.std.specs.Prelude.{slice_get, IsSomeAnd}
use Rattle.bt_core.specs.declared.map.MapDecl.{MapDecl}
use Rattle.bt_core.specs.Ports.{IsTableOp}
use Rattle.agg_core.specs.Answers.{table_answer}
use Rattle.stamped.specs.Sets.{actors_of, ids_of, kinds_of}
use Rattle.stamped.specs.SetSteps.{AreDistinct, Grows, IsReplied, IsRefused, AtPlace}
use Rattle.stamped.specs.SetEnds.{law_for}
use Rattle.stamped.specs.Traces.{clock_of}
use Rattle.step_objects.specs.Free.{IsTableFree}
use Rattle.step_objects.specs.Objects.{cpu_kind}
use Rattle.stamped.proofs.OutcomeLemmas.{on_ok, on_err}
use Rattle.percpu_tables.proofs.TableLemmas.{at_table, id_at, kind_at, tables_are_distinct, reply_kind}
use Rattle.percpu_tables.proofs.tables.Tables.step.Goals as goal

pub step-requires-clause-own : goal.step-requires-clause-own
step-requires-clause-own g c =
    let set = c.args.self.now.set in let maps = c.args.self.now.maps in let n = actors_of set in let object = c.args.object in let op = c.args.op.now in let place = c.place_of-place.result in
    let t = at_table maps n object op place c.requires.own c.place_of-place.ensures in
    let there = id_at (ids_of set) n place object c.args.self.now.ids t.0 t.1 in
    let kind = kind_at (kinds_of cpu_kind set) maps n place c.args.self.now.kinds t.0 in
    subst (λ z. IsSomeAnd z (λ maps. IsTableOp maps op)) (sym kind) t.2

pub step-requires-clause-distinct : goal.step-requires-clause-distinct
step-requires-clause-distinct g c = subst AreDistinct (sym c.args.self.now.ids) (tables_are_distinct (actors_of c.args.self.now.set))

pub returns-clause-done : goal.returns-clause-done
returns-clause-done g c =
    let set = c.args.self.now.set in let maps = c.args.self.now.maps in let n = actors_of set in let object = c.args.object in let op = c.args.op.now in let place = c.place_of-place.result in
    let t = at_table maps n object op place c.requires.own c.place_of-place.ensures in
    let there = id_at (ids_of set) n place object c.args.self.now.ids t.0 t.1 in
    let kind = kind_at (kinds_of cpu_kind set) maps n place c.args.self.now.kinds t.0 in
    on_ok c.step.result _ _ (subst (λ z. IfSome z (λ o. Grows o op c.args.trace.now c.step.new.trace)) there) c.step.ensures.done

pub returns-clause-replied : goal.returns-clause-replied
returns-clause-replied g c =
    let set = c.args.self.now.set in let maps = c.args.self.now.maps in let n = actors_of set in let object = c.args.object in let op = c.args.op.now in let place = c.place_of-place.result in
    let t = at_table maps n object op place c.requires.own c.place_of-place.ensures in
    let there = id_at (ids_of set) n place object c.args.self.now.ids t.0 t.1 in
    let kind = kind_at (kinds_of cpu_kind set) maps n place c.args.self.now.kinds t.0 in
    on_ok c.step.result _ _ (λ r. reply_kind maps object op place c.step.new.trace c.args.self.now.fine t.1 t.2
    (subst (λ z. IfSome z (λ maps. IsReplied (IsTableOp maps) (table_answer maps) op c.step.new.trace)) kind r)) c.step.ensures.replied

pub returns-clause-elsewhere : goal.returns-clause-elsewhere
returns-clause-elsewhere g c o other =
    let set = c.args.self.now.set in let maps = c.args.self.now.maps in let n = actors_of set in let object = c.args.object in let op = c.args.op.now in let place = c.place_of-place.result in
    let t = at_table maps n object op place c.requires.own c.place_of-place.ensures in
    let there = id_at (ids_of set) n place object c.args.self.now.ids t.0 t.1 in
    let kind = kind_at (kinds_of cpu_kind set) maps n place c.args.self.now.kinds t.0 in
    c.step.ensures.elsewhere o (subst (λ z. IfSome z (λ here. o ≢ here)) (sym there) other)

pub returns-clause-cause : goal.returns-clause-cause
returns-clause-cause g c room =
    let set = c.args.self.now.set in let maps = c.args.self.now.maps in let n = actors_of set in let object = c.args.object in let op = c.args.op.now in let place = c.place_of-place.result in
    let t = at_table maps n object op place c.requires.own c.place_of-place.ensures in
    let there = id_at (ids_of set) n place object c.args.self.now.ids t.0 t.1 in
    let kind = kind_at (kinds_of cpu_kind set) maps n place c.args.self.now.kinds t.0 in
    let refused = λ (ms : List MapDecl). IsRefused (law_for (λ (ms : List MapDecl). IsTableOp ms) table_answer n ms) IsTableFree (clock_of c.args.trace.now) op in
    on_err c.step.result _ _ (λ r. (
      place,
      subst (λ ids. slice_get ids place ≡ Some object) c.args.self.now.ids there,
      subst (λ z. IfSome z (λ ms. AtPlace (refused ms) place c.args.turns.now.1 c.step.new.turns.1)) kind r,
    ))
    (c.step.ensures.cause room)
