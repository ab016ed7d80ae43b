use Rattle.std.proofs.Common.{rules, ◌≡◌, ℕ, List, [], length, map, take, get_or, sym, ap, ◌∙◌, subst, arith}
use Rattle.std.proofs.lemmas.List.{length-take-le, length-map, take-map}
use Rattle.std.proofs.Math.ListN.{get_or-map}
use Rattle.std.specs.List.{AllByRecursion}
use Rattle.bt_core.specs.declared.map.MapDecl.{MapDecl}
use Rattle.bt_core.specs.declared.step.Step.{Step}
use Rattle.std.specs.Prelude.{All}
use Rattle.bt_core.specs.Kinds.{IsFineDecl}
use Rattle.bt_core.specs.Ports.{IsReplyOf}
use Rattle.bt_core.specs.Steps.{on_object, operations}
use Rattle.bt_core.proofs.StepLists.{AtEach-none}
use Rattle.agg_core.specs.Answers.{answer}
use Rattle.step_entries.specs.Blank.{blank}
use Rattle.begun_meaning.specs.Parts.{IsStampedAfter, NotBeforeLast}
use Rattle.run_objects.specs.Objects.{Stand}
use Rattle.run_objects.specs.Worlds.{World}
use Rattle.account_replay.specs.Replaying.{CanBeMade, IsWrongNext, world_of}
use Rattle.account_replay.proofs.ReplayLemmas.{kinds_follow, wrong_alike}
use Rattle.account_replay.proofs.replay.replay.Goals as goal

pub take_all-requires : goal.take_all-requires
take_all-requires c =
    let maps : c.of.result.value ≡ c.args.maps.now = c.of.ensures in
    record {
      within = omega arith;
      can = subst (λ (m : List MapDecl). AllByRecursion (CanBeMade (record { cpus = c.args.cpus; ticks = c.args.ticks; maps = m })) c.args.entries) (sym maps) c.requires.can;
      stand = subst (λ (m : List MapDecl). Stand (record { cpus = c.args.cpus; ticks = c.args.ticks; maps = m }) [] c.in_ok-objects.objects) (sym maps) c.in_ok-objects.ensures;
      clocks = c.in_ok-clocks.ensures;
      replies = AtEach-none (λ before s. s.reply ≡ answer c.of.result.value c.args.cpus s.object (operations (on_object s.object before)) s.op);
      stamps = AtEach-none (IsStampedAfter c.args.cpus);
      order = AtEach-none NotBeforeLast;
    }

pub returns-clause-told : goal.returns-clause-told
returns-clause-told c =
    let new = c.take_all.new.state in
    let size : length c.first_steps.result ≡ new.at = ap length c.first_steps.ensures ∙ length-take-le new.at new.entries c.in_ok-take_all.ensures.within in
    ap (map blank) c.first_steps.ensures ∙ sym (take-map blank new.at new.entries) ∙ ap (take new.at) c.in_ok-take_all.ensures.told ∙ ap (λ n. take n (map blank c.args.entries)) (sym size)

pub returns-clause-wrong : goal.returns-clause-wrong
returns-clause-wrong c = λ d lt.
    let new = c.take_all.new.state in
    let size : length c.first_steps.result ≡ new.at = ap length c.first_steps.ensures ∙ length-take-le new.at new.entries c.in_ok-take_all.ensures.within in
    let count : length new.entries ≡ length c.args.entries = sym (length-map new.entries blank) ∙ ap length c.in_ok-take_all.ensures.told ∙ length-map c.args.entries blank in
    let alike : blank (get_or new.entries new.at d) ≡ blank (get_or c.args.entries new.at d) =
    sym (get_or-map blank new.entries new.at d) ∙ ap (λ l. get_or l new.at (blank d)) c.in_ok-take_all.ensures.told ∙ get_or-map blank c.args.entries new.at d in
    let cpus : new.cpus ≡ c.args.cpus = search rules in
    let there : IsWrongNext new.cpus (take new.at new.entries) (get_or c.args.entries new.at d) =
    wrong_alike new.cpus (take new.at new.entries) (get_or new.entries new.at d) (get_or c.args.entries new.at d) alike (c.in_ok-take_all.ensures.wrong d (omega arith)) in
    subst (λ (z : (ℕ × List Step) × ℕ). IsWrongNext z.0.0 z.0.1 (get_or c.args.entries z.1 d)) (λ i. ((cpus i, sym c.first_steps.ensures i), sym size i)) there

pub returns-clause-kinds : goal.returns-clause-kinds
returns-clause-kinds c =
    let new = c.take_all.new.state in
    let maps : new.maps.value ≡ c.args.maps.now = ap (λ (w : World). w.maps) c.in_ok-take_all.ensures.world ∙ c.of.ensures in
    subst (λ (z : List MapDecl × List Step). AllByRecursion (λ (s : Step). IsReplyOf z.0 s.object s.op s.reply) z.1) (λ i. (maps i, sym c.first_steps.ensures i))
    (kinds_follow (world_of new) (take new.at new.entries) (subst (All IsFineDecl) (sym maps) c.requires.fine) c.in_ok-take_all.ensures.can c.in_ok-take_all.ensures.replies)

pub returns-clause-stand : goal.returns-clause-stand
returns-clause-stand c = λ all.
    let new = c.take_all.new.state in
    let size : length c.first_steps.result ≡ new.at = ap length c.first_steps.ensures ∙ length-take-le new.at new.entries c.in_ok-take_all.ensures.within in
    let count : length new.entries ≡ length c.args.entries = sym (length-map new.entries blank) ∙ ap length c.in_ok-take_all.ensures.told ∙ length-map c.args.entries blank in
    let whole : new.at ≡ length new.entries = sym size ∙ all ∙ sym count in
    let world : world_of new ≡ record { cpus = c.args.cpus; ticks = c.args.ticks; maps = c.args.maps.now } =
    c.in_ok-take_all.ensures.world ∙ (λ i. record { cpus = c.args.cpus; ticks = c.args.ticks; maps = c.of.ensures i }) in
    subst (λ (z : World × List Step). Stand z.0 z.1 new.objects) (λ i. (world i, sym c.first_steps.ensures i)) (c.in_ok-take_all.ensures.stand whole)
