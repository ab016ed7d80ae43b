use Rattle.std.proofs.Common.{◌≡◌, ℕ, ◌<◌, List, ◌++◌, length, get_or, take, drop, sym, ap, ◌∙◌, subst, arith}
use Rattle.std.proofs.Math.Seq.{take-append_seam}
use Rattle.thread_actors.specs.Ran.{HasRun}
use Rattle.thread_actors.proofs.Running.{ready_in}
use Rattle.thread_actors.proofs.side_by_side.run_all.Goals as goal

pub run_each-requires-clause-some : goal.run_each-requires-clause-some
run_each-requires-clause-some g c lifetimes bounds = subst (λ l. 0 < length l) (sym c.as_mut_slice.ensures.value) c.requires.some

pub run_each-requires-clause-ready : goal.run_each-requires-clause-ready
run_each-requires-clause-ready g c lifetimes bounds = ready_in g.B.Bodies.plan c.args.world.now c.args.tasks.now.items c.as_mut_slice.result.now c.as_mut_slice.ensures.value c.requires.ready

-- what is written to a slice of a whole list is the list
over_all : {T : Type 0} (n : ℕ) (news rest : List T) → n ≡ length news → take n (news ++ rest) ≡ news
over_all n news rest e = ap (λ (k : ℕ). take k (news ++ rest)) e ∙ take-append_seam news rest

pub returns-clause-same : goal.returns-clause-same
returns-clause-same g c =
    let olds = c.args.tasks.now.items in let news = c.run_each.new.tasks in
    let kept : length news ≡ length olds = c.run_each.auto.tasks ∙ ap length c.as_mut_slice.ensures.value in
    ap length (over_all c.args.tasks.now.len news (drop (length news) olds) (omega (arith, kept, c.args.tasks.now.ok.0))) ∙ kept

pub returns-clause-ran : goal.returns-clause-ran
returns-clause-ran g c i d lt =
    let olds = c.args.tasks.now.items in let news = c.run_each.new.tasks in let same = c.as_mut_slice.ensures.value in
    let kept : length news ≡ length olds = c.run_each.auto.tasks ∙ ap length same in
    let ran : HasRun g.B.Bodies.plan c.args.world.now (get_or olds i d) (get_or news i d) =
    subst (λ l. HasRun g.B.Bodies.plan c.args.world.now (get_or l i d) (get_or news i d)) same (c.run_each.ensures i d (subst (λ l. i < length l) (sym same) lt)) in
    subst (λ l. HasRun g.B.Bodies.plan c.args.world.now (get_or olds i d) (get_or l i d)) (sym (over_all c.args.tasks.now.len news (drop (length news) olds) (omega (arith, kept, c.args.tasks.now.ok.0)))) ran
