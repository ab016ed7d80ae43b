-- Each step of an interleaving is one that its object takes, and its reply comes, where that is asked of replies alone.
use Rattle.std.proofs.Common.{◌≡◌, ℕ, ◌<◌, Bool, true, false, cond, List, [], ◌∷◌, ◌++◌, refl, sym, ap, ◌∙◌, subst, append_assoc, append-nil}
use Rattle.std.specs.List.{AllByRecursion}
use Rattle.std.proofs.lemmas.List.Elements.{recursion_from_All}
use Rattle.bt_core.specs.declared.map.MapDecl.{MapDecl}
use Rattle.bt_core.specs.declared.step.ObjectId.{ObjectId}
use Rattle.bt_core.specs.declared.step.Op.{Op}
use Rattle.bt_core.specs.declared.step.Reply.{Reply}
use Rattle.bt_core.specs.declared.step.Step.{Step}
use Rattle.bt_core.specs.Interaction.{Call, Interaction, Ended, Asks, Runs}
use Rattle.bt_core.specs.Ports.{IsReplyOf}
use Rattle.bt_core.specs.Steps.{is_of, of_actor, is_on, on_object, operations, RepliesFollow}
use Rattle.bt_core.proofs.StepLists.{is_same_object-true, of_actor-own}
use Rattle.bt_meaning.specs.Interleavings.{IsInterleaving}
use Rattle.bt_meaning.specs.Replays.{Replay, cpus_of, begin_of, cpu_of, end_of, answers_of}
use Rattle.bt_meaning.proofs.Eachs.{each_so, each_both, each_front, each_back, each_kept}
use Rattle.code_runs.specs.Agree.{AllReplies, Comes}
use Rattle.code_runs.proofs.SameRuns.{AsksWhere, HasKind}

-- a step that its object takes, with a reply that comes
abbrev IsFine : (Reply → Type 0) → (ObjectId → Op → Type 0) → List MapDecl → Step → Type 0
IsFine holds calls maps s = calls s.object s.op × HasKind holds maps s

-- a step of a run whose earlier replies came
asks_at : {A : Type 0} (holds : Reply → Type 0) (calls : ObjectId → Op → Type 0) (maps : List MapDecl) (t : Interaction A) (front : List Step) (s : Step) (back : List Step) (v : A)
    → AsksWhere holds calls maps t → Runs t (front ++ s ∷ back) v → AllByRecursion (IsFine holds calls maps) front → calls s.object s.op
asks_at holds calls maps (Ended a) [] s back v asks runs fine = absurd runs
asks_at holds calls maps (Asks c f) [] s back v asks runs fine = subst (λ (d : Call). calls d.object d.op) (sym runs.0) asks.0
asks_at holds calls maps (Ended a) (e ∷ front) s back v asks runs fine = absurd runs
asks_at holds calls maps (Asks c f) (e ∷ front) s back v asks runs fine =
    asks_at holds calls maps (f e.reply) front s back v (asks.1 e.reply (subst (λ (d : Call). Comes holds maps d e.reply) runs.0 fine.0.1)) runs.1 fine.1

module _ (holds : Reply → Type 0) (p : Replay) (calls : ObjectId → Op → Type 0)
    (kinds : (object : ObjectId) (before : List Op) (op : Op) → AllByRecursion (calls object) before → calls object op → IsReplyOf p.maps object op (answers_of p object before op)) where
  abbrev Fine : Step → Type 0
  Fine s = IsFine holds calls p.maps s

  at_object : (o : ObjectId) (steps : List Step) → AllByRecursion Fine steps → AllByRecursion (calls o) (operations (on_object o steps))
  at_object o [] h = tt
  at_object o (s ∷ ss) h = by (at_object o ss h.1) (is_on o s) refl
    where
      by : AllByRecursion (calls o) (operations (on_object o ss)) → (b : Bool) → is_on o s ≡ b → AllByRecursion (calls o) (operations (cond b (s ∷ on_object o ss) (on_object o ss)))
      by rest true e = (subst (λ (x : ObjectId). calls x s.op) (is_same_object-true s.object o e) h.0.0, rest)
      by rest false e = rest

  module _ (prior part more : List Step) (follow : RepliesFollow (answers_of p) (prior ++ (part ++ more))) (early : AllByRecursion Fine prior)
      (next : (front : List Step) (s : Step) (back : List Step) → part ≡ front ++ s ∷ back → AllByRecursion Fine front → calls s.object s.op) where
    part_go : (front rest : List Step) → part ≡ front ++ rest → AllReplies holds rest → AllByRecursion Fine front → AllByRecursion Fine rest
    part_go front [] e held fine = tt
    part_go front (s ∷ rest) e held fine =
        let can = next front s rest e fine in
        let cut : prior ++ (part ++ more) ≡ (prior ++ front) ++ s ∷ (rest ++ more) =
        ap (λ (l : List Step). prior ++ (l ++ more)) e ∙ ap (λ (l : List Step). prior ++ l) (append_assoc front (s ∷ rest) more) ∙ sym (append_assoc prior front (s ∷ (rest ++ more))) in
        let before = each_both Fine prior front early fine in
        let kind : IsReplyOf p.maps s.object s.op s.reply =
        subst (λ (r : Reply). IsReplyOf p.maps s.object s.op r) (sym (follow (prior ++ front) s (rest ++ more) cut))
        (kinds s.object (operations (on_object s.object (prior ++ front))) s.op (at_object s.object (prior ++ front) before) can) in
        let here : Fine s = (can, (kind, held.0)) in
        (here, part_go (front ++ s ∷ []) rest (e ∙ sym (append_assoc front (s ∷ []) rest)) held.1 (each_both Fine front (s ∷ []) fine (here, tt)))

    part_fine : AllReplies holds part → AllByRecursion Fine part
    part_fine held = part_go [] part refl held tt

  module _ (begin : AsksWhere holds calls p.maps (begin_of p)) (cpu : (a : ℕ) → a < cpus_of p → AsksWhere holds calls p.maps (cpu_of p a)) (end : AsksWhere holds calls p.maps (end_of p))
      (steps : List Step) (i : IsInterleaving p steps) (held : AllReplies holds steps) where
    abbrev Held : Step → Type 0
    Held s = holds s.reply

    whole : RepliesFollow (answers_of p) (i.first ++ (i.middle ++ i.last))
    whole = subst (λ (l : List Step). RepliesFollow (answers_of p) l) i.parts i.replies

    all_held : AllReplies holds (i.first ++ (i.middle ++ i.last))
    all_held = subst (AllReplies holds) i.parts held

    rest_held : AllReplies holds (i.middle ++ i.last)
    rest_held = each_back Held i.first (i.middle ++ i.last) all_held

    first_fine : AllByRecursion Fine i.first
    first_fine = part_fine [] i.first (i.middle ++ i.last) whole tt
        (λ front s back e fine. asks_at holds calls p.maps (begin_of p) front s back i.begin.value begin (subst (λ (l : List Step). Runs (begin_of p) l i.begin.value) e i.begin.runs) fine)
        (each_front Held i.first (i.middle ++ i.last) all_held)

    at_cpu : (front : List Step) (s : Step) (back : List Step) → i.middle ≡ front ++ s ∷ back → of_actor s.actor i.middle ≡ of_actor s.actor front ++ s ∷ of_actor s.actor back
    at_cpu front s back e = ap (of_actor s.actor) e ∙ of_actor-own s.actor front s back refl

    middle_fine : AllByRecursion Fine i.middle
    middle_fine = part_fine i.first i.middle i.last whole first_fine (λ front s back e fine.
        let low : s.actor < cpus_of p = (each_back (λ (t : Step). t.actor < cpus_of p) front (s ∷ back) (subst (λ (l : List Step). AllByRecursion (λ (t : Step). t.actor < cpus_of p) l) e (recursion_from_All (λ (t : Step). t.actor < cpus_of p) i.middle i.middle_is_cpus))).0 in
        let own = i.each_cpu s.actor low in
        asks_at holds calls p.maps (cpu_of p s.actor) (of_actor s.actor front) s (of_actor s.actor back) own.value (cpu s.actor low)
        (subst (λ (l : List Step). Runs (cpu_of p s.actor) l own.value) (at_cpu front s back e) own.runs)
        (each_kept Fine (is_of s.actor) front fine)) (each_front Held i.middle i.last rest_held)

    end_whole : RepliesFollow (answers_of p) ((i.first ++ i.middle) ++ (i.last ++ []))
    end_whole = subst (λ (l : List Step). RepliesFollow (answers_of p) l) (sym (append_assoc i.first i.middle i.last) ∙ ap (λ (l : List Step). (i.first ++ i.middle) ++ l) (sym (append-nil i.last))) whole

    last_fine : AllByRecursion Fine i.last
    last_fine = part_fine (i.first ++ i.middle) i.last [] end_whole (each_both Fine i.first i.middle first_fine middle_fine)
        (λ front s back e fine. asks_at holds calls p.maps (end_of p) front s back i.end.value end (subst (λ (l : List Step). Runs (end_of p) l i.end.value) e i.end.runs) fine)
        (each_back Held i.middle i.last rest_held)

    pub kinds_of : AllByRecursion (HasKind holds p.maps) steps
    kinds_of = each_so Fine (HasKind holds p.maps) (λ s fine. fine.1) steps
        (subst (AllByRecursion Fine) (sym i.parts) (each_both Fine i.first (i.middle ++ i.last) first_fine (each_both Fine i.middle i.last middle_fine last_fine)))
