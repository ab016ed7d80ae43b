-- Replies that are held, with one step more; and aggregates, one after the other.
use Rattle.std.proofs.Common.{◌≡◌, ◌+◌, ◌<◌, ◌≤◌, ℕ, List, [], ◌∷◌, ◌++◌, length, drop, sym, ap, ◌∙◌, subst}
use Rattle.std.specs.Prelude.{get_or}
use Rattle.std.proofs.lemmas.List.{drop_more, drop_all}
use Rattle.bt_core.specs.declared.agg.Agg.{Agg}
use Rattle.bt_core.specs.declared.step.Step.{Step}
use Rattle.bt_core.specs.declared.value.Value.{Value}
use Rattle.step_list.specs.HeldReplies.{IsHeldAgg, AreHeldAggs, IsHeldReply, AreHeldReplies}

pub held_append : (ss ts : List Step) → AreHeldReplies ss → AreHeldReplies ts → AreHeldReplies (ss ++ ts)
held_append [] ts h k = k
held_append (s ∷ ss) ts h k = (h.0, held_append ss ts h.1 k)

pub held_snoc : (ss : List Step) (s : Step) → AreHeldReplies ss → IsHeldReply s.reply → AreHeldReplies (ss ++ s ∷ [])
held_snoc ss s h k = held_append ss (s ∷ []) h (k, tt)

pub aggs_more : (rows : List (List Value × Agg)) (n : ℕ) (row : List Value × Agg) → n < length rows → row ≡ get_or rows n row → IsHeldAgg row.1 → AreHeldAggs (drop (n + 1) rows) → AreHeldAggs (drop n rows)
aggs_more rows n row below item held h = subst AreHeldAggs (sym (drop_more rows n row below ∙ ap (λ (y : List Value × Agg). y ∷ drop (n + 1) rows) (sym item))) (held, h)

pub aggs_none : (rows : List (List Value × Agg)) (n : ℕ) → length rows ≤ n → AreHeldAggs (drop n rows)
aggs_none rows n h = subst AreHeldAggs (sym (drop_all n rows h)) tt
