-- Typed blocks ask only for what a port takes that serves the maps that they name.
use Rattle.std.proofs.Common.{◌≡◌, ℕ, zero, suc, ◌+◌, ◌<◌, ◌≤◌, List, [], ◌∷◌, ◌++◌, length, true, false, Option, Some, None, refl, sym, ap, ◌∙◌, subst, arith, append_assoc, append-nil}
use Rattle.std.specs.Prelude.{ℤ, pos, ◌&&◌, slice_get, cond, IsSomeAnd}
use Rattle.std.proofs.lemmas.Bool.{and_parts}
use Rattle.bt_core.specs.declared.map.MapDecl.{MapDecl}
use Rattle.bt_core.specs.declared.map.MapId.{MapId}
use Rattle.bt_core.specs.declared.map.MapKind.{MapKind}
use Rattle.bt_core.specs.declared.map.MapKind.TheVariants.{Ints, Strs, Aggs}
use Rattle.bt_core.specs.declared.map.Shape.{Shape}
use Rattle.bt_core.specs.declared.map.Shape.TheVariants as shapes
use Rattle.bt_core.specs.declared.step.ObjectId.{ObjectId}
use Rattle.bt_core.specs.declared.step.ObjectId.TheVariants.{Cpu}
use Rattle.bt_core.specs.declared.step.Op.{Op}
use Rattle.bt_core.specs.declared.step.Op.TheVariants as ops
use Rattle.bt_core.specs.declared.step.Reply.{Reply}
use Rattle.bt_core.specs.declared.value.Value.{Value}
use Rattle.bt_core.specs.declared.value.Value.TheVariants.{Int, Str}
use Rattle.bt_core.specs.Kinds.{HasShape, IsOfShape, IsOfKind, IsShared, IsAggregation}
use Rattle.bt_core.specs.Ports.{Setting, CanStep}
use Rattle.typed_tree.specs.Scope.{same_shapes, same_kind, is_declared, is_shared, is_summed, is_summed_kind, is_there, is_agg, kind_of_shape}
use Rattle.typed_tree.proofs.Summed.{summed_kind}
use Rattle.ir_code.specs.declared.instr.Instr.{Instr}
use Rattle.ir_code.specs.declared.instr.Instr.TheVariants as i
use Rattle.ir_code.specs.declared.state.State.{State}
use Rattle.map_ops.specs.declared.sweep.Sweep.{Sweep}
use Rattle.map_ops.specs.declared.sweep.Sweep.TheVariants.{Read, Clear, Zero}
use Rattle.map_ops.specs.Holders.{part, kind_of, kind_in, holder, holders, sweep_op, CanSweep}
use Rattle.map_ops.proofs.PartLaws.{part_below}
use Rattle.map_ops.proofs.Sweeping.{sweep_step}
use Rattle.map_ops.specs.Asking.{asked_from, swept}
use Rattle.ir_code.specs.Figures.{sizes_of, instr_bytes}
use Rattle.ir_code.specs.Meaning.{Scene, instr_run, instrs_run}
use Rattle.bt_ir.specs.Running.{CanAsk}
use Rattle.ir_code.specs.Serving.{IsServedAs, ServesInstr, ServesInstrs}
use Rattle.ir_code.specs.Typing.{Ground, front_of, last_of, operand_shapes, gives, names, end_with, turned, may_stand, all_stand, all_turned, has_room, holds_shape, gathers, is_key_shape, is_gathering}
use Rattle.map_ops.specs.Values.{number_of}
use Rattle.ir_code.specs.Stacks.{top, below}
use Rattle.bt_ir.proofs.Asks.{Can-and_then}
use Rattle.ir_code.proofs.Shaped.{same_shapes-is, ends_is, shaped-split, shaped-pop, shaped-put, as_shape-shaped, shape_of-shaped}

-- a declaration that is served, with these keys
pub record Found (setting : Setting) (m : MapId) (key : List Shape) (holds : MapKind → Type 0) : Type 0 where
  pub decl : MapDecl
  pub here : slice_get setting.maps m.0 ≡ Some decl
  pub kind : holds decl.kind
  pub shaped : decl.key_shape ≡ key

of_shape : (k : MapKind) (h : Shape) → same_kind k (kind_of_shape h) ≡ true → k ≡ kind_of_shape h
of_shape Ints shapes.Int e = refl
of_shape Ints shapes.Str e = cc
of_shape Strs shapes.Int e = cc
of_shape Strs shapes.Str e = refl
of_shape (Aggs a) shapes.Int e = cc
of_shape (Aggs a) shapes.Str e = cc

IsHolder : Shape → MapKind → Type 0
IsHolder h k = k ≡ kind_of_shape h

declared_case : (setting : Setting) (m : MapId) (key : List Shape) (h : Shape) (o : Option MapDecl) → slice_get setting.maps m.0 ≡ o → is_declared o (kind_of_shape h) key ≡ true → Found setting m key (IsHolder h)
unfolding IsHolder
declared_case setting m key h None s e = cc
declared_case setting m key h (Some decl) s e =
    let p = and_parts (same_kind decl.kind (kind_of_shape h)) (same_shapes decl.key_shape key) e in
    record { decl = decl; here = s; kind = of_shape decl.kind h p.0; shaped = same_shapes-is decl.key_shape key p.1 }

held : (g : Ground) (setting : Setting) (m : MapId) (key : List Shape) (h : Shape) → IsServedAs setting.maps g.maps m → holds_shape g m.0 key h ≡ true → Found setting m key (IsHolder h)
held g setting m key h s e = declared_case setting m key h (slice_get g.maps m.0) s (and_parts (is_key_shape key) (is_declared (slice_get g.maps m.0) (kind_of_shape h) key) e).1

agg_of : (k : MapKind) → is_agg k ≡ true → IsAggregation k
agg_of Ints e = cc
agg_of Strs e = cc
agg_of (Aggs a) e = tt

gathering_case : (setting : Setting) (m : MapId) (key : List Shape) (o : Option MapDecl) → slice_get setting.maps m.0 ≡ o → is_gathering o key ≡ true → Found setting m key IsAggregation
gathering_case setting m key None s e = cc
gathering_case setting m key (Some decl) s e =
    let p = and_parts (is_agg decl.kind) (same_shapes decl.key_shape key) e in
    record { decl = decl; here = s; kind = agg_of decl.kind p.0; shaped = same_shapes-is decl.key_shape key p.1 }

gathered : (g : Ground) (setting : Setting) (m : MapId) (key : List Shape) → IsServedAs setting.maps g.maps m → gathers g m.0 key ≡ true → Found setting m key IsAggregation
gathered g setting m key s e = gathering_case setting m key (slice_get g.maps m.0) s (and_parts (is_key_shape key) (is_gathering (slice_get g.maps m.0) key) e).1

not_agg : (k : MapKind) → cond (is_agg k) false true ≡ true → IsShared k
not_agg Ints h = tt
not_agg Strs h = tt
not_agg (Aggs a) h = cc

shared_case : (setting : Setting) (m : MapId) (key : List Shape) (o : Option MapDecl) → slice_get setting.maps m.0 ≡ o → is_shared o key ≡ true → Found setting m key IsShared
shared_case setting m key None s e = cc
shared_case setting m key (Some decl) s e =
    let p = and_parts (cond (is_agg decl.kind) false true) (same_shapes decl.key_shape key) e in
    record { decl = decl; here = s; kind = not_agg decl.kind p.0; shaped = same_shapes-is decl.key_shape key p.1 }

-- ---- single calls

kind_shared : (k : MapKind) (h : Shape) → k ≡ kind_of_shape h → IsShared k
kind_shared k shapes.Int e = subst (λ (x : MapKind). IsShared x) (sym e) tt
kind_shared k shapes.Str e = subst (λ (x : MapKind). IsShared x) (sym e) tt

kind_holds : (k : MapKind) (h : Shape) (value : Value) → k ≡ kind_of_shape h → IsOfShape h value → IsOfKind k value
kind_holds k shapes.Int (Int n) e p = subst (λ (x : MapKind). IsOfKind x (Int n)) (sym e) tt
kind_holds k shapes.Int (Str s) e p = absurd p
kind_holds k shapes.Str (Int n) e p = absurd p
kind_holds k shapes.Str (Str s) e p = subst (λ (x : MapKind). IsOfKind x (Str s)) (sym e) tt

get_can : (setting : Setting) (m : MapId) (key : List Shape) (h : Shape) (values : List Value) → Found setting m key (IsHolder h) → HasShape key values → CanStep setting (part m values) (ops.Get values)
unfolding IsHolder
get_can setting m key h values f s = (part_below values, rw f.here (kind_shared f.decl.kind h f.kind, subst (λ (l : List Shape). HasShape l values) (sym f.shaped) s))

set_can : (setting : Setting) (m : MapId) (key : List Shape) (h : Shape) (values : List Value) (v : Value) → Found setting m key (IsHolder h) → HasShape key values → IsOfShape h v → CanStep setting (part m values) (ops.Set values v)
unfolding IsHolder
set_can setting m key h values v f s p =
    (part_below values, rw f.here (kind_shared f.decl.kind h f.kind, (subst (λ (l : List Shape). HasShape l values) (sym f.shaped) s, kind_holds f.decl.kind h v f.kind p)))

delete_can : (setting : Setting) (m : MapId) (key : List Shape) (values : List Value) → Found setting m key IsShared → HasShape key values → CanStep setting (part m values) (ops.Delete values)
delete_can setting m key values f s = (part_below values, rw f.here (f.kind, subst (λ (l : List Shape). HasShape l values) (sym f.shaped) s))

add_can : (setting : Setting) (actor : ℕ) (m : MapId) (key : List Shape) (values : List Value) (n : ℤ) → actor < setting.actors → Found setting m key IsAggregation → HasShape key values → CanStep setting (Cpu actor) (ops.Add m values n)
add_can setting actor m key values n a f s = (a, rw f.here (f.kind, subst (λ (l : List Shape). HasShape l values) (sym f.shaped) s))

-- ---- sweeps

pub sweep_case : (setting : Setting) (m : MapId) (o : Option MapDecl) (actors : ℕ) → slice_get setting.maps m.0 ≡ o → is_there o ≡ true → setting.actors ≡ actors → CanSweep setting m (kind_in o) actors
sweep_case setting m None actors s h e = cc
sweep_case setting m (Some decl) actors s h e = record { declared = rw s refl; tables = e }

summed_case : (setting : Setting) (m : MapId) (key : List Shape) (o : Option MapDecl) → slice_get setting.maps m.0 ≡ o → is_summed o key ≡ true → IsSomeAnd (slice_get setting.maps m.0) (λ decl. IsAggregation decl.kind)
summed_case setting m key None e h = cc
summed_case setting m key (Some decl) e h = rw e (summed_kind decl.kind (and_parts (is_summed_kind decl.kind) (same_shapes decl.key_shape key) h).0)

asked_can : (setting : Setting) (object : ℕ → ObjectId) (op : Op) (replies : List Reply) (first n limit : ℕ) → first + n ≤ limit → ((place : ℕ) → place < limit → CanStep setting (object place) op) → CanAsk setting (λ rs. Unit {0}) (asked_from object op replies first n)
asked_can setting object op replies first zero limit l h = tt
asked_can setting object op replies first (suc n) limit l h = (h first (omega arith), λ r. asked_can setting object op (replies ++ r ∷ []) (first + 1) n limit (omega arith) h)

swept_can : (setting : Setting) (maps : List MapDecl) (m : MapId) (sweep : Sweep) (actors : ℕ) → IsServedAs setting.maps maps m → is_there (slice_get maps m.0) ≡ true → actors ≡ setting.actors → CanAsk setting (λ rs. Unit {0}) (swept sweep (kind_of maps m) m actors)
swept_can setting maps m sweep actors s h e =
    asked_can setting (holder (kind_of maps m) m) (sweep_op sweep (kind_of maps m) m) [] 0 (holders (kind_of maps m) actors) (holders (kind_of maps m) actors) (omega arith)
    (λ place l. sweep_step setting m sweep (kind_of maps m) actors place (sweep_case setting m (slice_get maps m.0) actors s h (sym e)) l)

-- ---- instructions

-- what a run may rely on: the actor has a table, the tables are those of all actors, and the maps are those that are declared
pub record Footing (g : Ground) (setting : Setting) (scene : Scene) : Type 0 where
  pub actor : scene.actor < setting.actors
  pub actors : scene.actors ≡ setting.actors
  pub maps : scene.maps ≡ g.maps

-- the state's values have these types
abbrev pub HasStack : List Shape → State → Type 0
HasStack stack s = HasShape stack s.stack

over : (i : Instr) (stack : List Shape) → end_with (operand_shapes i) stack ≡ true → stack ≡ front_of (length (operand_shapes i)) stack ++ operand_shapes i
over i stack h = ends_is (operand_shapes i) stack h

append-none : (xs : List Shape) → xs ++ [] ≡ xs
append-none xs = append-nil xs

two : (rest : List Shape) (h : Shape) (vs : List Value) → HasShape (rest ++ h ∷ h ∷ []) vs → HasShape rest (below (below vs))
two rest h vs p = (shaped-pop rest h (below vs) (shaped-pop (rest ++ h ∷ []) h vs (subst (λ (l : List Shape). HasShape l vs) (sym (append_assoc rest (h ∷ []) (h ∷ []))) p)).0).0

module _ (g : Ground) (setting : Setting) (scene : Scene) (f : Footing g setting scene) where
  served : (m : MapId) → IsServedAs setting.maps g.maps m → IsServedAs setting.maps scene.maps m
  served m w = w ∙ ap (λ (ms : List MapDecl). slice_get ms m.0) (sym f.maps)

  there : (m : MapId) → is_there (slice_get g.maps m.0) ≡ true → is_there (slice_get scene.maps m.0) ≡ true
  there m e = ap (λ (ms : List MapDecl). is_there (slice_get ms m.0)) f.maps ∙ e

  -- from the parts of the stack
  local : (x : Instr) (rest : List Shape) (s : State) → names g x ≡ true → ServesInstr setting.maps g.maps x → HasStack (rest ++ operand_shapes x) s → CanAsk setting (HasStack (rest ++ gives x)) (instr_run x scene s)
  local (i.Put v) rest s n w h = shaped-put rest _ s.stack v (subst (λ (l : List Shape). HasShape l s.stack) (append-none rest) h) (shape_of-shaped v)
  local (i.Builtin b) rest s n w h = shaped-put rest shapes.Int s.stack _ (subst (λ (l : List Shape). HasShape l s.stack) (append-none rest) h) tt
  local i.Comm rest s n w h = shaped-put rest shapes.Str s.stack _ (subst (λ (l : List Shape). HasShape l s.stack) (append-none rest) h) tt
  local (i.NumberField q) rest s n w h = shaped-put rest shapes.Int s.stack _ (subst (λ (l : List Shape). HasShape l s.stack) (append-none rest) h) tt
  local (i.TextField q) rest s n w h = shaped-put rest shapes.Str s.stack _ (subst (λ (l : List Shape). HasShape l s.stack) (append-none rest) h) tt
  local (i.Load x shape) rest s n w h = shaped-put rest shape s.stack _ (subst (λ (l : List Shape). HasShape l s.stack) (append-none rest) h) (as_shape-shaped shape _)
  local (i.Store x shape) rest s n w h = subst (λ (l : List Shape). HasShape l (below s.stack)) (sym (append-none rest)) (shaped-pop rest shape s.stack h).0
  local (i.StepVar x plus prefix) rest s n w h = shaped-put rest shapes.Int s.stack _ (subst (λ (l : List Shape). HasShape l s.stack) (append-none rest) h) tt
  local (i.UpdateVar x op) rest s n w h = subst (λ (l : List Shape). HasShape l (below s.stack)) (sym (append-none rest)) (shaped-pop rest shapes.Int s.stack h).0
  local (i.Unary op) rest s n w h = shaped-put rest shapes.Int (below s.stack) _ (shaped-pop rest shapes.Int s.stack h).0 tt
  local (i.Binary op) rest s n w h = shaped-put rest shapes.Int (below (below s.stack)) _ (two rest shapes.Int s.stack h) tt
  local (i.Compare equal) rest s n w h = shaped-put rest shapes.Int (below (below s.stack)) _ (two rest shapes.Str s.stack h) tt
  local i.Truth rest s n w h = shaped-put rest shapes.Int (below s.stack) _ (shaped-pop rest shapes.Int s.stack h).0 tt
  local (i.Get m key shape) rest s n w h =
      let p = shaped-split rest key s.stack h in
      let d = held g setting m key shape w n in
      (get_can setting m key shape (last_of (length key) s.stack) d p.1, λ r. shaped-put rest shape (front_of (length key) s.stack) _ p.0 (as_shape-shaped shape _))
  local (i.ReadAgg m key) rest s n w h =
      let p = shaped-split rest key s.stack h in
      let gathers = summed_case setting m key (slice_get g.maps m.0) w (and_parts (is_key_shape key) (is_summed (slice_get g.maps m.0) key) n).1 in
      Can-and_then setting (λ a. Unit {0}) _ _ _
      (Can-and_then setting (λ rs. Unit {0}) _ _ _
      (asked_can setting Cpu (ops.Read m) [] 0 scene.actors scene.actors (omega arith) (λ place l. (omega (arith, l, f.actors), gathers))) (λ rs u. tt))
      (λ a u. shaped-put rest shapes.Int (front_of (length key) s.stack) (Int a) p.0 tt)
  local (i.Set m key shape) rest s n w h =
      let q = shaped-pop (rest ++ key) shape s.stack (subst (λ (l : List Shape). HasShape l s.stack) (sym (append_assoc rest key (shape ∷ []))) h) in
      let p = shaped-split rest key (below s.stack) q.0 in
      let d = held g setting m key shape w n in
      ((set_can setting m key shape (last_of (length key) (below s.stack)) (top s.stack) d p.1 q.1), λ r. subst (λ (l : List Shape). HasShape l (front_of (length key) (below s.stack))) (sym (append-none rest)) p.0)
  local (i.Delete m key) rest s n w h =
      let p = shaped-split rest key s.stack h in
      let d = shared_case setting m key (slice_get g.maps m.0) w (and_parts (is_key_shape key) (is_shared (slice_get g.maps m.0) key) n).1 in
      ((delete_can setting m key (last_of (length key) s.stack) d p.1), λ r. subst (λ (l : List Shape). HasShape l (front_of (length key) s.stack)) (sym (append-none rest)) p.0)
  local (i.Update m key op) rest s n w h =
      let q = shaped-pop (rest ++ key) shapes.Int s.stack (subst (λ (l : List Shape). HasShape l s.stack) (sym (append_assoc rest key (shapes.Int ∷ []))) h) in
      let p = shaped-split rest key (below s.stack) q.0 in
      let d = held g setting m key shapes.Int w n in (
        get_can setting m key shapes.Int (last_of (length key) (below s.stack)) d p.1,
        λ r.
            (set_can setting m key shapes.Int (last_of (length key) (below s.stack)) _ d p.1 tt, λ r2. subst (λ (l : List Shape). HasShape l (front_of (length key) (below s.stack))) (sym (append-none rest)) p.0),
      )
  local (i.StepMap m key plus prefix) rest s n w h =
      let p = shaped-split rest key s.stack h in
      let d = held g setting m key shapes.Int w n in (
        get_can setting m key shapes.Int (last_of (length key) s.stack) d p.1,
        λ r.
            (set_can setting m key shapes.Int (last_of (length key) s.stack) _ d p.1 tt, λ r2. shaped-put rest shapes.Int (front_of (length key) s.stack) _ p.0 tt),
      )
  local (i.Add m key) rest s n w h =
      let q = shaped-pop (rest ++ key) shapes.Int s.stack (subst (λ (l : List Shape). HasShape l s.stack) (sym (append_assoc rest key (shapes.Int ∷ []))) h) in
      let p = shaped-split rest key (below s.stack) q.0 in
      let d = gathered g setting m key w n in
      ((add_can setting scene.actor m key (last_of (length key) (below s.stack)) (number_of (top s.stack)) f.actor d p.1), λ r. subst (λ (l : List Shape). HasShape l (front_of (length key) (below s.stack))) (sym (append-none rest)) p.0)
  local (i.Count m key) rest s n w h =
      let p = shaped-split rest key s.stack h in
      let d = gathered g setting m key w n in
      ((add_can setting scene.actor m key (last_of (length key) s.stack) (pos 1) f.actor d p.1), λ r. subst (λ (l : List Shape). HasShape l (front_of (length key) s.stack)) (sym (append-none rest)) p.0)
  local (i.Printf format key) rest s n w h =
      let p = shaped-split rest key s.stack h in
      (tt, λ r. subst (λ (l : List Shape). HasShape l (front_of (length key) s.stack)) (sym (append-none rest)) p.0)
  local (i.Print m top div) rest s n w h =
      Can-and_then setting (λ u. Unit {0}) _ _ _
      (Can-and_then setting (λ rs. Unit {0}) _ _ _ (swept_can setting scene.maps m Read scene.actors (served m w) (there m (and_parts _ _ n).0) f.actors) (λ rs u. (tt, λ r. tt)))
      (λ u v. h)
  local (i.Clear m) rest s n w h = Can-and_then setting (λ rs. Unit {0}) _ _ _ (swept_can setting scene.maps m Clear scene.actors (served m w) (there m n) f.actors) (λ rs u. h)
  local (i.Zero m) rest s n w h = Can-and_then setting (λ rs. Unit {0}) _ _ _ (swept_can setting scene.maps m Zero scene.actors (served m w) (there m n) f.actors) (λ rs u. h)
  local (i.Cut line) rest s n w h = (tt, λ r. h)
  local i.Stop rest s n w h = (tt, λ r. h)
  local i.Pop rest s n w h = subst (λ (l : List Shape). HasShape l (below s.stack)) (sym (append-none rest)) (shaped-pop rest shapes.Int s.stack h).0

  one : (x : Instr) (stack : List Shape) (s : State) → may_stand g x stack ≡ true → ServesInstr setting.maps g.maps x → HasStack stack s → CanAsk setting (HasStack (turned x stack)) (instr_run x scene s)
  one x stack s n w h =
      let p = and_parts (names g x && end_with (operand_shapes x) stack) (has_room g (sizes_of stack + instr_bytes x)) n in
      let q = and_parts (names g x) (end_with (operand_shapes x) stack) p.0 in
      local x (front_of (length (operand_shapes x)) stack) s q.0 w (subst (λ (l : List Shape). HasStack l s) (over x stack q.1) h)

  -- instructions one after another
  pub all : (xs : List Instr) (stack : List Shape) (s : State) → all_stand g xs stack ≡ true → ServesInstrs setting.maps g.maps xs → HasStack stack s → CanAsk setting (HasStack (all_turned xs stack)) (instrs_run xs scene s)
  all [] stack s n w h = h
  all (x ∷ xs) stack s n w h =
      let p = and_parts (may_stand g x stack) (all_stand g xs (turned x stack)) n in
      Can-and_then setting (HasStack (turned x stack)) _ (instr_run x scene s) (instrs_run xs scene) (one x stack s p.0 w.0 h) (λ s1 h1. all xs (turned x stack) s1 p.1 w.1 h1)
