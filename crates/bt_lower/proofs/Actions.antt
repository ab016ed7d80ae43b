-- Lowering of each kind of single statement.
use Rattle.std.proofs.Common.{◌≡◌, ℕ, ◌+◌, List, [], ◌∷◌, ◌++◌, length, refl, sym, ap, ◌∙◌, arith, append_assoc, length-append, Bool}
use Rattle.std.specs.Prelude.{ℤ, pos}
use Rattle.bt_core.specs.declared.map.MapId.{MapId}
use Rattle.bt_core.specs.declared.map.Shape.{Shape}
use Rattle.bt_core.specs.declared.map.Shape.TheVariants as shapes
use Rattle.bt_core.specs.declared.operator.BinOp.{BinOp}
use Rattle.bt_core.specs.declared.step.ObjectId.TheVariants.{Cpu, Out}
use Rattle.bt_core.specs.declared.step.Op.TheVariants as ops
use Rattle.bt_core.specs.declared.item.Item.TheVariants as items
use Rattle.bt_core.specs.declared.value.Value.{Value}
use Rattle.bt_core.specs.declared.value.Value.TheVariants.{Int}
use Rattle.bt_core.specs.Interaction.{Interaction, Ended, and_then}
use Rattle.bt_core.proofs.InteractionLaws.{and_then_assoc}
use Rattle.bt_core.specs.Arithmetic.{binary_value}
use Rattle.typed_tree.specs.Parts.{TreePart}
use Rattle.walk_meaning.specs.declared.flow.Flow.{Flow}
use Rattle.walk_meaning.specs.declared.flow.Flow.TheVariants.{Next}
use Rattle.walk_meaning.specs.declared.flow.Frame.{Frame}
use Rattle.walk_meaning.specs.Does.{Does, given, looked_at, changed, lifted, bind, in_order}
use Rattle.walk_meaning.specs.Does.{BodyScene}
use Rattle.walk_meaning.specs.Exprs.{number_value}
use Rattle.walk_meaning.specs.Maps.{with_variable, variable}
use Rattle.walk_meaning.specs.Stmts.{set_variable, set_map, update_variable, update_map, gather, printf, delete_at, plain}
use Rattle.ir_code.specs.declared.instr.Instr.TheVariants as i
use Rattle.map_ops.specs.Holders.{part}
use Rattle.map_ops.specs.Asking.{tells}
use Rattle.ir_code.specs.Meaning.{instr_run, updated}
use Rattle.ir_code.specs.Typing.{last_of, front_of}
use Rattle.ir_code.specs.Stacks.{top, below}
use Rattle.map_ops.specs.Values.{number_of}
use Rattle.bt_lower.specs.Lowers.{state, seen_by}
use Rattle.bt_lower.specs.Sound.{Site}
use Rattle.bt_lower.proofs.Blocks.{and_then-same}
use Rattle.bt_lower.proofs.Exprs.{in_order-append, in_order-one}
use Rattle.bt_lower.proofs.Lists.{top-append, below-append, last-append, front-append}
use Rattle.bt_lower.proofs.Stmts.{Acts}

-- ---- a value above its key

-- a list that is not empty is what stands before its last member, and this
last_apart : (vs : List Value) (n : ℕ) → length vs ≡ n + 1 → vs ≡ below vs ++ top vs ∷ []
last_apart [] n h = absurd (omega arith)
last_apart (v ∷ []) n h = refl
last_apart (v ∷ u ∷ vs) n h = ap (λ l. v ∷ l) (last_apart (u ∷ vs) (length vs) (omega arith))

pub value_over_key : {X : Type 0} (F : List Value → Value → List Value → X) (values vs : List Value) (n : ℕ) → length vs ≡ n + 1 →
    F (last_of n (below (values ++ vs))) (top (values ++ vs)) (front_of n (below (values ++ vs))) ≡ F (below vs) (top vs) values
value_over_key F values vs n h =
    ap (λ l. F (last_of n (below l)) (top l) (front_of n (below l))) whole
    ∙ ap (λ l. F (last_of n l) (top ((values ++ below vs) ++ top vs ∷ [])) (front_of n l)) (below-append (values ++ below vs) (top vs))
    ∙ ap (λ x. F (last_of n (values ++ below vs)) x (front_of n (values ++ below vs))) (top-append (values ++ below vs) (top vs))
    ∙ ap (λ l. F l (top vs) (front_of n (values ++ below vs))) (last-append n values (below vs) long)
    ∙ ap (λ l. F (below vs) (top vs) l) (front-append n values (below vs) long)
  where
    whole : values ++ vs ≡ (values ++ below vs) ++ top vs ∷ []
    whole = ap (λ l. values ++ l) (last_apart vs n h) ∙ sym (append_assoc values (below vs) (top vs ∷ []))

    long : length (below vs) ≡ n
    long = omega (arith, ap length (last_apart vs n h), length-append (below vs) (top vs ∷ []))

-- a key, and then a value
pub keyed-is : (ds : List (Does Value)) (d : Does Value) (w : BodyScene) (frame : Frame) (F : List Value → Value → Frame → Interaction (Flow × Frame)) →
    and_then (in_order ds w frame) (λ p. and_then (d w p.1) (λ q. F p.0 q.0 q.1)) ≡ and_then (in_order (ds ++ d ∷ []) w frame) (λ p. F (below p.0) (top p.0) p.1)
keyed-is ds d w frame F =
    and_then-same (in_order ds w frame) _ _ (λ p.
    and_then-same (d w p.1) _ _ (λ q. ap (λ l. F l q.0 q.1) (sym (below-append p.0 q.0)) ∙ ap (λ x. F (below (p.0 ++ q.0 ∷ [])) x q.1) (sym (top-append p.0 q.0)))
    ∙ sym (in_order-one d w p.1 (λ q. F (below (p.0 ++ q.0)) (top (p.0 ++ q.0)) q.1)))
    ∙ sym (in_order-append ds (d ∷ []) w frame (λ p. F (below p.0) (top p.0) p.1))

-- ---- what statements do with values that are there

pub set_var-acts : (qs : Bool → List TreePart) (x : ℕ) (shape : Shape) (d : Does Value) → Acts qs (i.Store x shape) (d ∷ []) (shape ∷ []) (set_variable x d) {A = Unit {0}} (λ w vs frame. Ended tt) (λ vs frame a. with_variable x (top vs) frame)
unfolding given bind changed
set_var-acts qs x shape d = record {
  takes_them = refl;
  reads_none = refl;
  gives_none = refl;
  is = λ w frame. simp and_then_assoc;
  runs = λ s inside fits w same frame values vs long. stored s w frame values vs long;
  turns = λ vs frame a. refl;
}
  where
    stored : (s : Site) (w : BodyScene) (frame : Frame) (values vs : List Value) → length vs ≡ 1 → instr_run (i.Store x shape) (seen_by s.ground.maps w) (state frame (values ++ vs)) ≡ Ended (state (with_variable x (top vs) frame) values)
    stored s w frame values [] h = absurd (omega arith)
    stored s w frame values (v ∷ []) h =
        ap (λ (u : Value). Ended (state (with_variable x u frame) (below (values ++ v ∷ [])))) (top-append values v)
        ∙ ap (λ (l : List Value). Ended (state (with_variable x v frame) l)) (below-append values v)
    stored s w frame values (v ∷ u ∷ vs) h = absurd (omega arith)

pub update_var-acts : (qs : Bool → List TreePart) (x : ℕ) (op : BinOp) (d : Does ℤ) → Acts qs (i.UpdateVar x op) (number_value d ∷ []) (shapes.Int ∷ []) (update_variable x op d) {A = Unit {0}} (λ w vs frame. Ended tt)
    (λ vs frame a. with_variable x (Int (binary_value op (number_of (variable x frame)) (number_of (top vs)))) frame)
unfolding given bind changed looked_at
update_var-acts qs x op d = record {
  takes_them = refl;
  reads_none = refl;
  gives_none = refl;
  is = λ w frame. simp and_then_assoc;
  runs = λ s inside fits w same frame values vs long. stored s w frame values vs long;
  turns = λ vs frame a. refl;
}
  where
    stored : (s : Site) (w : BodyScene) (frame : Frame) (values vs : List Value) → length vs ≡ 1 → instr_run (i.UpdateVar x op) (seen_by s.ground.maps w) (state frame (values ++ vs)) ≡ Ended (state (with_variable x (Int (binary_value op (number_of (variable x frame)) (number_of (top vs)))) frame) values)
    stored s w frame values [] h = absurd (omega arith)
    stored s w frame values (v ∷ []) h =
        ap (λ (u : Value). Ended (state (with_variable x (Int (binary_value op (number_of (variable x frame)) (number_of u))) frame) (below (values ++ v ∷ [])))) (top-append values v)
        ∙ ap (λ (l : List Value). Ended (state (with_variable x (Int (binary_value op (number_of (variable x frame)) (number_of v))) frame) l)) (below-append values v)
    stored s w frame values (v ∷ u ∷ vs) h = absurd (omega arith)

pub step-acts : (qs : Bool → List TreePart) (d : Does ℤ) → Acts qs i.Pop (number_value d ∷ []) (shapes.Int ∷ []) (plain d) {A = Unit {0}} (λ w vs frame. Ended tt) (λ vs frame a. frame)
unfolding given bind
step-acts qs d = record {
  takes_them = refl;
  reads_none = refl;
  gives_none = refl;
  is = λ w frame. simp and_then_assoc;
  runs = λ s inside fits w same frame values vs long. popped s w frame values vs long;
  turns = λ vs frame a. refl;
}
  where
    popped : (s : Site) (w : BodyScene) (frame : Frame) (values vs : List Value) → length vs ≡ 1 → instr_run i.Pop (seen_by s.ground.maps w) (state frame (values ++ vs)) ≡ Ended (state frame values)
    popped s w frame values [] h = absurd (omega arith)
    popped s w frame values (v ∷ []) h = ap (λ (l : List Value). Ended (state frame l)) (below-append values v)
    popped s w frame values (v ∷ u ∷ vs) h = absurd (omega arith)

pub delete-acts : (qs : Bool → List TreePart) (m : MapId) (key : List Shape) (ds : List (Does Value)) → Acts qs (i.Delete m key) ds key (delete_at m ds) (λ w vs frame. tells (part m vs) (ops.Delete vs)) (λ vs frame a. frame)
unfolding given bind lifted
delete-acts qs m key ds = record {
  takes_them = refl;
  reads_none = refl;
  gives_none = refl;
  is = λ w frame. simp and_then_assoc;
  runs = λ s inside fits w same frame values vs long.
      ap (λ (l : List Value). and_then (tells (part m l) (ops.Delete l)) (λ u. Ended (state frame (front_of (length key) (values ++ vs))))) (last-append (length key) values vs long)
      ∙ ap (λ (l : List Value). and_then (tells (part m vs) (ops.Delete vs)) (λ u. Ended (state frame l))) (front-append (length key) values vs long);
  turns = λ vs frame a. refl;
}

pub count-acts : (qs : Bool → List TreePart) (m : MapId) (key : List Shape) (ds : List (Does Value)) → Acts qs (i.Count m key) ds key (gather m ds (given (pos 1))) (λ w vs frame. tells (Cpu w.actor) (ops.Add m vs (pos 1))) (λ vs frame a. frame)
unfolding given bind lifted looked_at
count-acts qs m key ds = record {
  takes_them = refl;
  reads_none = refl;
  gives_none = refl;
  is = λ w frame. simp and_then_assoc;
  runs = λ s inside fits w same frame values vs long.
      ap (λ (l : List Value). and_then (tells (Cpu w.actor) (ops.Add m l (pos 1))) (λ u. Ended (state frame (front_of (length key) (values ++ vs))))) (last-append (length key) values vs long)
      ∙ ap (λ (l : List Value). and_then (tells (Cpu w.actor) (ops.Add m vs (pos 1))) (λ u. Ended (state frame l))) (front-append (length key) values vs long);
  turns = λ vs frame a. refl;
}

pub printf-acts : (qs : Bool → List TreePart) (format : ℕ) (key : List Shape) (ds : List (Does Value)) → Acts qs (i.Printf format key) ds key (printf format ds) (λ w vs frame. tells Out (ops.Emit (items.Printf format vs))) (λ vs frame a. frame)
unfolding given bind lifted
printf-acts qs format key ds = record {
  takes_them = refl;
  reads_none = refl;
  gives_none = refl;
  is = λ w frame. simp and_then_assoc;
  runs = λ s inside fits w same frame values vs long.
      ap (λ (l : List Value). and_then (tells Out (ops.Emit (items.Printf format l))) (λ u. Ended (state frame (front_of (length key) (values ++ vs))))) (last-append (length key) values vs long)
      ∙ ap (λ (l : List Value). and_then (tells Out (ops.Emit (items.Printf format vs))) (λ u. Ended (state frame l))) (front-append (length key) values vs long);
  turns = λ vs frame a. refl;
}

pub set-acts : (qs : Bool → List TreePart) (m : MapId) (key : List Shape) (shape : Shape) (ds : List (Does Value)) (d : Does Value) → Acts qs (i.Set m key shape) (ds ++ d ∷ []) (key ++ shape ∷ []) (set_map m ds d) (λ w vs frame. tells (part m (below vs)) (ops.Set (below vs) (top vs))) (λ vs frame a. frame)
unfolding given bind lifted
set-acts qs m key shape ds d = record {
  takes_them = refl;
  reads_none = refl;
  gives_none = refl;
  is = λ w frame. keyed-is ds d w frame (λ ks v f. and_then (tells (part m ks) (ops.Set ks v)) (λ u. Ended (Next, f)));
  runs = λ s inside fits w same frame values vs long.
      value_over_key (λ ks v rest. and_then (tells (part m ks) (ops.Set ks v)) (λ u. Ended (state frame rest))) values vs (length key) (long ∙ length-append key (shape ∷ []));
  turns = λ vs frame a. refl;
}

pub update-acts : (qs : Bool → List TreePart) (m : MapId) (key : List Shape) (op : BinOp) (ds : List (Does Value)) (d : Does ℤ) → Acts qs (i.Update m key op) (ds ++ number_value d ∷ []) (key ++ shapes.Int ∷ []) (update_map m ds op d) (λ w vs frame. updated m (below vs) op (number_of (top vs))) (λ vs frame a. frame)
unfolding given bind lifted
update-acts qs m key op ds d = record {
  takes_them = refl;
  reads_none = refl;
  gives_none = refl;
  is = λ w frame. and_then-same (in_order ds w frame) _ _ (λ p. sym (and_then_assoc (d w p.1) (λ q. Ended (Int q.0, q.1)) (λ q. and_then (updated m p.0 op (number_of q.0)) (λ u. Ended (Next, q.1)))))
      ∙ keyed-is ds (number_value d) w frame (λ ks v f. and_then (updated m ks op (number_of v)) (λ u. Ended (Next, f)));
  runs = λ s inside fits w same frame values vs long.
      value_over_key (λ ks v rest. and_then (updated m ks op (number_of v)) (λ u. Ended (state frame rest))) values vs (length key) (long ∙ length-append key (shapes.Int ∷ []));
  turns = λ vs frame a. refl;
}

pub add-acts : (qs : Bool → List TreePart) (m : MapId) (key : List Shape) (ds : List (Does Value)) (d : Does ℤ) → Acts qs (i.Add m key) (ds ++ number_value d ∷ []) (key ++ shapes.Int ∷ []) (gather m ds d) (λ w vs frame. tells (Cpu w.actor) (ops.Add m (below vs) (number_of (top vs)))) (λ vs frame a. frame)
unfolding given bind lifted looked_at
add-acts qs m key ds d = record {
  takes_them = refl;
  reads_none = refl;
  gives_none = refl;
  is = λ w frame. and_then-same (in_order ds w frame) _ _ (λ p. sym (and_then_assoc (d w p.1) (λ q. Ended (Int q.0, q.1)) (λ q. and_then (tells (Cpu w.actor) (ops.Add m p.0 (number_of q.0))) (λ u. Ended (Next, q.1)))))
      ∙ keyed-is ds (number_value d) w frame (λ ks v f. and_then (tells (Cpu w.actor) (ops.Add m ks (number_of v))) (λ u. Ended (Next, f)));
  runs = λ s inside fits w same frame values vs long.
      value_over_key (λ ks v rest. and_then (tells (Cpu w.actor) (ops.Add m ks (number_of v))) (λ u. Ended (state frame rest))) values vs (length key) (long ∙ length-append key (shapes.Int ∷ []));
  turns = λ vs frame a. refl;
}
