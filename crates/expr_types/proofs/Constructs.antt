-- What is answered for a construct says what is judged of it.
use Rattle.std.proofs.Common.{◌≡◌, ◌++◌, ℕ, nat_lt, Bool, true, false, cond, List, [], ◌∷◌, length, Option, Some, None, Result, Ok, Err, IfOk, slice_get, refl, sym, ap, subst, ◌∙◌, is_none}
use Rattle.std.specs.Str.{bytes_eq}
use Rattle.bt_core.specs.declared.limits.TheConstants.{STRING_BYTES}
use Rattle.bt_core.specs.declared.place.Place.{Place}
use Rattle.bt_core.specs.Text.{short_text}
use Rattle.bt_core.specs.declared.map.Shape.{Shape}
use Rattle.bt_core.specs.declared.map.Shape.TheVariants.{Int, Str}
use Rattle.event_layout.specs.ByName.{field_called, field_named}
use Rattle.event_layout.specs.declared.field.Field.{Field}
use Rattle.event_layout.specs.declared.layout.Layout.{Layout}
use Rattle.typed_tree.specs.declared.expr.AnyExpr.{AnyExpr}
use Rattle.typed_tree.specs.Parts.{Literal, FieldOf, VarOf, Stepped, Made, made, made_of}
use Rattle.typed_tree.specs.Scope.{shape_of_field}
use Rattle.expr_types.specs.declared.fault.Fault.{Fault}
use Rattle.expr_types.specs.declared.fault.Rule.{Rule}
use Rattle.expr_types.specs.declared.fault.Rule.TheVariants.{WrongType, NotSet, NoEvent, UnknownField, FieldNotReadable}
use Rattle.expr_types.specs.declared.fault.TypeError.{TypeError}
use Rattle.expr_types.specs.declared.known.Known.{Known}
use Rattle.expr_types.specs.declared.known.Var.{Var}
use Rattle.expr_types.specs.Mentions.{Sort, Text, OfVar, OfField, NeedsShort, ReadsVar, ReadsField, Args, TextWord, FieldWord, VarWord, StepWord}
use Rattle.expr_types.specs.Known.{var_in, event_field, field_shape, shape_in}
use Rattle.expr_types.specs.Judge.{unless_broken, judged, SaysFault, IsBreach, Refuses}
use Rattle.expr_types.specs.Rules.{first_of_rules, breaks, is_text, is_unreadable}
use Rattle.expr_types.specs.Walk.{Seen, OnVar, seen, step_seen, step_points, at}
use Rattle.expr_types.specs.Typing.{Fits, titles_of, title, word_of}
use Rattle.expr_types.specs.declared.leaf.Joint.{Joint}
use Rattle.expr_types.specs.declared.leaf.Joint.TheVariants.{Operator, And, Or}
use Rattle.expr_types.specs.Joint.{joint_part, joint_word, joint_points, joint_breaks, joint_seen}
use Rattle.expr_types.specs.Checked.{Checked, Checks}
use Rattle.expr_types.proofs.Composing.{breach, still, pair_checks, both_judged, operands_judged}
use Rattle.expr_types.proofs.Finding.{same_is}
use Rattle.expr_types.proofs.Growing.{grows_none}
use Rattle.expr_types.proofs.Later.{get_mapped, title_is}

pub literal_checks : (k : Known) (text : List ℕ) (place : Place) (r : Result AnyExpr TypeError) → Refuses (breaks (nat_lt STRING_BYTES (length text)) WrongType) place r → IfOk r (λ e. made_of e ≡ made Str (Literal (short_text text) ∷ []))
    → Checks (seen (at place (NeedsShort text) ∷ []) Text (TextWord (short_text text) ∷ [])) k k r
literal_checks k text place (Ok e) h m =
    rw m (record { whole = ap (λ (o : Option Rule). unless_broken o place (Ok k)) h; grows = grows_none k; typing = record { shape = refl; fits = (tt, tt); written = refl } })
literal_checks k text place (Err e) h m = breach _ place (Ok k) e h

-- a variable's word
var_word : (k : Known) (number : ℕ) (v : Var) → slice_get k.vars number ≡ Some v → title (titles_of k).variables number ≡ v.name
var_word k number v h = title_is (titles_of k).variables number v.name (get_mapped (λ (w : Var). w.name) k.vars number v h)

pub var_checked : (k : Known) (name : List ℕ) (place : Place) (number : ℕ) (shape : Shape) → var_in name k.vars ≡ Some shape → slice_get k.vars number ≡ Some (let v : Var = record { name = name; shape = shape } in v)
    → Checked (seen (at place (ReadsVar name) ∷ []) (OfVar name) (VarWord name ∷ [])) k k (made shape (VarOf number shape ∷ []))
var_checked k name place number shape h g =
    record {
      whole = ap (λ (o : Option Shape). unless_broken (breaks (is_none o) NotSet) place (Ok k)) h;
      grows = grows_none k;
      typing = record {
        shape = h;
        fits = (record { var = record { name = name; shape = shape }; numbered = g; shapes = refl }, tt);
        written = ap (λ (n : List ℕ). (VarWord n ∷ [])) (var_word k number (record { name = name; shape = shape }) g);
      };
    }

pub var_refused : (k : Known) (name : List ℕ) (place : Place) (e : TypeError) → var_in name k.vars ≡ None → IsBreach (Some NotSet) place e → SaysFault (judged (at place (ReadsVar name) ∷ []) k) e
var_refused k name place e h b =
    subst (λ (o : Option Shape). SaysFault (unless_broken (breaks (is_none o) NotSet) place (Ok k)) e) (sym h) (breach (Some NotSet) place (Ok k) e b)

-- `++` and `--` of a variable
pub step_var_checked : (k : Known) (name : List ℕ) (at_var place : Place) (number : ℕ) (plus prefix : Bool) → var_in name k.vars ≡ Some Int → slice_get k.vars number ≡ Some (let v : Var = record { name = name; shape = Int } in v)
    → Checked (step_seen plus prefix place (OnVar name at_var)) k k (made Int (Stepped plus prefix ∷ VarOf number Int ∷ []))
step_var_checked k name at_var place number plus prefix h g =
    record {
      whole = ap (λ (o : Option Shape). unless_broken (breaks (is_none o) NotSet) at_var (unless_broken (breaks (is_text o) WrongType) place (Ok k))) h;
      grows = grows_none k;
      typing = record {
        shape = refl;
        fits = (tt, (record { var = record { name = name; shape = Int }; numbered = g; shapes = refl }, tt));
        written = ap (λ (n : List ℕ). (StepWord plus prefix ∷ VarWord n ∷ [])) (var_word k number (record { name = name; shape = Int }) g);
      };
    }

pub step_unset : (k : Known) (name : List ℕ) (at_var place : Place) (e : TypeError) → var_in name k.vars ≡ None → IsBreach (Some NotSet) at_var e → SaysFault (judged (step_points place (OnVar name at_var)) k) e
step_unset k name at_var place e h b =
    subst (λ (o : Option Shape). SaysFault (unless_broken (breaks (is_none o) NotSet) at_var (unless_broken (breaks (is_text o) WrongType) place (Ok k))) e) (sym h) (breach (Some NotSet) at_var (Ok k) e b)

pub step_text : (k : Known) (name : List ℕ) (at_var place : Place) (e : TypeError) → var_in name k.vars ≡ Some Str → IsBreach (Some WrongType) place e → SaysFault (judged (step_points place (OnVar name at_var)) k) e
step_text k name at_var place e h b =
    subst (λ (o : Option Shape). SaysFault (unless_broken (breaks (is_none o) NotSet) at_var (unless_broken (breaks (is_text o) WrongType) place (Ok k))) e) (sym h) (breach (Some WrongType) place (Ok k) e b)

-- a field that is found has the name
called_named : (name : List ℕ) (fields : List Field) (f : Field) → field_called name fields ≡ Some f → f.name ≡ name
called_named name [] f h = cc
called_named name (x ∷ xs) f h =
    let P : Bool → Type 0 = λ b. bytes_eq x.name name ≡ b → cond b (Some x) (field_called name xs) ≡ Some f → f.name ≡ name in
    let at_true : P true = λ s e. (let q : x ≡ f = cc in ap (λ (o : Field). o.name) (sym q) ∙ same_is x.name name s) in
    let at_false : P false = λ s e. called_named name xs f e in
    elim (bytes_eq x.name name) as P [ true ↦ at_true | false ↦ at_false ] refl h

named_field : (name : List ℕ) (fields : List Field) (f : Field) → field_named name fields ≡ Some f → f.name ≡ name
named_field name fields f h =
    elim (nat_lt 0 (length name)) as (λ b. cond b (field_called name fields) None ≡ Some f → f.name ≡ name) [ true ↦ λ e. called_named name fields f e | false ↦ λ e. cc ] h

event_named : (event : Option Layout) (name : List ℕ) (f : Field) → event_field event name ≡ Some f → f.name ≡ name
event_named None name f h = cc
event_named (Some layout) name f h = named_field name layout.fields f h

event_there : (event : Option Layout) (name : List ℕ) (f : Field) → event_field event name ≡ Some f → is_none event ≡ false
event_there None name f h = cc
event_there (Some layout) name f h = refl

-- what is judged of a field, by whether there is an event and by what it has
field_judged : (k : Known) (name : List ℕ) (place word : Place) (event : Bool) (found : Option Field) → is_none k.event ≡ event → event_field k.event name ≡ found
    → judged (at place Args ∷ at word (ReadsField name) ∷ []) k ≡ unless_broken (breaks event NoEvent) place (unless_broken (first_of_rules ((is_none found, UnknownField) ∷ (is_unreadable found, FieldNotReadable) ∷ [])) word (Ok k))
field_judged k name place word event found g h = rw (g, h) refl

pub field_checked : (k : Known) (name : List ℕ) (place word : Place) (f : Field) (shape : Shape) → event_field k.event name ≡ Some f → shape_of_field f.kind ≡ Some shape
    → Checked (seen (at place Args ∷ at word (ReadsField name) ∷ []) (OfField name) (FieldWord name ∷ [])) k k (made shape (FieldOf f shape ∷ []))
field_checked k name place word f shape h g =
    let n = event_named k.event name f h in
    record {
      whole = field_judged k name place word false (Some f) (event_there k.event name f h) h
          ∙ ap (λ (o : Option Shape). unless_broken (first_of_rules ((false, UnknownField) ∷ (is_none o, FieldNotReadable) ∷ [])) word (Ok k)) g;
      grows = grows_none k;
      typing = record {
        shape = ap field_shape h ∙ g;
        fits = ((ap (event_field k.event) n ∙ h, g), tt);
        written = ap (λ (w : List ℕ). (FieldWord w ∷ [])) n;
      };
    }

pub field_refused : (k : Known) (name : List ℕ) (place word : Place) (e : TypeError) → is_none k.event ≡ true → IsBreach (Some NoEvent) place e → SaysFault (judged (at place Args ∷ at word (ReadsField name) ∷ []) k) e
field_refused k name place word e h b =
    subst (λ (v : Result Known Fault). SaysFault v e) (sym (field_judged k name place word true (event_field k.event name) h refl)) (breach (Some NoEvent) place (Ok k) e b)

pub field_unknown : (k : Known) (name : List ℕ) (place word : Place) (e : TypeError) → is_none k.event ≡ false → event_field k.event name ≡ None → IsBreach (Some UnknownField) word e → SaysFault (judged (at place Args ∷ at word (ReadsField name) ∷ []) k) e
field_unknown k name place word e h g b =
    subst (λ (v : Result Known Fault). SaysFault v e) (sym (field_judged k name place word false None h g)) (breach (Some UnknownField) word (Ok k) e b)

pub field_unreadable : (k : Known) (name : List ℕ) (place word : Place) (f : Field) (e : TypeError) → event_field k.event name ≡ Some f → shape_of_field f.kind ≡ None → IsBreach (Some FieldNotReadable) word e
    → SaysFault (judged (at place Args ∷ at word (ReadsField name) ∷ []) k) e
field_unreadable k name place word f e h g b =
    subst (λ (v : Result Known Fault). SaysFault v e)
    (sym (field_judged k name place word false (Some f) (event_there k.event name f h) h ∙ ap (λ (o : Option Shape). unless_broken (first_of_rules ((false, UnknownField) ∷ (is_none o, FieldNotReadable) ∷ [])) word (Ok k)) g))
    (breach (Some FieldNotReadable) word (Ok k) e b)

-- two operands
joint_judged : (k : Known) (joint : Joint) (place : Place) (s t : Sort) (a b : Shape) → shape_in k s ≡ Some a → shape_in k t ≡ Some b → judged (joint_points joint place s t) k ≡ unless_broken (joint_breaks joint a b) place (Ok k)
joint_judged k (Operator op) place s t a b g h = operands_judged k op place s t a b g h
joint_judged k And place s t a b g h = both_judged k place s t a b g h
joint_judged k Or place s t a b g h = both_judged k place s t a b g h

joint_fits : (k : Known) (joint : Joint) → Fits k (joint_part joint)
joint_fits k (Operator op) = tt
joint_fits k And = tt
joint_fits k Or = tt

joint_written : (k : Known) (joint : Joint) → word_of (titles_of k) (joint_part joint) ≡ joint_word joint
joint_written k (Operator op) = refl
joint_written k And = refl
joint_written k Or = refl

pub joint_checks : (s t : Seen) (k0 k1 k2 : Known) (m n : Made) (joint : Joint) (place : Place) (r : Result AnyExpr TypeError) → Checked s k0 k1 m → Checked t k1 k2 n → Refuses (joint_breaks joint m.shape n.shape) place r
    → IfOk r (λ e. made_of e ≡ made Int (joint_part joint ∷ (m.parts ++ n.parts))) → Checks (joint_seen joint place s t) k0 k2 r
joint_checks s t k0 k1 k2 m n joint place r c d h g =
    pair_checks s t k0 k1 k2 m n (joint_part joint) (joint_word joint) (joint_points joint place s.sort t.sort) (joint_breaks joint m.shape n.shape) place r c d (joint_fits k2 joint) (joint_written k2 joint)
    (joint_judged k2 joint place s.sort t.sort m.shape n.shape (still s t k0 k1 k2 m n c d).shape d.typing.shape) h g
