-- The tree of a script, and its first fault.
use Rattle.std.proofs.Common.{◌≡◌, ◌≢◌, ℕ, List, refl, sym, ap, subst, ◌∙◌, inl}
use Rattle.std.proofs.Common.{inr, All}
use Rattle.std.specs.Prelude.{Option, Some, None, slice_get}
use Rattle.std.proofs.lemmas.List.Elements.{All-weaker}
use Rattle.event_layout.specs.declared.format.Format.{Format}
use Rattle.bt_lexer.specs.declared.error.LexError.{LexError}
use Rattle.bt_lexer.specs.declared.error.LexError.TheVariants as lexical
use Rattle.bt_core.specs.declared.place.Place.{Place}
use Rattle.recordings.specs.declared.recording.Recording.{Recording as Recorded}
use Rattle.bt_attach.specs.declared.error.AttachError.{AttachError}
use Rattle.bt_attach.specs.declared.error.AttachError.TheVariants as attaching
use Rattle.bt_attach.specs.Attaching.{attach_fault, IsAttachedTo}
use Rattle.bt_attach.specs.There.{IsEventThere, IsThere}
use Rattle.bt_ast.specs.declared.attached.Attached.{Attached}
use Rattle.bt_ast.specs.declared.attached.BodyId.{BodyId}
use Rattle.bt_ast.specs.declared.attached.BodyPoint.{BodyPoint}
use Rattle.bt_ast.specs.declared.attached.BodyPoint.TheVariants.{Begin, End, Interval, Event}
use Rattle.expr_types.specs.declared.fault.Fault.{Fault as TypeFault}
use Rattle.expr_types.specs.declared.fault.TypeError.{TypeError}
use Rattle.expr_types.specs.declared.fault.TypeError.TheVariants as typing
use Rattle.bt_types.specs.Bodies.{type_fault, IsEventOf, IsBodyOf}
use Rattle.bt_lexer.specs.declared.token.Token.{Token}
use Rattle.bt_lexer.specs.Tokens.{IsTokensOf, IsFirstFault}
use Rattle.bt_ast.specs.declared.probe.Script.{Script as Tree}
use Rattle.bt_grammar.specs.declared.error.ParseError.{ParseError}
use Rattle.bt_grammar.specs.declared.error.ParseError.TheVariants as parsing
use Rattle.bt_grammar.specs.Form.{Item}
use Rattle.bt_grammar.specs.Grammar.{IsTreeOf}
use Rattle.bt_grammar.specs.Refusals.{IsAccepted, IsRefusal}
use Rattle.bt_grammar.specs.Tokens.{items}
use Rattle.top_refusals.specs.declared.refusal.ScriptFault.{ScriptFault}
use Rattle.top_refusals.specs.declared.refusal.ScriptFault.TheVariants.{BadCharacter, OpenString, OpenComment, NumberTooLarge, BadEscape, StringTooLong, Syntax}
use Rattle.top_refusals.specs.declared.refusal.ScriptFault.TheVariants.{TooDeep, TooManyProbes, UnknownTracepoint, NoMatch, BadPeriod, TooManyTicks, TooManyAttached}
use Rattle.top_refusals.specs.declared.refusal.ScriptFault.TheVariants.{Types}
use Rattle.top_refusals.specs.declared.refusal.Refusal.{Refusal}
use Rattle.top_refusals.specs.declared.refusal.ScriptRefusal.TheVariants.{Fault}
use Rattle.top_refusals.specs.declared.refusal.Refusal.TheVariants.{Script}
use Rattle.top_jobs.specs.Script.{offset_place, token_place, lexical_refusal, parse_refusal, attach_refusal, HasTree, IsTextFault, IsAttachFault}
use Rattle.top_jobs.specs.Script.{type_refusal, body_fault, IsTypeFault, IsSizeFault, IsScriptFault}
use Rattle.bt_types.specs.Script.{IsTypedScript}
use Rattle.bt_ast.specs.declared.probe.Probe.{Probe}
use Rattle.script_programs.specs.declared.error.SizeFault.{SizeFault}
use Rattle.script_programs.specs.Sizes.{first_size_fault}
use Rattle.typed_tree.specs.declared.script.Typed.{Typed}
use Rattle.bpf_encode.specs.declared.program.Program.{Program}
use Rattle.top_jobs.specs.Doing.{ArePrograms, IsSizeAnswer, IsTextRefusal, IsScriptRefusal}
use Rattle.top_jobs.specs.Jobs.{AsksFor}
use Rattle.top_jobs.specs.Sizes.{HasTypes, IsLarge, IsProbePlace, IsSized, TellsLarge, size_refusal, size_wrong}

-- ---- the first fault of a script

-- what the laws of the lexer and of the parser say of a text, and that of sizes
pub record AreScriptLaws (text : List ℕ) : Type 0 where
  pub tokens : (one other : List Token) → IsTokensOf text one → IsTokensOf text other → one ≡ other
  pub lexical : (one other : LexError) → IsFirstFault text one → IsFirstFault text other → one ≡ other
  pub lexical_apart : (tokens : List Token) (fault : LexError) → IsTokensOf text tokens → IsFirstFault text fault → ⊥
  pub tree : (ts : List Item) (one other : Tree) → IsTreeOf ts one → IsTreeOf ts other → one ≡ other
  pub parse : (ts : List Item) (one other : ParseError) → IsRefusal ts one → IsRefusal ts other → one ≡ other
  pub parse_apart : (ts : List Item) (tree : Tree) (fault : ParseError) → IsAccepted ts tree → IsRefusal ts fault → ⊥
  pub sizes : (tree : Tree) (formats : List Format) (bodies : List BodyId) (one other : Typed) → IsTypedScript tree formats bodies one
      → IsTypedScript tree formats bodies other → first_size_fault 0 one.bodies ≡ first_size_fault 0 other.bodies

pub one_text_fault : (text : List ℕ) (one other : Refusal) → AreScriptLaws text → IsTextFault text one → IsTextFault text other → one ≡ other
one_text_fault text one other laws (inl a) (inl b) = a.told ∙ ap (lexical_refusal text) (laws.lexical a.fault b.fault a.first b.first) ∙ sym b.told
one_text_fault text one other laws (inl a) (inr b) = absurd (laws.lexical_apart b.tokens a.fault b.are a.first)
one_text_fault text one other laws (inr a) (inl b) = absurd (laws.lexical_apart a.tokens b.fault a.are b.first)
one_text_fault text one other laws (inr a) (inr b) =
    let same = laws.tokens a.tokens b.tokens a.are b.are in
    let fault = laws.parse (items b.tokens) a.fault b.fault (subst (λ (ts : List Token). IsRefusal (items ts) a.fault) same a.first) b.first in
    a.told ∙ ap (λ (ts : List Token). parse_refusal text ts a.fault) same ∙ ap (parse_refusal text b.tokens) fault ∙ sym b.told

pub one_tree : (text : List ℕ) (one other : Tree) → AreScriptLaws text → HasTree text one → HasTree text other → one ≡ other
one_tree text one other laws a b =
    let same = laws.tokens a.tokens b.tokens a.are b.are in
    laws.tree (items b.tokens) one other (subst (λ (ts : List Token). IsTreeOf (items ts) one) same a.is.tree) b.is.tree

pub no_tree : (text : List ℕ) (refusal : Refusal) (tree : Tree) → AreScriptLaws text → IsTextFault text refusal → HasTree text tree → ⊥
no_tree text refusal tree laws (inl a) b = laws.lexical_apart b.tokens a.fault b.are a.first
no_tree text refusal tree laws (inr a) b =
    let same = laws.tokens b.tokens a.tokens b.are a.are in
    laws.parse_apart (items a.tokens) tree a.fault (subst (λ (ts : List Token). IsAccepted (items ts) tree) same b.is) a.first

-- a fault is told with its place
pub is_told : (text : List ℕ) (refusal : Refusal) → IsTextFault text refusal → (f : ScriptFault) × (p : Place) × (refusal ≡ Script (Fault f p))
is_told text refusal (inl h) = by_fault h.fault h.first h.told
  where
    by_fault : (fault : LexError) → IsFirstFault text fault → refusal ≡ lexical_refusal text fault → (f : ScriptFault) × (p : Place)
        × (refusal ≡ Script (Fault f p))
    by_fault (lexical.BadChar at) first told = (BadCharacter, offset_place text at, told)
    by_fault (lexical.OpenString at) first told = (OpenString, offset_place text at, told)
    by_fault (lexical.OpenComment at) first told = (OpenComment, offset_place text at, told)
    by_fault (lexical.NumberTooLarge at) first told = (NumberTooLarge, offset_place text at, told)
    by_fault (lexical.BadEscape at) first told = (BadEscape, offset_place text at, told)
    by_fault (lexical.StringTooLong at) first told = (StringTooLong, offset_place text at, told)
    by_fault lexical.Memory first told = absurd first.5.2
is_told text refusal (inr h) = by_fault h.fault h.first h.told
  where
    by_fault : (fault : ParseError) → IsRefusal (items h.tokens) fault → refusal ≡ parse_refusal text h.tokens fault → (f : ScriptFault) × (p : Place)
        × (refusal ≡ Script (Fault f p))
    by_fault (parsing.Syntax n) first told = (Syntax, token_place text (slice_get h.tokens n), told)
    by_fault (parsing.TooDeep n) first told = (TooDeep, token_place text (slice_get h.tokens n), told)
    by_fault (parsing.TooMany n) first told = (TooManyProbes, token_place text (slice_get h.tokens n), told)
    by_fault parsing.Memory first told = absurd first.holds

-- what the lexer and the parser refuse is the first fault, or memory ran out
pub lexical_told : (text : List ℕ) (error : LexError) → (error ≢ lexical.Memory → IsFirstFault text error) → IsTextRefusal text (lexical_refusal text error)
lexical_told text lexical.Memory found = inl refl
lexical_told text error found = inr (inl (record { fault = error; first = found (λ e. cc); told = refl }))

pub parse_told : (text : List ℕ) (tokens : List Token) (error : ParseError) → IsTokensOf text tokens
    → (error ≢ parsing.Memory → IsRefusal (items tokens) error) → IsTextRefusal text (parse_refusal text tokens error)
parse_told text tokens parsing.Memory are found = inl refl
parse_told text tokens error are found = inr (inr (record { tokens = tokens; fault = error; are = are; first = found (λ e. cc); told = refl }))

-- ---- the first fault of a script over a recording

-- the first failing point of a tree is one
same_fault : (a b : Option AttachError) (one other : AttachError) → a ≡ b → a ≡ Some one → b ≡ Some other → one ≡ other
same_fault a b one other e is was = cc

one_attach_fault : (text : List ℕ) (says : Recorded) (one other : Refusal) → AreScriptLaws text
    → IsAttachFault text says one → IsAttachFault text says other → one ≡ other
one_attach_fault text says one other laws a b =
    let tree = one_tree text a.tree b.tree laws a.has b.has in
    let fault = same_fault _ _ a.fault b.fault (ap (λ (t : Tree). attach_fault t says.formats says.start says.end) tree) a.first b.first in
    a.told ∙ ap attach_refusal fault ∙ sym b.told

-- and so is the first fault of types of its bodies
same_type_fault : (a b : Option TypeFault) (one other : TypeFault) → a ≡ b → a ≡ Some one → b ≡ Some other → one ≡ other
same_type_fault a b one other e is was = cc

one_type_fault : (text : List ℕ) (says : Recorded) (one other : Refusal) → AreScriptLaws text
    → IsTypeFault text says one → IsTypeFault text says other → one ≡ other
one_type_fault text says one other laws a b =
    let tree = one_tree text a.tree b.tree laws a.has b.has in
    let fault = same_type_fault _ _ a.fault b.fault (ap (λ (t : Tree). body_fault t says) tree) a.first b.first in
    a.told ∙ ap (λ (f : TypeFault). type_refusal (typing.Broken f)) fault ∙ sym b.told

-- a tree that has a fault is no tree that has none
pub attach_apart : (text : List ℕ) (says : Recorded) (refusal : Refusal) (tree : Tree) → AreScriptLaws text → IsAttachFault text says refusal
    → HasTree text tree → attach_fault tree says.formats says.start says.end ≡ None → ⊥
attach_apart text says refusal tree laws a has none =
    some_is_not _ _ a.fault (ap (λ (t : Tree). attach_fault t says.formats says.start says.end) (one_tree text a.tree tree laws a.has has)) a.first none
  where
    some_is_not : (a b : Option AttachError) (fault : AttachError) → a ≡ b → a ≡ Some fault → b ≡ None → ⊥
    some_is_not a b fault e is none = cc

pub type_apart : (text : List ℕ) (says : Recorded) (refusal : Refusal) (tree : Tree) → AreScriptLaws text → IsTypeFault text says refusal
    → HasTree text tree → body_fault tree says ≡ None → ⊥
type_apart text says refusal tree laws a has none =
    some_is_not _ _ a.fault (ap (λ (t : Tree). body_fault t says) (one_tree text a.tree tree laws a.has has)) a.first none
  where
    some_is_not : (a b : Option TypeFault) (fault : TypeFault) → a ≡ b → a ≡ Some fault → b ≡ None → ⊥
    some_is_not a b fault e is none = cc

-- ---- sizes

some_same : {A : Type 0} (a b : A) → Some a ≡ Some b → a ≡ b
some_same a b e = cc

-- typed scripts of one tree over one recording have the same first body that is too large
one_size : (text : List ℕ) (tree : Tree) (says : Recorded) (a b : Attached) (s t : Typed) → AreScriptLaws text → HasTypes tree says a s → HasTypes tree says b t
    → first_size_fault 0 s.bodies ≡ first_size_fault 0 t.bodies
one_size text tree says a b s t laws one other =
    let bodies : b.bodies ≡ a.bodies = other.attached_to.bodies ∙ sym one.attached_to.bodies in
    laws.sizes tree says.formats a.bodies s t one.typed_of (subst (λ (l : List BodyId). IsTypedScript tree says.formats l t) bodies other.typed_of)

-- the probe of a body stands at one place
one_place : (tree : Tree) (a b : Attached) (n m : ℕ) (p q : Place) → a.bodies ≡ b.bodies → n ≡ m → IsProbePlace tree a n p → IsProbePlace tree b m q → p ≡ q
one_place tree a b n m p q bodies same one other =
    let ids : one.id ≡ other.id = some_same one.id other.id (sym one.of_body ∙ (λ i. slice_get (bodies i) (same i)) ∙ other.of_body) in
    let probes : one.probe ≡ other.probe =
    some_same one.probe other.probe (sym one.of_probe ∙ ap (λ (id : BodyId). slice_get tree.probes id.probe) ids ∙ other.of_probe) in
    one.at ∙ ap (λ (x : Probe). x.place) probes ∙ sym other.at

one_large : (text : List ℕ) (tree : Tree) (says : Recorded) (one other : Refusal) → AreScriptLaws text → IsLarge tree says one → IsLarge tree says other → one ≡ other
one_large text tree says one other laws a b =
    let bodies : a.attached.bodies ≡ b.attached.bodies = a.types.attached_to.bodies ∙ sym b.types.attached_to.bodies in
    let pair : (a.large.body, a.large.much) ≡ (b.large.body, b.large.much) =
    some_same (a.large.body, a.large.much) (b.large.body, b.large.much)
    (sym a.large.first ∙ one_size text tree says a.attached b.attached a.typed b.typed laws a.types b.types ∙ b.large.first) in
    let place : a.large.place ≡ b.large.place =
    one_place tree a.attached b.attached a.large.body b.large.body a.large.place b.large.place bodies (ap (λ (p : ℕ × SizeFault). p.0) pair) a.large.at b.large.at in
    let much : a.large.much ≡ b.large.much = ap (λ (p : ℕ × SizeFault). p.1) pair in
    a.large.told ∙ (λ i. size_refusal (much i) (place i)) ∙ sym b.large.told

one_size_fault : (text : List ℕ) (says : Recorded) (one other : Refusal) → AreScriptLaws text
    → IsSizeFault text says one → IsSizeFault text says other → one ≡ other
one_size_fault text says one other laws a b =
    let tree = one_tree text a.tree b.tree laws a.has b.has in
    one_large text b.tree says one other laws (subst (λ (t : Tree). IsLarge t says one) tree a.large) b.large

-- a tree of which a body is too large is none of which no body is
size_apart : (text : List ℕ) (says : Recorded) (refusal : Refusal) (tree : Tree) → AreScriptLaws text → IsSizeFault text says refusal
    → HasTree text tree → IsSized tree says → ⊥
size_apart text says refusal tree laws a has sized =
    let large = subst (λ (t : Tree). IsLarge t says refusal) (one_tree text a.tree tree laws a.has has) a.large in
    some_is_not (large.large.body, large.large.much)
    (sym large.large.first ∙ one_size text tree says large.attached sized.attached large.typed sized.typed laws large.types sized.types ∙ sized.fits)
  where
    some_is_not : (p : ℕ × SizeFault) → Some p ≡ None → ⊥
    some_is_not p e = cc

pub one_script_fault : (text : List ℕ) (says : Recorded) (one other : Refusal) → AreScriptLaws text
    → IsScriptFault text says one → IsScriptFault text says other → one ≡ other
one_script_fault text says one other laws (inl a) (inl b) = one_text_fault text one other laws a b
one_script_fault text says one other laws (inl a) (inr (inl b)) = absurd (no_tree text one b.tree laws a b.has)
one_script_fault text says one other laws (inl a) (inr (inr (inl b))) = absurd (no_tree text one b.tree laws a b.has)
one_script_fault text says one other laws (inl a) (inr (inr (inr b))) = absurd (no_tree text one b.tree laws a b.has)
one_script_fault text says one other laws (inr (inl a)) (inl b) = absurd (no_tree text other a.tree laws b a.has)
one_script_fault text says one other laws (inr (inl a)) (inr (inl b)) = one_attach_fault text says one other laws a b
one_script_fault text says one other laws (inr (inl a)) (inr (inr (inl b))) = absurd (attach_apart text says one b.tree laws a b.has b.attached)
one_script_fault text says one other laws (inr (inl a)) (inr (inr (inr b))) = absurd (attach_apart text says one b.tree laws a b.has b.attached)
one_script_fault text says one other laws (inr (inr (inl a))) (inl b) = absurd (no_tree text other a.tree laws b a.has)
one_script_fault text says one other laws (inr (inr (inl a))) (inr (inl b)) = absurd (attach_apart text says other a.tree laws b a.has a.attached)
one_script_fault text says one other laws (inr (inr (inl a))) (inr (inr (inl b))) = one_type_fault text says one other laws a b
one_script_fault text says one other laws (inr (inr (inl a))) (inr (inr (inr b))) = absurd (type_apart text says one b.tree laws a b.has b.typed)
one_script_fault text says one other laws (inr (inr (inr a))) (inl b) = absurd (no_tree text other a.tree laws b a.has)
one_script_fault text says one other laws (inr (inr (inr a))) (inr (inl b)) = absurd (attach_apart text says other a.tree laws b a.has a.attached)
one_script_fault text says one other laws (inr (inr (inr a))) (inr (inr (inl b))) = absurd (type_apart text says other a.tree laws b a.has a.typed)
one_script_fault text says one other laws (inr (inr (inr a))) (inr (inr (inr b))) = one_size_fault text says one other laws a b

-- a script with a fault is not accepted
pub no_script_fault : (text : List ℕ) (says : Recorded) (refusal : Refusal) (tree : Tree) → AreScriptLaws text → IsScriptFault text says refusal
    → HasTree text tree → attach_fault tree says.formats says.start says.end ≡ None → body_fault tree says ≡ None → IsSized tree says → ⊥
no_script_fault text says refusal tree laws (inl a) has none typed sized = no_tree text refusal tree laws a has
no_script_fault text says refusal tree laws (inr (inl a)) has none typed sized = attach_apart text says refusal tree laws a has none
no_script_fault text says refusal tree laws (inr (inr (inl a))) has none typed sized = type_apart text says refusal tree laws a has typed
no_script_fault text says refusal tree laws (inr (inr (inr a))) has none typed sized = size_apart text says refusal tree laws a has sized

-- what the lexer and the parser refuse, as a fault over a recording
pub text_told : (text : List ℕ) (says : Recorded) (refusal : Refusal) → IsTextRefusal text refusal → IsScriptRefusal text says refusal
text_told text says refusal (inl memory) = inl memory
text_told text says refusal (inr wrong) =
    let told = is_told text refusal wrong in
    inr (record { fault = told.0; place = told.1; told = told.2; first = inl (subst (λ (r : Refusal). IsTextFault text r) told.2 wrong) })

-- what attaching refuses
pub attach_told : (text : List ℕ) (says : Recorded) (tree : Tree) (error : AttachError) → HasTree text tree
    → (error ≢ attaching.Memory → attach_fault tree says.formats says.start says.end ≡ Some error)
    → IsScriptRefusal text says (attach_refusal error)
attach_told text says tree (attaching.UnknownTracepoint at) has found = inr (record {
  fault = UnknownTracepoint;
  place = at;
  told = refl;
  first = inr (inl (record { tree = tree; fault = attaching.UnknownTracepoint at; has = has; first = found (λ e. cc); told = refl }));
})
attach_told text says tree (attaching.NoMatch at) has found = inr (record {
  fault = NoMatch;
  place = at;
  told = refl;
  first = inr (inl (record { tree = tree; fault = attaching.NoMatch at; has = has; first = found (λ e. cc); told = refl }));
})
attach_told text says tree (attaching.BadPeriod at) has found = inr (record {
  fault = BadPeriod;
  place = at;
  told = refl;
  first = inr (inl (record { tree = tree; fault = attaching.BadPeriod at; has = has; first = found (λ e. cc); told = refl }));
})
attach_told text says tree (attaching.TooManyTicks at) has found = inr (record {
  fault = TooManyTicks;
  place = at;
  told = refl;
  first = inr (inl (record { tree = tree; fault = attaching.TooManyTicks at; has = has; first = found (λ e. cc); told = refl }));
})
attach_told text says tree (attaching.TooManyAttached at) has found = inr (record {
  fault = TooManyAttached;
  place = at;
  told = refl;
  first = inr (inl (record { tree = tree; fault = attaching.TooManyAttached at; has = has; first = found (λ e. cc); told = refl }));
})
attach_told text says tree attaching.Memory has found = inl refl

-- the bodies of what the script is attached to are those of its probes over the recording, and are there
pub bodies_of_tree : (tree : Tree) (says : Recorded) (attached : Attached) → IsAttachedTo tree says.formats says.start says.end attached
    → type_fault tree says.formats attached.bodies ≡ body_fault tree says
bodies_of_tree tree says attached is = ap (λ (bodies : List BodyId). type_fault tree says.formats bodies) is.bodies

event_is_there : (formats : List Format) (point : BodyPoint) → IsEventThere formats point → IsEventOf formats point
event_is_there formats (Event place) there = there
event_is_there formats Begin there = tt
event_is_there formats End there = tt
event_is_there formats Interval there = tt

pub bodies_checked : (tree : Tree) (formats : List Format) (bodies : List BodyId) → All (IsThere tree formats) bodies
    → All (IsBodyOf tree formats) bodies
bodies_checked tree formats bodies there =
    All-weaker (IsThere tree formats) (IsBodyOf tree formats) (λ id is. record { probe = is.probe; event = event_is_there formats id.point is.event }) bodies there

-- what typing refuses
pub type_told : (text : List ℕ) (says : Recorded) (tree : Tree) (bodies : List BodyId) (error : TypeError) → HasTree text tree
    → attach_fault tree says.formats says.start says.end ≡ None → type_fault tree says.formats bodies ≡ body_fault tree says
    → ((fault : TypeFault) → error ≡ typing.Broken fault → type_fault tree says.formats bodies ≡ Some fault)
    → IsScriptRefusal text says (type_refusal error)
type_told text says tree bodies typing.Memory has attached same found = inl refl
type_told text says tree bodies (typing.Broken fault) has attached same found = inr (record {
  fault = Types fault.rule;
  place = fault.place;
  told = refl;
  first =
      inr (inr (inl (record { tree = tree; fault = fault; has = has; attached = attached; first = sym same ∙ found fault refl; told = refl })));
})

-- what is attached, has its types and is not too large is what the script asks for; and what is too large refuses it
module _ (text : List ℕ) (says : Recorded) (tree : Tree) (attached : Attached) (typed : Typed) (has : HasTree text tree)
    (none : attach_fault tree says.formats says.start says.end ≡ None) (is : IsAttachedTo tree says.formats says.start says.end attached)
    (allowed : type_fault tree says.formats attached.bodies ≡ None) (of : IsTypedScript tree says.formats attached.bodies typed) where
  no_fault : body_fault tree says ≡ None
  no_fault = sym (bodies_of_tree tree says attached is) ∙ allowed

  types : HasTypes tree says attached typed
  types = record { attached_to = is; typed_of = of }

  pub job_told : (programs : List Program) → ArePrograms typed programs
      → AsksFor text (record { recording = says; attached = attached; typed = typed; programs = programs })
  job_told programs made = record {
    tree = tree;
    script = record {
      has = has;
      attached = none;
      typed = no_fault;
      sized = record { attached = attached; typed = typed; types = types; fits = made.fits };
    };
    attached = is;
    typed = of;
    fits = made.fits;
    programs = made.programs;
  }

  size_fault : (refusal : Refusal) → TellsLarge tree attached typed refusal → IsSizeFault text says refusal
  size_fault refusal large = record {
    tree = tree;
    has = has;
    attached = none;
    typed = no_fault;
    large = record { attached = attached; typed = typed; types = types; large = large };
  }

  pub size_told : (refusal : Refusal) → IsSizeAnswer tree attached typed refusal → IsScriptRefusal text says refusal
  size_told refusal (inl memory) = inl memory
  size_told refusal (inr wrong) = inr (record {
    fault = size_wrong wrong.much;
    place = wrong.place;
    told = wrong.told;
    first = inr (inr (inr (subst (λ (r : Refusal). IsSizeFault text says r) wrong.told (size_fault refusal wrong))));
  })
