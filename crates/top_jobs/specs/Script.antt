-- The tree of a script, and its first fault over a recording.
use Rattle.std.specs.Prelude.{◌≡◌, ℕ, ◌⊎◌, List, take, length, slice_get, Option, Some, None}
use Rattle.recordings.specs.declared.recording.Recording.{Recording as Recorded}
use Rattle.bt_attach.specs.declared.error.AttachError.{AttachError}
use Rattle.bt_attach.specs.declared.error.AttachError.TheVariants as attaching
use Rattle.bt_attach.specs.Attaching.{attach_fault, bodies_from}
use Rattle.bt_lexer.specs.declared.error.LexError.{LexError}
use Rattle.bt_lexer.specs.declared.error.LexError.TheVariants as lexical
use Rattle.bt_core.specs.declared.place.Place.{Place}
use Rattle.bt_lexer.specs.declared.token.Token.{Token}
use Rattle.bt_lexer.specs.Places.{line_behind, column_behind}
use Rattle.bt_lexer.specs.Tokens.{IsTokensOf, IsFirstFault}
use Rattle.bt_ast.specs.declared.probe.Script.{Script as Tree}
use Rattle.bt_grammar.specs.declared.error.ParseError.{ParseError}
use Rattle.bt_grammar.specs.declared.error.ParseError.TheVariants as parsing
use Rattle.bt_grammar.specs.Refusals.{IsAccepted, IsRefusal}
use Rattle.bt_grammar.specs.Tokens.{items}
use Rattle.top_refusals.specs.declared.refusal.ScriptFault.TheVariants.{BadCharacter, OpenString, OpenComment, NumberTooLarge, BadEscape, StringTooLong, Syntax}
use Rattle.expr_types.specs.declared.fault.Fault.{Fault as TypeFault}
use Rattle.expr_types.specs.declared.fault.TypeError.{TypeError}
use Rattle.expr_types.specs.declared.fault.TypeError.TheVariants as typing
use Rattle.bt_types.specs.Bodies.{type_fault}
use Rattle.top_refusals.specs.declared.refusal.ScriptFault.TheVariants.{TooDeep, TooManyProbes, UnknownTracepoint, NoMatch, BadPeriod, TooManyTicks, TooManyAttached}
use Rattle.top_refusals.specs.declared.refusal.ScriptFault.TheVariants.{Types}
use Rattle.top_refusals.specs.declared.refusal.Refusal.{Refusal}
use Rattle.top_refusals.specs.declared.refusal.ScriptRefusal.TheVariants.{Fault}
use Rattle.top_refusals.specs.declared.refusal.Refusal.TheVariants.{Script, Memory}
use Rattle.top_jobs.specs.Sizes.{IsLarge}

-- ---- the first fault of a script

-- the line and column of a byte of the text, or of its end
abbrev pub offset_place : List ℕ → ℕ → Place
offset_place text offset = record { line = line_behind (take offset text); column = column_behind (take offset text) }

-- the line and column of a token, or of the end of the text where there is none
abbrev pub token_place : List ℕ → Option Token → Place
token_place text None = offset_place text (length text)
token_place text (Some token) = token.place

-- why a text is refused whose first lexical fault is this one
abbrev pub lexical_refusal : List ℕ → LexError → Refusal
lexical_refusal text (lexical.BadChar at) = Script (Fault BadCharacter (offset_place text at))
lexical_refusal text (lexical.OpenString at) = Script (Fault OpenString (offset_place text at))
lexical_refusal text (lexical.OpenComment at) = Script (Fault OpenComment (offset_place text at))
lexical_refusal text (lexical.NumberTooLarge at) = Script (Fault NumberTooLarge (offset_place text at))
lexical_refusal text (lexical.BadEscape at) = Script (Fault BadEscape (offset_place text at))
lexical_refusal text (lexical.StringTooLong at) = Script (Fault StringTooLong (offset_place text at))
lexical_refusal text lexical.Memory = Memory

-- why a text is refused whose tokens have this first fault
abbrev pub parse_refusal : List ℕ → List Token → ParseError → Refusal
parse_refusal text tokens (parsing.Syntax n) = Script (Fault Syntax (token_place text (slice_get tokens n)))
parse_refusal text tokens (parsing.TooDeep n) = Script (Fault TooDeep (token_place text (slice_get tokens n)))
parse_refusal text tokens (parsing.TooMany n) = Script (Fault TooManyProbes (token_place text (slice_get tokens n)))
parse_refusal text tokens parsing.Memory = Memory

-- why a script is refused of whose points this is the first fault
abbrev pub attach_refusal : AttachError → Refusal
attach_refusal (attaching.UnknownTracepoint place) = Script (Fault UnknownTracepoint place)
attach_refusal (attaching.NoMatch place) = Script (Fault NoMatch place)
attach_refusal (attaching.BadPeriod place) = Script (Fault BadPeriod place)
attach_refusal (attaching.TooManyTicks place) = Script (Fault TooManyTicks place)
attach_refusal (attaching.TooManyAttached place) = Script (Fault TooManyAttached place)
attach_refusal attaching.Memory = Memory

-- why a script is refused in whose bodies this is the first fault of types
abbrev pub type_refusal : TypeError → Refusal
type_refusal (typing.Broken fault) = Script (Fault (Types fault.rule) fault.place)
type_refusal typing.Memory = Memory

-- the text's first lexical fault is told by this refusal
pub record IsLexicalFault (text : List ℕ) (refusal : Refusal) : Type 0 where
  pub fault : LexError
  pub first : IsFirstFault text fault
  pub told : refusal ≡ lexical_refusal text fault

-- the text has tokens, and their first fault is told by this refusal
pub record IsParseFault (text : List ℕ) (refusal : Refusal) : Type 0 where
  pub tokens : List Token
  pub fault : ParseError
  pub are : IsTokensOf text tokens
  pub first : IsRefusal (items tokens) fault
  pub told : refusal ≡ parse_refusal text tokens fault

-- the refusal tells the first lexical fault of the text, or the first fault of its tokens
abbrev pub IsTextFault : List ℕ → Refusal → Type 0
IsTextFault text refusal = IsLexicalFault text refusal ⊎ IsParseFault text refusal

-- the tree of the text's tokens
pub record HasTree (text : List ℕ) (tree : Tree) : Type 0 where
  pub tokens : List Token
  pub are : IsTokensOf text tokens
  pub is : IsAccepted (items tokens) tree

-- the text has a tree, and the first of its points that breaks a rule over this recording is told by this refusal
pub record IsAttachFault (text : List ℕ) (says : Recorded) (refusal : Refusal) : Type 0 where
  pub tree : Tree
  pub fault : AttachError
  pub has : HasTree text tree
  pub first : attach_fault tree says.formats says.start says.end ≡ Some fault
  pub told : refusal ≡ attach_refusal fault

-- the first rule of types that is broken in the bodies that a tree is attached to over this recording
abbrev pub body_fault : Tree → Recorded → Option TypeFault
body_fault tree says = type_fault tree says.formats (bodies_from says.formats 0 tree.probes)

-- the text has a tree whose points may all be attached, and the first fault of types of its bodies is told by this refusal
pub record IsTypeFault (text : List ℕ) (says : Recorded) (refusal : Refusal) : Type 0 where
  pub tree : Tree
  pub fault : TypeFault
  pub has : HasTree text tree
  pub attached : attach_fault tree says.formats says.start says.end ≡ None
  pub first : body_fault tree says ≡ Some fault
  pub told : refusal ≡ type_refusal (typing.Broken fault)

-- the text has a tree whose points may all be attached and whose bodies break no rule of types, and the first of its bodies that is too
-- large is told by this refusal
pub record IsSizeFault (text : List ℕ) (says : Recorded) (refusal : Refusal) : Type 0 where
  pub tree : Tree
  pub has : HasTree text tree
  pub attached : attach_fault tree says.formats says.start says.end ≡ None
  pub typed : body_fault tree says ≡ None
  pub large : IsLarge tree says refusal

-- the refusal tells the first fault of a script over a recording, in the order lexing, parsing, attaching, typing, frame and code
abbrev pub IsScriptFault : List ℕ → Recorded → Refusal → Type 0
IsScriptFault text says refusal = IsTextFault text refusal ⊎ (IsAttachFault text says refusal ⊎ (IsTypeFault text says refusal ⊎ IsSizeFault text says refusal))
