-- The tokens as the grammar sees them: each has a class.
use Rattle.std.specs.Prelude.{List, [], ◌∷◌, Option, Some}
use Rattle.bt_lexer.specs.declared.token.Token.{Token}
use Rattle.bt_lexer.specs.declared.token.TokenKind.{TokenKind}
use Rattle.bt_lexer.specs.declared.token.TokenKind.TheVariants as kinds
use Rattle.bt_core.specs.declared.place.Place.{Place}
use Rattle.bt_ast.specs.declared.probe.Point.{Point}
use Rattle.bt_ast.specs.declared.probe.Point.TheVariants as points
use Rattle.bt_grammar.specs.declared.class.Class.{Class}
use Rattle.bt_grammar.specs.declared.class.Class.TheVariants.{TracepointPoint, IntervalPoint, MapName, VarName, NumberLiteral, TextLiteral, Foreign}
use Rattle.bt_grammar.specs.Attach.{attach_point}
use Rattle.bt_grammar.specs.Form.{Item}
use Rattle.bt_grammar.specs.Words.{word_class, mark_class}

abbrev pub point_class : Option Point → Class
point_class (Some (points.Tracepoint system name place)) = TracepointPoint
point_class (Some (points.Interval unit number place)) = IntervalPoint
point_class _ = Foreign

-- the first place of a text
abbrev pub origin : Place
origin = record { line = 1; column = 1 }

abbrev pub class_of : TokenKind → Class
class_of (kinds.Word word) = word_class word
class_of (kinds.Attach bytes) = point_class (attach_point bytes origin)
class_of (kinds.Map name) = MapName
class_of (kinds.Var name) = VarName
class_of (kinds.Number n) = NumberLiteral
class_of (kinds.Text text) = TextLiteral
class_of (kinds.Mark mark) = mark_class mark

abbrev pub item : Token → Item
item t = record { class = class_of t.kind; kind = t.kind; place = t.place }

abbrev pub items : List Token → List Item
items [] = []
items (t ∷ r) = item t ∷ items r
