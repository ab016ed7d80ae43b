-- When one token ahead decides, but for what a brace after it decides.
use Rattle.std.specs.Prelude.{◌≡◌, Bool, true, false, Some, ◌⊎◌}
use Rattle.bt_grammar.specs.declared.class.Class.{Class}
use Rattle.bt_grammar.specs.declared.class.Class.TheVariants.{OpenBrace}
use Rattle.bt_grammar.specs.Classes.{is}
use Rattle.bt_grammar.specs.Form.{Form, Tok, Empty, Call, Map, Then, Or, Until, Op, Chain}
use Rattle.bt_grammar.specs.Reading.{nullable, first, stops, differs, sens, takes}

-- where Q begins, P ends
abbrev pub Apart : {A B : Type 0} → Form A → Form B → Type 0
Apart P Q = (c : Class) (b : Bool) → first Q c b ≡ true → stops P (Some c) b ≡ true

-- the token after the next does not matter
abbrev pub Closed : (Class → Bool → Bool) → Type 0
Closed p = (c : Class) → differs p c ≡ false

abbrev pub WhenNot : Bool → Type 0 → Type 0
WhenNot true P = Unit {0}
WhenNot false P = P

-- led by an operator
abbrev pub Led : {A : Type 0} → Form A → Type 0
Led (Op g Q) = Unit {0}
Led _ = ⊥

-- a link of a chain, whose operator is never refused, or any form
abbrev pub FineAt : {A : Type 0} → Bool → Form A → Type 0
FineAt link (Tok p) = Unit {0}
FineAt link (Empty d) = Unit {0}
FineAt link (Call n) = Unit {0}
FineAt link (Map f P) = FineAt false P
FineAt link (Then f P Q) = FineAt false P × FineAt false Q × Apart P Q × ((c : Class) → sens P c ≡ true → takes Q c ≡ true)
FineAt link (Or P Q) = FineAt false P × FineAt false Q × (nullable P ≡ false) × ((c : Class) (b : Bool) → first P c b ≡ true → first Q c b ≡ true → ⊥) × Closed (first P)
FineAt link (Until P k) = FineAt false P × ((c : Class) → sens P c ≡ true → is k c ≡ true)
FineAt link (Op g Q) = FineAt false Q × (nullable Q ≡ false) × ((b : Bool) → first Q OpenBrace b ≡ false) × ((c : Class) → g c true ≡ true → g c false ≡ true) × WhenNot link (Closed g)
FineAt link (Chain f P Q) = FineAt false P × FineAt true Q × (nullable Q ≡ false) × Apart P Q × Apart Q Q × (Led Q ⊎ ((c : Class) → (sens P c ≡ false) × (sens Q c ≡ false) × (differs (first Q) c ≡ false)))

abbrev pub Fine : {A : Type 0} → Form A → Type 0
Fine P = FineAt false P
