-- Reading by one token ahead.
use Rattle.std.specs.Prelude.{ℕ, zero, suc, ◌+◌, ◌*◌, length, Bool, true, false, not, ◌||◌, ◌&&◌, List, [], ◌∷◌, Option, Some, None, if◌then◌else◌}
use Rattle.bt_grammar.specs.declared.class.Class.{Class}
use Rattle.bt_grammar.specs.Classes.{is}
use Rattle.bt_grammar.specs.Form.{Item, is_brace, brace_next, Part, Of, Form, Tok, Empty, Call, Map, Then, Or, Until, Op, Chain}
use Rattle.bt_grammar.specs.Tables.{nul, fst_of, stops_of, sens_of, free, width}
use Rattle.bt_grammar.specs.Rules.{rule}

-- ---- what one token tells of a form

-- nullable: whether a form may be empty
abbrev pub nullable : {A : Type 0} → Form A → Bool
nullable (Tok p) = false
nullable (Empty d) = true
nullable (Call n) = nul n
nullable (Map f P) = nullable P
nullable (Then f P Q) = nullable P && nullable Q
nullable (Or P Q) = nullable P || nullable Q
nullable (Until P k) = false
nullable (Op g Q) = false
nullable (Chain f P Q) = nullable P

-- FIRST: whether a form may begin with such a token, by its class and whether a brace comes after it
abbrev pub first : {A : Type 0} → Form A → Class → Bool → Bool
first (Tok p) c b = p c
first (Empty d) c b = false
first (Call n) c b = fst_of n c
first (Map f P) c b = first P c b
first (Then f P Q) c b = if nullable P then first P c b || first Q c b else first P c b
first (Or P Q) c b = first P c b || first Q c b
first (Until P k) c b = if nullable P then first P c b || is k c else first P c b
first (Op g Q) c b = g c b
first (Chain f P Q) c b = if nullable P then first P c b || first Q c b else first P c b

abbrev pub brace_head : Option Class → Bool
brace_head None = false
brace_head (Some c) = is_brace c

-- FOLLOW: whether such a token may stand behind a whole one, which nothing goes on with; no token is the end of the list
abbrev pub stops : {A : Type 0} → Form A → Option Class → Bool → Bool
stops (Tok p) h b = true
stops (Empty d) h b = true
stops (Call n) h b = stops_of n h b
stops (Map f P) h b = stops P h b
stops (Then f P Q) h b = stops Q h b && (not (nullable Q) || stops P h b)
stops (Or P Q) h b = stops P h b && (stops Q h b && (not (nullable Q) || free (first P) h b))
stops (Until P k) h b = stops P (Some k) (brace_head h)
stops (Op g Q) h b = stops Q h b
stops (Chain f P Q) h b = free (first Q) h b && (stops Q h b && stops P h b)

abbrev pub differs : (Class → Bool → Bool) → Class → Bool
differs p c = if p c true then not (p c false) else p c false

-- whether the token after the next may matter
abbrev pub sens : {A : Type 0} → Form A → Class → Bool
sens (Tok p) c = false
sens (Empty d) c = false
sens (Call n) c = sens_of n c
sens (Map f P) c = sens P c
sens (Then f P Q) c = sens P c || sens Q c
sens (Or P Q) c = sens P c || sens Q c
sens (Until P k) c = false
sens (Op g Q) c = sens Q c
sens (Chain f P Q) c = differs (first Q) c || (sens P c || sens Q c)

-- whether a form never refuses such a token as its first
abbrev pub takes : {A : Type 0} → Form A → Class → Bool
takes (Tok p) c = p c
takes (Empty d) c = true
takes (Call n) c = false
takes (Map f P) c = takes P c
takes (Then f P Q) c = false
takes (Or P Q) c = if first P c true then takes P c else takes Q c
takes (Until P k) c = false
takes (Op g Q) c = g c true && g c false
takes (Chain f P Q) c = false

-- ---- reading

-- what was read and the tokens that are left, or the tokens from the refused one on
pub data Out (A : Type 0) : Type 0 where
  Done : A → List Item → Out A
  Refused : List Item → Out A
  Unfinished : Out A

abbrev pub and_then : {A B : Type 0} → Out A → (A → List Item → Out B) → Out B
and_then (Done a r) f = f a r
and_then (Refused r) f = Refused r
and_then Unfinished f = Unfinished

abbrev pub Reader : Type 0
Reader = (n : Part) → List Item → Out (Of n)

abbrev pub token_at : (Class → Bool → Bool) → List Item → Out Item
token_at p [] = Refused []
token_at p (t ∷ r) = if p t.class (brace_next r) then Done t r else Refused (t ∷ r)

abbrev pub starts : (Class → Bool → Bool) → List Item → Bool
starts p [] = false
starts p (t ∷ r) = p t.class (brace_next r)

abbrev pub rest_of : List Item → List Item
rest_of [] = []
rest_of (t ∷ r) = r

abbrev pub loop : {A B : Type 0} → (A → B → A) → (Class → Bool → Bool) → (List Item → Out B) → ℕ → A → List Item → Out A
loop f p rd zero a ts = if starts p ts then Unfinished else Done a ts
loop f p rd (suc k) a ts = if starts p ts then and_then (rd ts) (λ b r. loop f p rd k (f a b) r) else Done a ts

abbrev pub read : {A : Type 0} → Reader → Form A → List Item → Out A
read R (Tok p) ts = token_at (λ c _. p c) ts
read R (Empty d) ts = Done d ts
read R (Call n) ts = R n ts
read R (Map f P) ts = and_then (read R P ts) (λ a r. Done (f a) r)
read R (Then f P Q) ts = and_then (read R P ts) (λ a r. and_then (read R Q r) (λ b r'. Done (f a b) r'))
read R (Or P Q) ts = if starts (first P) ts then read R P ts else read R Q ts
read R (Until P k) ts = and_then (read R P ts) (λ a r. and_then (token_at (λ c _. is k c) r) (λ _ r'. Done a r'))
read R (Op g Q) ts = and_then (token_at g ts) (λ t r. and_then (read R Q r) (λ b r'. Done (t, b) r'))
read R (Chain f P Q) ts = and_then (read R P ts) (λ a r. loop f (first Q) (read R Q) (suc (length r)) a r)

-- with parts in parts to a depth
abbrev pub read_at : ℕ → Reader
read_at zero n ts = Unfinished
read_at (suc d) n ts = read (read_at d) (rule n) ts

-- ---- reading to its end

-- a part of any list
unfoldable pub reads : Reader
reads n ts = read_at (suc (width * length ts + width)) n ts

-- what is read of a list after which a form goes on with so many more
unfoldable pub goes_on : {A B : Type 0} → (A → B → A) → Form B → A → List Item → Out A
goes_on f Q a ts = loop f (first Q) (read reads Q) (suc (length ts)) a ts
