-- The maps and strings of a tree are those of its tokens, in their order.
use Rattle.std.proofs.Common.{◌≡◌, ◌≤◌, List, [], ◌∷◌, ◌++◌, length, map, refl, ap, sym, subst, ◌∙◌, arith, length-append}
use Rattle.std.specs.List.{filter_map}
use Rattle.bt_ast.specs.declared.probe.Script.{Script}
use Rattle.bt_grammar.specs.declared.class.Class.{Class}
use Rattle.bt_grammar.specs.declared.class.Class.TheVariants.{MapName, TextLiteral}
use Rattle.bt_grammar.specs.Form.{Item, WholeScript}
use Rattle.bt_grammar.specs.Grammar.{IsTreeOf}
use Rattle.bt_grammar.specs.Mentions.{OfMap, OfFormat, OfText, Mentions, Named, IsPartOf, Ended, Kept, LeftOut, plain, as_map, as_format, as_text, mentions_of, item_mentions, token_mentions, maps_of, token_maps, formats_of, token_texts}
use Rattle.bt_grammar.proofs.MentionParts.{tells_part}

pub in_order : (tokens : List Item) (script : Script) → IsTreeOf tokens script → map plain (mentions_of script) ≡ token_mentions tokens
in_order tokens script (d, w) = (tells_part d WholeScript).tell tokens script.probes w

plain_maps : (ms : Mentions) → filter_map as_map (map plain ms) ≡ filter_map as_map ms
plain_maps [] = refl
plain_maps (OfMap name place ∷ ms) = ap (λ (l : List Named). (name, place) ∷ l) (plain_maps ms)
plain_maps (OfFormat text place ∷ ms) = plain_maps ms
plain_maps (OfText text place ∷ ms) = plain_maps ms

pub maps_in_order : (tokens : List Item) (script : Script) → IsTreeOf tokens script → maps_of script ≡ token_maps tokens
maps_in_order tokens script w = sym (plain_maps (mentions_of script)) ∙ ap (filter_map as_map) (in_order tokens script w)

formats_within : (ms : Mentions) → IsPartOf (filter_map as_format ms) (filter_map as_text (map plain ms))
formats_within [] = Ended
formats_within (OfMap name place ∷ ms) = formats_within ms
formats_within (OfFormat text place ∷ ms) = Kept (formats_within ms)
formats_within (OfText text place ∷ ms) = LeftOut (formats_within ms)

pub formats_in_order : (tokens : List Item) (script : Script) → IsTreeOf tokens script → IsPartOf (formats_of script) (token_texts tokens)
formats_in_order tokens script w = subst (λ (ms : Mentions). IsPartOf (formats_of script) (filter_map as_text ms)) (in_order tokens script w) (formats_within (mentions_of script))

part_shorter : (xs ys : List Named) → IsPartOf xs ys → length xs ≤ length ys
part_shorter [] ys p = omega arith
part_shorter (x ∷ xs) [] p = elim p [ ]
part_shorter (x ∷ xs) (y ∷ ys) (Kept p) = let h : length xs ≤ length ys = part_shorter xs ys p in omega arith
part_shorter (x ∷ xs) (y ∷ ys) (LeftOut p) = let h : length (x ∷ xs) ≤ length ys = part_shorter (x ∷ xs) ys p in omega arith

texts_behind : (ms : Mentions) (more : Mentions) → filter_map as_text (ms ++ more) ≡ filter_map as_text ms ++ filter_map as_text more
texts_behind [] more = refl
texts_behind (OfMap name place ∷ ms) more = texts_behind ms more
texts_behind (OfFormat text place ∷ ms) more = texts_behind ms more
texts_behind (OfText text place ∷ ms) more = ap (λ (l : List Named). (text, place) ∷ l) (texts_behind ms more)

one_text : (c : Class) (t : Item) → length (filter_map as_text (item_mentions c t)) ≤ 1
one_text MapName t = omega arith
one_text TextLiteral t = omega arith
one_text _ t = omega arith

few_texts : (ts : List Item) → length (token_texts ts) ≤ length ts
few_texts [] = omega arith
few_texts (t ∷ ts) =
    let h : length (token_texts ts) ≤ length ts = few_texts ts in
    let one : length (filter_map as_text (item_mentions t.class t)) ≤ 1 = one_text t.class t in
    omega (arith, one, h, ap length (texts_behind (item_mentions t.class t) (token_mentions ts)), length-append (filter_map as_text (item_mentions t.class t)) (filter_map as_text (token_mentions ts)))

pub few_formats : (tokens : List Item) (script : Script) → IsTreeOf tokens script → length (formats_of script) ≤ length tokens
few_formats tokens script w =
    let some : length (formats_of script) ≤ length (token_texts tokens) = part_shorter (formats_of script) (token_texts tokens) (formats_in_order tokens script w) in
    let all : length (token_texts tokens) ≤ length tokens = few_texts tokens in
    omega arith
