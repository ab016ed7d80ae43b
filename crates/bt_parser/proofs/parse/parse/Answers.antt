use Rattle.std.proofs.Common.{arith, ◌≡◌, ◌∷◌, [], ◌+◌, ◌∙◌, None, Some, ap, take, sym, length, ◌<◌}
use Rattle.std.proofs.lemmas.Grind.{common_steps}
use Rattle.bt_parser.specs.ClassLists.{classes_of}
use Rattle.bt_parser.specs.Levels.{deep_from}
use Rattle.bt_grammar.specs.Tokens.{items}
use Rattle.bt_parser.proofs.Fronts.{classes_of-take, deep_within, front_length, front_short}
use Rattle.bt_parser.proofs.Parsed.{right_none, right_some, accepted_by, refused_by}
use Rattle.bt_parser.proofs.parse.parse.Goals as goal

pub returns-in-None-clause-tree : goal.returns-in-None-clause-tree
returns-in-None-clause-tree c =
    let e : deep_from 0 (0 ∷ []) (classes_of c.args.tokens.now) ≡ None = grind (arith, common_steps) in
    accepted_by (items c.args.tokens.now) c.args.tokens.now None c.parse_front.result (λ answer. right_none c.args.tokens.now answer e) c.parse_front.ensures.ok

pub returns-in-None-clause-fault : goal.returns-in-None-clause-fault
returns-in-None-clause-fault c =
    let e : deep_from 0 (0 ∷ []) (classes_of c.args.tokens.now) ≡ None = grind (arith, common_steps) in
    refused_by (items c.args.tokens.now) c.args.tokens.now None c.parse_front.result (λ answer. right_none c.args.tokens.now answer e) c.parse_front.ensures.err

pub parse_front-requires-in-Some-clause-classes : goal.parse_front-requires-in-Some-clause-classes
parse_front-requires-in-Some-clause-classes c =
    ap (take (c.in-Some.deep + 1)) (c.as_slice-classes.ensures ∙ c.in_ok-classes.ensures) ∙ classes_of-take (c.in-Some.deep + 1) c.args.tokens.now

pub returns-clause-tree : goal.returns-clause-tree
returns-clause-tree c =
    let e : deep_from 0 (0 ∷ []) (classes_of c.args.tokens.now) ≡ Some c.in-Some.deep = grind (arith, common_steps) in
    accepted_by (items c.args.tokens.now) (take (c.in-Some.deep + 1) c.args.tokens.now) (Some c.in-Some.deep) c.parse_front-in-Some.result (λ answer. right_some c.args.tokens.now c.in-Some.deep answer e) c.parse_front-in-Some.ensures.ok

pub returns-clause-fault : goal.returns-clause-fault
returns-clause-fault c =
    let e : deep_from 0 (0 ∷ []) (classes_of c.args.tokens.now) ≡ Some c.in-Some.deep = grind (arith, common_steps) in
    refused_by (items c.args.tokens.now) (take (c.in-Some.deep + 1) c.args.tokens.now) (Some c.in-Some.deep) c.parse_front-in-Some.result (λ answer. right_some c.args.tokens.now c.in-Some.deep answer e) c.parse_front-in-Some.ensures.err

pub slice_bounds-parse_front-end : goal.slice_bounds-parse_front-end
slice_bounds-parse_front-end c =
    let h : c.in-Some.deep < length c.args.tokens.now =
    deep_within c.args.tokens.now c.as_slice-classes.result.now c.in_ok-first_too_deep.field-0 c.in-Some.deep
    (c.as_slice-classes.ensures ∙ c.in_ok-classes.ensures) c.in-Some.is
    c.in_ok-first_too_deep.ensures.within in sym (front_length c.args.tokens.now c.in-Some.deep h)

pub parse_front-requires-in-Some-clause-short : goal.parse_front-requires-in-Some-clause-short
parse_front-requires-in-Some-clause-short c =
    let h : c.in-Some.deep < length c.args.tokens.now =
    deep_within c.args.tokens.now c.as_slice-classes.result.now c.in_ok-first_too_deep.field-0 c.in-Some.deep
    (c.as_slice-classes.ensures ∙ c.in_ok-classes.ensures) c.in-Some.is
    c.in_ok-first_too_deep.ensures.within in front_short c.args.tokens.now c.in-Some.deep h c.requires

pub overflow_cast-deep : goal.overflow_cast-deep
overflow_cast-deep c =
    let h : c.in-Some.deep < length c.args.tokens.now =
    deep_within c.args.tokens.now c.as_slice-classes.result.now c.in_ok-first_too_deep.field-0 c.in-Some.deep
    (c.as_slice-classes.ensures ∙ c.in_ok-classes.ensures) c.in-Some.is
    c.in_ok-first_too_deep.ensures.within in omega (arith, h)
