use Rattle.std.proofs.Common.{arith, ◌≡◌, ◌∙◌, ◌<◌, ap, length, ◌++◌, sym}
use Rattle.std.proofs.lemmas.Grind.{common_steps}
use Rattle.std.proofs.lemmas.Result.{err_from_is_err_and}
use Rattle.bt_lexer.specs.Scan.{prepend, tokens_at}
use Rattle.bt_lexer.proofs.Turns.{turn, refused, prepend_more, all_read}
use Rattle.bt_lexer.proofs.lexer.tokens_from.Goals as goal

pub returns-in_err-kind : goal.returns-in_err-kind
returns-in_err-kind c =
    let p = err_from_is_err_and c.from_residual.result c.from_residual.ensures.1 in
    let some : 0 < length c.loop-rest.rest.now = grind (arith, common_steps) in
    rw (p.1, p.2) (λ ne. sym c.loop-rest.invariant.tokens ∙ ap (prepend c.loop-rest.tokens.items) (refused c.loop-rest.position c.loop-rest.rest.now c.in_err-kind.field-0.0 (c.in_err-kind.ensures.value ne) some))

pub loop-rest-preserved : goal.loop-rest-preserved
loop-rest-preserved c =
    let piece = c.in_ok-kind.field-0 in
    let items : c.push_token.new.tokens.items ≡ c.loop-rest.tokens.items ++ tokens_at piece.kind c.loop-rest.position piece.len = grind (arith, common_steps) in
    let e = turn c.loop-rest.position c.loop-rest.rest.now piece c.in_ok-kind.ensures.value c.in_ok-kind.ensures.within.0 c.in_ok-kind.ensures.within.1 in
    record {
      tokens = rw (items, c.after-position.ensures.value, c.split_at.ensures.front, c.split_at.ensures.back) (sym (prepend_more c.loop-rest.tokens.items (tokens_at piece.kind c.loop-rest.position piece.len) _) ∙ ap (prepend c.loop-rest.tokens.items) (sym e) ∙ c.loop-rest.invariant.tokens);
      position = grind (arith, common_steps);
      room = grind (arith, common_steps);
    }

pub returns : goal.returns
returns c =
    sym c.loop-rest.invariant.tokens ∙ all_read c.loop-rest.tokens.items c.of.result c.loop-rest.position c.loop-rest.rest.now c.loop-rest-test.ensures c.of.ensures
