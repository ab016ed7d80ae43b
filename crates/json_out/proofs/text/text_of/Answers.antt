use Rattle.std.proofs.Common.{◌++◌, ℕ, get_or, refl, ap, ◌∙◌, string_bytes, encode_utf8}
use Rattle.std.specs.Prelude.{encode_utf8_all}
use Rattle.map_printer.proofs.Chains.{next_row, last_row}
use Rattle.json_out.proofs.text.text_of.Goals as goal

pub loop-byte-preserved : goal.loop-byte-preserved
loop-byte-preserved c =
    let bytes = c.args.bytes.now in let i = c.loop-byte.byte-index in let b = get_or bytes i 0 in
    next_row encode_utf8_all encode_utf8_all encode_utf8 (λ x xs. refl) bytes i b 0 (string_bytes c.loop-byte.text) (string_bytes c.push.new.self)
    (encode_utf8_all bytes) c.loop-byte-test.true refl c.loop-byte.invariant
    (c.in_ok-push.ensures.bytes ∙ ap (λ (x : ℕ). string_bytes c.loop-byte.text ++ encode_utf8 x) c.from.ensures)

pub returns : goal.returns
returns c = last_row encode_utf8_all refl c.args.bytes.now c.loop-byte.byte-index (string_bytes c.loop-byte.text) (encode_utf8_all c.args.bytes.now) c.loop-byte-test.false c.loop-byte.invariant
