use Rattle.std.proofs.Common.{◌≡◌, ◌+◌, ◌-◌, ◌%◌, ◌^◌, ◌∙◌, ap, drop, arith}
use Rattle.std.specs.List.{take_while}
use Rattle.std.proofs.lemmas.List.{take-take}
use Rattle.bt_core.specs.Text.{is_text_byte, short_text}
use Rattle.bt_core.specs.declared.context.Context.{Context}
use Rattle.byteorder.specs.Endian.{little_number}
use Rattle.event_record.specs.Contexts.{context_in}
use Rattle.event_record.proofs.contexts.ContextBytes.context.Goals as goal

pub returns : goal.returns
returns c =
    let time : c.word_at-time.result ≡ little_number 8 c.self.inside.bytes = c.word_at-time.ensures in
    let since : c.word_at.result ≡ little_number 8 (drop 8 c.self.inside.bytes) = c.word_at.ensures in
    let comm : c.of.result ≡ short_text (drop 64 c.self.inside.bytes) = c.of.ensures ∙ ap (take_while is_text_byte) (take-take 63 64 (drop 64 c.self.inside.bytes) (omega arith)) in
    let read : ◌≡◌ {A = Context} (record {
      time = c.word_at-time.result;
      start = (c.word_at-time.result + (2 ^ 64 - c.word_at.result)) % 2 ^ 64;
      pid = c.half_at.result;
      tid = c.half_at-2.result;
      uid = c.half_at-3.result;
      gid = c.half_at-4.result;
      cpu = c.half_at-5.result;
      comm = c.of.result;
      payload_len = c.half_at-6.result;
    }) (context_in c.self.inside.bytes) = λ i. record {
      time = time i;
      start = (time i + (2 ^ 64 - since i)) % 2 ^ 64;
      pid = c.half_at.ensures i;
      tid = c.half_at-2.ensures i;
      uid = c.half_at-3.ensures i;
      gid = c.half_at-4.ensures i;
      cpu = c.half_at-5.ensures i;
      comm = comm i;
      payload_len = c.half_at-6.ensures i;
    } in
    read ∙ c.self.view_is
