use Rattle.std.proofs.Common.{ap, ◌∙◌}
use Rattle.event_record.specs.Contexts.{with_number}
use Rattle.event_record.specs.Parts.{context_of}
use Rattle.event_record.proofs.ContextLemmas.{numbers_put}
use Rattle.event_record.proofs.contexts.put_numbers.Goals as goal

pub returns-clause-numbers : goal.returns-clause-numbers
returns-clause-numbers c =
    let since = c.put_word-2.ensures.put ∙ ap (λ n. with_number 8 n c.put_word.new.bytes) c.elapsed.ensures.value in
    numbers_put (context_of c.args.parts.now) c.args.bytes.now c.put_word.new.bytes c.put_word-2.new.bytes c.put_half.new.bytes c.put_half-2.new.bytes c.put_half-3.new.bytes
    c.put_half-4.new.bytes c.put_half-5.new.bytes c.put_half-6.new.bytes c.requires.zeros c.put_word.ensures.put since c.put_half.ensures.put c.put_half-2.ensures.put
    c.put_half-3.ensures.put c.put_half-4.ensures.put c.put_half-5.ensures.put c.put_half-6.ensures.put

pub returns-clause-fits : goal.returns-clause-fits
returns-clause-fits c = record {
  time = c.put_word.ensures.fits;
  start = c.elapsed.ensures.fits;
  pid = c.put_half.ensures.fits;
  tid = c.put_half-2.ensures.fits;
  uid = c.put_half-3.ensures.fits;
  gid = c.put_half-4.ensures.fits;
  cpu = c.put_half-5.ensures.fits;
  payload_len = c.put_half-6.ensures.fits;
}
