-- What the output was offered: of each call that took bytes, how many it was offered and how many it took.
use Rattle.std.specs.Prelude.{ℕ, List, [], ◌++◌, length, Option, Some}
use Rattle.bt_io.specs.Offers.{OffersAllLeft}
use Rattle.bt_words.specs.declared.order.Order.{Order}
use Rattle.bt_words.specs.declared.order.Order.TheVariants.{Account}
use Rattle.run_output.specs.declared.job.Work.{Work}
use Rattle.top_refusals.specs.Lines.{SinkUse}
use Rattle.bt_top.specs.declared.report.Report.{Report}
use Rattle.bt_top.specs.Outcomes.{work_text}
use Rattle.bt_top.specs.Serve.{IsWritten}

-- of a text, each call was offered all that was left, but at most 4,096 bytes, and then so it was of what stands behind it
pub record OffersBoth (old new : Option (List (ℕ × ℕ))) (text rest : ℕ) : Type 0 where
  pub between : Option (List (ℕ × ℕ))
  pub first : OffersAllLeft old between text
  pub behind : OffersAllLeft between new rest

-- the text of the work, which `account` does not write
abbrev pub text_shown : Option Order → Option Work → List ℕ
text_shown (Some (Account serial script recording)) work = []
text_shown order work = work_text work

-- The bytes that were written, or a prefix of them after a fault, are the text of the work and what stands behind it, and they were offered so.
pub record IsOffered (order : Option Order) (out : SinkUse) (old new : Option (List (ℕ × ℕ))) (report : Report) : Type 0 where
  pub rest : List ℕ
  pub written : IsWritten out report.refusal (text_shown order report.work ++ rest)
  pub offered : OffersBoth old new (length (text_shown order report.work)) (length rest)
