use mathlib.Core.Path.{sym, ◌∙◌, ap}
use Rattle.std.proofs.lemmas.Result.{err_from_is_err_and}
use Rattle.answer.proofs.Refusals.{number-not-zero}
use Rattle.header.specs.Read.{values}
use Rattle.header.proofs.Framing.{frame_refused, frame_read}
use Rattle.header.proofs.frame.frame_record.Goals as goal

pub returns-in_err-head : goal.returns-in_err-head
returns-in_err-head c =
    let p = err_from_is_err_and c.from_residual.result c.from_residual.ensures.1 in
    rw (p.1, p.2) (record {
      answer =
          frame_refused _ _ _ (number-not-zero c.in_err-head.field-0.0)
          (sym (ap values c.in_err-head.was) ∙ c.read_header.ensures.answer);
    })

pub returns : goal.returns
returns c = record {
  answer =
      c.frame_of.ensures.answer ∙ frame_read _ _ (sym (ap values c.in_ok-head.was) ∙ c.read_header.ensures.answer);
}
