use mathlib.Core.Path.{refl}
use Rattle.answer.proofs.Refusals.{number-not-zero}
use Rattle.walk_judge.proofs.Judging.{frame_inside, judged-cut, judged-off, judged-fit}
use Rattle.walk_judge.proofs.record.judge_at.Goals as goal

pub slice_bounds-body-count : goal.slice_bounds-body-count
slice_bounds-body-count c = (frame_inside _ _ _ c.in-Ok.ensures.answer).0

pub slice_bounds-body-start : goal.slice_bounds-body-start
slice_bounds-body-start c = (frame_inside _ _ _ c.in-Ok.ensures.answer).0

pub slice_bounds-body-end : goal.slice_bounds-body-end
slice_bounds-body-end c = (frame_inside _ _ _ c.in-Ok.ensures.answer).1

pub returns-in-Err : goal.returns-in-Err
returns-in-Err c = record { answer = judged-cut _ _ _ (number-not-zero c.in-Err.refusal) c.if-s-at.false c.in-Err.ensures.answer }

pub returns-in-Err-check_body : goal.returns-in-Err-check_body
returns-in-Err-check_body c = record {
  answer =
      judged-off _ _ _ c.in-Ok.ensures.answer refl c.in-Err-check_body.ensures.answer (number-not-zero c.in-Err-check_body.refusal);
}

pub returns-in-Ok-check_body : goal.returns-in-Ok-check_body
returns-in-Ok-check_body c = record { answer = judged-fit _ _ _ c.in-Ok.ensures.answer refl c.in-Ok-check_body.ensures.answer refl }
