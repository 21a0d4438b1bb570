use Rattle.walk_judge.proofs.Judging.{judgement-within}
use Rattle.walk_judge.proofs.record.judge_record.Goals as goal

pub returns-in-Fit : goal.returns-in-Fit
returns-in-Fit c = record { answer = judgement-within _ _ c.if-s-at.false c.in-Fit.ensures.answer }

pub returns-in-Off : goal.returns-in-Off
returns-in-Off c = record { answer = judgement-within _ _ c.if-s-at.false c.in-Off.ensures.answer }

pub returns-in-Off-2 : goal.returns-in-Off-2
returns-in-Off-2 c = record { answer = judgement-within _ _ c.if-s-at.false c.in-Off.ensures.answer }
