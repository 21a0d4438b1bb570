use Rattle.walk_step.proofs.Reading.{goes_not, goes_on}
use Rattle.walk_step.proofs.aligned.try_own_end.Goals as goal

pub returns-in_default : goal.returns-in_default
returns-in_default c =
    goes_not _ _ _ _ _ c.loop-passed.invariant c.loop-passed-test.true c.if-n-p.false _ c.in_default.not-Fit c.judge_at.ensures.answer

pub loop-passed-preserved : goal.loop-passed-preserved
loop-passed-preserved c =
    goes_on _ _ _ _ _ c.loop-passed.invariant c.loop-passed-test.true c.if-n-p.false _ c.in-Fit.ensures.answer
