use Rattle.walk_step.proofs.Reading.{Goes}
use Rattle.walk_step.proofs.aligned.try_own_end.Given as goal

abbrev pub invariant-loop-passed : goal.invariant-loop-passed
invariant-loop-passed l = Goes l.s l.asked l.at l.passed l.p
