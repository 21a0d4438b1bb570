use Rattle.std.proofs.Common.{length}
use Rattle.oracle_questions.proofs.text.decode.Given as goal

abbrev pub decreases-loop-left : goal.decreases-loop-left
decreases-loop-left l = length l.left
