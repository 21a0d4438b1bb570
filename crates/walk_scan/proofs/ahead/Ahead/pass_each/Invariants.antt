use Rattle.walk_scan.specs.Sight.{Passed}
use Rattle.walk_scan.proofs.ahead.Ahead.pass_each.Given as goal

abbrev pub invariant-loop-d : goal.invariant-loop-d
invariant-loop-d l = Passed l.self.s.now l.self.p l.self.from l.d
