use Prim.Native.Nat.{◌≤◌, ◌-◌}
use Rattle.walk_scan.specs.Sight.{Passed}
use Rattle.walk_scan.proofs.ahead.Ahead.pass_over.Given as goal

abbrev pub invariant-loop-d : goal.invariant-loop-d
invariant-loop-d l = (l.self.from ≤ l.d) × (l.d ≤ l.self.last) × Passed l.self.s.now l.self.p l.self.from l.d

abbrev pub decreases-loop-d : goal.decreases-loop-d
decreases-loop-d l = l.self.last - l.d
