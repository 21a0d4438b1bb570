use Prim.Native.Nat.{◌≤◌}
use mathlib.Core.Path.{◌≡◌}
use Rattle.walk_scan.specs.Sight.{Clear}
use Rattle.walk_scan.proofs.ahead.marked.Given as goal

abbrev pub invariant-loop-i : goal.invariant-loop-i
invariant-loop-i l = (l.count ≤ l.i) × (l.count ≡ 0 → Clear l.s l.at l.i)
