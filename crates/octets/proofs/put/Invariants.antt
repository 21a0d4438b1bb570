use Rattle.octets.proofs.put.Given as goal
use mathlib.Core.Path.{◌≡◌}
use lib.ListN.{take}
use Rattle.octets.specs.Octets.{patch}

abbrev pub invariant-loop-i : goal.invariant-loop-i
invariant-loop-i g l = l.out ≡ patch l.initial.out l.at (take l.i l.octets)
