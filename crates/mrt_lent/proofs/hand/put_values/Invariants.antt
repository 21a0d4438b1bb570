use mathlib.Core.Path.{◌≡◌}
use lib.ListN.{take}
use Rattle.octets.specs.Octets.{patch}
use Rattle.mrt_lent.proofs.hand.put_values.Given as goal

abbrev pub invariant-loop-i : goal.invariant-loop-i
invariant-loop-i l = l.out ≡ patch l.initial.out 0 (take l.i l.values)
