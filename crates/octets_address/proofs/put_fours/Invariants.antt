use Prim.Native.Nat.{◌*◌}
use mathlib.Core.Path.{◌≡◌}
use Rattle.octets.specs.Octets.{patch}
use Rattle.octets_address.specs.Address.{octets_at}
use Rattle.octets_address.proofs.put_fours.Given as goal

abbrev pub invariant-loop-i : goal.invariant-loop-i
invariant-loop-i l = l.out ≡ patch l.fn.out l.to (octets_at l.s l.at (4 * l.i))
