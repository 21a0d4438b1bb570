use mathlib.Core.Path.{refl}
use native.Mathlib.Omega.{arith}
use Rattle.octets.specs.Octets.{patch}
use Rattle.octets.proofs.Stores.{copy_turn}
use Rattle.octets_copies.proofs.put_each.Goals as goal

pub loop-i-init : goal.loop-i-init
unfolding patch
loop-i-init c = refl

pub loop-i-preserved : goal.loop-i-preserved
loop-i-preserved c = copy_turn _ _ _ _ (omega arith) c.loop-i.invariant
