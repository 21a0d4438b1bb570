use Prim.Native.Nat.{◌-◌, min}
use mathlib.Core.Path.{◌≡◌, refl}
use lib.ListN.{length}
use native.Mathlib.Omega.{arith}
use Rattle.octets.specs.Octets.{patch}
use Rattle.octets.proofs.Stores.{copy_done}
use Rattle.mrt_lent.proofs.Handing.{front_turn}
use Rattle.mrt_lent.proofs.hand.put_values.Goals as goal

pub loop-i-init : goal.loop-i-init
unfolding patch
loop-i-init c = refl

pub loop-i-preserved : goal.loop-i-preserved
loop-i-preserved c = let e = c.min-m.ensures in front_turn _ _ _ (omega arith) c.loop-i.invariant

pub returns : goal.returns
returns c =
    let e = c.min-m.ensures in
    let z : c.min-m.result ≡ min (length c.args.out.now - 0) (length c.args.values.now) = omega arith in
    copy_done _ _ _ (omega arith) c.loop-i-test.false z c.loop-i.invariant
