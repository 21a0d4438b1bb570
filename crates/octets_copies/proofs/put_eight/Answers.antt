use Prim.Native.Nat.{◌+◌}
use mathlib.Core.Path.{refl}
use native.Mathlib.Omega.{arith}
use Rattle.octets.specs.Octets.{patch}
use Rattle.octets.proofs.Parts.{copy_over}
use Rattle.octets_copies.proofs.put_eight.Goals as goal

pub loop-i-init : goal.loop-i-init
unfolding patch
loop-i-init c = (0, omega arith, refl)

pub loop-i-preserved : goal.loop-i-preserved
loop-i-preserved c =
    let e = c.min-j.ensures in
    let inv = c.loop-i.invariant in
    let h = inv.1 in
    let pre = c.requires in (
      c.min-j.result + 16,
      omega arith,
      copy_over _ _ _ inv.0 c.min-j.result 16
          (omega arith) (omega arith) (omega arith) (omega arith) inv.2 c.put_block.ensures,
    )
