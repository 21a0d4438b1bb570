use mathlib.Core.Path.{refl}
use native.Mathlib.Omega.{arith}
use Rattle.rib_head.specs.Prefix.{cleared}
use Rattle.rib_head.proofs.Prefixes.{clear_turn}
use Rattle.rib_head.proofs.prefix.clear_after.Goals as goal

pub loop-i-init : goal.loop-i-init
unfolding cleared
loop-i-init c = refl

pub loop-i-preserved : goal.loop-i-preserved
loop-i-preserved c = clear_turn _ _ _ (omega arith) c.loop-i.invariant c.mask.ensures
