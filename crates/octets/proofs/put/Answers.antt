use mathlib.Core.Path.{refl, ◌∙◌, ap}
use Rattle.octets.specs.Octets.{patch}
use Rattle.octets.proofs.Stores.{copy_turn, patch_beyond}
use native.Mathlib.Omega.{arith}
use lib.Seq.{take_all}
use Rattle.octets.proofs.put.Goals as goal

pub returns-then-out-at : goal.returns-then-out-at
returns-then-out-at g c = patch_beyond _ _ _ c.if-out-at.true

pub loop-i-init : goal.loop-i-init
unfolding patch
loop-i-init g c = refl

pub loop-i-preserved : goal.loop-i-preserved
unfolding patch
loop-i-preserved g c = c.put_octet.ensures ∙ copy_turn c.args.out.now c.args.octets c.args.at c.loop-i.i (omega arith) c.loop-i.invariant

pub returns : goal.returns
returns g c = c.loop-i.invariant ∙ ap (patch _ _) (take_all _ _ (omega arith))
