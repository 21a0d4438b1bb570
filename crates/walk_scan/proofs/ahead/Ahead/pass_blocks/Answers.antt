use native.Mathlib.Omega.{arith}
use Rattle.walk_scan.proofs.Scans.{passed_block}
use Rattle.walk_scan.proofs.ahead.Ahead.pass_blocks.Goals as goal

pub loop-d-preserved : goal.loop-d-preserved
loop-d-preserved c =
    (omega arith, omega arith, passed_block _ _ _ _ _ c.loop-d.invariant.2 (c.marked.ensures (omega arith)))
