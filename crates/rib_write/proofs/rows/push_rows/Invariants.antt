use Prim.Native.Nat.{◌-◌}
use lib.ListN.{length}
use Rattle.rib_write.proofs.ByRows.{Going}
use Rattle.rib_write.proofs.rows.push_rows.Given as goal

abbrev pub invariant-loop-place : goal.invariant-loop-place
invariant-loop-place l =
    Going l.subtype l.b l.rows l.attributes l.initial.out l.out l.len l.place

abbrev pub decreases-loop-place : goal.decreases-loop-place
decreases-loop-place l = length l.rows - l.place
