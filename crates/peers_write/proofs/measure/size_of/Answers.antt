use Rattle.peers_write.proofs.Steps.{size-row}
use native.Mathlib.Omega.{arith}
use Rattle.peers_write.proofs.measure.size_of.Goals as goal

pub offset_bounds-k : goal.offset_bounds-k
offset_bounds-k c = omega arith

pub returns : goal.returns
returns c = size-row _
