use Rattle.std.proofs.Common.{◌≡◌}
use Rattle.peers_write.specs.Write.{any_unfit}
use Rattle.peers_write.specs.Steps.{sizes}
use Rattle.peers_write.proofs.measure.measure.Given as goal

abbrev pub invariant-loop-p : goal.invariant-loop-p
invariant-loop-p l = (l.octets ≡ sizes l.peers l.p-index) × (l.unfit ≡ any_unfit l.peers l.p-index)
