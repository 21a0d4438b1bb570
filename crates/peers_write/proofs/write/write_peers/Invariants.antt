use Rattle.std.proofs.Common.{◌≡◌, ◌+◌}
use Rattle.octets.specs.Octets.{patch}
use Rattle.peers_write.specs.Write.{peers_octets}
use Rattle.peers_write.specs.Steps.{sizes}
use Rattle.peers_write.proofs.write.write_peers.Given as goal

abbrev pub invariant-loop-p : goal.invariant-loop-p
invariant-loop-p l =
    (l.out ≡ patch l.initial.out (8 + l.name) (peers_octets l.peers l.p-index)) × (l.at ≡ 8 + l.name + sizes l.peers l.p-index)
