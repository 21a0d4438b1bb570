use Rattle.std.proofs.Common.{◌≡◌, ◌++◌, drop}
use Rattle.peers_table.specs.Table.{end_at}
use Rattle.peers_read.specs.Load.{filled}
use Rattle.peers_read.proofs.load.load_peers.Given as goal

abbrev pub invariant-loop-slot : goal.invariant-loop-slot
invariant-loop-slot l =
    (l.slot-items ++ drop l.count l.fn.slots ≡ filled l.body l.head.first l.fn.slots l.slot-index)
    × (l.at ≡ end_at l.body l.head.first l.slot-index)
