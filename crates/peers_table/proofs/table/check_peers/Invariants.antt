use Rattle.std.proofs.Common.{◌≡◌, ◌≤◌, length}
use Rattle.peers_table.specs.Table.{end_at, first_peer}
use Rattle.peers_table.proofs.table.check_peers.Given as goal

abbrev pub invariant-loop : goal.invariant-loop
invariant-loop l = (l.at ≡ end_at l.body (first_peer l.body) l.counter) × (l.at ≤ length l.body)
