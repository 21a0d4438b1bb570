-- What the measuring of the peers adds up.
use Rattle.std.specs.Prelude.{ℕ, zero, suc, ◌+◌, List, get_or}
use Rattle.peers_entry.specs.Peer.{nobody, peer_size}
use Rattle.peers_entry.specs.declared.Peer.{Peer}

-- how many octets the peers in the first n slots take
unfoldable pub sizes : List Peer → ℕ → ℕ
sizes l zero = 0
sizes l (suc n) = sizes l n + peer_size (get_or l n nobody).kind
