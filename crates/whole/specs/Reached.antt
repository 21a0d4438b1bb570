-- Slots that the calls themselves have filled (01, Peer table): from none in use on, by tables that were read and peers that were added.
use Rattle.std.specs.Prelude.{ℕ, ◌+◌, List}
use Rattle.peers_entry.specs.declared.Peer.{Peer}
use Rattle.peers_read.specs.Load.{load_peers}
use Rattle.peers_add.specs.Add.{add_peer}

-- the slots, and how many of them are in use
pub data Reached : List Peer → ℕ → Type 0 where
  none : (l : List Peer) → Reached l 0
  loaded : (s : List ℕ) (l : List Peer) → Reached (load_peers s l).slots (load_peers s l).head.count
  added : (l : List Peer) (n : ℕ) (p : Peer) → Reached l n → Reached (add_peer l n p).slots (n + (add_peer l n p).added)
