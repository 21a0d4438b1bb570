-- Writing the table (RFC 6396, 4.3.1; 01, Peer table): Collector BGP ID 4, View Name Length 2, View Name, Peer Count 2, the peers.
-- Refusals: 8 for a wrong count, 10 for a view name or an AS that does not fit its field, 9 for too little room.
use Rattle.std.specs.Prelude.{ℕ, zero, suc, List, [], ◌++◌, Bool, false, cond, ◌||◌, length, get_or, ltb}
use Rattle.answer.specs.Writing.{Writing, refuse, at_front}
use Rattle.octets.specs.Octets.{bytes_of}
use Rattle.peers_entry.specs.Peer.{nobody, peer_octets, unfit}
use Rattle.peers_entry.specs.declared.Peer.{Peer}
use Rattle.peers_slots.specs.Used.{wrong_count}

-- what stands before the peers
unfoldable pub head_octets : ℕ → List ℕ → ℕ → List ℕ
head_octets collector view count = bytes_of 4 collector ++ bytes_of 2 (length view) ++ view ++ bytes_of 2 count

-- the octets of the peers in the first n slots
unfoldable pub peers_octets : List Peer → ℕ → List ℕ
peers_octets l zero = []
peers_octets l (suc n) = peers_octets l n ++ peer_octets (get_or l n nobody)

-- one of the first n slots has an AS that does not fit its field
unfoldable pub any_unfit : List Peer → ℕ → Bool
any_unfit l zero = false
any_unfit l (suc n) = any_unfit l n || unfit (get_or l n nobody)

-- the body: the collector, the view name, and the peers in the first count slots
unfoldable pub table_octets : ℕ → List ℕ → List Peer → ℕ → List ℕ
table_octets collector view l count = head_octets collector view count ++ peers_octets l count

-- the body at the front of the output s
unfoldable pub write_peers : List ℕ → ℕ → List ℕ → List Peer → ℕ → Writing
write_peers s collector view l count =
    cond (wrong_count (length l) count) (refuse 8 s)
    (cond (ltb 65535 (length view) || any_unfit l count) (refuse 10 s)
    (at_front s (table_octets collector view l count)))
