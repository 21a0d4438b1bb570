-- Adding a peer from C (01, Peer table). 8 for an address of fewer than sixteen octets too, before any other refusal.
use Rattle.std.specs.Prelude.{ℕ, List, cond, length, ltb}
use Rattle.peers_entry.specs.declared.Peer.{Peer}
use Rattle.peers_add.specs.Add.{Adding, add_peer}
use Rattle.mrt_peers.specs.Given.{peer_for}
use Rattle.mrt_peers.specs.declared.Found.{Found}

-- the refusal's number or 0, and the id: the count where the peer is stored, below it where its address is known
abbrev pub added_as : Adding → Found
added_as a = record { refusal = a.number; id = a.id }

-- the slots after the call, and what is returned
abbrev pub added_out : Adding → List Peer × Found
added_out a = (a.slots, added_as a)

-- a peer of the fields given, where so many of the slots l are in use
unfoldable pub add_out : List Peer → ℕ → ℕ → ℕ → List ℕ → ℕ → List Peer × Found
add_out l count kind id addr asn =
    cond (ltb (length addr) 16)
    (l, record { refusal = 8; id = 0 })
    (added_out (add_peer l count (peer_for kind id addr asn)))
