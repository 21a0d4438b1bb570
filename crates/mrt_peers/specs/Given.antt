-- An address as a caller lends it (01, Peer table: sixteen octets, of which a four-octet address has the first four).
use Rattle.std.specs.Prelude.{ℕ, ◌%◌, List, cond, length, ltb, eqb}
use Rattle.mrt_lent.specs.Export.{sixteen_of}
use Rattle.peers_entry.specs.declared.Peer.{Peer}
use Rattle.mrt_peers.specs.declared.Key.{Key}
use Rattle.mrt_peers.specs.declared.Fresh.{Fresh}

-- the count, or one above 65,535 where fewer than sixteen octets are lent: no table has so many peers
unfoldable pub count_for : ℕ → ℕ → ℕ
count_for count n = cond (ltb n 16) 65536 count

-- what a lookup is asked; bit value 1 of the type means IPv6
unfoldable pub key_for : ℕ → ℕ → List ℕ → Key
key_for count kind addr = record { count = count_for count (length addr); v6 = eqb (kind % 2) 1; addr = sixteen_of addr }

-- the peer of the fields given
unfoldable pub peer_for : ℕ → ℕ → List ℕ → ℕ → Peer
peer_for kind id addr asn = record { kind = kind; id = id; addr = sixteen_of addr; asn = asn }

-- what is to be added
unfoldable pub fresh_of : ℕ → ℕ → ℕ → List ℕ → ℕ → Fresh
fresh_of count kind id addr asn = record { count = count_for count (length addr); peer = peer_for kind id addr asn }
