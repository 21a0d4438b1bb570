-- Lookup by address from C (01, Peer table). 8 for an address of fewer than sixteen octets too.
use Rattle.std.specs.Prelude.{ℕ, ◌%◌, List, cond, length, ltb, eqb}
use Rattle.mrt_lent.specs.Export.{sixteen_of}
use Rattle.peers_entry.specs.declared.Peer.{Peer}
use Rattle.peers_find.specs.Find.{Finding, find_peer}
use Rattle.mrt_peers.specs.declared.Found.{Found}

-- the refusal's number or 0, and the id
abbrev pub found_of : Finding → Found
found_of f = record { refusal = f.number; id = f.id }

-- the lookup in the slots l, of which so many are in use; bit value 1 of the type means IPv6
unfoldable pub find_out : List Peer → ℕ → ℕ → List ℕ → Found
find_out l count kind addr =
    cond (ltb (length addr) 16)
    (record { refusal = 8; id = 0 })
    (found_of (find_peer l count (eqb (kind % 2) 1) (sixteen_of addr)))
