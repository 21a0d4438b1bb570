-- The values of a TABLE_DUMP body, in the order of their fields (RFC 6396, 4.2; 02, wish 3).
use Rattle.std.specs.Prelude.{ℕ, List, [], ◌∷◌, Bool, ◌&&◌, cond, length, leb, eqb}
use Rattle.octets.specs.Octets.{patch}
use Rattle.dump_read.specs.Read.{Reading}

-- view, sequence, prefix bits, status, originated time, AS, where the attributes start and where they end
abbrev pub dump_values : Reading → List ℕ
dump_values r =
    r.dump.view ∷ r.dump.sequence ∷ r.dump.bits ∷ r.dump.status ∷ r.dump.originated ∷ r.dump.asn ∷ r.start ∷ r.end ∷ []

-- there are 8 places, and 16 octets for each address
abbrev pub roomy : List ℕ → List ℕ → List ℕ → Bool
roomy out prefix peer = leb 8 (length out) && leb 16 (length prefix) && leb 16 (length peer)

-- the places for the values, the octets lent for the prefix and for the peer's address, and what is returned: 9 where there is less
unfoldable pub dump_out : List ℕ → List ℕ → List ℕ → Reading → List ℕ × (List ℕ × (List ℕ × ℕ))
dump_out out prefix peer r =
    cond (eqb r.number 0)
    (cond (roomy out prefix peer)
    (patch out 0 (dump_values r), (patch prefix 0 r.dump.prefix, (patch peer 0 r.dump.peer, 0)))
    (out, (prefix, (peer, 9))))
    (out, (prefix, (peer, r.number)))
