-- The values of RIB bodies, in the order of their fields (RFC 6396, 4.3.2; 01, RIB bodies).
use Rattle.std.specs.Prelude.{ℕ, List, [], ◌∷◌, ◌&&◌, cond, length, leb, eqb}
use Rattle.octets.specs.Octets.{patch}
use Rattle.rib_read.specs.Rib.{Reading}

-- a RIB body: sequence, prefix bits, declared count, read count, where the entries start
abbrev pub rib_values : Reading → List ℕ
rib_values r = r.sequence ∷ r.bits ∷ r.declared ∷ r.count ∷ r.entries ∷ []

-- the places of a RIB body, the octets lent for its prefix, and what is returned: 9 where there are not 5 places and 16 octets
unfoldable pub rib_out : List ℕ → List ℕ → Reading → List ℕ × (List ℕ × ℕ)
rib_out out prefix r =
    cond (eqb r.number 0)
    (cond (leb 5 (length out) && leb 16 (length prefix)) (patch out 0 (rib_values r), (patch prefix 0 r.prefix, 0)) (out, (prefix, 9)))
    (out, (prefix, r.number))
