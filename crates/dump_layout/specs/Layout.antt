-- The body of a TABLE_DUMP record (RFC 6396, 4.2; 02, wish 3), over the x octets that an address takes (4 or 16): View Number 2,
-- Sequence Number 2, Prefix x, Prefix Length 1, Status 1, Originated Time 4, Peer IP Address x, Peer AS 2, Attribute Length 2,
-- BGP Attributes.
-- 02, wish 3: prefix octets are kept as they stand, the bits after the prefix too.
use Rattle.std.specs.Prelude.{ℕ, ◌+◌, ◌*◌, List, [], ◌∷◌, ◌++◌, length, get_or}
use Rattle.octets.specs.Octets.{be_at, bytes_of}
use Rattle.octets_address.specs.Address.{octets_at, address_at}
use Rattle.dump_layout.specs.declared.Dump.{Dump}

-- where the attributes start: at 22 or 46
abbrev pub attributes_at : ℕ → ℕ
attributes_at x = 14 + 2 * x

-- the fields of the body s; addresses in 16 octets, zeros after them
unfoldable pub dump_at : ℕ → List ℕ → Dump
dump_at x s =
    record {
      view = be_at s 0 2;
      sequence = be_at s 2 2;
      prefix = address_at s 4 x;
      bits = get_or s (4 + x) 0;
      status = get_or s (5 + x) 0;
      originated = be_at s (6 + x) 4;
      peer = address_at s (10 + x) x;
      asn = be_at s (10 + 2 * x) 2;
    }

-- the octets of these fields, before n octets of attributes
unfoldable pub head_octets : ℕ → Dump → ℕ → List ℕ
head_octets x d n =
    bytes_of 2 d.view ++ bytes_of 2 d.sequence ++ octets_at d.prefix 0 x ++ (d.bits ∷ []) ++ (d.status ∷ [])
    ++ bytes_of 4 d.originated ++ octets_at d.peer 0 x ++ bytes_of 2 d.asn ++ bytes_of 2 n

-- the octets of a body with these fields and attributes
unfoldable pub dump_octets : ℕ → Dump → List ℕ → List ℕ
dump_octets x d attributes = head_octets x d (length attributes) ++ attributes
