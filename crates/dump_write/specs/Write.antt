-- Writing a TABLE_DUMP body (RFC 6396, 4.2; 02, wish 3): 6 for a subtype that is not carried, 10 where the prefix bits, the AS or the
-- attributes do not fit, 9 for too little room.
use Rattle.std.specs.Prelude.{ℕ, ◌*◌, List, Bool, ◌&&◌, cond, length, eqb, leb}
use Rattle.answer.specs.Writing.{Writing, refuse, at_front}
use Rattle.octets_address.specs.Address.{address_size}
use Rattle.dump_layout.specs.Layout.{dump_octets}
use Rattle.dump_layout.specs.declared.Dump.{Dump}

-- the prefix fits an address of x octets, the AS two octets, and the length of n octets of attributes two octets
unfoldable pub fits : ℕ → Dump → ℕ → Bool
fits x d n = leb d.bits (8 * x) && leb d.asn 65535 && leb n 65535

-- a body of subtype u at the front of the output s
unfoldable pub write_dump : List ℕ → ℕ → Dump → List ℕ → Writing
write_dump s u d attributes =
    cond (eqb (address_size u) 0) (refuse 6 s)
    (cond (fits (address_size u) d (length attributes)) (at_front s (dump_octets (address_size u) d attributes)) (refuse 10 s))
