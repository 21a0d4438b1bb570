-- Writing the common header (RFC 6396, 2 and 3; 01, Header and lengths): 2 for an unknown type, 10 for microseconds in a
-- type that has none or a length that does not fit with them, 9 for too little room.
use Rattle.std.specs.Prelude.{ℕ, ◌+◌, List, [], ◌++◌, Bool, cond, not, ltb, eqb}
use Rattle.answer.specs.Writing.{Writing, refuse, at_front}
use Rattle.octets.specs.Octets.{bytes_of}
use Rattle.header.specs.Kind.{known, timed}
use Rattle.header.specs.declared.CommonHeader.{CommonHeader}
use Rattle.header.specs.declared.WireLength.{WireLength}

-- the wire length counts the microseconds
unfoldable pub wire_of : CommonHeader → WireLength
wire_of h = record { 0 = cond (timed h.kind) (h.length.0 + 4) h.length.0 }

-- the fields that every header has
unfoldable pub common_octets : CommonHeader → WireLength → List ℕ
common_octets h w = bytes_of 4 h.timestamp ++ bytes_of 2 h.kind ++ bytes_of 2 h.subtype ++ bytes_of 4 w.0

-- a header's octets
unfoldable pub header_octets : CommonHeader → List ℕ
header_octets h = common_octets h (wire_of h) ++ cond (timed h.kind) (bytes_of 4 h.micros) []

-- a value does not fit its field
unfoldable pub unfit : CommonHeader → Bool
unfit h = cond (timed h.kind) (ltb 4294967291 h.length.0) (not (eqb h.micros 0))

-- the header h at the front of the output s
unfoldable pub write_header : List ℕ → CommonHeader → Writing
write_header s h = cond (known h.kind) (cond (unfit h) (refuse 10 s) (at_front s (header_octets h))) (refuse 2 s)
