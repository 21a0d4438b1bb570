-- A TABLE_DUMP body written across the boundary (RFC 6396, 4.2; 02, wish 3). Prefix and peer address are lent as 16 octets: fewer are 8,
-- before every other refusal.
use Rattle.std.specs.Prelude.{ℕ, List, ◌&&◌, cond, length, leb}
use Rattle.answer.specs.Writing.{Writing, refuse}
use Rattle.dump_layout.specs.declared.Dump.{Dump}
use Rattle.dump_write.specs.Write.{write_dump}
use Rattle.mrt_lent.specs.Export.{sixteen_of}

-- the fields, with a prefix and an address that are lent
abbrev pub lent_dump : ℕ → ℕ → List ℕ → ℕ → ℕ → ℕ → List ℕ → ℕ → Dump
lent_dump view sequence prefix bits status originated peer asn =
    record {
      view = view;
      sequence = sequence;
      prefix = sixteen_of prefix;
      bits = bits;
      status = status;
      originated = originated;
      peer = sixteen_of peer;
      asn = asn;
    }

-- a body of subtype u at the front of the output s
unfoldable pub write_from : List ℕ → ℕ → ℕ → ℕ → List ℕ → ℕ → ℕ → ℕ → List ℕ → ℕ → List ℕ → Writing
write_from s u view sequence prefix bits status originated peer asn attributes =
    cond (leb 16 (length prefix) && leb 16 (length peer))
    (write_dump s u (lent_dump view sequence prefix bits status originated peer asn) attributes)
    (refuse 8 s)
