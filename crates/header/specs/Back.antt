-- A header that was read, as the header that the writer takes.
use Rattle.std.specs.Prelude.{◌<◌}
use Rattle.header.specs.Read.{Heading}
use Rattle.header.specs.declared.CommonHeader.{CommonHeader}

-- the fields that are written
abbrev pub header_of : Heading → CommonHeader
header_of h =
    record { timestamp = h.timestamp; kind = h.kind; subtype = h.subtype; length = record { 0 = h.stored }; micros = h.micros }

-- each field fits its width, as in every header that code can hold
pub record InWidth (h : CommonHeader) : Type 0 where
  pub timestamp : h.timestamp < 4294967296
  pub kind : h.kind < 65536
  pub subtype : h.subtype < 65536
  pub stored : h.length.0 < 4294967296
  pub micros : h.micros < 4294967296
