-- Headers and records, exported (RFC 6396, 2 and 3; 01, Header and lengths).
use Rattle.std.specs.Prelude.{ℕ, List}
use Rattle.header.specs.Read.{Heading}
use Rattle.header.specs.Frame.{Framing}
use Rattle.mrt_lent.specs.Export.{exported}
use Rattle.mrt_lent.specs.Records.{head_values, frame_values}

-- a header that is read
abbrev pub read_out : List ℕ → Heading → List ℕ × ℕ
read_out out h = exported out h.number (head_values h)

-- a record that is framed
abbrev pub framed_out : List ℕ → Framing → List ℕ × ℕ
framed_out out f = exported out f.head.number (frame_values f)
