-- What the walk asks about an offset of a stream (01, Walk, confirmation, scan). How a record is judged is left open here.
use Rattle.std.specs.Prelude.{ℕ}
use Rattle.header.specs.Frame.{Framing}

-- fit: a record that passes all checks
-- off: a record that is framed and refused with 5, 6 or 7: the number, and where the record ends
-- cut: no record is framed: the number, 1 to 4
pub data Judged : Type 0 where
  fit : Framing → Judged
  off : ℕ → ℕ → Judged
  cut : ℕ → Judged

-- stands: a record that a scan may take up: its evidence, and where it ends
pub data Candidate : Type 0 where
  stands : ℕ → ℕ → Candidate
  fails : Candidate
