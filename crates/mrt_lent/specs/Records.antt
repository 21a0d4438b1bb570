-- The values of headers and records, in the order of their fields (RFC 6396, 2 and 3; 01, Header and lengths):
-- timestamp, type, subtype, wire length, stored length, microseconds; of a record, where its body starts and ends after them.
use Rattle.std.specs.Prelude.{ℕ, List, [], ◌∷◌, ◌++◌}
use Rattle.header.specs.Read.{Heading}
use Rattle.header.specs.Frame.{Framing}

-- the values of a header
abbrev pub head_values : Heading → List ℕ
head_values h = h.timestamp ∷ h.kind ∷ h.subtype ∷ h.wire ∷ h.stored ∷ h.micros ∷ []

-- the values of a framed record
abbrev pub frame_values : Framing → List ℕ
frame_values f = head_values f.head ++ (f.body ∷ f.end ∷ [])

-- the values of a record that a walk hands out: the kind of the answer, and where the record starts
abbrev pub record_values : ℕ → Framing → List ℕ
record_values a f = 1 ∷ a ∷ frame_values f
