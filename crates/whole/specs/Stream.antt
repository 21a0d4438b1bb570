-- A record as it is written (RFC 6396, 2: the header, and then a body of its length), a stream of such records, and what a walk hands
-- out of it (01, Walk, confirmation, scan).
use Rattle.std.specs.Prelude.{ℕ, ◌+◌, ◌≡◌, true, false, List, [], ◌∷◌, ◌++◌, length, take}
use Rattle.answer.specs.Writing.{Writing}
use Rattle.header.specs.Kind.{known, size}
use Rattle.header.specs.Read.{accepted}
use Rattle.header.specs.Write.{wire_of, header_octets, unfit}
use Rattle.header.specs.Frame.{Framing}
use Rattle.header.specs.Back.{InWidth}
use Rattle.header.specs.declared.CommonHeader.{CommonHeader}
use Rattle.walk_judge.specs.Body.{check}
use Rattle.walk.specs.Step.{Answer, handed}

-- a header and a body
pub record Whole : Type 0 where
  pub header : CommonHeader
  pub body : List ℕ

-- the writer takes the header, the body has the length that it stores, and the body passes its check
pub record Proper (r : Whole) : Type 0 where
  pub widths : InWidth r.header
  pub known_type : known r.header.kind ≡ true
  pub fits : unfit r.header ≡ false
  pub long : length r.body ≡ r.header.length.0
  pub passes : check r.header.kind r.header.subtype r.header.length.0 r.body ≡ 0

-- each of them is so
abbrev pub AllProper : List Whole → Type 0
AllProper [] = Unit {0}
AllProper (r ∷ rs) = Proper r × AllProper rs

-- its octets
abbrev pub record_octets : Whole → List ℕ
record_octets r = header_octets r.header ++ r.body

-- records one after another, and nothing else
unfoldable pub stream : List Whole → List ℕ
stream [] = []
stream (r ∷ rs) = record_octets r ++ stream rs

-- the header that a writer wrote, and after it the output that the body's writer has left
abbrev pub headed : Writing → Writing → List ℕ
headed h b = take h.octets h.output ++ b.output

-- what is said of the record that starts at p: the header's own values with the wire length, where the body starts, and where it ends
abbrev pub placed : ℕ → Whole → Framing
placed p r =
    record {
      head =
          accepted r.header.timestamp r.header.kind r.header.subtype (wire_of r.header).0 r.header.length.0
          r.header.micros;
      body = p + size r.header.kind;
      end = p + (size r.header.kind + length r.body);
    }

-- the records handed out one after another, the first of them at p
unfoldable pub handed_out : ℕ → List Whole → List Answer
handed_out p [] = []
handed_out p (r ∷ rs) = handed p (placed p r) ∷ handed_out (placed p r).end rs
