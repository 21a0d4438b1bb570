-- The record that a header frames (RFC 6396, 2): the header, and a body of the stored length. A body that runs past the
-- stream is 4, after the header's own refusals (01, Refusal numbers).
use Rattle.std.specs.Prelude.{ℕ, ◌+◌, List, cond, length, drop, ltb, eqb, Result, Ok, Err}
use Rattle.answer.specs.Refusal.{number_of}
use Rattle.rules.specs.Ask.{Ask, done, has, over, ◌>>=◌}
use Rattle.header.specs.Kind.{size}
use Rattle.header.specs.Read.{Heading, refused, heading_of, header}
use Rattle.answer.specs.declared.Refusal.{Refusal}
use Rattle.header.specs.declared.Framed.{Framed}

-- an answer in numbers: the header, and where the body starts and ends in the stream
pub record Framing : Type 0 where
  pub head : Heading
  pub body : ℕ
  pub end : ℕ

abbrev pub unframed : ℕ → Framing
unframed n = record { head = refused n; body = 0; end = 0 }

-- what a record says
abbrev pub framing_of : Framed → Framing
framing_of x = record { head = heading_of x.head; body = x.body; end = x.end }

-- what each answer says
abbrev pub framing : Result Framed Refusal → Framing
framing (Ok x) = framing_of x
framing (Err r) = unframed (number_of r)

-- the record of a header h that stands at the front, where that is the offset at of the stream
unfoldable pub framed : ℕ → Heading → Ask Framing
framed at h =
    cond (eqb h.number 0)
    (has (size h.kind + h.stored)
    (done (record { head = h; body = at + size h.kind; end = at + (size h.kind + h.stored) }))
    (λ n. done (unframed 4)))
    (done (unframed h.number))

-- the record at the front
unfoldable pub frame : ℕ → Ask Framing
frame at = header >>= framed at

-- the record of a header that has been read at an offset of the stream s; an offset beyond it is 8
unfoldable pub frame_of : List ℕ → ℕ → Heading → Framing
frame_of s at h = cond (ltb (length s) at) (unframed 8) (over (drop at s) (framed at h))

-- the record at an offset of the stream s
unfoldable pub frame_at : List ℕ → ℕ → Framing
frame_at s at = cond (ltb (length s) at) (unframed 8) (over (drop at s) (frame at))
