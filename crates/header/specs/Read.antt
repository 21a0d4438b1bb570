-- The common header (RFC 6396, 2 and 3): Timestamp 4, Type 2, Subtype 2, Length 4; in a type with microseconds,
-- Microsecond Timestamp 4 more, which Length counts. Refusals in the order of 01 (Refusal numbers): 1, 2, 3, 1.
-- 01, Header and lengths: microseconds of 1,000,000 and more are accepted.
use Rattle.std.specs.Prelude.{ℕ, ◌-◌, List, cond, length, drop, ltb, Result, Ok, Err}
use Rattle.answer.specs.Refusal.{number_of}
use Rattle.rules.specs.Ask.{Ask, done, has, number, over}
use Rattle.header.specs.Kind.{known, timed}
use Rattle.answer.specs.declared.Refusal.{Refusal}
use Rattle.header.specs.declared.Headed.{Headed}

-- an answer in numbers: the refusal's number or 0, and the values of the fields
pub record Heading : Type 0 where
  pub number : ℕ
  pub timestamp : ℕ
  pub kind : ℕ
  pub subtype : ℕ
  pub wire : ℕ
  pub stored : ℕ
  pub micros : ℕ

-- a refusal has its number, and 0 in every other field
abbrev pub refused : ℕ → Heading
refused n = record { number = n; timestamp = 0; kind = 0; subtype = 0; wire = 0; stored = 0; micros = 0 }

abbrev pub accepted : ℕ → ℕ → ℕ → ℕ → ℕ → ℕ → Heading
accepted t k u w stored us = record { number = 0; timestamp = t; kind = k; subtype = u; wire = w; stored = stored; micros = us }

-- what a header and its wire length say
abbrev pub heading_of : Headed → Heading
heading_of x = let h = x.header in accepted h.timestamp h.kind h.subtype x.wire.0 h.length.0 h.micros

-- what each answer of the reader says
abbrev pub values : Result Headed Refusal → Heading
values (Ok x) = heading_of x
values (Err r) = refused (number_of r)

-- the header at the front of a stream
unfoldable pub header : Ask Heading
header =
    has 12
    (number 0 4 λ t. number 4 2 λ k. number 6 2 λ u. number 8 4 λ w.
    cond (known k)
    (cond (timed k)
    (cond (ltb w 4) (done (refused 3))
    (has 16 (number 12 4 λ us. done (accepted t k u w (w - 4) us)) (λ n. done (refused 1))))
    (done (accepted t k u w w 0)))
    (done (refused 2)))
    (λ n. done (refused 1))

-- the header at an offset of the stream s; an offset beyond it is 8
unfoldable pub header_at : List ℕ → ℕ → Heading
header_at s at = cond (ltb (length s) at) (refused 8) (over (drop at s) header)
