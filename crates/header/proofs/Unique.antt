-- Two answers that say the same are equal: the promises allow one result.
use mathlib.Core.Path.{◌≡◌, sym, ap}
use Rattle.std.specs.Prelude.{Result, Ok, Err}
use Rattle.answer.specs.declared.Refusal.{Refusal}
use Rattle.answer.proofs.Refusals.{number-not-zero, number_unique}
use Rattle.header.specs.Read.{Heading, values}
use Rattle.header.specs.Frame.{Framing, framing}
use Rattle.header.specs.Back.{header_of}
use Rattle.header.specs.declared.Headed.{Headed}
use Rattle.header.specs.declared.Framed.{Framed}

headed_of : Heading → Headed
headed_of x = record { header = header_of x; wire = record { 0 = x.wire } }

framed_of : Framing → Framed
framed_of x = record { head = headed_of x.head; body = x.body; end = x.end }

pub values_unique : (a b : Result Headed Refusal) → values a ≡ values b → a ≡ b
unfolding headed_of
values_unique (Ok x) (Ok y) e = ap (λ (h : Heading). Ok (headed_of h)) e
values_unique (Ok x) (Err r) e = absurd (number-not-zero r (ap (λ (h : Heading). h.number) (sym e)))
values_unique (Err r) (Ok x) e = absurd (number-not-zero r (ap (λ (h : Heading). h.number) e))
values_unique (Err r) (Err q) e = ap Err (number_unique r q (ap (λ (h : Heading). h.number) e))

pub framing_unique : (a b : Result Framed Refusal) → framing a ≡ framing b → a ≡ b
unfolding headed_of framed_of
framing_unique (Ok x) (Ok y) e = ap (λ (f : Framing). Ok (framed_of f)) e
framing_unique (Ok x) (Err r) e = absurd (number-not-zero r (ap (λ (f : Framing). f.head.number) (sym e)))
framing_unique (Err r) (Ok x) e = absurd (number-not-zero r (ap (λ (f : Framing). f.head.number) e))
framing_unique (Err r) (Err q) e = ap Err (number_unique r q (ap (λ (f : Framing). f.head.number) e))
