-- An answer is known by what it says: two answers of which a definition says the same are equal.
use mathlib.Core.Path.{◌≡◌, sym, ap}
use Rattle.std.specs.Prelude.{Result, Ok, Err}
use Rattle.answer.specs.declared.Refusal.{Refusal}
use Rattle.answer.proofs.Refusals.{number-not-zero, number_unique}
use Rattle.rib_read.specs.Rib.{Reading, rib_values}
use Rattle.rib_read.specs.declared.Rib.{Rib}

-- the body that such numbers say
rib_from : Reading → Rib
rib_from x =
    record { sequence = x.sequence; bits = x.bits; prefix = x.prefix; declared = x.declared; count = x.count; entries = x.entries }

pub rib_unique : (a b : Result Rib Refusal) → rib_values a ≡ rib_values b → a ≡ b
unfolding rib_from
rib_unique (Ok x) (Ok y) q = ap (λ (z : Reading). Ok (rib_from z)) q
rib_unique (Ok x) (Err r) q = absurd (number-not-zero r (ap (λ (z : Reading). z.number) (sym q)))
rib_unique (Err r) (Ok y) q = absurd (number-not-zero r (ap (λ (z : Reading). z.number) q))
rib_unique (Err r) (Err s) q = ap Err (number_unique r s (ap (λ (z : Reading). z.number) q))
