-- An answer of a builder is known by what it says: two of which the definition says the same are equal.
use mathlib.Core.Path.{◌≡◌, sym, ap}
use Rattle.std.specs.Prelude.{Result, Ok, Err}
use Rattle.answer.specs.declared.Refusal.{Refusal}
use Rattle.answer.proofs.Refusals.{number-not-zero, number_unique}
use Rattle.rib_write.specs.declared.Builder.{Builder}
use Rattle.rib_add.specs.Add.{Opening, open_values}

pub open_unique : (a b : Result Builder Refusal) → open_values a ≡ open_values b → a ≡ b
open_unique (Ok c) (Ok d) q = ap (λ (x : Opening). Ok (record { len = x.len; at = x.at; count = x.count })) q
open_unique (Ok c) (Err r) q = absurd (number-not-zero r (ap (λ (x : Opening). x.number) (sym q)))
open_unique (Err r) (Ok d) q = absurd (number-not-zero r (ap (λ (x : Opening). x.number) q))
open_unique (Err r) (Err s) q = ap Err (number_unique r s (ap (λ (x : Opening). x.number) q))
