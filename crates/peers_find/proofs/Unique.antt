-- Two answers that say the same are the same answer: the statements of the calls leave no choice.
use Prim.Native.Nat.{ℕ}
use mathlib.Core.Path.{◌≡◌, sym, ap}
use Rattle.std.specs.Prelude.{Result, Ok, Err}
use Rattle.answer.specs.declared.Refusal.{Refusal}
use Rattle.answer.proofs.Refusals.{number-not-zero, number_unique}
use Rattle.peers_find.specs.Find.{Finding, finding}

pub finding_unique : (a b : Result ℕ Refusal) → finding a ≡ finding b → a ≡ b
finding_unique (Ok m) (Ok n) e = λ i. Ok (e i).id
finding_unique (Ok m) (Err q) e = absurd (number-not-zero q (ap (λ (x : Finding). x.number) (sym e)))
finding_unique (Err r) (Ok n) e = absurd (number-not-zero r (ap (λ (x : Finding). x.number) e))
finding_unique (Err r) (Err q) e = ap Err (number_unique r q (ap (λ (x : Finding). x.number) e))
