-- Each answer is known by what it says: two answers of which a definition says the same are equal, and so is the output that each leaves.
use Prim.Native.Nat.{ℕ}
use mathlib.Core.Path.{◌≡◌, sym, ap}
use mathlib.Core.List.{List}
use Rattle.std.specs.Prelude.{Result, Ok, Err}
use Rattle.answer.specs.declared.Refusal.{Refusal}
use Rattle.answer.proofs.Refusals.{number-not-zero, number_unique}
use Rattle.rib_write.specs.Push.{Pushing, pushed}
use Rattle.rib_write.specs.Rows.{Rowed, rows_values}
use Rattle.rib_write.specs.declared.Builder.{Builder}
use Rattle.rib_write.specs.declared.Pushed.{Pushed}

pub pushed_unique : (a b : Result Builder Refusal) (t u : List ℕ) → pushed a t ≡ pushed b u → (a ≡ b) × (t ≡ u)
pushed_unique (Ok c) (Ok d) t u q =
    (ap (λ (x : Pushing). Ok (record { len = x.len; at = x.at; count = x.count })) q, ap (λ (x : Pushing). x.output) q)
pushed_unique (Ok c) (Err r) t u q = absurd (number-not-zero r (ap (λ (x : Pushing). x.number) (sym q)))
pushed_unique (Err r) (Ok d) t u q = absurd (number-not-zero r (ap (λ (x : Pushing). x.number) q))
pushed_unique (Err r) (Err s) t u q =
    (ap Err (number_unique r s (ap (λ (x : Pushing). x.number) q)), ap (λ (x : Pushing). x.output) q)

pub rows_unique : (a b : Result Pushed Refusal) (t u : List ℕ) → rows_values a t ≡ rows_values b u → (a ≡ b) × (t ≡ u)
rows_unique (Ok c) (Ok d) t u q = (
  ap (λ (x : Rowed). Ok (record { builder = record { len = x.len; at = x.at; count = x.count }; rows = x.rows })) q,
  ap (λ (x : Rowed). x.output) q,
)
rows_unique (Ok c) (Err r) t u q = absurd (number-not-zero r (ap (λ (x : Rowed). x.number) (sym q)))
rows_unique (Err r) (Ok d) t u q = absurd (number-not-zero r (ap (λ (x : Rowed). x.number) q))
rows_unique (Err r) (Err s) t u q =
    (ap Err (number_unique r s (ap (λ (x : Rowed). x.number) q)), ap (λ (x : Rowed). x.output) q)
