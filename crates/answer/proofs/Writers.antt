-- What a writer has to show of the octets that it stores at the front.
use Prim.Native.Nat.{ℕ, ◌<◌, ◌≤◌}
use mathlib.Core.Path.{◌≡◌, sym, ap}
use mathlib.Core.List.{List}
use lib.ListN.{length}
use borrow.Author.Tests.{le-leb, lt-leb}
use Rattle.octets.specs.Octets.{patch}
use Rattle.octets.proofs.Stores.{patch_front}
use Rattle.answer.specs.Writing.{Writing, wrote, refuse, at_front}
use Rattle.std.specs.Prelude.{Result, Ok, Err}
use Rattle.answer.specs.declared.Refusal.{Refusal}
use Rattle.answer.proofs.Refusals.{number-not-zero, number_unique}

module _ (s bs : List ℕ) (n : ℕ) (l : length bs ≡ n) where
  pub front_full : length s < n → refuse 9 s ≡ at_front s bs
  unfolding at_front
  front_full h = simp (l, lt-leb n (length s) h)

  pub front_stored : n ≤ length s → (t : List ℕ) → t ≡ patch s 0 bs → record { number = 0; octets = n; output = t } ≡ at_front s bs
  unfolding at_front
  front_stored h t e = simp (l, le-leb n (length s) h, e, patch_front s bs (rw l h))

-- two answers of a writer that say the same, with the same output, are equal
pub wrote_unique : (a b : Result ℕ Refusal) (t u : List ℕ) → wrote a t ≡ wrote b u → (a ≡ b) × (t ≡ u)
wrote_unique (Ok m) (Ok n) t u e = (ap (λ (w : Writing). Ok w.octets) e, ap (λ (w : Writing). w.output) e)
wrote_unique (Ok m) (Err r) t u e = absurd (number-not-zero r (ap (λ (w : Writing). w.number) (sym e)))
wrote_unique (Err r) (Ok n) t u e = absurd (number-not-zero r (ap (λ (w : Writing). w.number) e))
wrote_unique (Err r) (Err q) t u e =
    (ap Err (number_unique r q (ap (λ (w : Writing). w.number) e)), ap (λ (w : Writing). w.output) e)
