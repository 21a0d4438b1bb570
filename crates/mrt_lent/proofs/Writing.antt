-- What a writer returns, and the output that it leaves.
use Prim.Native.Nat.{ℕ}
use mathlib.Core.Path.{◌≡◌, refl, ◌∙◌, ap}
use mathlib.Core.List.{List}
use Rattle.answer.specs.Writing.{Writing, wrote}
use Rattle.std.specs.Prelude.{Result, Ok, Err}
use Rattle.answer.specs.declared.Refusal.{Refusal}
use Rattle.mrt_lent.specs.Writer.{wrote_of, written_out}
use Rattle.mrt_lent.specs.declared.Wrote.{Wrote}

-- t is the output that a writer's answer a leaves, and r what is returned for it
pub returns_written : (a : Result ℕ Refusal) {t : List ℕ} {w : Writing} {r : Wrote} → r ≡ wrote_of a → wrote a t ≡ w
    → (t, r) ≡ written_out w
returns_written a {t} {w} {r} returned left = ap (λ (x : Wrote). (t, x)) returned ∙ set_out a ∙ ap written_out left
  where
    set_out : (b : Result ℕ Refusal) → (t, wrote_of b) ≡ written_out (wrote b t)
    set_out (Ok n) = refl
    set_out (Err r) = refl
