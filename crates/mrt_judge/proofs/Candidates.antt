-- The two cases of a record that is tested.
use Prim.Native.Nat.{ℕ, ◌<◌, ◌≤◌}
use mathlib.Core.Path.{◌≡◌, ◌∙◌}
use mathlib.Core.List.{List}
use lib.ListN.{length}
use borrow.Author.Tests.{lt-ltb, le-ltb}
use Rattle.rules.specs.Ask.{over}
use Rattle.walk_candidate.specs.Candidate.{candidate_at}
use Rattle.mrt_lent.specs.Export.{exported}
use Rattle.mrt_judge.specs.Judged.{candidate_values, candidate_out}

module _ (out s : List ℕ) (at : ℕ) where
  -- an offset beyond the stream
  pub candidate_beyond : length s < at → {n : ℕ} → n ≡ 8 → (out, n) ≡ candidate_out out s at
  unfolding candidate_out exported
  candidate_beyond h e = simp (lt-ltb _ _ h, e)

  pub candidate-within : at ≤ length s → {x : List ℕ × ℕ} → x ≡ exported out 0 (candidate_values (over s (candidate_at at)))
      → x ≡ candidate_out out s at
  unfolding candidate_out
  candidate-within h e = e ∙ simp (le-ltb _ _ h)
