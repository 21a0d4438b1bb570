use Prim.Native.Nat.{ℕ}
use mathlib.Core.List.{[], ◌∷◌}
use mathlib.Core.Path.{refl, ap}
use Rattle.walk.specs.Judged.{Candidate}
use Rattle.walk_candidate.specs.Candidate.{candidacy}
use Rattle.mrt_judge.specs.Judged.{candidate_values}
use Rattle.mrt_lent.proofs.Handing.{hands}
use Rattle.mrt_judge.proofs.Candidates.{candidate_beyond, candidate-within}
use Rattle.mrt_judge.proofs.mrt_candidate.Goals as goal

pub returns-then-s-at : goal.returns-then-s-at
returns-then-s-at c = record { answer = candidate_beyond _ _ _ c.if-s-at.true c.refusal.ensures }

pub returns-in-None : goal.returns-in-None
returns-in-None c = record {
  answer =
      candidate-within _ _ _ c.if-s-at.false
      (hands candidacy (λ (h : Candidate). 0) candidate_values _ c.hand_out.ensures
      c.in-None.is c.candidate_at.ensures.answer refl refl);
}

pub returns-in-Some : goal.returns-in-Some
returns-in-Some c = record {
  answer =
      candidate-within _ _ _ c.if-s-at.false
      (hands candidacy (λ (h : Candidate). 0) candidate_values _ c.hand_out-in-Some.ensures
      c.in-Some.is c.candidate_at.ensures.answer refl
      (ap (λ (v : ℕ). 1 ∷ v ∷ c.in-Some.found.end ∷ []) c.from.ensures));
}
