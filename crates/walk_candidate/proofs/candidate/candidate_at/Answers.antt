use mathlib.Core.Path.{sym, ◌∙◌, ap}
use Rattle.answer.proofs.Refusals.{number-not-zero}
use Rattle.walk_candidate.specs.Candidate.{candidacy}
use Rattle.walk_candidate.proofs.Kept.{head_kept, head_lost}
use Rattle.walk_candidate.proofs.Candidates.{candidate-unread, candidate_implausible, candidate-plausible}
use Rattle.walk_candidate.proofs.candidate.candidate_at.Goals as goal

pub returns-in_err-head : goal.returns-in_err-head
returns-in_err-head c = record {
  answer =
      let l = head_lost _ _ _ c.read_header.ensures.answer c.in_err-head.ensures.value in
      ap candidacy c.from_residual.ensures ∙ candidate-unread _ _ (number-not-zero l.0) l.1;
}

pub returns-then-not-is_plausible : goal.returns-then-not-is_plausible
returns-then-not-is_plausible c = record {
  answer =
      candidate_implausible _ _ (head_kept _ _ _ c.read_header.ensures.answer c.in_ok-head.ensures.value)
      (sym c.is_plausible.ensures ∙ c.if-not-is_plausible.true);
}

pub returns : goal.returns
returns c = record {
  answer =
      c.take_up.ensures
      ∙ candidate-plausible _ _ (head_kept _ _ _ c.read_header.ensures.answer c.in_ok-head.ensures.value)
      (sym c.is_plausible.ensures ∙ c.if-not-is_plausible.false);
}
