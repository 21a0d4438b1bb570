use mathlib.Core.Path.{refl, sym, ◌∙◌, ap}
use Rattle.answer.proofs.Refusals.{number-not-zero}
use Rattle.answer.specs.Refusal.{outcome_number}
use Rattle.header.proofs.Framing.{read_within}
use Rattle.walk_judge.proofs.Judging.{judged-cut, judged-off, judged-fit}
use Rattle.walk_candidate.specs.Candidate.{candidacy}
use Rattle.walk_candidate.proofs.Kept.{kept, lost, frame_kept, frame_lost}
use Rattle.walk_candidate.proofs.Candidates.{standing-cut, standing-off, standing-fit}
use Rattle.walk_candidate.proofs.candidate.take_up.Goals as goal

pub returns-in_err-frame : goal.returns-in_err-frame
returns-in_err-frame c =
    let l = frame_lost _ _ _ c.requires _ c.frame_of.ensures.answer c.in_err-frame.ensures.value in
    ap candidacy c.from_residual.ensures ∙ standing-cut (judged-cut _ _ _ (number-not-zero l.0) (read_within _ _ c.requires) l.1)

pub returns-in_err-ok : goal.returns-in_err-ok
returns-in_err-ok c =
    let there = frame_kept _ _ _ c.requires _ c.frame_of.ensures.answer c.in_ok-frame.ensures.value in
    let l = lost _ c.in_err-ok.ensures.value in
    ap candidacy c.from_residual-in_err-ok.ensures
    ∙ standing-off (judged-off _ _ _ there refl (sym (ap outcome_number l.1) ∙ c.check_body.ensures.answer) (number-not-zero l.0))

pub returns : goal.returns
returns c =
    let there = frame_kept _ _ _ c.requires _ c.frame_of.ensures.answer c.in_ok-frame.ensures.value in
    let k = kept _ c.in_ok-ok.ensures.value in
    standing-fit (judged-fit _ _ _ there refl (sym (ap outcome_number k) ∙ c.check_body.ensures.answer) refl) c.evidence_of.ensures
