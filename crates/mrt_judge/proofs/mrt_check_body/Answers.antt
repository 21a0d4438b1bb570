use mathlib.Core.Path.{sym, ◌∙◌, ap}
use Rattle.answer.specs.Refusal.{outcome_number}
use Rattle.mrt_judge.proofs.mrt_check_body.Goals as goal

pub returns-in-Ok : goal.returns-in-Ok
returns-in-Ok c = record { answer = sym (ap outcome_number c.in-Ok.is) ∙ c.check_body.ensures.answer }

pub returns-in-Err : goal.returns-in-Err
returns-in-Err c = record { answer = c.refusal.ensures ∙ sym (ap outcome_number c.in-Err.is) ∙ c.check_body.ensures.answer }
