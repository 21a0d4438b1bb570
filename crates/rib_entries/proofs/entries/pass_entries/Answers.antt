use mathlib.Core.Path.{sym, ◌∙◌}
use Rattle.rib_entries.proofs.Passing.{step_less, passed_step, passed_still}
use Rattle.rib_entries.proofs.entries.pass_entries.Goals as goal

pub loop-next-smaller : goal.loop-next-smaller
loop-next-smaller c = step_less _ _ _ c.in-Some.ensures

pub loop-next-preserved : goal.loop-next-preserved
loop-next-preserved c = c.loop-next.invariant ∙ passed_step _ _ _ c.in-Some.ensures

pub returns : goal.returns
returns c = record {
  answer = passed_still _ _ _ (sym c.in_default.is ∙ c.step.ensures) ∙ sym c.loop-next.invariant;
}
