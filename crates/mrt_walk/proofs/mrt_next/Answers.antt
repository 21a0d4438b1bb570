use mathlib.Core.Path.{◌∙◌, ap}
use Rattle.std.proofs.Common.{arith}
use Rattle.std.proofs.lemmas.Bool.Decides.{nat_tests}
use Rattle.octets.specs.Octets.{patch}
use Rattle.mrt_lent.specs.Walks.{on_walk, holds_walk}
use Rattle.mrt_walk.proofs.Walks.{next_handed}
use Rattle.mrt_walk.proofs.mrt_next.Goals as goal

pub returns-in-Fit : goal.returns-in-Fit
unfolding on_walk holds_walk
returns-in-Fit c = record {
  answer =
      next_handed _ _ _ _ _ _ (grind (arith, nat_tests)) (grind (arith, nat_tests)) (grind (arith, nat_tests)) (grind (arith, nat_tests))
      (grind (arith, nat_tests)) c.in-Fit.ensures.answer (c.put_values.ensures ∙ ap (patch _ 0) c.record_values.ensures);
}
