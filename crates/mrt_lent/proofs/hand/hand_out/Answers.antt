use Rattle.mrt_lent.proofs.Handing.{export_full, export_stored}
use Rattle.mrt_lent.proofs.hand.hand_out.Goals as goal

pub returns-then-out-values : goal.returns-then-out-values
returns-then-out-values c = rw c.refusal.ensures (export_full _ _ c.if-out-values.true)

pub returns : goal.returns
returns c = export_stored _ _ c.if-out-values.false c.put_values.ensures
