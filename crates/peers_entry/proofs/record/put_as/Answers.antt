use native.Mathlib.Omega.{arith}
use Rattle.peers_entry.proofs.Sizes.{as_least}
use Rattle.peers_entry.proofs.Records.{as_stored}
use Rattle.peers_entry.proofs.record.put_as.Goals as goal

pub overflow_sub-end : goal.overflow_sub-end
overflow_sub-end c = omega (arith, as_least c.args.kind)

pub returns : goal.returns
returns c =
    as_stored _ _ _ _ c.as_size.ensures c.requires c.store16.ensures c.store16-2.ensures
