use native.Mathlib.Omega.{arith}
use Rattle.peers_entry.proofs.Sizes.{as_least}
use Rattle.peers_entry.proofs.Records.{as_read_long, as_read_short}
use Rattle.peers_entry.proofs.record.read_as.Goals as goal

pub overflow_sub-last : goal.overflow_sub-last
overflow_sub-last c = omega (arith, as_least c.args.kind)

pub slice_bounds-be16-end : goal.slice_bounds-be16-end
slice_bounds-be16-end c = omega (arith, as_least c.args.kind)

pub returns-then-size-eq4 : goal.returns-then-size-eq4
returns-then-size-eq4 c =
    as_read_long _ _ _ c.as_size-size.ensures c.be16-high.ensures c.if-size-eq4.true c.be16-low.ensures

pub returns : goal.returns
returns c =
    as_read_short _ _ _ c.as_size-size.ensures c.be16-high.ensures c.if-size-eq4.false
