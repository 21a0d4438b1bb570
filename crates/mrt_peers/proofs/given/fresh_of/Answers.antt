use Rattle.mrt_peers.proofs.Exports.{fresh_is}
use Rattle.mrt_peers.proofs.given.fresh_of.Goals as goal

pub returns : goal.returns
returns c = fresh_is _ _ _ c.count_for.ensures c.sixteen-octets.ensures _ _
