use Rattle.mrt_peers.proofs.Exports.{key_is}
use Rattle.mrt_peers.proofs.given.key_for.Goals as goal

pub returns : goal.returns
returns c = key_is _ _ _ c.count_for.ensures c.sixteen-octets.ensures
