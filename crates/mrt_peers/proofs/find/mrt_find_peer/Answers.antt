use Rattle.mrt_peers.proofs.Exports.{find_out_lem}
use Rattle.mrt_peers.proofs.find.mrt_find_peer.Goals as goal

pub returns : goal.returns
returns c = record {
  answer = find_out_lem _ _ _ _ c.key_for-key.ensures c.find_peer.ensures.answer c.found_of.ensures;
}
