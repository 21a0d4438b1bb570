use Rattle.std.proofs.Common.{rules}
use Rattle.mrt_peers.proofs.Exports.{found_added, add_out_lem}
use Rattle.mrt_peers.proofs.add.mrt_add_peer.Goals as goal

pub returns : goal.returns
returns c = record {
  answer =
      add_out_lem _ _ _ _ _ _ _ _ _ c.fresh_of-fresh.ensures c.add_peer.ensures.answer
      (found_added _ _ (search rules) c.found_of.ensures);
}
