use Rattle.peers_write.proofs.Steps.{head_run}
use Rattle.peers_write.proofs.write.put_head.Goals as goal

pub returns : goal.returns
returns c =
    head_run _ _ _ _ c.put_be32.ensures
    c.put_be16.ensures
    c.put_octets.ensures c.put_be16-2.ensures
