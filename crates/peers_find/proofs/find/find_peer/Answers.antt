use Rattle.peers_find.proofs.Slots.{find_is}
use Rattle.peers_find.proofs.find.find_peer.Goals as goal

pub returns : goal.returns
returns c = record { answer = find_is _ _ _ _ c.address_key.ensures.answer c.look_up.ensures.answer }
