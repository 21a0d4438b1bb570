use native.Mathlib.Omega.{arith}
use Rattle.peers_entry.specs.Peer.{address_size}
use Rattle.peers_entry.proofs.Records.{store_is}
use Rattle.peers_entry.proofs.address.stored_peer.Goals as goal

pub returns : goal.returns
unfolding address_size
returns c = record { answer = store_is _ (omega arith) (rw c.long.ensures at c.read_address-addr.ensures.answer) }
