use native.Mathlib.Omega.{arith}
use Rattle.peers_entry.specs.Peer.{address_size}
use Rattle.peers_entry.proofs.Sizes.{address_le, size_is}
use Rattle.peers_entry.proofs.Records.{read_beyond, read_short, read_whole}
use Rattle.peers_entry.proofs.record.read_peer.Goals as goal

pub returns-then-n-at : goal.returns-then-n-at
returns-then-n-at c = record { answer = read_beyond _ _ c.if-n-at.true }

pub returns-then-n-at-2 : goal.returns-then-n-at-2
returns-then-n-at-2 c = record {
  answer =
      read_short _ _ c.if-n-at.false c.octet-kind.ensures
      c.peer_size-size.ensures.answer c.if-n-at-2.true;
}

pub slice_bounds-be32-end : goal.slice_bounds-be32-end
slice_bounds-be32-end c = omega (arith, size_is c.octet-kind.result)

pub overflow_add-front-2 : goal.overflow_add-front-2
overflow_add-front-2 c =
    let kind = c.octet-kind.result in
    omega (arith, address_le kind, size_is kind)

pub read_as-requires : goal.read_as-requires
read_as-requires c = omega (arith, size_is c.octet-kind.result)

pub returns : goal.returns
unfolding address_size
returns c = record {
  answer =
      read_whole _ _ c.if-n-at.false c.octet-kind.ensures c.peer_size-size.ensures.answer c.if-n-at-2.false
      c.address_size.ensures (rw c.long.ensures at c.read_address-addr.ensures.answer)
      c.be32.ensures c.read_as.ensures;
}
