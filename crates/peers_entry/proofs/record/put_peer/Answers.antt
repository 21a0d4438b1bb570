use mathlib.Core.Path.{ap, ◌∙◌}
use lib.ListN.{length}
use native.Mathlib.Omega.{arith}
use Rattle.octets.proofs.Stores.{length-patch}
use Rattle.octets_address.proofs.Addresses.{length_put}
use Rattle.peers_entry.specs.Peer.{address_size}
use Rattle.peers_entry.proofs.Sizes.{address_le, size_is}
use Rattle.peers_entry.proofs.Records.{put_small, put_late, put_whole}
use Rattle.peers_entry.proofs.record.put_peer.Goals as goal
use Rattle.peers_entry.proofs.record.put_peer.Goals.{then-n-size-via-then-n-size, then-n-size-via-else-n-size+then-n-size-2}

pub returns-then-n-size : goal.returns-then-n-size
returns-then-n-size c = record {
  answer =
      elim c.then-n-size.branch [
        | then-n-size-via-then-n-size w ↦ put_small _ _ _ c.peer_size-size.ensures.answer w.if-n-size.true
        | then-n-size-via-else-n-size+then-n-size-2 w ↦
            put_late _ _ _ c.peer_size-size.ensures.answer w.if-n-size.false w.if-n-size-2.true
      ];
}

pub overflow_add-front-2 : goal.overflow_add-front-2
overflow_add-front-2 c =
    let kind = c.args.p.kind in
    omega (arith, address_le kind, size_is kind)

pub put_as-requires : goal.put_as-requires
put_as-requires c =
    let start = c.args in
    let one = ap length c.put_octet.ensures ∙ length-patch _ _ _ in
    let two = ap length c.store32.ensures ∙ length-patch _ _ _ in
    let three = ap length c.put_address.ensures.answer ∙ length_put _ _ _ _ in
    omega (arith, size_is start.p.kind, one, two, three)

pub returns : goal.returns
unfolding address_size
returns c = record {
  answer =
      put_whole _ _ _ c.peer_size-size.ensures.answer c.if-n-size.false c.if-n-size-2.false
      c.address_size-length.ensures c.put_octet.ensures c.store32.ensures
      (rw c.long.ensures at c.put_address.ensures.answer) c.put_as.ensures;
}
