use Rattle.std.proofs.Common.{◌∙◌, ap, arith}
use Rattle.peers_entry.specs.Peer.{peer_size}
use Rattle.peers_table.proofs.Tables.{short_head, short_name, short_peer, held, end_none, end_turn, count_at_lem, first-at}
use Rattle.peers_table.proofs.table.check_peers.Goals as goal

pub returns-then-n-lt8 : goal.returns-then-n-lt8
returns-then-n-lt8 c = record { answer = short_head _ c.if-n-lt8.true }

pub returns-then-n-length : goal.returns-then-n-length
returns-then-n-length c = record { answer = short_name _ c.be16-length.ensures c.if-n-lt8.false c.if-n-length.true }

pub loop-init : goal.loop-init
loop-init c = (first-at _ c.be16-length.ensures ∙ end_none _ _, omega arith)

pub returns-then-n-at : goal.returns-then-n-at
returns-then-n-at c = record {
  answer =
      short_peer _ (count_at_lem _ c.be16-length.ensures c.be16-count.ensures) c.loop-test.true c.loop.invariant.0
      (c.peer_size-size.ensures.answer ∙ ap peer_size c.octet.ensures) c.loop.invariant.1 c.if-n-at.true;
}

pub loop-preserved : goal.loop-preserved
loop-preserved c =
    (end_turn _ _ _ c.loop.invariant.0 (c.peer_size-size.ensures.answer ∙ ap peer_size c.octet.ensures), omega arith)

pub returns : goal.returns
returns c = record {
  answer =
      held _ c.be32.ensures c.be16-length.ensures (count_at_lem _ c.be16-length.ensures c.be16-count.ensures)
      (first-at _ c.be16-length.ensures) c.loop.invariant.0 c.loop.auto.counter-end c.loop-test.false c.loop.invariant.1;
}
