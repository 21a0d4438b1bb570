use Rattle.std.proofs.Common.{◌≡◌, sym, ◌∙◌, arith, Ok}
use Rattle.std.proofs.lemmas.List.{length-take-le, set-append_left, take-append-drop}
use Rattle.std.proofs.lemmas.Result.{err_from_is_err_and}
use Rattle.peers_table.specs.Table.{heading}
use Rattle.peers_table.proofs.Tables.{end_none}
use Rattle.peers_read.proofs.Loads.{head-refused, head_few, head-whole, head-holds, filled_none, filled_read, filled_turn, load_is}
use Rattle.peers_read.proofs.load.load_peers.Goals as goal

pub returns-in_err-head : goal.returns-in_err-head
returns-in_err-head c =
    let p = err_from_is_err_and c.from_residual.result c.from_residual.ensures.1 in
    rw (p.1, p.2) (record {
      answer = load_is _ _ _ _ (head-refused _ _ _ c.in_err-head.ensures.answer) (filled_none _ _ _);
    })

pub returns-then-slots-count : goal.returns-then-slots-count
returns-then-slots-count c = record {
  answer =
      load_is _ _ _ _ (head_few _ _ (heading (Ok c.in_ok-head.head)) c.in_ok-head.ensures.answer c.if-slots-count.true)
      (filled_none _ _ _);
}

pub loop-slot-init : goal.loop-slot-init
loop-slot-init c = (take-append-drop _ _ ∙ filled_none _ _ _, end_none _ _)

pub unwrap-got-requires : goal.unwrap-got-requires
unwrap-got-requires c =
    filled_read _ c.args.slots.now _ _ c.loop-slot.invariant.1
    (head-holds _ (heading (Ok c.in_ok-head.head)) c.in_ok-head.ensures.answer _
    (omega (arith, length-take-le _ _ c.if-slots-count.false))) _ c.read_peer.ensures.answer

pub loop-slot-preserved : goal.loop-slot-preserved
loop-slot-preserved c =
    let turn = filled_turn _ _ _ _ c.loop-slot.invariant.1
    (head-holds _ (heading (Ok c.in_ok-head.head)) c.in_ok-head.ensures.answer _
    (omega (arith, length-take-le _ _ c.if-slots-count.false))) _ c.unwrap-got.ensures
    c.read_peer.ensures.answer c.loop-slot.invariant.0 in
    (sym (set-append_left c.loop-slot.slot-items _ _ _ (omega arith)) ∙ turn.0, turn.1)

pub returns : goal.returns
returns c = record {
  answer =
      let i : c.loop-slot.slot-index ≡ c.in_ok-head.head.count = omega (arith, length-take-le _ _ c.if-slots-count.false) in
      load_is _ _ _ (heading (Ok c.in_ok-head.head)) (head-whole _ _ (heading (Ok c.in_ok-head.head)) c.in_ok-head.ensures.answer
      c.if-slots-count.false) (rw i at c.loop-slot.invariant.0);
}
