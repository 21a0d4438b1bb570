use Rattle.std.proofs.Common.{sym, arith}
use Rattle.answer.proofs.Refusals.{number-not-zero}
use Rattle.peers_slots.proofs.Counts.{is_right}
use Rattle.peers_add.proofs.Cases.{add_known, add_wrong, add_last, add_full, add_free}
use Rattle.peers_add.proofs.add.add_peer.Goals as goal

pub returns-in-Ok : goal.returns-in-Ok
returns-in-Ok c = record { answer = add_known _ _ _ _ c.in-Ok.ensures.answer }

pub returns-then-wrong_count : goal.returns-then-wrong_count
returns-then-wrong_count c = record { answer = add_wrong _ _ _ (sym c.if-wrong_count.ensures.answer) }

pub returns-then-count-eq65535 : goal.returns-then-count-eq65535
returns-then-count-eq65535 c = record {
  answer =
      add_last _ _ _ _ c.in_default.ensures.answer (number-not-zero _) (sym c.if-wrong_count.ensures.answer) (omega arith);
}

pub returns-then-n-count : goal.returns-then-n-count
returns-then-n-count c =
    let w = sym c.if-wrong_count.ensures.answer in
    record {
      answer = add_full _ _ _ _ c.in_default.ensures.answer (number-not-zero _) w (omega (arith, is_right _ _ w)) (omega arith);
    }

pub offset_bounds-slots-id : goal.offset_bounds-slots-id
offset_bounds-slots-id c = omega (arith, is_right _ _ (sym c.if-wrong_count.ensures.answer))

pub bounds-slots-id : goal.bounds-slots-id
bounds-slots-id c = omega (arith, is_right _ _ (sym c.if-wrong_count.ensures.answer))

pub overflow_cast-result : goal.overflow_cast-result
overflow_cast-result c = omega (arith, is_right _ _ (sym c.if-wrong_count.ensures.answer))

pub returns : goal.returns
returns c =
    let w = sym c.if-wrong_count.ensures.answer in
    record {
      answer =
          add_free _ _ _ _ c.in_default.ensures.answer (number-not-zero _) w (omega (arith, is_right _ _ w)) (omega (arith, is_right _ _ w))
          c.stored_peer.ensures.answer;
    }
