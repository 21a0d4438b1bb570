use Rattle.std.proofs.Common.{◌≡◌, ◌+◌, ◌≤◌, length, take, sym, ◌∙◌, ap, arith}
use Rattle.std.proofs.lemmas.List.{get_or_default}
use Rattle.std.proofs.lemmas.Result.{err_from_is_err_and}
use Rattle.octets.specs.Octets.{patch}
use Rattle.octets.proofs.Stores.{length-patch}
use Rattle.peers_entry.specs.Peer.{nobody, put_peer}
use Rattle.peers_entry.specs.declared.Peer.{Peer}
use Rattle.peers_slots.proofs.Counts.{is_right}
use Rattle.peers_write.specs.Steps.{sizes}
use Rattle.peers_write.proofs.Writes.{written_none, written_turn, sizes-le, sizes-least}
use Rattle.peers_write.proofs.Steps.{taken-length, taken_unfit, taken_sizes, taken_octets}
use Rattle.peers_write.proofs.Steps.{write_wrong, write_name, write_unfit, write_small, write_whole}
use Rattle.peers_write.proofs.write.write_peers.Goals as goal

pub returns-then-wrong_count : goal.returns-then-wrong_count
returns-then-wrong_count c = record { answer = write_wrong _ _ _ _ _ (sym c.if-wrong_count.ensures.answer) }

pub returns-then-name-gt65535 : goal.returns-then-name-gt65535
returns-then-name-gt65535 c = record {
  answer = write_name _ _ _ _ _ (sym c.if-wrong_count.ensures.answer) c.if-name-gt65535.true;
}

pub slice_bounds-peers-end : goal.slice_bounds-peers-end
slice_bounds-peers-end c =
    let count = is_right _ _ (sym c.if-wrong_count.ensures.answer) in
    sym (taken-length c.args.slots.now c.args.count count.0)

pub measure-requires : goal.measure-requires
measure-requires c =
    let count = is_right _ _ (sym c.if-wrong_count.ensures.answer) in
    omega (arith, taken-length c.args.slots.now c.args.count count.0)

pub returns-in_err-octets : goal.returns-in_err-octets
returns-in_err-octets c =
    let w = sym c.if-wrong_count.ensures.answer in
    let p = err_from_is_err_and c.from_residual.result c.from_residual.ensures.1 in
    rw (p.1, p.2, c.in_err-octets.ensures.0) (record {
      answer =
          write_unfit _ _ _ _ _ w c.if-name-gt65535.false
          (sym (taken_unfit c.args.slots.now c.args.count (is_right _ _ w).0) ∙ c.in_err-octets.ensures.1);
    })

pub overflow_add-name-2 : goal.overflow_add-name-2
overflow_add-name-2 c =
    let count = is_right _ _ (sym c.if-wrong_count.ensures.answer) in
    let slots = c.args.slots.now in
    omega (arith, c.in_ok-octets.ensures.1, taken_sizes slots c.args.count count.0, sizes-least slots c.args.count)

pub returns-then-out-name : goal.returns-then-out-name
returns-then-out-name c =
    let w = sym c.if-wrong_count.ensures.answer in
    let within = (is_right _ _ w).0 in
    let slots = c.args.slots.now in
    record {
      answer =
          write_small _ _ _ _ _ w c.if-name-gt65535.false (sym (taken_unfit slots c.args.count within) ∙ c.in_ok-octets.ensures.0)
          (omega (arith, c.in_ok-octets.ensures.1, taken_sizes slots c.args.count within));
    }

pub overflow_cast-count : goal.overflow_cast-count
overflow_cast-count c = omega (arith, is_right _ _ (sym c.if-wrong_count.ensures.answer))

pub loop-p-init : goal.loop-p-init
loop-p-init c = written_none (take c.args.count c.args.slots.now) c.put_head.new.out (8 + length c.args.view.now)

pub loop-p-preserved : goal.loop-p-preserved
loop-p-preserved c =
    let peers = take c.args.count c.args.slots.now in
    let i = c.loop-p.p-index in
    let at = 8 + length c.args.view.now in
    let long = ap length c.put_head.ensures ∙ length-patch _ _ _ in
    let more : sizes peers (i + 1) ≤ sizes peers (length peers) = sizes-le peers (i + 1) (length peers) (omega arith) in
    let room : at + sizes peers (i + 1) ≤ length c.loop-p.out = omega (arith, c.in_ok-octets.ensures.1, long) in
    let there = ap (λ (p : Peer). put_peer c.loop-p.out c.loop-p.at p) (get_or_default peers i _ nobody c.loop-p-test.true) in
    written_turn peers c.put_head.new.out at i room c.loop-p.invariant.0 c.loop-p.invariant.1 (c.put_peer-at.ensures.answer ∙ there)

pub returns : goal.returns
returns c =
    let w = sym c.if-wrong_count.ensures.answer in
    let within = (is_right _ _ w).0 in
    let slots = c.args.slots.now in
    let peers = take c.args.count slots in
    let at = 8 + length c.args.view.now in
    let i : c.loop-p.p-index ≡ length peers = omega arith in
    let measured = c.in_ok-octets.ensures.1 ∙ taken_sizes slots c.args.count within in
    record {
      answer =
          write_whole _ _ _ _ _ w c.if-name-gt65535.false (sym (taken_unfit slots c.args.count within) ∙ c.in_ok-octets.ensures.0)
          (omega (arith, measured)) c.put_head.ensures
          (rw i at c.loop-p.invariant.0 ∙ ap (patch c.put_head.new.out at) (taken_octets slots c.args.count within))
          (rw i at c.loop-p.invariant.1 ∙ ap (λ n. at + n) (taken_sizes slots c.args.count within));
    }
