use Rattle.std.proofs.Common.{◌≡◌, ◌+◌, ◌≤◌, ◌||◌, refl, sym, ◌∙◌, ap, arith, length}
use Rattle.std.proofs.lemmas.List.{get_or_default}
use Rattle.peers_entry.specs.Peer.{nobody, peer_size, unfit}
use Rattle.peers_entry.specs.declared.Peer.{Peer}
use Rattle.peers_write.specs.Write.{any_unfit}
use Rattle.peers_write.specs.Steps.{sizes}
use Rattle.peers_write.proofs.Writes.{sizes_none, sizes_more, sizes-least, unfit_none, unfit_more, peer_le}
use Rattle.peers_write.proofs.measure.measure.Goals as goal

pub loop-p-init : goal.loop-p-init
loop-p-init c = (sizes_none c.args.peers.now, unfit_none c.args.peers.now)

pub overflow_add-octets : goal.overflow_add-octets
overflow_add-octets c =
    let size : c.size_of-octets.result ≤ 25 = rw c.size_of-octets.ensures (peer_le _) in
    omega (arith, sizes-least c.args.peers.now c.loop-p.p-index)

pub loop-p-preserved : goal.loop-p-preserved
loop-p-preserved c =
    let peers = c.args.peers.now in
    let i = c.loop-p.p-index in
    let there = get_or_default peers i _ nobody c.loop-p-test.true in (
      ap (λ n. n + c.size_of-octets.result) c.loop-p.invariant.0
          ∙ ap (λ n. sizes peers i + n) (c.size_of-octets.ensures ∙ ap (λ (p : Peer). peer_size p.kind) there)
          ∙ sizes_more peers i,
      ap (λ t. t || c.unfit_as-unfit.result) c.loop-p.invariant.1
          ∙ ap (λ t. any_unfit peers i || t) (c.unfit_as-unfit.ensures.answer ∙ ap (λ (p : Peer). unfit p) there)
          ∙ unfit_more peers i,
    )

pub returns-then-unfit : goal.returns-then-unfit
returns-then-unfit c =
    let i : c.loop-p.p-index ≡ length c.args.peers.now = omega arith in
    (refl, rw i at (sym c.loop-p.invariant.1) ∙ c.if-unfit.true)

pub returns : goal.returns
returns c =
    let i : c.loop-p.p-index ≡ length c.args.peers.now = omega arith in
    (rw i at (sym c.loop-p.invariant.1) ∙ c.if-unfit.false, rw i at c.loop-p.invariant.0)
