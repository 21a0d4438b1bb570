use Prim.Native.Nat.{◌+◌}
use mathlib.Core.Bool.{cond}
use mathlib.Core.Path.{◌≡◌, sym, ap}
use native.Mathlib.Omega.{arith}
use lib.Dec.{eqb}
use borrow.Author.Tests.{eq-eqb, ne_eqb}
use Rattle.walk.specs.Evidence.{evidence_number}
use Rattle.walk.proofs.Turns.{scan-left, row_turned, row-whole}
use Rattle.walk_candidate.specs.Candidate.{candidate_at}
use Rattle.walk_scan.proofs.Scans.{scan_reached, left_over, looks_next}
use Rattle.walk_scan.proofs.sight.scan.Goals as goal
use Rattle.walk_scan.proofs.sight.scan.Goals.{then-i-eq0, else-i-eq0}

pub loop-i-preserved : goal.loop-i-preserved
loop-i-preserved c =
    let set : evidence_number c.if-i-eq0.evidence
    ≡ cond (eqb c.loop-i.i 0) (evidence_number c.in-Some.found.evidence) (evidence_number c.loop-i.evidence) =
    elim c.if-i-eq0.branch [
      | then-i-eq0 w ↦ rw (eq-eqb _ 0 w.if-i-eq0.true) (ap evidence_number w.evidence-is)
      | else-i-eq0 w ↦ rw (ne_eqb _ 0 w.if-i-eq0.false) (ap evidence_number w.evidence-is)
    ] in
    row_turned candidate_at _ _ _ _ _ _ (omega arith) c.loop-i.invariant (sym c.in-Some.ensures.answer) set

pub returns-in-distance : goal.returns-in-distance
returns-in-distance c = record {
  answer =
      let n = c.in_ok-d.ensures in
      let e : c.loop-i.i ≡ c.args.more + 1 = omega arith in
      scan-left candidate_at _ _ _ _ _ _ (looks_next _ _ _ _ _ _ n.0 (omega (arith, n.1)) c.distance.invariant.2 n.2)
      (sym (row-whole candidate_at _ _ _ _ _ _ (omega arith) (rw e at c.loop-i.invariant)));
}

pub returns-in_err-d : goal.returns-in_err-d
returns-in_err-d c =
    rw c.from_residual.ensures (record {
      answer =
          scan_reached _ _ _ _ _ (omega arith) (omega arith)
          (left_over _ _ _ _ _ _ c.distance.invariant.0 (omega arith) c.distance.invariant.2 c.in_err-d.ensures);
    })
