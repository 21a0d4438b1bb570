use Prim.Native.Nat.{◌≤◌, ◌-◌, min}
use mathlib.Core.Path.{◌≡◌}
use lib.ListN.{length}
use Rattle.walk.specs.Evidence.{evidence_number}
use Rattle.walk.proofs.Turns.{Left, Stood}
use Rattle.walk_candidate.specs.Candidate.{candidate_at}
use Rattle.walk_scan.proofs.sight.scan.Given as goal

abbrev pub invariant-distance : goal.invariant-distance
invariant-distance l = (l.d ≤ l.last) × (l.last ≡ min l.window (length l.s - l.p - 12)) × Left candidate_at l.s l.more l.p l.window l.d

abbrev pub decreases-distance : goal.decreases-distance
decreases-distance l = l.last - l.d

abbrev pub invariant-loop-i : goal.invariant-loop-i
invariant-loop-i l = Stood candidate_at l.s l.more l.offset l.i (evidence_number l.evidence) l.at
