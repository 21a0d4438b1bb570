-- Where a scan ends without an offset, and what it passes over.
use Prim.Native.Nat.{ℕ, zero, suc, ◌+◌, ◌-◌, ◌<◌, ◌≤◌, min}
use mathlib.Core.Path.{◌≡◌, refl, sym}
use mathlib.Core.Bool.{Bool, true, false}
use mathlib.Core.List.{List}
use native.Mathlib.Omega.{arith}
use lib.ListN.{length}
use lib.Dec.{leb}
use borrow.Author.Tests.{leb-true, leb-false}
use Rattle.rules.specs.Ask.{over}
use Rattle.walk.specs.Step.{nowhere, scan}
use Rattle.walk.specs.Judged.{fails}
use Rattle.walk.proofs.Turns.{Left, Looks, scan-over, scan-past, scan_turned, scan_looks, row-fails}
use Rattle.walk.proofs.Turns.{scan_starts, row_starts, row_ends}
use Rattle.walk_candidate.specs.Candidate.{candidate_at}
use Rattle.walk_scan.specs.Sight.{Passed, Clear}
use Rattle.walk_candidate.proofs.Candidates.{candidate_near}

-- d distances are turned down, and the next one is beyond the window or has no room for a header
pub scan_reached : (s : List ℕ) (more p window d : ℕ) → d ≤ window → min window (length s - p - 12) ≤ d
    → Left candidate_at s more p window d → nowhere ≡ over s (scan candidate_at more (suc p) window)
scan_reached s more p window d u l h = by_window (leb window d) refl
  where
    by_window : (t : Bool) → leb window d ≡ t → nowhere ≡ over s (scan candidate_at more (suc p) window)
    by_window true t = let w : window ≤ d = leb-true _ _ t in scan-over candidate_at s more p window d (omega arith) h
    by_window false t =
        let w : d < window = leb-false _ _ t in
        scan-past candidate_at s more p window d h (λ q m. sym (candidate_near s q (omega arith)))

-- distances that are passed over, and those after them
pub passed_on : (s : List ℕ) (p from d to : ℕ) → Passed s p from d → Passed s p d to → Passed s p from to
passed_on s p from d to h q e l u = by_place (leb e d) refl
  where
    by_place : (t : Bool) → leb e d ≡ t → fails ≡ over s (candidate_at (p + e))
    by_place true t = h e l (leb-true _ _ t)
    by_place false t = q e (leb-false _ _ t) u

-- n clear offsets after them, and one
pub passed_block : (s : List ℕ) (p from d n : ℕ) → Passed s p from d → Clear s (p + (d + 1)) n → Passed s p from (d + n)
passed_block s p from d n h q = passed_on s p from d (d + n) h after
  where
    after : Passed s p d (d + n)
    after e l u =
        let z : p + (d + 1) + (e - (d + 1)) ≡ p + e = omega arith in
        rw z at (q (e - (d + 1)) (omega arith))

-- distances that are passed over are turned down
pub left_passed : (s : List ℕ) (more p window from : ℕ) → from ≤ window → Left candidate_at s more p window from
    → (n : ℕ) → from + n ≤ window → Passed s p from (from + n) → Left candidate_at s more p window (from + n)
left_passed s more p window from l h zero u q = let z : from + 0 ≡ from = omega arith in rw z h
left_passed s more p window from l h (suc n) u q =
    let z : from + suc n ≡ from + n + 1 = omega arith in
    let before : Left candidate_at s more p window (from + n) =
    left_passed s more p window from l h n (omega arith) (λ e a b. q e a (omega arith)) in
    rw z
    (scan_turned candidate_at s more p window (from + n + 1) (p + (from + n + 1)) refl
    (scan_looks candidate_at s more p window (from + n) (omega arith) before)
    (row-fails candidate_at s more (p + (from + n + 1)) (sym (q (from + n + 1) (omega arith) (omega arith)))))

pub left_over : (s : List ℕ) (more p window from to : ℕ) → from ≤ to → to ≤ window → Left candidate_at s more p window from
    → Passed s p from to → Left candidate_at s more p window to
left_over s more p window from to l u h q =
    let z : from + (to - from) ≡ to = omega arith in
    rw z at (left_passed s more p window from (omega arith) h (to - from) (omega arith) (λ e a b. q e a (omega arith)))

-- the next distance is looked at, once those up to it are passed over
pub looks_next : (s : List ℕ) (more p window d next : ℕ) → d < next → next ≤ window → Left candidate_at s more p window d
    → Passed s p d (next - 1) → Looks candidate_at s more p window next (p + next)
looks_next s more p window d next l u h q =
    let e : next - 1 + 1 ≡ next = omega arith in
    rw e at (scan_looks candidate_at s more p window (next - 1) (omega arith)
    (left_over s more p window d (next - 1) (omega arith) (omega arith) h q))

-- what the check asks of a turn of the scan
pub ruleset turns = (scan_starts, scan_turned, row_starts, row_ends, looks_next)
