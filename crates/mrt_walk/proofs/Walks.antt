-- A record that an exported call of the walk hands out.
use Prim.Native.Nat.{ℕ, ◌≤◌}
use mathlib.Core.Path.{◌≡◌, refl, sym, ◌∙◌, ap, subst}
use mathlib.Core.List.{List, [], ◌∷◌}
use native.Mathlib.Omega.{arith}
use lib.ListN.{length, get_or, set}
use mathlib.Core.Bool.{false}
use lib.Dec.{eqb}
use Rattle.octets.specs.Octets.{patch}
use Rattle.rules.specs.Ask.{over}
use Rattle.header.specs.Frame.{Framing}
use Rattle.walk.specs.Judged.{Judged, fit}
use Rattle.walk_judge.specs.Record.{judge_at}
use Rattle.walk_candidate.specs.Candidate.{candidate_at}
use Rattle.walk_judge.proofs.Soundness.{Inside, inside}
use Rattle.walk.proofs.Calls.{call-fit}
use Rattle.mrt_lent.specs.Records.{record_values}
use Rattle.mrt_lent.specs.Walks.{walk_in}
use Rattle.mrt_lent.proofs.Walks.{walk_served}
use Rattle.mrt_walk.specs.Next.{stepped_out, next_out}

-- a mark of 0 that is stored again
set_same : (ws : List ℕ) (n : ℕ) → get_or ws 1 0 ≡ 0 → set ws 0 n ≡ set (set ws 0 n) 1 0
set_same [] n z = refl
set_same (a ∷ []) n z = refl
set_same (a ∷ b ∷ l) n z = let e : b ≡ 0 = z in rw e

-- a record f that passes is handed out, and the mark stays
pub next_handed : (s ws out : List ℕ) (window k : ℕ) (f : Framing) {p : ℕ} → 2 ≤ length ws → get_or ws 1 0 ≡ 0 → get_or ws 0 0 ≤ length s
    → 10 ≤ length out → p ≡ get_or ws 0 0 → fit f ≡ over s (judge_at p) → {t : List ℕ} → t ≡ patch out 0 (record_values p f)
    → (set ws 0 f.end, (t, 0)) ≡ next_out s ws window k out
unfolding patch
next_handed s ws out window k f {p} two z within room is fits {t} stored =
    let e : eqb (get_or ws 1 0) 1 ≡ false = rw z in
    let q : fit f ≡ over s (judge_at (get_or ws 0 0)) = rw is at fits in
    let here : Inside (get_or ws 0 0) (length s) (fit f) =
    subst (λ (j : Judged). Inside (get_or ws 0 0) (length s) j) (sym q) (inside s (get_or ws 0 0)) in
    ap (λ (l : List ℕ). (l, (t, 0))) (set_same ws f.end z)
    ∙ ap (λ (l : List ℕ). (set (set ws 0 f.end) 1 0, (l, 0))) (rw is at stored)
    ∙ ap (stepped_out ws out) (call-fit judge_at candidate_at s window k (walk_in ws) within e (λ e. omega (arith, here.0, here.1)) f q)
    ∙ walk_served _ _ _ (record { two = two; marked = omega arith; within = within }) out room
