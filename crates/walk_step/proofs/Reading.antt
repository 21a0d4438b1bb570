-- What code has found, as the rules of the walk say it.
use Prim.Native.Nat.{ℕ, suc, ◌+◌, ◌-◌, ◌<◌, ◌≤◌}
use mathlib.Core.Path.{◌≡◌, refl, sym, ◌∙◌, ap}
use mathlib.Core.List.{List}
use native.Mathlib.Omega.{arith}
use lib.ListN.{length}
use Rattle.rules.specs.Ask.{over}
use Rattle.header.specs.Frame.{Framing}
use Rattle.header.specs.declared.Framed.{Framed}
use Rattle.walk.specs.Judged.{fit}
use Rattle.walk.specs.Step.{moved, gap, asked, Tried, passed, failed, Found, found, aligned, scan, scanned}
use Rattle.walk.proofs.Turns.{aligned_enough, aligned-end, aligned-fit, aligned-off, aligned-cut}
use Rattle.walk.proofs.Calls.{call_beyond, call_finished, call-end, call-fit, call-off, call-cut}
use Rattle.walk.proofs.Calls.{unfound-left, unfound_shut, scanned-found, scanned-nowhere, own-passed, own-failed}
use Rattle.walk_judge.specs.Record.{judge_at, judged}
use Rattle.walk_judge.specs.declared.Verdict.{Verdict}
use Rattle.walk_judge.specs.declared.Verdict.TheVariants.{Fit, Off, Cut}
use Rattle.walk_candidate.specs.Candidate.{candidate_at}

-- a try of n records from `at` on, of which m have passed, and the next is judged at p
module _ (s : List ℕ) (n at : ℕ) where
  abbrev pub Goes : ℕ → ℕ → Type 0
  Goes m p = over s (aligned judge_at n 0 at) ≡ over s (aligned judge_at (n - m) m p)

  pub goes_first : Goes 0 at
  goes_first = let z : n - 0 ≡ n = omega arith in rw z

  module _ (m p : ℕ) (g : Goes m p) where
    pub goes_enough : m ≤ n → n ≤ m → passed m ≡ over s (aligned judge_at n 0 at)
    goes_enough l u = let z : n - m ≡ 0 = omega arith in rw (g, z) (aligned_enough judge_at s m p)

    module _ (l : m < n) where
      left : n - m ≡ suc (n - (m + 1))
      left = omega arith

      pub goes_end : length s ≤ p → passed m ≡ over s (aligned judge_at n 0 at)
      goes_end u = rw (g, left) (aligned-end judge_at s (n - (m + 1)) m p u)

      module _ (u : p < length s) where
        pub goes_not : (v : Verdict) → ((f : Framed) → v ≡ Fit f → ⊥) → judged v ≡ over s (judge_at p)
            → failed ≡ over s (aligned judge_at n 0 at)
        goes_not (Fit f) z q = absurd (z f refl)
        goes_not (Off r e) z q = rw (g, left) (aligned-off judge_at s (n - (m + 1)) m p u (sym q))
        goes_not (Cut r) z q = rw (g, left) (aligned-cut judge_at s (n - (m + 1)) m p u (sym q))

        pub goes_on : (f : Framing) → fit f ≡ over s (judge_at p) → Goes (m + 1) f.end
        goes_on f q =
            let e : suc m ≡ m + 1 = omega arith in
            g ∙ rw left (aligned-fit judge_at s (n - (m + 1)) m p u {f = f} (sym q) ∙ rw e)

-- the asked number and what is asked for after the first
module _ {a : ℕ} (k : ℕ) (e : a ≡ asked k) where
  pub one_less : a - 1 ≡ k - 1
  one_less = omega arith

  pub asked_more : (s : List ℕ) (p window : ℕ) {f : Found} → f ≡ over s (scan candidate_at (a - 1) (suc p) window)
      → f ≡ over s (scan candidate_at (k - 1) (suc p) window)
  asked_more s p window q = q ∙ ap (λ (n : ℕ). over s (scan candidate_at n (suc p) window)) one_less

  pub asked-found : (s : List ℕ) (p window r : ℕ) {o v : ℕ} → found o v ≡ over s (scan candidate_at (a - 1) (suc p) window)
      → moved o (gap p o r v a) ≡ over s (scanned judge_at candidate_at p window k r)
  asked-found s p window r {o} {v} q =
      ap (λ (n : ℕ). moved o (gap p o r v n)) e ∙ scanned-found judge_at candidate_at s window k p r (asked_more s p window q)

  pub asked-own : (s : List ℕ) (at : ℕ) {t : Tried} → t ≡ over s (aligned judge_at a 0 at) → t ≡ over s (aligned judge_at (asked k) 0 at)
  asked-own s at q = q ∙ ap (λ (n : ℕ). over s (aligned judge_at n 0 at)) e

-- what the check asks of the gap that a call leaves, and of a whole call
pub ruleset gaps =
    (unfound-left, unfound_shut, scanned-nowhere, asked_more, asked-found, asked-own, own-passed, own-failed)

pub ruleset calls = (call_beyond, call_finished, call-end, call-fit, call-off, call-cut)
