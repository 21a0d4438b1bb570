-- Rows of candidates, and the least offset where one stands.
use Prim.Native.Nat.{ℕ, zero, suc, ◌+◌, ◌<◌, ◌≤◌}
use mathlib.Core.Path.{◌≡◌, refl, ◌∙◌}
use mathlib.Core.Bool.{Bool, true, false}
use mathlib.Core.List.{List}
use native.Mathlib.Omega.{arith}
use lib.Dec.{eqb}
use borrow.Author.Tests.{eqb-true, eqb-false}
use Rattle.rules.specs.Ask.{Ask, done, over}
use Rattle.rules.proofs.Asked.{over_bind}
use Rattle.walk.specs.Judged.{Candidate, stands, fails}
use Rattle.walk.specs.Step.{Row, whole, broken, Found, found, nowhere, when_stands, when_whole, row_from, row_on, row, scan}
use Rattle.walk.specs.Promises.{RowAt}

module _ (candidate : ℕ → Ask Candidate) (s : List ℕ) where
  -- what stands at p: a row of n more candidates after the first, and the first of d such rows
  abbrev row_here : ℕ → ℕ → Row
  row_here n p = over s (row candidate n p)

  abbrev scan_here : ℕ → ℕ → ℕ → Found
  scan_here n p d = over s (scan candidate n p d)

  -- a row that the rule finds is a row
  row_of : (n v p u : ℕ) → over s (row_from candidate n v p) ≡ whole u → RowAt candidate s n p
  unfolding row_from over when_stands
  row_of zero v p u h = tt
  row_of (suc n) v p u h = by_candidate (over s (candidate p)) refl (rw (over_bind s _ (candidate p)) at h) (λ (e : ℕ). row_of n v e u)
    where
      by_candidate : (c : Candidate) → over s (candidate p) ≡ c → over s (when_stands (row_from candidate n v) (done broken) c) ≡ whole u
          → ((e : ℕ) → over s (row_from candidate n v e) ≡ whole u → RowAt candidate s n e) → RowAt candidate s (suc n) p
      by_candidate (stands w e) q h ih = (w, e, q, ih e h)
      by_candidate fails q h ih = cc

  -- and a row is found
  of_row : (n v p : ℕ) → RowAt candidate s n p → over s (row_from candidate n v p) ≡ whole v
  unfolding row_from over when_stands
  of_row zero v p r = refl
  of_row (suc n) v p r = over_bind s _ (candidate p) ∙ rw r.2 (of_row n v r.1 r.3)

  pub row_at : (n p v : ℕ) → row_here n p ≡ whole v → RowAt candidate s (suc n) p
  unfolding row row_on over
  row_at n p v h = by_candidate (over s (candidate p)) refl (rw (over_bind s _ (candidate p)) at h)
    where
      by_candidate : (c : Candidate) → over s (candidate p) ≡ c → over s (row_on candidate n c) ≡ whole v → RowAt candidate s (suc n) p
      by_candidate (stands w e) q h = (w, e, q, row_of n w e v h)
      by_candidate fails q h = cc

  pub at_row : (n p : ℕ) (r : RowAt candidate s (suc n) p) → row_here n p ≡ whole r.0
  unfolding row row_on
  at_row n p r = over_bind s _ (candidate p) ∙ rw r.2 (of_row n r.0 r.1 r.3)

  pub no_row : (n p : ℕ) → row_here n p ≡ broken → ¬ RowAt candidate s (suc n) p
  no_row n p h r = let q = at_row n p r in cc

  -- the least of the d offsets from p on
  pub record Least (n p d o v : ℕ) : Type 0 where
    pub low : p ≤ o
    pub high : o < p + d
    pub here : row_here n o ≡ whole v
    pub before : (q : ℕ) → p ≤ q → q < o → row_here n q ≡ broken

  -- the scan of suc d offsets from p on, once the row at p is known
  abbrev scan_from : ℕ → ℕ → ℕ → Row → Ask Found
  scan_from n p d = when_whole (λ (w : ℕ). done (found p w)) (λ (u : Unit {0}). scan candidate n (suc p) d)

  -- no row at p, and none after it: none from p on
  broken_from : (n p q : ℕ) → row_here n p ≡ broken → (suc p ≤ q → row_here n q ≡ broken) → p ≤ q → row_here n q ≡ broken
  broken_from n p q here after l = by_place (eqb p q) refl
    where
      by_place : (t : Bool) → eqb p q ≡ t → row_here n q ≡ broken
      by_place true t = rw (← eqb-true p q t) here
      by_place false t = let e = eqb-false p q t in after (omega arith)

  pub scan-found : (n d p o v : ℕ) → scan_here n p d ≡ found o v → Least n p d o v
  unfolding scan over when_whole
  scan-found n zero p o v h = cc
  scan-found n (suc d) p o v h = by_row (row_here n p) refl (rw (over_bind s _ (row candidate n p)) at h) (scan-found n d (suc p) o v)
    where
      by_row : (r : Row) → row_here n p ≡ r → over s (scan_from n p d r) ≡ found o v
          → (scan_here n (suc p) d ≡ found o v → Least n (suc p) d o v) → Least n p (suc d) o v
      by_row (whole w) q h ih =
          let e : p ≡ o = cc in
          let i : row_here n o ≡ whole v = cc in
          record { low = omega arith; high = omega arith; here = i; before = λ u a b. absurd (omega arith) }
      by_row broken q h ih =
          let l = ih h in
          record {
            low = let a = l.low in omega arith;
            high = let a = l.high in omega arith;
            here = l.here;
            before = λ u a b. broken_from n p u q (λ i. l.before u i b) a;
          }

  pub scan-nowhere : (n d p : ℕ) → scan_here n p d ≡ nowhere → (q : ℕ) → p ≤ q → q < p + d → row_here n q ≡ broken
  unfolding scan over when_whole
  scan-nowhere n zero p h q a b = absurd (omega arith)
  scan-nowhere n (suc d) p h q a b = by_row (row_here n p) refl (rw (over_bind s _ (row candidate n p)) at h) (scan-nowhere n d (suc p))
    where
      by_row : (r : Row) → row_here n p ≡ r → over s (scan_from n p d r) ≡ nowhere
          → (scan_here n (suc p) d ≡ nowhere → (u : ℕ) → suc p ≤ u → u < suc p + d → row_here n u ≡ broken)
          → row_here n q ≡ broken
      by_row (whole w) e h ih = cc
      by_row broken e h ih = broken_from n p q e (λ i. ih h q i (omega arith)) a
