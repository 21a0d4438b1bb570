-- Entries that fit and entries that do not, and what is passed of them.
use Prim.Native.Nat.{ℕ, zero, suc, ◌-◌, ◌<◌, ◌≤◌}
use mathlib.Core.Path.{◌≡◌, refl}
use mathlib.Core.Bool.{Bool, true, false}
use mathlib.Core.List.{List}
use native.Mathlib.Omega.{arith}
use lib.ListN.{length}
use borrow.Author.Tests.{leb-true}
use Rattle.std.proofs.Common.{Some, None}
use Rattle.std.proofs.lemmas.Bool.Decides.{nat_tests}
use Rattle.rib_entries.specs.declared.Cursor.{Cursor}
use Rattle.rib_entries.specs.declared.Next.{Next}
use Rattle.rib_entries.specs.Entry.{entry_end, fits, passed, step_at}

module _ (p : ℕ) (s : List ℕ) (at : ℕ) where
  -- one entry is passed, or none
  pub passed_on : (n : ℕ) → 0 < n → fits p s at ≡ true → passed p s at n ≡ passed p s (entry_end p s at) (n - 1)
  unfolding passed
  passed_on (suc n) h f = let e : suc n - 1 ≡ n = omega arith in rw (f, e)
  passed_on zero h f = absurd (omega arith)

  pub passed_stop : (n : ℕ) → 0 < n → fits p s at ≡ false → record { at = at; left = n } ≡ passed p s at n
  unfolding passed
  passed_stop (suc n) h f = rw f
  passed_stop zero h f = absurd (omega arith)

-- nothing is asked for
pub passed_none : (p : ℕ) (s : List ℕ) (at n : ℕ) → n ≤ 0 → record { at = at; left = n } ≡ passed p s at n
unfolding passed
passed_none p s at zero h = refl
passed_none p s at (suc n) h = absurd (let z : 1 ≤ 0 = omega arith in omega arith)

-- a step is taken, or none
module _ (p : ℕ) (s : List ℕ) (c : Cursor) where
  pub step_less : {n : Next} → Some n ≡ step_at p s c → n.cursor.left < c.left
  unfolding step_at
  step_less e = grind (arith, nat_tests)

  pub passed_step : {n : Next} → Some n ≡ step_at p s c → passed p s c.at c.left ≡ passed p s n.cursor.at n.cursor.left
  unfolding step_at
  passed_step e = grind (arith, nat_tests, passed_on)

  pub passed_still : None ≡ step_at p s c → c ≡ passed p s c.at c.left
  unfolding step_at
  passed_still e = grind (arith, nat_tests, passed_stop, passed_none)

-- by the test whether the entry at an offset fits
pub by_fit : (p : ℕ) (s : List ℕ) (at : ℕ) (P : Type 0) → (fits p s at ≡ true → P) → (fits p s at ≡ false → P) → P
by_fit p s at P f g = by_test (fits p s at) refl
  where
    by_test : (t : Bool) → fits p s at ≡ t → P
    by_test true e = f e
    by_test false e = g e

-- no more are left than were asked for
pub left_le : (p : ℕ) (s : List ℕ) (at n : ℕ) → (passed p s at n).left ≤ n
unfolding passed
left_le p s at zero = omega arith
left_le p s at (suc n) =
    by_fit p s at ((passed p s at (suc n)).left ≤ suc n)
    (λ f. rw f (let h = left_le p s (entry_end p s at) n in omega arith))
    (λ f. rw f (omega arith))

-- reading stops within the body
pub passed-within : (p : ℕ) (s : List ℕ) (at n : ℕ) → at ≤ length s → (passed p s at n).at ≤ length s
unfolding passed fits
passed-within p s at zero h = h
passed-within p s at (suc n) h =
    by_fit p s at ((passed p s at (suc n)).at ≤ length s)
    (λ f. rw f (passed-within p s (entry_end p s at) n (leb-true _ _ f)))
    (λ f. rw f h)

-- where fewer than i + 1 are there, the entry at which the first i end does not fit
pub stops_at : (p : ℕ) (s : List ℕ) (at n i : ℕ) → i < n → n - (passed p s at n).left ≤ i → fits p s (passed p s at i).at ≡ false
unfolding passed
stops_at p s at zero i l h = absurd (omega arith)
stops_at p s at (suc n) zero l h =
    by_fit p s at (fits p s at ≡ false)
    (λ f. let k = rw f at h in let m = left_le p s (entry_end p s at) n in absurd (omega arith))
    (λ f. f)
stops_at p s at (suc n) (suc i) l h =
    by_fit p s at (fits p s (passed p s at (suc i)).at ≡ false)
    (λ f.
    let k = rw f at h in
    let m = left_le p s (entry_end p s at) n in
    rw f (stops_at p s (entry_end p s at) n i (omega arith) (omega arith)))
    (λ f. rw f f)
