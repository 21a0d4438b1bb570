-- What a cursor hands out: from the first cursor on, each step hands out the next entry, the same as by its number, until the
-- read count; then the end.
use Prim.Native.Nat.{ℕ, zero, suc, ◌-◌, ◌<◌, ◌≤◌}
use mathlib.Core.Path.{◌≡◌, refl, sym, ap}
use mathlib.Core.Bool.{Bool, true, false}
use mathlib.Core.List.{List}
use native.Mathlib.Nat.{sub-zero}
use native.Mathlib.Omega.{arith}
use lib.ListN.{length}
use lib.Dec.{ltb}
use borrow.Author.Tests.{ne_eqb, le-ltb, ltb-true, ltb-false}
use Rattle.rib_head.specs.Layout.{path_size}
use Rattle.rib_head.specs.Head.{declared, entries_at, check_rib}
use Rattle.rib_entries.specs.Entry.{Placed, Stepped, no_step, fits, entry_end, passed, read_count, entry_here, entry_of, first_of, step_at}
use Rattle.rib_entries.specs.Entry.{next_of}
use Rattle.rib_entries.specs.declared.Cursor.{Cursor}
use Rattle.rib_head.proofs.Heads.{met-carried, met-within}
use Rattle.rib_entries.proofs.Passing.{by_fit, left_le, passed-within, stops_at}
use Rattle.rib_entries.proofs.Steps.{placed-met, next-none, next_short}
use Rattle.rib_entries.proofs.Steps.{count-le, entry-met}

-- the cursor after i steps
pub cursor_after : List ℕ → ℕ → ℕ → Cursor
cursor_after s t zero = record { at = (first_of s t).at; left = (first_of s t).left }
cursor_after s t (suc i) = record { at = (next_of s t (cursor_after s t i)).at; left = (next_of s t (cursor_after s t i)).left }

-- each step up to the read count hands out the entry of its number, and the step after them is the end
pub record HandsOut (s : List ℕ) (t : ℕ) : Type 0 where
  pub each : (i : ℕ) → i < read_count s t
      → next_of s t (cursor_after s t i) ≡
      record {
        number = 0;
        handed = true;
        entry = entry_of s t i;
        at = (cursor_after s t (suc i)).at;
        left = (cursor_after s t (suc i)).left;
      }
  pub end : next_of s t (cursor_after s t (read_count s t)) ≡ no_step 0

-- below the read count the entry after the first i fits, and with it one more is passed
pub fits_below : (p : ℕ) (s : List ℕ) (at n i : ℕ) → i < n - (passed p s at n).left
    → (fits p s (passed p s at i).at ≡ true) × ((passed p s at (suc i)).at ≡ entry_end p s (passed p s at i).at)
unfolding passed
fits_below p s at zero i h = absurd (omega arith)
fits_below p s at (suc n) zero h =
    by_fit p s at ((fits p s at ≡ true) × ((passed p s at 1).at ≡ entry_end p s at))
    (λ f. (f, rw f))
    (λ f. absurd (let k = rw f at h in omega arith))
fits_below p s at (suc n) (suc i) h =
    by_fit p s at
    ((fits p s (passed p s at (suc i)).at ≡ true) × ((passed p s at (suc (suc i))).at ≡ entry_end p s (passed p s at (suc i)).at))
    (λ f. let k = rw f at h in let m = left_le p s (entry_end p s at) n in rw f (fits_below p s (entry_end p s at) n i (omega arith)))
    (λ f. absurd (let k = rw f at h in omega arith))

module _ (s : List ℕ) (t : ℕ) (met : check_rib s t ≡ 0) where
  -- where the first i entries end
  place : ℕ → ℕ
  place i = (passed (path_size t) s (entries_at s) i).at

  place_within : (i : ℕ) → place i ≤ length s
  unfolding place
  place_within i = passed-within (path_size t) s (entries_at s) i (met-within s t met)

  -- what a step answers below the read count
  step_below : (i : ℕ) → i < read_count s t → (c : Cursor) → c ≡ record { at = place i; left = declared s - i }
      → next_of s t c ≡ record { number = 0; handed = true; entry = entry_of s t i; at = place (suc i); left = declared s - suc i }
  unfolding next_of step_at entry_here place read_count
  step_below i h c e =
      let p : ℕ = path_size t in
      let l : i < declared s = omega (arith, count-le s t) in
      let z : declared s - i ≡ 0 → ⊥ = λ q. omega arith in
      let m : declared s - i - 1 ≡ declared s - suc i = omega arith in
      rw (
        e,
        le-ltb (length s) (place i) (place_within i),
        met-carried s t met,
        ne_eqb (declared s - i) 0 z,
        ← entry-met s t met i l,
        (fits_below p s (entries_at s) (declared s) i h).0,
        m,
        (fits_below p s (entries_at s) (declared s) i h).1,
      )

  -- where the cursor is after i steps
  cursor_after_lem : (i : ℕ) → i ≤ read_count s t → cursor_after s t i ≡ record { at = place i; left = declared s - i }
  unfolding cursor_after place passed first_of
  cursor_after_lem zero h =
      rw (sub-zero (declared s))
      (ap (λ (x : Placed). record { at = x.at; left = x.left }) (sym (placed-met s t met (
      record {
        at = entries_at s;
        left = declared s;
      }))))
  cursor_after_lem (suc i) h =
      let e = step_below i (omega arith) (cursor_after s t i) (cursor_after_lem i (omega arith)) in
      ap (λ (x : Stepped). record { at = x.at; left = x.left }) e

  -- what a step answers at the read count
  step-last : next_of s t (record { at = place (read_count s t); left = declared s - read_count s t }) ≡ no_step 0
  unfolding place read_count
  step-last = by_test (ltb (read_count s t) (declared s)) refl
    where
      by_test : (b : Bool) → ltb (read_count s t) (declared s) ≡ b
          → next_of s t (record { at = place (read_count s t); left = declared s - read_count s t }) ≡ no_step 0
      by_test true e =
          let l = ltb-true (read_count s t) (declared s) e in
          let c : Cursor = record { at = place (read_count s t); left = declared s - read_count s t } in
          let f = stops_at (path_size t) s (entries_at s) (declared s) (read_count s t) l (omega arith) in
          sym (next_short s t c (place_within (read_count s t)) (met-carried s t met) (λ q. omega arith) f)
      by_test false e =
          let l = ltb-false (read_count s t) (declared s) e in
          let c : Cursor = record { at = place (read_count s t); left = declared s - read_count s t } in
          sym (next-none s t c (place_within (read_count s t)) (met-carried s t met) (omega arith))

  pub hands_out : HandsOut s t
  hands_out = record { each = each; end = rw (cursor_after_lem (read_count s t) (omega arith)) step-last }
    where
      each : (i : ℕ) → i < read_count s t
          → next_of s t (cursor_after s t i) ≡
          record {
            number = 0;
            handed = true;
            entry = entry_of s t i;
            at = (cursor_after s t (suc i)).at;
            left = (cursor_after s t (suc i)).left;
          }
      each i h = rw (cursor_after_lem (suc i) h) (step_below i h (cursor_after s t i) (cursor_after_lem i (omega arith)))
