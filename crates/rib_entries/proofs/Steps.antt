-- What a cursor's step answers where no entry is handed out, what the head's check lets through, and the entry i.
use Prim.Native.Nat.{ℕ, ◌<◌, ◌≤◌}
use mathlib.Core.Path.{◌≡◌, refl}
use mathlib.Core.Bool.{Bool, true, false, cond}
use native.Mathlib.Omega.{arith}
use mathlib.Core.List.{List}
use lib.Dec.{ltb}
use lib.ListN.{length}
use borrow.Author.Tests.{eq-eqb, ltb-false}
use Rattle.std.specs.Prelude.{Ok, Err}
use Rattle.std.proofs.lemmas.Bool.Decides.{nat_tests}
use Rattle.answer.specs.Refusal.{number_of}
use Rattle.answer.specs.declared.Refusal.{Refusal}
use Rattle.answer.proofs.Refusals.{number-not-zero}
use Rattle.rib_head.specs.Layout.{carried, path_size}
use Rattle.rib_head.specs.Head.{declared, entries_at, check_rib}
use Rattle.rib_entries.specs.declared.Cursor.{Cursor}
use Rattle.rib_entries.specs.Entry.{no_step, fits, entry_here, passed, placed, first_of, step_at, next_of, cursor_values}
use Rattle.rib_entries.specs.Entry.{no_entry, read_count, entry_of}
use Rattle.rib_entries.proofs.Passing.{stops_at}

-- no entry is left, or the next one does not fit
module _ (s : List ℕ) (t : ℕ) (c : Cursor) (h : c.at ≤ length s) (f : carried t ≡ true) where
  pub next-none : c.left ≡ 0 → no_step 0 ≡ next_of s t c
  unfolding next_of step_at
  next-none z = grind (arith, nat_tests)

  pub next_short : (c.left ≡ 0 → ⊥) → fits (path_size t) s c.at ≡ false → no_step 0 ≡ next_of s t c
  unfolding next_of step_at
  next_short z g = grind (arith, nat_tests)

-- what a head's check lets through
module _ (s : List ℕ) (t : ℕ) where
  pub placed-met : check_rib s t ≡ 0 → (c : Cursor) → record { number = 0; at = c.at; left = c.left } ≡ placed s t c
  unfolding placed
  placed-met h c = grind (arith, nat_tests)

  -- a head that is refused
  pub first-refused : (r : Refusal) → cursor_values (Err r) ≡ first_of s t → number_of r ≡ check_rib s t
  unfolding first_of placed
  first-refused r said = grind (arith, nat_tests, number-not-zero r)

  -- the cursor d at the first entry
  module _ {d : Cursor} (said : cursor_values (Ok d) ≡ first_of s t) where
    pub first-check : check_rib s t ≡ 0
    unfolding first_of placed
    first-check = grind (arith, nat_tests)

    pub at_first : d.at ≡ entries_at s
    unfolding first_of placed
    at_first = grind (arith, nat_tests)

    pub left-first : d.left ≡ declared s
    unfolding first_of placed
    left-first = grind (arith, nat_tests)

-- the entry i
module _ (s : List ℕ) (t : ℕ) where
  -- as many are there as are declared, at most
  pub count-le : read_count s t ≤ declared s
  unfolding read_count
  count-le = omega arith

  -- the entry i, where the head can be read
  pub entry-met : check_rib s t ≡ 0 → (i : ℕ) → i < declared s
      → entry_here (path_size t) s (passed (path_size t) s (entries_at s) i).at ≡ entry_of s t i
  unfolding entry_of read_count entry_here
  entry-met h i l = rw (eq-eqb (check_rib s t) 0 h) (by_test (ltb i (read_count s t)) refl)
    where
      place : ℕ
      place = (passed (path_size t) s (entries_at s) i).at

      by_test : (b : Bool) → ltb i (read_count s t) ≡ b
          → entry_here (path_size t) s place ≡ cond b (entry_here (path_size t) s place) (no_entry 8)
      by_test true e = refl
      by_test false e = rw (stops_at (path_size t) s (entries_at s) (declared s) i l (ltb-false i (read_count s t) e))

  -- a head that is refused
  pub entry_unmet : (i : ℕ) (r : Refusal) → cursor_values (Err r) ≡ first_of s t → no_entry (number_of r) ≡ entry_of s t i
  unfolding entry_of
  entry_unmet i r said = let e = first-refused s t r said in grind (arith, nat_tests, number-not-zero r)

  module _ {d : Cursor} (said : cursor_values (Ok d) ≡ first_of s t) (i : ℕ) where
    -- an entry beyond the declared ones
    pub entry_beyond : d.left ≤ i → no_entry 8 ≡ entry_of s t i
    unfolding entry_of
    entry_beyond h = grind (arith, nat_tests, first-check s t said, left-first s t said, count-le)

    -- the entry after i others
    pub entry-after : i < d.left → {c : Cursor} → c ≡ passed (path_size t) s d.at i → entry_here (path_size t) s c.at ≡ entry_of s t i
    entry-after h q = rw (q, at_first s t said) (entry-met (first-check s t said) i (omega (arith, left-first s t said)))
