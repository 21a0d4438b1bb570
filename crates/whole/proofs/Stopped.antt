-- Rows stop where a push refuses: where `mrt_push_entries` took fewer rows than it was given, `mrt_push_entry` refuses the next one, with
-- what the call has left.
use Prim.Native.Nat.{ℕ, ◌*◌, ◌/◌, ◌%◌, ◌<◌, ◌≤◌}
use mathlib.Core.Path.{◌≡◌, refl, ap}
use mathlib.Core.Bool.{Bool, true, false, ◌&&◌, cond}
use mathlib.Core.List.{List, [], ◌∷◌}
use native.Mathlib.Nat.{zero-add}
use native.Mathlib.Omega.{arith}
use lib.ListN.{length, take, get_or}
use lib.Dec.{ltb, leb, eqb}
use borrow.Author.Tests.{eqb-true, eqb-false, leb-true}
use Rattle.octets.specs.Octets.{patch}
use Rattle.octets.proofs.Stores.{patch_front}
use Rattle.rib_write.specs.Push.{standing, push_entry}
use Rattle.rib_write.specs.Rows.{entry_in, attributes_in, askable, push_row, Rowing, push_rows, unrowed, rowed, push_entries}
use Rattle.rib_write.proofs.ByRows.{rows_stop}
use Rattle.mrt_lent.specs.Export.{exported}
use Rattle.mrt_lent.specs.Rows.{rows_handed, none_handed}
use Rattle.mrt_lent.specs.declared.Handed.{Handed}
use Rattle.mrt_rib_build.specs.Build.{holds_builder, builder_in, pushed_out, push_out}
use Rattle.mrt_rib_rows.specs.Rows.{rows_left, rows_out}

-- a push that is not refused was accepted
exported-zero : (out : List ℕ) (n : ℕ) (vs : List ℕ) → (exported out n vs).1 ≡ 0 → n ≡ 0
unfolding exported
exported-zero out n vs z = by_test (eqb n 0) refl z
  where
    by_test : (b : Bool) → eqb n 0 ≡ b
        → (cond {A = List ℕ × ℕ} b (cond (leb (length vs) (length out)) (patch out 0 vs, 0) (out, 9)) (out, n)).1 ≡ 0 → n ≡ 0
    by_test true e z = eqb-true n 0 e
    by_test false e z = z

push_accepted : (s : List ℕ) (t : ℕ) (ws rs : List ℕ) (at : ℕ) (buffer : List ℕ)
    → (push_out s t ws (entry_in rs at) (attributes_in rs at buffer)).1.1 ≡ 0
    → (push_entry s t (builder_in ws) (entry_in rs at) (attributes_in rs at buffer)).number ≡ 0
unfolding push_out
push_accepted s t ws rs at buffer z = by_test (holds_builder ws) z
  where
    by_test : (b : Bool)
        → (cond b (pushed_out ws (push_entry s t (builder_in ws) (entry_in rs at) (attributes_in rs at buffer))) (s, (ws, 8))).1.1 ≡ 0
        → (push_entry s t (builder_in ws) (entry_in rs at) (attributes_in rs at buffer)).number ≡ 0
    by_test true z = exported-zero ws _ _ z
    by_test false z = absurd (omega arith)

-- of the exported calls
module _ (s : List ℕ) (t : ℕ) (ws rs buffer : List ℕ) where
  abbrev come : Rowing
  come = push_rows (length rs / 5) s t (builder_in ws) rs 0 buffer

  abbrev places : List ℕ
  places = come.builder.len ∷ come.builder.at ∷ come.builder.count ∷ []

  -- a call that is not refused is the fold
  rows_come : (rows_left ws (push_entries s t (builder_in ws) rs buffer)).1.1.refusal ≡ 0
      → push_entries s t (builder_in ws) rs buffer ≡ rowed come
  unfolding push_entries
  rows_come z = by_tests (eqb (length rs % 5) 0) (ltb (length s) (get_or ws 0 0)) (eqb stands 0) refl z
    where
      stands : ℕ
      stands = standing (take (get_or ws 0 0) s) t (builder_in ws)

      by_tests : (a b c : Bool) → eqb stands 0 ≡ c
          → (rows_left ws (cond a (cond b (unrowed 8 s) (cond c (rowed come) (unrowed stands s))) (unrowed 8 s))).1.1.refusal ≡ 0
          → cond a (cond b (unrowed 8 s) (cond c (rowed come) (unrowed stands s))) (unrowed 8 s) ≡ rowed come
      by_tests false b c e z = absurd (omega arith)
      by_tests true true c e z = absurd (omega arith)
      by_tests true false true e z = refl
      by_tests true false false e z = absurd (eqb-false stands 0 e (rw e at z))

  abbrev left : List ℕ × (List ℕ × Handed)
  left = rows_left ws (push_entries s t (builder_in ws) rs buffer)

  rows_left_lem : (rows_out s t ws rs buffer).1.1.refusal ≡ 0
      → (3 ≤ length ws) × (rows_out s t ws rs buffer ≡ (come.output, (patch ws 0 places, rows_handed come.rows)))
  unfolding rows_out holds_builder
  rows_left_lem z = by_tests (leb 3 (length ws)) (leb (get_or ws 2 0) 65535) refl z
    where
      by_tests : (a b : Bool) → leb 3 (length ws) ≡ a → (cond (a && b) left (s, (ws, none_handed 8))).1.1.refusal ≡ 0
          → (3 ≤ length ws)
          × (cond (a && b) left (s, (ws, none_handed 8)) ≡ (come.output, (patch ws 0 places, rows_handed come.rows)))
      by_tests true true e z = (leb-true 3 (length ws) e, ap (rows_left ws) (rows_come z))
      by_tests true false e z = absurd (omega arith)
      by_tests false b e z = absurd (omega arith)

  -- the row after those that went in, pushed where their builder stands
  next-refused : 3 ≤ length ws → come.rows < length rs / 5 → askable rs (5 * come.rows) (length buffer) ≡ true
      → (push_out come.output t (patch ws 0 places) (entry_in rs (5 * come.rows)) (attributes_in rs (5 * come.rows) buffer)).1.1 ≡ 0
      → ⊥
  unfolding push_row
  next-refused three h a z =
      let p = push_accepted come.output t (patch ws 0 places) rs (5 * come.rows) buffer z in
      let q = rw (patch_front ws places three) at p in
      rows_stop (length rs / 5) s t (builder_in ws) rs 0 buffer h (rw (zero-add (5 * come.rows), a) q)

  pub rows-stopped : (rows_out s t ws rs buffer).1.1.refusal ≡ 0 → (rows_out s t ws rs buffer).1.1.count < length rs / 5
      → askable rs (5 * (rows_out s t ws rs buffer).1.1.count) (length buffer) ≡ true
      → (push_out (rows_out s t ws rs buffer).0 t (rows_out s t ws rs buffer).1.0
      (entry_in rs (5 * (rows_out s t ws rs buffer).1.1.count))
      (attributes_in rs (5 * (rows_out s t ws rs buffer).1.1.count) buffer)).1.1 ≡ 0
      → ⊥
  rows-stopped z = by_left (rows_left_lem z).1
    where
      by_left : {x : List ℕ × (List ℕ × Handed)} → x ≡ (come.output, (patch ws 0 places, rows_handed come.rows))
          → x.1.1.count < length rs / 5 → askable rs (5 * x.1.1.count) (length buffer) ≡ true
          → (push_out x.0 t x.1.0 (entry_in rs (5 * x.1.1.count)) (attributes_in rs (5 * x.1.1.count) buffer)).1.1 ≡ 0
          → ⊥
      by_left e h a q = next-refused (rows_left_lem z).0 (rw e at h) (rw e at a) (rw e at q)
