-- Rows handed out by a loop: what is left to hand out, and what each turn makes of it.
use Prim.Native.Nat.{ℕ, zero, suc, ◌+◌, ◌-◌, ◌*◌, ◌/◌, ◌<◌}
use mathlib.Core.Path.{◌≡◌, refl}
use mathlib.Core.List.{List, ◌++◌}
use native.Mathlib.Nat.{div-zero, add-zero}
use native.Mathlib.Omega.{arith}
use lib.ListN.{length}
use Rattle.std.specs.Prelude.{Some, None}
use Rattle.octets.specs.Octets.{patch}
use Rattle.octets.proofs.Stores.{stores}
use Rattle.mrt_lent.specs.Rows.{Turn, Rows, rows_on, rows_from, rows_out}

-- rows of w values each
module _ {S : Type 0} (turn : S → Turn S) (w : ℕ) where
  -- out with rows from at on, where i rows stand before them
  abbrev handed_from : List ℕ → ℕ → ℕ → Rows S → List ℕ × (ℕ × S)
  handed_from out at i r = (patch out at r.values, (i + r.count, r.after))

  -- rows with one before them
  row_before : (out : List ℕ) (at i : ℕ) (vs : List ℕ) (r : Rows S) {t : List ℕ} → length vs ≡ w → t ≡ patch out at vs
      → handed_from t (at + w) (i + 1) r ≡ (patch out at (vs ++ r.values), (i + suc r.count, r.after))
  row_before out at i vs r l stored =
      let c : i + 1 + r.count ≡ i + suc r.count = omega arith in
      rw (← stores out at w vs r.values l stored refl, c)

  -- what out comes to with room for m rows, where i of them stand and the next is looked for at a
  abbrev pub comes_to : ℕ → List ℕ → ℕ → S → List ℕ × (ℕ × S)
  comes_to m out i a = handed_from out (i * w) i (rows_from turn (m - i) a)

  -- rows of no value
  pub rows_empty : (n : ℕ) (out : List ℕ) (a : S) → w ≡ 0 → (out, (0, a)) ≡ rows_out out (rows_from turn (n / w) a)
  unfolding rows_from patch
  rows_empty n out a e = rw (e, div-zero) refl

  module _ (m i : ℕ) (out : List ℕ) (a : S) where
    -- one row is handed out
    pub rows_turn : i < m → {t vs : List ℕ} {b : S} → turn a ≡ Some (vs, b) → length vs ≡ w → t ≡ patch out (i * w) vs
        → comes_to m t (i + 1) b ≡ comes_to m out i a
    unfolding rows_from rows_on
    rows_turn h {vs = vs} {b} q l stored =
        let k : m - i ≡ suc (m - (i + 1)) = omega arith in
        let at : (i + 1) * w ≡ i * w + w = omega arith in
        rw (k, q, at) (row_before out (i * w) i vs (rows_from turn (m - (i + 1)) b) l stored)

    -- there is no row
    pub rows_none : turn a ≡ None → comes_to m out i a ≡ (out, (i, a))
    unfolding rows_from rows_on patch
    rows_none q = by_count (m - i)
      where
        by_count : (k : ℕ) → handed_from out (i * w) i (rows_from turn k a) ≡ (out, (i, a))
        by_count zero = rw add-zero
        by_count (suc k) = rw (q, add-zero)

    -- there is no room
    pub rows_full : i ≡ m → comes_to m out i a ≡ (out, (m, a))
    unfolding rows_from patch
    rows_full e = let k : m - i ≡ 0 = omega arith in rw (k, add-zero, e)
