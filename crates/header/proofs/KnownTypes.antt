-- Which types are known, range by range, which have no microseconds, and the size of a header.
use Prim.Native.Nat.{ℕ, ◌%◌, ◌<◌, ◌≤◌}
use mathlib.Core.Path.{◌≡◌, refl, sym, ap}
use mathlib.Core.Bool.{Bool, true, false, ◌&&◌, cond}
use native.Mathlib.Omega.{arith}
use lib.Dec.{leb, ltb}
use borrow.Author.Tests.{le-leb, lt-leb, leb-true, leb-false, ltb-true, ltb-false, ne_eqb}
use Rattle.header.specs.Kind.{known, timed, size}

module _ (k lo hi : ℕ) where
  within : lo ≤ k → k ≤ hi → (leb lo k && leb k hi) ≡ true
  within a b = simp (le-leb lo k a, le-leb k hi b)

  under : k < lo → (leb lo k && leb k hi) ≡ false
  under a = simp (lt-leb lo k a)

  above : lo ≤ k → hi < k → (leb lo k && leb k hi) ≡ false
  above a b = simp (le-leb lo k a, lt-leb k hi b)

module _ (k : ℕ) where
  pub up_to_13 : k ≤ 13 → true ≡ known k
  unfolding known
  up_to_13 h = simp (le-leb k 13 h)

  after_13 : 13 < k → k < 16 → false ≡ known k
  unfolding known
  after_13 a b = simp (lt-leb k 13 a, under k 16 17 b, under k 32 33 (omega arith), under k 48 49 (omega arith))

  up_to_17 : 16 ≤ k → k ≤ 17 → true ≡ known k
  unfolding known
  up_to_17 a b = simp (lt-leb k 13 (omega arith), within k 16 17 a b)

  after_17 : 17 < k → k < 32 → false ≡ known k
  unfolding known
  after_17 a b = simp (lt-leb k 13 (omega arith), above k 16 17 (omega arith) a, under k 32 33 b, under k 48 49 (omega arith))

  up_to_33 : 32 ≤ k → k ≤ 33 → true ≡ known k
  unfolding known
  up_to_33 a b = simp (lt-leb k 13 (omega arith), above k 16 17 (omega arith) (omega arith), within k 32 33 a b)

  after_33 : 33 < k → k < 48 → false ≡ known k
  unfolding known
  after_33 a b = simp (lt-leb k 13 (omega arith), above k 16 17 (omega arith) (omega arith), above k 32 33 (omega arith) a, under k 48 49 b)

  up_to_49 : 48 ≤ k → k ≤ 49 → true ≡ known k
  unfolding known
  up_to_49 a b =
      simp (lt-leb k 13 (omega arith), above k 16 17 (omega arith) (omega arith), above k 32 33 (omega arith) (omega arith))
      (simp (within k 48 49 a b))

  pub after_49 : 49 < k → false ≡ known k
  unfolding known
  after_49 a =
      simp (lt-leb k 13 (omega arith), above k 16 17 (omega arith) (omega arith), above k 32 33 (omega arith) (omega arith))
      (simp (above k 48 49 (omega arith) a))

  -- the first two of each sixteen
  pub from_14 : 14 ≤ k → k ≤ 49 → ltb (k % 16) 2 ≡ known k
  from_14 a b = by_test (ltb (k % 16) 2) refl
    where
      first : k % 16 < 2 → (s t : Bool) → leb k 17 ≡ s → leb k 33 ≡ t → true ≡ known k
      first m true t x y = let l : k ≤ 17 = leb-true _ _ x in up_to_17 (omega arith) l
      first m false true x y = let l : 17 < k = leb-false _ _ x in let h : k ≤ 33 = leb-true _ _ y in up_to_33 (omega arith) h
      first m false false x y = let l : 33 < k = leb-false _ _ y in up_to_49 (omega arith) b

      later : 2 ≤ k % 16 → (s t : Bool) → leb k 15 ≡ s → leb k 31 ≡ t → false ≡ known k
      later m true t x y = let l : k ≤ 15 = leb-true _ _ x in after_13 (omega arith) (omega arith)
      later m false true x y = let l : 15 < k = leb-false _ _ x in let h : k ≤ 31 = leb-true _ _ y in after_17 (omega arith) (omega arith)
      later m false false x y = let l : 31 < k = leb-false _ _ y in after_33 (omega arith) (omega arith)

      by_test : (t : Bool) → ltb (k % 16) 2 ≡ t → t ≡ known k
      by_test true e = first (ltb-true _ _ e) (leb k 17) (leb k 33) refl refl
      by_test false e = later (ltb-false _ _ e) (leb k 15) (leb k 31) refl refl

  pub timed-rest : (k ≡ 17 → ⊥) → (k ≡ 33 → ⊥) → (k ≡ 49 → ⊥) → false ≡ timed k
  unfolding timed
  timed-rest a b c = simp (ne_eqb _ _ a, ne_eqb _ _ b, ne_eqb _ _ c)

  -- the size, by whether the type has microseconds
  pub size_by : (t : Bool) → t ≡ timed k → size k ≡ cond t 16 12
  unfolding size
  size_by t e = ap (λ (b : Bool). cond b 16 12) (sym e)

  pub size-timed : timed k ≡ true → size k ≡ 16
  size-timed e = size_by true (sym e)

  pub size_plain : timed k ≡ false → size k ≡ 12
  size_plain e = size_by false (sym e)

  size_either : (12 ≤ size k) × (size k ≤ 16)
  size_either = by_test (timed k) refl
    where
      by_test : (t : Bool) → timed k ≡ t → (12 ≤ size k) × (size k ≤ 16)
      by_test true e = let z = size-timed e in (omega arith, omega arith)
      by_test false e = let z = size_plain e in (omega arith, omega arith)

  pub size-least : 12 ≤ size k
  size-least = size_either.0

  pub size_most : size k ≤ 16
  size_most = size_either.1
