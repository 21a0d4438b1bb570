-- Octets that are taken one by one, and the octets of a number.
use Prim.Native.Nat.{ℕ, zero, suc, ◌+◌, ◌/◌, ◌%◌, ◌<◌}
use mathlib.Core.Path.{◌≡◌, refl, ◌∙◌, subst}
use mathlib.Core.List.{List, [], ◌∷◌}
use native.Mathlib.Nat.{add-zero, zero-add}
use native.Mathlib.Omega.{arith}
use lib.ListN.{get_or}
use denote.Param.Members.{Mut}
use Rattle.std.specs.Array.{IsFromFnResult, IsFromFnResultFrom}
use Rattle.std.specs.Iterator.{ActsAs}
use Rattle.octets.specs.Octets.{be_at, bytes_of}

-- what a function makes of the numbers from i on
module _ {F : Type 0} (g : Mut F (ℕ × Unit {0}) ℕ) (f : F) (h : ℕ → ℕ) (acts : ActsAs g f h) where
  made_each : (ys : List ℕ) (i n k : ℕ) → IsFromFnResultFrom g f ys i n → k < n → get_or ys (i + k) 0 ≡ h (i + k)
  made_each ys i zero k m l = absurd (omega arith)
  made_each ys i (suc n) zero (q, y, e, w, m) l = rw add-zero (e.1 0 ∙ (acts i y q w).1)
  made_each ys i (suc n) (suc k) (q, y, e, w, m) l =
      let next : i + suc k ≡ i + 1 + k = omega arith in
      let rest = subst (λ p. IsFromFnResultFrom g p ys (i + 1) n) (acts i y q w).0 m in
      rw next (made_each ys (i + 1) n k rest (omega arith))

  pub made_all : {ys : List ℕ} {n : ℕ} (k : ℕ) → IsFromFnResult g f ys n → k < n → get_or ys k 0 ≡ h k
  made_all {ys} {n} k m l = rw zero-add at (made_each ys 0 n k m.each l)

-- the number of n octets that were taken from at on
pub be_taken : (s w : List ℕ) (at n : ℕ) → ((i : ℕ) → i < n → get_or w i 0 ≡ get_or s (at + i) 0) → be_at w 0 n ≡ be_at s at n
unfolding be_at
be_taken s w at zero h = refl
be_taken s w at (suc n) h = rw (be_taken s w at n (λ i l. h i (omega arith)), zero-add, h n (omega arith))

-- the octets of a number of four
pub bytes_four : (v : ℕ) → v / 16777216 % 256 ∷ v / 65536 % 256 ∷ v / 256 % 256 ∷ v % 256 ∷ [] ≡ bytes_of 4 v
unfolding bytes_of
bytes_four v =
    let a : v / 65536 ≡ v / 256 / 256 = omega arith in
    let b : v / 16777216 ≡ v / 256 / 256 / 256 = omega arith in
    rw (b, a)
