-- Octets that are all 255, by the number that they make.
use Prim.Native.Nat.{ℕ, zero, suc, ◌+◌, ◌-◌, ◌*◌, ◌^◌, ◌<◌}
use mathlib.Core.Path.{◌≡◌, refl, sym, ◌∙◌, ap}
use mathlib.Core.Bool.{◌&&◌, and_assoc, and-true}
use mathlib.Core.List.{List}
use native.Mathlib.Nat.{add-zero, add-suc, add_assoc, pow-suc}
use native.Mathlib.Omega.{arith}
use lib.Dec.{eqb}
use lib.ListN.{get_or}
use Rattle.octets.specs.Octets.{be_at, ones, Octets}
use Rattle.octets.proofs.Numbers.{be_lt, digit}

-- n octets and the m after them
pub ones_join : (s : List ℕ) (at n m : ℕ) → (ones s at n && ones s (at + n) m) ≡ ones s at (n + m)
unfolding ones
ones_join s at n zero = rw add-zero (and-true (ones s at n))
ones_join s at n (suc m) = rw (add-suc, ← ones_join s at n m, ← add_assoc at n m) (sym (and_assoc (ones s at n) (ones s (at + n) m) _))

-- they are all 255 where their number is the largest
pub ones_be : (s : List ℕ) (at n : ℕ) → Octets s → ones s at n ≡ eqb (be_at s at n) (256 ^ n - 1)
unfolding ones be_at
ones_be s at zero o = refl
ones_be s at (suc n) o =
    let x : ℕ = be_at s at n in
    let y : ℕ = get_or s (at + n) 0 in
    let m : ℕ = 256 ^ n in
    let l : x < m = be_lt s at n o in
    let e : (m - 1) * 256 + 255 ≡ m * 256 - 1 = omega arith in
    rw (ones_be s at n o, pow-suc) (digit x y (m - 1) 255 (o (at + n)) (omega arith) _ _ refl refl ∙ ap (eqb (x * 256 + y)) e)
