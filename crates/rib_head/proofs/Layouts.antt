-- The path number's two sizes, and the most prefix bits.
use Prim.Native.Nat.{ℕ, ◌≤◌}
use mathlib.Core.Path.{◌≡◌}
use native.Mathlib.Omega.{arith}
use Rattle.std.proofs.lemmas.Bool.Decides.{nat_tests}
use Rattle.rib_head.specs.Layout.{most_bits, path_size}

-- a path number takes no octets or four
pub path-size : (t : ℕ) {n : ℕ} → n ≡ path_size t → (n ≡ 0 → ⊥) → path_size t ≡ 4
unfolding path_size
path-size t {n} e z = grind (arith, nat_tests)

pub path-size-le : (t : ℕ) → path_size t ≤ 4
unfolding path_size
path-size-le t = grind (arith, nat_tests)

-- no prefix has more bits than an address
pub most_bits-le : (t : ℕ) → most_bits t ≤ 128
unfolding most_bits
most_bits-le t = grind (arith, nat_tests)
