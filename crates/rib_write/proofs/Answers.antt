-- What the test of the values shows, and room for a count.
use Prim.Native.Nat.{ℕ, ◌+◌, ◌<◌, ◌≤◌}
use mathlib.Core.Path.{◌≡◌}
use mathlib.Core.Bool.{Bool, false}
use native.Mathlib.Omega.{arith}
use Rattle.std.proofs.lemmas.Bool.Decides.{nat_tests}
use Rattle.rib_head.specs.Layout.{path_size}
use Rattle.rib_write.specs.Push.{unfit}

pub fit_count : (count t path m : ℕ) {u : Bool} → u ≡ unfit count t path m → u ≡ false
    → (count ≡ 65535 → ⊥) × (m ≤ 65535) × (path_size t ≡ 0 → path ≡ 0)
unfolding unfit
fit_count count t path m g f = grind (arith, nat_tests)

-- where there is room for one entry more, the count can be raised
pub count_room : {count : ℕ} → count < 65536 → (count ≡ 65535 → ⊥) → count + 1 < 65536
count_room {count} l n = omega arith
