-- The most prefix bits of a layout, and what the check of a head lets through.
use Prim.Native.Nat.{ℕ, ◌≤◌}
use mathlib.Core.Path.{◌≡◌}
use mathlib.Core.Bool.{true}
use mathlib.Core.List.{List}
use native.Mathlib.Omega.{arith}
use lib.ListN.{length}
use Rattle.std.proofs.Common.{Some}
use Rattle.std.proofs.lemmas.Bool.Decides.{nat_tests}
use Rattle.rib_head.specs.Layout.{carried, most_bits, layout_of}
use Rattle.rib_head.specs.declared.Layout.{Layout}
use Rattle.rib_head.specs.Head.{bits_of, entries_at, readable, check_rib}
use Rattle.rib_head.proofs.Layouts.{most_bits-le}

-- the most prefix bits of a layout
pub most_of : (t : ℕ) {l : Layout} → Some l ≡ layout_of t → l.most ≡ most_bits t
most_of t e = grind (arith, nat_tests)

-- a check that is met
module _ (s : List ℕ) (t : ℕ) where
  -- leaves room for the head
  pub met-within : check_rib s t ≡ 0 → entries_at s ≤ length s
  unfolding check_rib readable
  met-within h = grind (arith, nat_tests)

  -- the subtype is carried
  pub met-carried : check_rib s t ≡ 0 → carried t ≡ true
  unfolding check_rib
  met-carried h = grind (arith, nat_tests)

  -- the prefix is no longer than the subtype allows, and so than an address
  pub met_most : check_rib s t ≡ 0 → bits_of s ≤ most_bits t
  unfolding check_rib readable
  met_most h = grind (arith, nat_tests)

  pub met-bits : check_rib s t ≡ 0 → bits_of s ≤ 128
  met-bits h = let m = met_most h in omega (arith, most_bits-le t)
