-- How many octets an entry takes.
use Prim.Native.Nat.{ℕ, ◌+◌}
use mathlib.Core.Path.{◌≡◌}
use mathlib.Core.List.{List}
use native.Mathlib.Omega.{arith}
use lib.ListN.{length, length-append}
use Rattle.octets.proofs.Numbers.{length_bytes}
use Rattle.rib_write.specs.Layout.{entry_octets}
use Rattle.rib_write.specs.declared.NewEntry.{NewEntry}

pub length-entry : (p : ℕ) (e : NewEntry) (l : List ℕ) → length (entry_octets p e l) ≡ 8 + p + length l
unfolding entry_octets
length-entry p e l = simp (length-append, length_bytes) (omega arith)
