-- How many octets a head takes.
use Prim.Native.Nat.{ℕ, ◌+◌}
use mathlib.Core.Path.{◌≡◌, ◌∙◌}
use mathlib.Core.List.{List}
use native.Mathlib.Omega.{arith}
use lib.ListN.{length, length-append}
use Rattle.octets.proofs.Numbers.{length_bytes}
use Rattle.rib_head.specs.Layout.{prefix_size}
use Rattle.rib_head.specs.Prefix.{cleared}
use Rattle.rib_head.proofs.Prefixes.{length-cleared}
use Rattle.rib_begin.specs.Layout.{head_with, head_octets}

pub length-head_with : (sequence bits : ℕ) (octets : List ℕ) (count : ℕ) → length (head_with sequence bits octets count) ≡ 7 + length octets
unfolding head_with
length-head_with sequence bits octets count = simp (length-append, length_bytes) (omega arith)

pub length-head : (sequence bits : ℕ) (prefix : List ℕ) (count : ℕ) → length (head_octets sequence bits prefix count) ≡ 7 + prefix_size bits
unfolding head_octets
length-head sequence bits prefix count =
    length-head_with sequence bits (cleared bits prefix (prefix_size bits)) count ∙ rw (length-cleared bits prefix (prefix_size bits))
