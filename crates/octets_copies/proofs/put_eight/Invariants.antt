use Prim.Native.Nat.{ℕ, ◌*◌, min}
use mathlib.Core.Path.{◌≡◌}
use lib.ListN.{take}
use Rattle.octets.specs.Octets.{patch}
use Rattle.octets_copies.proofs.put_eight.Given as goal

abbrev pub invariant-loop-i : goal.invariant-loop-i
invariant-loop-i l = (n : ℕ) × (n ≡ min (16 * l.i) l.m) × (l.out ≡ patch l.initial.out l.at (take n l.src))
