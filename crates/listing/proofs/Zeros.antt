-- How long a run of zeros is, without counting them one by one.
use Prim.Native.Nat.{ℕ}
use mathlib.Core.Path.{◌≡◌, sym}
use lib.ListN.{length, replicate, length-replicate}

pub length_zeros : (n : ℕ) → n ≡ length {A = ℕ} (replicate n 0)
length_zeros n = sym (length-replicate n 0)
