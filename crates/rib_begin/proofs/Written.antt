-- What a run of stores leaves: a head.
use Prim.Native.Nat.{ℕ, zero, suc, ◌+◌, ◌-◌, ◌≤◌}
use mathlib.Core.Path.{◌≡◌, refl, sym, ◌∙◌, ap}
use mathlib.Core.List.{List, [], ◌∷◌, ◌++◌}
use native.Mathlib.Nat.{add-zero}
use native.Mathlib.Omega.{arith}
use lib.ListN.{length, take, length-append}
use lib.Seq.{take_all, take-append-le, length-take-le}
use Rattle.octets.specs.Octets.{bytes_of, patch}
use Rattle.octets.proofs.Numbers.{length_bytes}
use Rattle.octets.proofs.Stores.{stores_front}
use Rattle.rib_head.specs.Layout.{prefix_size}
use Rattle.rib_head.specs.Prefix.{cleared}
use Rattle.rib_head.proofs.Prefixes.{length-cleared}
use Rattle.rib_begin.specs.Layout.{head_with, head_octets}

-- fewer cleared octets
pub take-cleared : (bits : ℕ) (l : List ℕ) (n k : ℕ) → take n (cleared bits l (n + k)) ≡ cleared bits l n
unfolding cleared
take-cleared bits l n zero = rw add-zero (take_all n (cleared bits l n) (rw (length-cleared bits l n) (omega arith)))
take-cleared bits l n (suc k) =
    let e : n + suc k ≡ suc (n + k) = omega arith in
    rw e (take-append-le n (cleared bits l (n + k)) (_ ∷ []) (rw (length-cleared bits l (n + k)) (omega arith)) ∙ take-cleared bits l n k)

pub prefix-le : (bits : ℕ) → bits ≤ 128 → {n : ℕ} → n ≡ prefix_size bits → n ≤ 16
unfolding prefix_size
prefix-le bits h e = omega arith

-- the n octets that a prefix takes
module _ (bits : ℕ) (prefix : List ℕ) (h : bits ≤ 128) {p : List ℕ} (e : p ≡ cleared bits prefix 16) {n : ℕ}
    (size : n ≡ prefix_size bits) where
  -- they are there
  pub length-prefix : n ≡ length (take n p)
  length-prefix =
      let k : length p ≡ 16 = ap length e ∙ length-cleared bits prefix 16 in
      sym (length-take-le n p (omega (arith, prefix-le bits h size)))

  -- a head of no entries, field by field
  pub head-stored : (s : List ℕ) (sequence : ℕ) {u v w x : List ℕ} → u ≡ patch s 0 (bytes_of 4 sequence) → v ≡ patch u 4 (bits ∷ [])
      → w ≡ patch v 5 (take n p) → x ≡ patch w (5 + n) (bytes_of 2 0) → x ≡ patch s 0 (head_octets sequence bits prefix 0)
  unfolding head_octets head_with
  head-stored s sequence {u} {v} {w} {x} q r y z =
      let k : n + (16 - n) ≡ 16 = omega (arith, prefix-le bits h size) in
      let c : take n p ≡ cleared bits prefix n = rw (e, ← k) (take-cleared bits prefix n (16 - n)) in
      let f : length (bytes_of 4 sequence ++ (bits ∷ []) ++ cleared bits prefix n) ≡ 5 + n =
      simp (length-append, length_bytes, length-cleared) (omega arith) in
      let a = stores_front s 4 (bytes_of 4 sequence) (bits ∷ []) (length_bytes 4 sequence) q r in
      let b =
      stores_front s 5 (bytes_of 4 sequence ++ (bits ∷ [])) (cleared bits prefix n) (simp (length-append, length_bytes) refl) a
      (rw c at y) in
      rw (← size)
      (stores_front s (5 + n) (bytes_of 4 sequence ++ (bits ∷ []) ++ cleared bits prefix n) (bytes_of 2 0) f b z)
