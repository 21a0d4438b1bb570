-- What a run of stores leaves: an entry, and an entry in the part of the output that it fills.
use Prim.Native.Nat.{ℕ, ◌+◌, ◌-◌, ◌%◌, ◌^◌, ◌≤◌}
use mathlib.Core.Path.{◌≡◌, refl, sym, ◌∙◌, ap}
use mathlib.Core.Bool.{Bool, true, false, cond}
use mathlib.Core.List.{List, [], ◌++◌, append-nil}
use native.Mathlib.Nat.{zero-add}
use native.Mathlib.Omega.{arith}
use lib.ListN.{length, take, drop, length-append, drop_of_length-le}
use lib.Seq.{length-take-le}
use Rattle.octets.specs.Octets.{bytes_of, patch, part}
use Rattle.octets.proofs.Numbers.{length_bytes, bytes_halves}
use Rattle.octets.proofs.Stores.{stores, patch_front}
use Rattle.octets.proofs.Parts.{patch_lent}
use Rattle.rib_head.specs.Layout.{pathed, path_size}
use Rattle.rib_write.specs.Layout.{entry_octets}
use Rattle.rib_write.specs.declared.NewEntry.{NewEntry}
use Rattle.rib_write.proofs.Sizes.{length-entry}

-- a number that is cut to its n octets has the same
pub bytes_cut : (n v : ℕ) → bytes_of n (v % 256 ^ n) ≡ bytes_of n v
unfolding bytes_of
bytes_cut n v = bytes_halves 0 n v ∙ ap (λ (k : ℕ). bytes_of k v) (zero-add n)

pub path-cut : (t v : ℕ) → bytes_of (path_size t) (v % 4294967296) ≡ bytes_of (path_size t) v
unfolding path_size bytes_of
path-cut t v = by_test (pathed t)
  where
    by_test : (b : Bool) → bytes_of (cond b 4 0) (v % 4294967296) ≡ bytes_of (cond b 4 0) v
    by_test true = bytes_cut 4 v
    by_test false = refl

-- an entry whose path number takes p octets, field by field
pub entry-stored : (s : List ℕ) (p : ℕ) (e : NewEntry) (l : List ℕ) {u v w x y : List ℕ}
    → u ≡ patch s 0 (bytes_of 2 e.peer) → v ≡ patch u 2 (bytes_of 4 e.originated) → w ≡ patch v 6 (bytes_of p e.path)
    → x ≡ patch w (6 + p) (bytes_of 2 (length l)) → y ≡ patch x (8 + p) l → y ≡ patch s 0 (entry_octets p e l)
unfolding entry_octets
entry-stored s p e l {u} {v} {w} {x} {y} q r z a b =
    let x₂ : List ℕ = bytes_of 2 e.peer ++ bytes_of 4 e.originated in
    let x₃ : List ℕ = x₂ ++ bytes_of p e.path in
    let x₄ : List ℕ = x₃ ++ bytes_of 2 (length l) in
    let k₂ : length x₂ ≡ 6 = simp (length-append, length_bytes) refl in
    let k₃ : length x₃ ≡ 6 + p = simp (length-append, length_bytes) (omega arith) in
    let k₄ : length x₄ ≡ 8 + p = simp (length-append, length_bytes) (omega arith) in
    let c = stores s 0 2 (bytes_of 2 e.peer) (bytes_of 4 e.originated) (length_bytes 2 e.peer) q r in
    let d = stores s 0 6 x₂ (bytes_of p e.path) k₂ c z in
    let f : x ≡ patch s 0 x₄ = stores s 0 (6 + p) x₃ (bytes_of 2 (length l)) k₃ d (rw (zero-add (6 + p)) a) in
    stores s 0 (8 + p) x₄ l k₄ f (rw (zero-add (8 + p)) b)

-- an entry in the part of its own size that starts at len, seen in the whole
pub part-stored : (s : List ℕ) (len p : ℕ) (e : NewEntry) (l : List ℕ) {u : List ℕ} → len ≤ length s → 8 + p + length l ≤ length s - len
    → u ≡ patch (part s len (len + (8 + p + length l) - len)) 0 (entry_octets p e l)
    → take len s ++ (u ++ drop (len + (8 + p + length l) - len) (drop len s)) ≡ patch s len (entry_octets p e l)
part-stored s len p e l h r q =
    patch_lent s len (len + (8 + p + length l)) (8 + p + length l) (entry_octets p e l) (length-entry p e l) (omega arith) (omega arith) q

-- octets that fill the front of s, seen in the whole
pub front_filled : (s bs : List ℕ) (k : ℕ) {u : List ℕ} → length bs ≡ k → k ≤ length s → u ≡ patch (take k s) 0 bs
    → u ++ drop k s ≡ patch s 0 bs
front_filled s bs k l h e =
    let n : length (take k s) ≡ k = length-take-le k s h in
    let z : drop (length bs) (take k s) ≡ [] = drop_of_length-le (take k s) {i = length bs} (omega arith) in
    ap (λ (x : List ℕ). x ++ drop k s) (e ∙ patch_front (take k s) bs (omega arith) ∙ ap (λ (x : List ℕ). bs ++ x) z ∙ append-nil bs)
    ∙ ap (λ (m : ℕ). bs ++ drop m s) (sym l) ∙ sym (patch_front s bs (omega arith))
