-- What the stores of the fields leave, one after another.
use Prim.Native.Nat.{ℕ, ◌+◌, ◌*◌, ◌≤◌}
use mathlib.Core.Path.{◌≡◌}
use mathlib.Core.List.{List, [], ◌∷◌}
use native.Mathlib.Omega.{arith}
use lib.ListN.{length}
use lib.Dec.{eqb}
use Rattle.octets.specs.Octets.{bytes_of, patch}
use Rattle.octets.proofs.Stores.{stores_front}
use Rattle.octets_address.specs.Address.{size_of, put_address}
use Rattle.octets_address.proofs.Addresses.{put_front}
use Rattle.dump_layout.specs.Layout.{attributes_at, head_octets}
use Rattle.dump_layout.specs.declared.Dump.{Dump}
use Rattle.dump_layout.proofs.Fields.{to_sequence, to_prefix, to_bits, to_status, to_originated, to_peer, to_as, to_length}
use Rattle.dump_layout.proofs.Fields.{sequence-at, prefix-at, bits_at, status_at, originated-at, peer-at, as_at, length_at}

-- an address is long or has x octets all the same
module _ (s : List ℕ) (x : ℕ) (d : Dump) (n : ℕ) (z : size_of (eqb x 16) ≡ x) (room : attributes_at x ≤ length s) where
  pub fields-stored : {a b c e f g i j k : List ℕ} → a ≡ patch s 0 (bytes_of 2 d.view)
      → b ≡ patch a 2 (bytes_of 2 d.sequence) → c ≡ put_address b 4 d.prefix (size_of (eqb x 16)) → e ≡ patch c (4 + x) (d.bits ∷ [])
      → f ≡ patch e (5 + x) (d.status ∷ []) → g ≡ patch f (6 + x) (bytes_of 4 d.originated)
      → i ≡ put_address g (10 + x) d.peer (size_of (eqb x 16))
      → j ≡ patch i (10 + 2 * x) (bytes_of 2 d.asn) → k ≡ patch j (12 + 2 * x) (bytes_of 2 n) → k ≡ patch s 0 (head_octets x d n)
  unfolding head_octets
  fields-stored {a} {b} {c} {e} {f} {g} {i} {j} {k} view sequence prefix bits status originated peer asn count =
      let q = stores_front s 2 (to_sequence x d) (bytes_of 2 d.sequence) (sequence-at x d) view sequence in
      let p = put_front s 4 x (to_prefix x d) d.prefix (prefix-at x d) (omega arith) q (rw z at prefix) in
      let t = stores_front s (4 + x) (to_bits x d) (d.bits ∷ []) (bits_at x d) p bits in
      let u = stores_front s (5 + x) (to_status x d) (d.status ∷ []) (status_at x d) t status in
      let o = stores_front s (6 + x) (to_originated x d) (bytes_of 4 d.originated) (originated-at x d) u originated in
      let v = put_front s (10 + x) x (to_peer x d) d.peer (peer-at x d) (omega arith) o (rw z at peer) in
      let w = stores_front s (10 + 2 * x) (to_as x d) (bytes_of 2 d.asn) (as_at x d) v asn in
      stores_front s (12 + 2 * x) (to_length x d) (bytes_of 2 n) (length_at x d) w count
