-- The layout, over the x octets of an address: what is written as octets reads as the same fields, and what is read is written as the same
-- octets. Reader, writer and both families rest on these two.
use Prim.Native.Nat.{ℕ, ◌+◌, ◌*◌, ◌^◌, ◌<◌, ◌≤◌}
use mathlib.Core.Path.{◌≡◌, refl, sym, ◌∙◌, ap}
use mathlib.Core.List.{List, [], ◌∷◌, ◌++◌, append_assoc}
use native.Mathlib.Omega.{arith}
use lib.ListN.{length, get_or, take, drop, length-append, length-drop, take-append-drop}
use lib.Seq.{take-add, get_or_at, drop_at}
use Rattle.octets.specs.Octets.{be_at, bytes_of, part, Octets}
use Rattle.octets.proofs.Numbers.{length_bytes, be_of_bytes, bytes_of_be}
use Rattle.octets.proofs.Parts.{part-one}
use Rattle.octets_address.specs.Address.{octets_at, address_at}
use Rattle.octets_address.proofs.Addresses.{length-octets, octets-part, octets_between, octets_back}
use Rattle.dump_layout.specs.Layout.{attributes_at, dump_at, head_octets, dump_octets}
use Rattle.dump_layout.specs.declared.Dump.{Dump}
use Rattle.dump_layout.proofs.Checks.{Filled}

-- each number fits its field
pub record InWidth (d : Dump) : Type 0 where
  pub view : d.view < 256 ^ 2
  pub sequence : d.sequence < 256 ^ 2
  pub originated : d.originated < 256 ^ 4
  pub asn : d.asn < 256 ^ 2

-- the fields as a body has them: of each address x octets, zeros after
abbrev pub kept : ℕ → Dump → Dump
kept x d =
    record {
      view = d.view;
      sequence = d.sequence;
      prefix = address_at d.prefix 0 x;
      bits = d.bits;
      status = d.status;
      originated = d.originated;
      peer = address_at d.peer 0 x;
      asn = d.asn;
    }

-- ---- what stands before each field, and how much that is
module _ (x : ℕ) (d : Dump) where
  abbrev pub to_sequence : List ℕ
  to_sequence = bytes_of 2 d.view

  abbrev pub to_prefix : List ℕ
  to_prefix = to_sequence ++ bytes_of 2 d.sequence

  abbrev pub to_bits : List ℕ
  to_bits = to_prefix ++ octets_at d.prefix 0 x

  abbrev pub to_status : List ℕ
  to_status = to_bits ++ (d.bits ∷ [])

  abbrev pub to_originated : List ℕ
  to_originated = to_status ++ (d.status ∷ [])

  abbrev pub to_peer : List ℕ
  to_peer = to_originated ++ bytes_of 4 d.originated

  abbrev pub to_as : List ℕ
  to_as = to_peer ++ octets_at d.peer 0 x

  abbrev pub to_length : List ℕ
  to_length = to_as ++ bytes_of 2 d.asn

  pub sequence-at : length to_sequence ≡ 2
  sequence-at = length_bytes 2 d.view

  pub prefix-at : length to_prefix ≡ 4
  prefix-at = simp (length-append, length_bytes) refl

  pub bits_at : length to_bits ≡ 4 + x
  bits_at = length-append to_prefix (octets_at d.prefix 0 x) ∙ rw (prefix-at, length-octets d.prefix 0 x)

  pub status_at : length to_status ≡ 5 + x
  status_at = length-append to_bits (d.bits ∷ []) ∙ (let e = bits_at in omega arith)

  pub originated-at : length to_originated ≡ 6 + x
  originated-at = length-append to_status (d.status ∷ []) ∙ (let e = status_at in omega arith)

  pub peer-at : length to_peer ≡ 10 + x
  peer-at = length-append to_originated (bytes_of 4 d.originated)
      ∙ (let e = originated-at in let f = length_bytes 4 d.originated in omega arith)

  pub as_at : length to_as ≡ 10 + 2 * x
  as_at = length-append to_peer (octets_at d.peer 0 x) ∙ (let e = peer-at in let f = length-octets d.peer 0 x in omega arith)

  pub length_at : length to_length ≡ 12 + 2 * x
  length_at = length-append to_as (bytes_of 2 d.asn) ∙ (let e = as_at in let f = length_bytes 2 d.asn in omega arith)

  pub length-head : (n : ℕ) → length (head_octets x d n) ≡ attributes_at x
  unfolding head_octets
  length-head n = length-append to_length (bytes_of 2 n) ∙ (let e = length_at in let f = length_bytes 2 n in omega arith)

-- ---- fields to octets, and back
module _ (x : ℕ) (d : Dump) (attributes : List ℕ) where
  abbrev all : List ℕ
  all = to_length x d ++ bytes_of 2 (length attributes) ++ attributes

  -- what follows each of them
  abbrev from_length : List ℕ
  from_length = bytes_of 2 (length attributes) ++ attributes

  abbrev from_as : List ℕ
  from_as = bytes_of 2 d.asn ++ from_length

  abbrev from_peer : List ℕ
  from_peer = octets_at d.peer 0 x ++ from_as

  abbrev from_originated : List ℕ
  from_originated = bytes_of 4 d.originated ++ from_peer

  abbrev from_status : List ℕ
  from_status = (d.status ∷ []) ++ from_originated

  abbrev from_bits : List ℕ
  from_bits = (d.bits ∷ []) ++ from_status

  abbrev from_prefix : List ℕ
  from_prefix = octets_at d.prefix 0 x ++ from_bits

  parted_length : all ≡ to_length x d ++ from_length
  parted_length = append_assoc (to_length x d) (bytes_of 2 (length attributes)) attributes

  parted_as : all ≡ to_as x d ++ from_as
  parted_as = parted_length ∙ append_assoc (to_as x d) (bytes_of 2 d.asn) from_length

  parted_peer : all ≡ to_peer x d ++ from_peer
  parted_peer = parted_as ∙ append_assoc (to_peer x d) (octets_at d.peer 0 x) from_as

  parted_originated : all ≡ to_originated x d ++ from_originated
  parted_originated = parted_peer ∙ append_assoc (to_originated x d) (bytes_of 4 d.originated) from_peer

  parted_status : all ≡ to_status x d ++ from_status
  parted_status = parted_originated ∙ append_assoc (to_status x d) (d.status ∷ []) from_originated

  parted_bits : all ≡ to_bits x d ++ from_bits
  parted_bits = parted_status ∙ append_assoc (to_bits x d) (d.bits ∷ []) from_status

  parted_prefix : all ≡ to_prefix x d ++ from_prefix
  parted_prefix = parted_bits ∙ append_assoc (to_prefix x d) (octets_at d.prefix 0 x) from_bits

  parted_sequence : all ≡ to_sequence x d ++ (bytes_of 2 d.sequence ++ from_prefix)
  parted_sequence = parted_prefix ∙ append_assoc (to_sequence x d) (bytes_of 2 d.sequence) from_prefix

  -- a number of n octets after p
  number : (p q : List ℕ) (at n v : ℕ) → all ≡ p ++ bytes_of n v ++ q → length p ≡ at → v < 256 ^ n → be_at all at n ≡ v
  number p q at n v e l h = ap (λ (s : List ℕ). be_at s at n) e ∙ rw (← l) (be_of_bytes n v p q h)

  pub length-dump : length (dump_octets x d attributes) ≡ attributes_at x + length attributes
  unfolding dump_octets
  length-dump = length-append (head_octets x d (length attributes)) attributes ∙ rw (length-head x d (length attributes))

  -- THEOREM. The attributes stand at the end of the octets.
  pub attributes_back : drop (attributes_at x) (dump_octets x d attributes) ≡ attributes
  unfolding dump_octets
  attributes_back = drop_at (head_octets x d (length attributes)) attributes (attributes_at x) (length-head x d (length attributes))

  pub count_back : length attributes < 256 ^ 2 → be_at (dump_octets x d attributes) (12 + 2 * x) 2 ≡ length attributes
  unfolding dump_octets head_octets
  count_back h = number (to_length x d) attributes (12 + 2 * x) 2 (length attributes) refl (length_at x d) h

  bits_back : get_or all (4 + x) 0 ≡ d.bits
  bits_back = ap (λ (s : List ℕ). get_or s (4 + x) 0) parted_bits ∙ get_or_at (to_bits x d) d.bits from_status 0 (4 + x) (bits_at x d)

  -- THEOREM. Octets with no more prefix bits than an address fill a body.
  pub filled_back : length attributes < 256 ^ 2 → d.bits ≤ 8 * x → Filled x (dump_octets x d attributes)
  unfolding dump_octets head_octets
  filled_back h b =
      record {
        whole = rw (count_back h) (sym length-dump);
        bits = rw bits_back b;
      }

  -- THEOREM. What is written as octets reads as the same fields.
  pub dump_of_octets : InWidth d → dump_at x (dump_octets x d attributes) ≡ kept x d
  unfolding dump_at dump_octets head_octets address_at
  dump_of_octets w =
      let v = number [] (bytes_of 2 d.sequence ++ from_prefix) 0 2 d.view parted_sequence refl w.view in
      let s = number (to_sequence x d) from_prefix 2 2 d.sequence parted_prefix (sequence-at x d) w.sequence in
      let o = number (to_originated x d) from_peer (6 + x) 4 d.originated parted_peer (originated-at x d) w.originated in
      let a = number (to_as x d) from_length (10 + 2 * x) 2 d.asn parted_length (as_at x d) w.asn in
      let t : get_or all (5 + x) 0 ≡ d.status =
      ap (λ (s : List ℕ). get_or s (5 + x) 0) parted_status
      ∙ get_or_at (to_status x d) d.status from_originated 0 (5 + x) (status_at x d) in
      let p : octets_at all 4 x ≡ octets_at d.prefix 0 x =
      ap (λ (s : List ℕ). octets_at s 4 x) parted_bits
      ∙ octets_between (to_prefix x d) (octets_at d.prefix 0 x) from_bits 4 x (prefix-at x d) (length-octets d.prefix 0 x) in
      let q : octets_at all (10 + x) x ≡ octets_at d.peer 0 x =
      ap (λ (s : List ℕ). octets_at s (10 + x) x) parted_as
      ∙ octets_between (to_peer x d) (octets_at d.peer 0 x) from_as (10 + x) x (peer-at x d) (length-octets d.peer 0 x) in
      rw (v, s, p, bits_back, t, o, q, a)

-- ---- octets to fields, and back
-- the first n octets of s, and the m after them
grow : (s : List ℕ) (n m k : ℕ) {p f : List ℕ} → p ≡ take n s → f ≡ part s n m → n + m ≡ k → p ++ f ≡ take k s
grow s n m k e g l = rw (e, g, ← l) (sym (take-add n m s))

module _ (x : ℕ) (s : List ℕ) (o : Octets s) (whole : attributes_at x + be_at s (12 + 2 * x) 2 ≡ length s) where
  address : (at : ℕ) → at + x ≤ length s → octets_at (address_at s at x) 0 x ≡ part s at x
  address at h = octets_back s at x ∙ octets-part s at x h

  -- THEOREM. What is read is written as the same octets.
  pub octets_of_dump : dump_octets x (dump_at x s) (drop (attributes_at x) s) ≡ s
  unfolding dump_octets head_octets dump_at
  octets_of_dump =
      let h : attributes_at x ≤ length s = omega arith in
      let n : length (drop (attributes_at x) s) ≡ be_at s (12 + 2 * x) 2 = length-drop (attributes_at x) s ∙ omega arith in
      let i : bytes_of 2 (be_at s 0 2) ≡ take 2 s = bytes_of_be s 0 2 o (omega arith) in
      let j = grow s 2 2 4 i (bytes_of_be s 2 2 o (omega arith)) (omega arith) in
      let k = grow s 4 x (4 + x) j (address 4 (omega arith)) refl in
      let l = grow s (4 + x) 1 (5 + x) k (part-one s (4 + x) (omega arith)) (omega arith) in
      let m = grow s (5 + x) 1 (6 + x) l (part-one s (5 + x) (omega arith)) (omega arith) in
      let q = grow s (6 + x) 4 (10 + x) m (bytes_of_be s (6 + x) 4 o (omega arith)) (omega arith) in
      let r = grow s (10 + x) x (10 + 2 * x) q (address (10 + x) (omega arith)) (omega arith) in
      let t = grow s (10 + 2 * x) 2 (12 + 2 * x) r (bytes_of_be s (10 + 2 * x) 2 o (omega arith)) (omega arith) in
      let c = ap (bytes_of 2) n ∙ bytes_of_be s (12 + 2 * x) 2 o (omega arith) in
      let u = grow s (12 + 2 * x) 2 (attributes_at x) t c (omega arith) in
      ap (λ (y : List ℕ). y ++ drop (attributes_at x) s) u ∙ take-append-drop (attributes_at x) s
