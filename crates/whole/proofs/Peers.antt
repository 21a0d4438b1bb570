-- One peer there and back: a peer's octets read as the peer that is stored, and a peer that was read is written as its octets.
use Prim.Native.Nat.{ℕ, ◌+◌, ◌-◌, ◌^◌, ◌<◌, ◌≤◌}
use mathlib.Core.Path.{◌≡◌, refl, sym, ◌∙◌, ap}
use mathlib.Core.List.{List, [], ◌∷◌, ◌++◌, append_assoc}
use mathlib.Core.Bool.{Bool, true, false}
use native.Mathlib.Nat.{add_assoc, add-zero}
use native.Mathlib.Omega.{arith}
use borrow.Author.Tests.{ltb-false, le-ltb}
use lib.ListN.{length, get_or, drop, replicate, length-append}
use lib.Seq.{get_or-drop}
use Rattle.octets.specs.Octets.{be_at, bytes_of, part, Octets}
use Rattle.octets.proofs.Numbers.{be_drop, be_lt, be_of_bytes, bytes_of_be, length_bytes}
use Rattle.octets.proofs.Parts.{part-one, part_join}
use Rattle.octets_address.specs.Address.{octets_at, address_at}
use Rattle.octets_address.proofs.Addresses.{length-octets, octets-part, octets_between, octets-drop}
use Rattle.peers_entry.specs.Peer.{wide, address_size, as_size, peer_size, peer_at, stored, unfit, peer_octets}
use Rattle.peers_entry.specs.declared.Peer.{Peer}
use Rattle.peers_entry.proofs.Sizes.{size_is}

-- ---- a peer further on is the first of what is left
pub peer-drop : (s : List ℕ) (at : ℕ) → peer_at s at ≡ peer_at (drop at s) 0
unfolding peer_at address_at
peer-drop s at =
    let k : get_or (drop at s) 0 0 ≡ get_or s at 0 = get_or-drop at s 0 0 ∙ ap (λ (n : ℕ). get_or s n 0) (add-zero at) in
    let i : be_at (drop at s) 1 4 ≡ be_at s (at + 1) 4 = be_drop s at 1 4 in
    let a : octets_at (drop at s) 5 (address_size (get_or s at 0)) ≡ octets_at s (at + 5) (address_size (get_or s at 0)) =
    octets-drop s at 5
    (address_size (get_or s at 0)) in
    let n : be_at (drop at s) (5 + address_size (get_or s at 0)) (as_size (get_or s at 0))
    ≡ be_at s (at + 5 + address_size (get_or s at 0)) (as_size
    (get_or s at 0)) =
    be_drop s at (5 + address_size (get_or s at 0)) (as_size (get_or s at 0))
    ∙ ap (λ (m : ℕ). be_at s m (as_size (get_or s at 0))) (sym (add_assoc at 5 (address_size (get_or s at 0)))) in
    rw (k, i, a, n)

-- ---- written, then read
module _ (p : Peer) (r : List ℕ) where
  abbrev kinds : List ℕ
  kinds = p.kind ∷ []

  abbrev ids : List ℕ
  ids = bytes_of 4 p.id

  abbrev address : List ℕ
  address = octets_at p.addr 0 (address_size p.kind)

  abbrev as_octets : List ℕ
  as_octets = bytes_of (as_size p.kind) p.asn

  length_ids : length (kinds ++ ids) ≡ 5
  length_ids = length-append kinds ids ∙ ap (λ (n : ℕ). 1 + n) (length_bytes 4 p.id)

  length_address : length (kinds ++ ids ++ address) ≡ 5 + address_size p.kind
  length_address = length-append (kinds ++ ids) address ∙ (let a = length_ids in
      let b = length-octets p.addr 0 (address_size p.kind) in omega arith)

  -- an AS that fits its field
  as_lt : unfit p ≡ false → p.asn < 256 ^ 4 → p.asn < 256 ^ as_size p.kind
  unfolding unfit as_size
  as_lt u h = case (wide p.kind) refl
    where
      case : (t : Bool) → wide p.kind ≡ t → p.asn < 256 ^ as_size p.kind
      case true e = simp e h
      case false e = simp e (let v : p.asn ≤ 65535 = ltb-false 65535 p.asn (simp e at u) in omega arith)

  pub peer_of_octets : unfit p ≡ false → p.id < 256 ^ 4 → p.asn < 256 ^ 4 → peer_at (peer_octets p ++ r) 0 ≡ stored p
  unfolding peer_at peer_octets stored address_at
  peer_of_octets u i n =
      let s : List ℕ = kinds ++ ids ++ address ++ as_octets ++ r in
      let s-id : s ≡ kinds ++ ids ++ (address ++ (as_octets ++ r)) = simp append_assoc in
      let s-address : s ≡ (kinds ++ ids) ++ address ++ (as_octets ++ r) = simp append_assoc in
      let id_is : be_at s 1 4 ≡ p.id = ap (λ (l : List ℕ). be_at l 1 4) s-id ∙ be_of_bytes 4 p.id kinds (address ++ (as_octets ++ r)) i in
      let address_is : octets_at s 5 (address_size p.kind) ≡ address =
      ap (λ (l : List ℕ). octets_at l 5 (address_size p.kind)) s-address
      ∙ octets_between (kinds ++ ids) address (as_octets ++ r) 5 (address_size p.kind) length_ids (length-octets p.addr 0 (address_size
      p.kind)) in
      let as_is : be_at s (5 + address_size p.kind) (as_size p.kind) ≡ p.asn =
      ap (λ (m : ℕ). be_at s m (as_size p.kind)) (sym length_address)
      ∙ be_of_bytes (as_size p.kind) p.asn (kinds ++ ids ++ address) r (as_lt u n) in
      rw (id_is, address_is, as_is)

  pub kind_of_octets : get_or (peer_octets p ++ r) 0 0 ≡ p.kind
  unfolding peer_octets
  kind_of_octets = refl

-- ---- read, then written
module _ (s : List ℕ) (at : ℕ) (o : Octets s) (fits : at + peer_size (get_or s at 0) ≤ length s) where
  abbrev kind : ℕ
  kind = get_or s at 0

  pub octets_of_peer : peer_octets (peer_at s at) ≡ part s at (peer_size kind)
  unfolding peer_octets peer_at address_at
  octets_of_peer =
      let z : peer_size kind ≡ 5 + address_size kind + as_size kind = size_is kind in
      let a : ℕ = address_size kind in
      let k : kind ∷ [] ≡ part s at 1 = part-one s at (omega arith) in
      let i : bytes_of 4 (be_at s (at + 1) 4) ≡ part s (at + 1) 4 = bytes_of_be s (at + 1) 4 o (omega arith) in
      let x : List ℕ = octets_at s (at + 5) a in
      let d : octets_at (x ++ replicate (16 - a) 0) 0 a ≡ x = octets_between [] x (replicate (16 - a) 0) 0 a refl (length-octets s
      (at + 5) a) in
      let e : x ≡ part s (at + 5) a = octets-part s (at + 5) a (omega arith) in
      let n : bytes_of (as_size kind) (be_at s (at + 5 + a) (as_size kind)) ≡ part s (at + 5 + a) (as_size kind) =
      bytes_of_be s (at + 5 + a)
      (as_size kind) o (omega arith) in
      let five : part s at 1 ++ part s (at + 1) 4 ≡ part s at 5 = part_join s at 1 4 in
      let more : part s at 5 ++ part s (at + 5) a ≡ part s at (5 + a) = part_join s at 5 a in
      let all : part s at (5 + a) ++ part s (at + 5 + a) (as_size kind) ≡ part s at (peer_size kind) =
      ap (λ (m : ℕ). part s at (5 + a) ++ part s m (as_size kind)) (add_assoc at 5 a) ∙ part_join s at (5 + a) (as_size kind)
      ∙ ap (part s at) (sym z) in
      let b : List ℕ = bytes_of 4 (be_at s (at + 1) 4) in
      let y : List ℕ = octets_at (x ++ replicate (16 - a) 0) 0 a in
      let v : List ℕ = bytes_of (as_size kind) (be_at s (at + 5 + a) (as_size kind)) in
      let first : (kind ∷ []) ++ b ≡ part s at 5 = ap (λ (l : List ℕ). l ++ b) k ∙ ap (λ (l : List ℕ). part s at 1 ++ l) i ∙ five in
      let second : (kind ∷ []) ++ b ++ y ≡ part s at (5 + a) = ap (λ (l : List ℕ). l ++ y) first ∙ ap (λ (l : List ℕ). part s at 5 ++ l) (d
      ∙ e) ∙ more in
      ap (λ (l : List ℕ). l ++ v) second ∙ ap (λ (l : List ℕ). part s at (5 + a) ++ l) n ∙ all

  -- an AS that was read fits its field
  pub fits_of_peer : unfit (peer_at s at) ≡ false
  unfolding unfit peer_at as_size
  fits_of_peer = case (wide kind) refl
    where
      case : (t : Bool) → wide kind ≡ t → unfit (peer_at s at) ≡ false
      case true e = simp e
      case false e =
          let l : be_at s (at + 5 + address_size kind) 2 < 256 ^ 2 = be_lt s (at + 5 + address_size kind) 2 o in
          simp (e, le-ltb 65535 (be_at s (at + 5 + address_size kind) 2) (omega arith))
