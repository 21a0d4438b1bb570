-- One peer: the AS in its field, and what the reader and the writer answer in each case.
use Prim.Native.Nat.{ℕ, ◌+◌, ◌-◌, ◌*◌, ◌/◌, ◌%◌, ◌<◌, ◌≤◌}
use mathlib.Core.Path.{◌≡◌, refl, sym, ◌∙◌, ap}
use mathlib.Core.List.{List, [], ◌∷◌, ◌++◌}
use mathlib.Core.Bool.{Bool, true, false, and-true, and-false}
use native.Mathlib.Nat.{add_assoc, le_of_eq}
use native.Mathlib.Omega.{arith}
use borrow.Author.Tests.{lt-ltb, le-ltb, le-leb, lt-leb}
use lib.Dec.{eqb}
use lib.ListN.{length, get_or, length-append}
use Rattle.octets.specs.Octets.{be_at, bytes_of, patch, part}
use Rattle.octets.proofs.Numbers.{be_halves, bytes_halves, length_bytes}
use Rattle.octets.proofs.Stores.{patch-over, stores, length-patch}
use Rattle.octets.proofs.Parts.{be_front}
use Rattle.octets_address.specs.Address.{octets_at, address_in, put_address}
use Rattle.octets_address.proofs.Addresses.{length-octets, address_fits, put_fits}
use Rattle.peers_entry.specs.Peer.{wide, address_size, as_size, peer_size, peer_at, unread, read_peer}
use Rattle.peers_entry.specs.Peer.{stored, same_octets}
use Rattle.peers_entry.specs.Peer.{same_address, peer_octets, put_peer}
use Rattle.peers_entry.specs.declared.Peer.{Peer}
use Rattle.peers_entry.proofs.Sizes.{as_either, address_le, size_is}

-- ---- the AS
-- its first two octets and its last two, each lent as a part
module _ (s : List ℕ) (at kind : ℕ) {w h : ℕ} (sized : w ≡ as_size kind) (high : h ≡ be_at (part s at (at + 2 - at)) 0 2) where
  first_two : h ≡ be_at s at 2
  first_two = high ∙ be_front s at (at + 2) 2 (omega arith)

  pub as_read_long : {l : ℕ} → w ≡ 4 → l ≡ be_at (part s (at + w - 2) (at + w - (at + w - 2))) 0 2
      → h * 65536 + l ≡ be_at s at (as_size kind)
  as_read_long {l} e low =
      let z : at + w - 2 ≡ at + 2 = omega arith in
      let two : l ≡ be_at s (at + 2) 2 = low ∙ be_front s (at + w - 2) (at + w) 2 (omega arith) ∙ ap (λ (k : ℕ). be_at s k 2) z in
      be_halves s at 2 2 first_two two ∙ ap (be_at s at) (sym e ∙ sized)

  pub as_read_short : (w ≡ 4 → ⊥) → h ≡ be_at s at (as_size kind)
  as_read_short e = first_two ∙ ap (be_at s at) (sym (as_either kind (λ z. e (sized ∙ z))))

-- a number in two octets keeps what two octets hold of it
bytes_cut : (v : ℕ) → bytes_of 2 (v % 65536) ≡ bytes_of 2 v
unfolding bytes_of
bytes_cut v =
    let h : v % 65536 / 256 % 256 ≡ v / 256 % 256 = omega arith in
    let l : v % 65536 % 256 ≡ v % 256 = omega arith in
    rw (h, l)

-- the high half and then the low one in the last two octets
pub as_stored : (s : List ℕ) (at kind asn : ℕ) {w : ℕ} {t u : List ℕ} → w ≡ as_size kind → at + as_size kind ≤ length s
    → t ≡ patch s at (bytes_of 2 (asn / 65536))
    → u ≡ patch t (at + w - 2) (bytes_of 2 (asn % 65536))
    → u ≡ patch s at (bytes_of (as_size kind) asn)
unfolding as_size
as_stored s at kind asn {w} {t} {u} sized fits first last = case (wide kind) refl
  where
    high : List ℕ
    high = bytes_of 2 (asn / 65536)

    low : List ℕ
    low = bytes_of 2 (asn % 65536)

    case : (z : Bool) → wide kind ≡ z → u ≡ patch s at (bytes_of (as_size kind) asn)
    case true z =
        let k : as_size kind ≡ 4 = simp z in
        let m : at + w - 2 ≡ at + 2 = omega arith in
        stores s at 2 high low (length_bytes 2 (asn / 65536)) first (last ∙ ap (λ (n : ℕ). patch t n low) m)
        ∙ ap (patch s at) (bytes_halves 2 2 asn) ∙ ap (λ (n : ℕ). patch s at (bytes_of n asn)) (sym k)
    case false z =
        let k : as_size kind ≡ 2 = simp z in
        let m : at + w - 2 ≡ at = omega arith in
        let l : length high ≡ 2 = length_bytes 2 (asn / 65536) in
        last ∙ ap (λ (n : ℕ). patch t n low) m ∙ ap (λ (v : List ℕ). patch v at low) first
        ∙ patch-over s at high low (le_of_eq (l ∙ sym (length_bytes 2 (asn % 65536)))) (omega arith) ∙ ap (patch s at) (bytes_cut asn)
        ∙ ap (λ (n : ℕ). patch s at (bytes_of n asn)) (sym k)

-- ---- the reader
module _ (s : List ℕ) (at : ℕ) where
  pub read_beyond : length s < at → unread 8 ≡ read_peer s at
  unfolding read_peer
  read_beyond h = simp (lt-ltb _ _ h)

  module _ {k z : ℕ} (inside : at ≤ length s) (kind-is : k ≡ get_or s at 0) (type_size : z ≡ peer_size k) where
    pub read_short : length s - at < z → unread 7 ≡ read_peer s at
    unfolding read_peer
    read_short l =
        let e : z ≡ peer_size (get_or s at 0) = type_size ∙ ap peer_size kind-is in
        let m : length s < at + peer_size (get_or s at 0) = omega arith in
        simp (le-ltb _ _ inside, lt-leb _ _ m)

    pub read_whole : {a id asn : ℕ} {l : List ℕ} → z ≤ length s - at → a ≡ address_size k → l ≡ address_in s (at + 5) (address_size k)
        → id ≡ be_at (part s (at + 1) (at + 5 - (at + 1))) 0 4
        → asn ≡ be_at s (at + 5 + a) (as_size k)
        → record { number = 0; peer = record { kind = k; id = id; addr = l; asn = asn }; next = at + z } ≡ read_peer s at
    unfolding read_peer peer_at
    read_whole fits ha hl hi hn =
        let e : z ≡ peer_size (get_or s at 0) = type_size ∙ ap peer_size kind-is in
        let m : at + peer_size (get_or s at 0) ≤ length s = omega arith in
        let there = address_fits s (at + 5) (address_size k) (omega (arith, size_is k)) in
        rw (hn, hi ∙ be_front s (at + 1) (at + 5) 4 (omega arith), hl ∙ there, ha, type_size, kind-is)
        (simp (le-ltb _ _ inside, le-leb _ _ m))

-- ---- the peer as it is stored
pub store_is : (p : Peer) {l : List ℕ} → 16 ≡ length p.addr → l ≡ address_in p.addr 0 (address_size p.kind)
    → record { kind = p.kind; id = p.id; addr = l; asn = p.asn } ≡ stored p
unfolding stored
store_is p h e = rw (e ∙ address_fits p.addr 0 (address_size p.kind) (omega (arith, address_le p.kind)))

-- ---- one address or two
module _ (p key : Peer) {r : Bool} (e : r ≡ same_octets (address_size key.kind) p.addr key.addr) where
  pub other_octets : r ≡ false → false ≡ same_address p key
  unfolding same_address
  other_octets z = rw (← e, z) (sym (and-false (eqb (p.kind % 2) (key.kind % 2))))

  pub one_address : r ≡ true → eqb (p.kind % 2) (key.kind % 2) ≡ same_address p key
  unfolding same_address
  one_address z = rw (← e, z) (sym (and-true (eqb (p.kind % 2) (key.kind % 2))))

-- ---- the writer
module _ (s : List ℕ) (at : ℕ) (p : Peer) where
  without : length s < at + peer_size p.kind → (s, at) ≡ put_peer s at p
  unfolding put_peer
  without h = simp (lt-leb _ _ h)

  module _ {z : ℕ} (type_size : z ≡ peer_size p.kind) where
    pub put_small : length s < z → (s, at) ≡ put_peer s at p
    put_small h = without (omega arith)

    pub put_late : z ≤ length s → length s - z < at → (s, at) ≡ put_peer s at p
    put_late h l = without (omega arith)

    pub put_whole : {a : ℕ} {t u v w : List ℕ} → z ≤ length s → at ≤ length s - z → a ≡ address_size p.kind → t ≡ patch s at (p.kind
        ∷ []) → u ≡ patch t (at + 1) (bytes_of 4 p.id)
        → v ≡ put_address u (at + 5) p.addr (address_size p.kind)
        → w ≡ patch v (at + 5 + a) (bytes_of (as_size p.kind) p.asn)
        → (w, at + z) ≡ put_peer s at p
    unfolding put_peer peer_octets
    put_whole {a} {t} {u} {v} {w} h k ha ht hu hv hw =
        let kinds : List ℕ = p.kind ∷ [] in
        let ids : List ℕ = bytes_of 4 p.id in
        let address : List ℕ = octets_at p.addr 0 a in
        let first : u ≡ patch s at (kinds ++ ids) = stores s at 1 kinds ids refl ht hu in
        let five : length (kinds ++ ids) ≡ 5 = length-append kinds ids ∙ ap (λ (n : ℕ). 1 + n) (length_bytes 4 p.id) in
        let fits : at + 5 + address_size p.kind ≤ length u =
        (let n = ap length first ∙ length-patch s at (kinds ++ ids) in omega (arith, size_is p.kind)) in
        let there : v ≡ patch u (at + 5) address =
        hv ∙ put_fits u (at + 5) p.addr (address_size p.kind) fits
        ∙ ap (λ (n : ℕ). patch u (at + 5) (octets_at p.addr 0 n)) (sym ha) in
        let then : v ≡ patch s at (kinds ++ ids ++ address) = stores s at 5 (kinds ++ ids) address five first there in
        let more : length (kinds ++ ids ++ address) ≡ 5 + a = length-append (kinds ++ ids) address
        ∙ (let o : length address ≡ a = length-octets p.addr 0 a in omega arith) in
        let last : w ≡ patch s at (kinds ++ ids ++ address ++ bytes_of (as_size p.kind) p.asn) =
        stores s at (5 + a) (kinds ++ ids ++ address) (bytes_of (as_size p.kind) p.asn) more then (rw add_assoc at hw) in
        let m : at + peer_size p.kind ≤ length s = omega arith in
        rw (last, ha, type_size) (simp (le-leb _ _ m))

-- ---- a peer that ends inside the body
pub read_fits : (s : List ℕ) (at : ℕ) → at + peer_size (get_or s at 0) ≤ length s
    → read_peer s at ≡ record { number = 0; peer = peer_at s at; next = at + peer_size (get_or s at 0) }
unfolding read_peer
read_fits s at h = let l : at ≤ length s = omega arith in simp (le-ltb _ _ l, le-leb _ _ h)

-- ---- a peer's octets
pub length-peer : (p : Peer) → length (peer_octets p) ≡ peer_size p.kind
unfolding peer_octets peer_size
length-peer p =
    let kinds : List ℕ = p.kind ∷ [] in
    let ids : List ℕ = bytes_of 4 p.id in
    let address : List ℕ = octets_at p.addr 0 (address_size p.kind) in
    let asn : List ℕ = bytes_of (as_size p.kind) p.asn in
    let a : length (kinds ++ ids ++ address ++ asn) ≡ length (kinds ++ ids ++ address) + length asn = length-append
    (kinds ++ ids ++ address) asn in
    let b : length (kinds ++ ids ++ address) ≡ length (kinds ++ ids) + length address = length-append (kinds ++ ids) address in
    let c : length (kinds ++ ids) ≡ 1 + length ids = length-append kinds ids in
    let d : length ids ≡ 4 = length_bytes 4 p.id in
    let e : length address ≡ address_size p.kind = length-octets p.addr 0 (address_size p.kind) in
    let f : length asn ≡ as_size p.kind = length_bytes (as_size p.kind) p.asn in
    omega arith
