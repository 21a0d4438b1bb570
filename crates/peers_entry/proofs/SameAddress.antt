-- What it is to have the same address, set out plainly: one family, and its octets one by one.
use Prim.Native.Nat.{ℕ, zero, suc, ◌%◌, ◌<◌}
use mathlib.Core.Path.{◌≡◌, refl, sym, ◌∙◌}
use mathlib.Core.Logic.{◌↔◌}
use mathlib.Core.List.{List}
use mathlib.Core.Bool.{Bool, true, false, cond, true≢false, ◌&&◌, and-eq-true_iff}
use native.Mathlib.Omega.{arith}
use borrow.Author.Tests.{eq-eqb, eqb-true, eqb-false}
use lib.ListN.{get_or}
use lib.Dec.{eqb}
use Rattle.octets_address.specs.Address.{size_of}
use Rattle.peers_entry.specs.Peer.{address_size, stored, key_of, same_octets, same_address}
use Rattle.peers_entry.specs.declared.Peer.{Peer}
use Rattle.peers_entry.proofs.Stored.{stored_octet}

-- the first n octets are the same, one by one
abbrev Alike : ℕ → List ℕ → List ℕ → Type 0
Alike n a b = (i : ℕ) → i < n → get_or a i 0 ≡ get_or b i 0

octets_alike : (n : ℕ) (a b : List ℕ) → (same_octets n a b ≡ true) ↔ Alike n a b
unfolding same_octets
octets_alike zero a b = (λ t i h. absurd (omega arith), λ f. refl)
octets_alike (suc n) a b = (
  λ t. one_by_one (octets_alike n a b).0 ((and-eq-true_iff (same_octets n a b) (eqb (get_or a n 0) (get_or b n 0))).0 t),
  together (octets_alike n a b).1,
)
  where
    one_by_one : (same_octets n a b ≡ true → Alike n a b) → (same_octets n a b ≡ true) × (eqb (get_or a n 0) (get_or b n 0) ≡ true)
        → Alike (suc n) a b
    one_by_one f t i h = by_test (eqb i n) refl
      where
        by_test : (u : Bool) → eqb i n ≡ u → get_or a i 0 ≡ get_or b i 0
        by_test true u = let e : i ≡ n = eqb-true i n u in rw e (eqb-true _ _ t.1)
        by_test false u = let e : i ≡ n → ⊥ = eqb-false i n u in f t.0 i (omega arith)

    together : (Alike n a b → same_octets n a b ≡ true) → Alike (suc n) a b
        → (same_octets n a b && eqb (get_or a n 0) (get_or b n 0)) ≡ true
    together f g = simp (f (λ i h. g i (omega arith)), eq-eqb _ _ (g n (omega arith)))

-- the peer p has the address of this family, odd or even, and of these octets
pub record HasAddress (p : Peer) (family : ℕ) (octets : List ℕ) : Type 0 where
  pub kind : p.kind % 2 ≡ family
  pub octet : (i : ℕ) → i < cond (eqb family 1) 16 4 → get_or p.addr i 0 ≡ get_or octets i 0

-- THEOREM. Two peers have the same address exactly where the one has the family and the octets of the other.
pub same_plainly : (p key : Peer) → (same_address p key ≡ true) ↔ HasAddress p (key.kind % 2) key.addr
unfolding same_address address_size size_of
same_plainly p key = (
  λ t. let b = (and-eq-true_iff (eqb (p.kind % 2) (key.kind % 2)) (same_octets (address_size key.kind) p.addr key.addr)).0 t in
      record { kind = eqb-true _ _ b.0; octet = (octets_alike (address_size key.kind) p.addr key.addr).0 b.1 },
  λ h. simp (eq-eqb _ _ h.kind, (octets_alike (address_size key.kind) p.addr key.addr).1 h.octet),
)

-- the same of a key by family and octets
pub key_plainly : (p : Peer) (v6 : Bool) (addr : List ℕ) → (same_address p (key_of v6 addr) ≡ true) ↔ HasAddress p (cond v6 1 0) addr
unfolding key_of
key_plainly p true addr = same_plainly p (key_of true addr)
key_plainly p false addr = same_plainly p (key_of false addr)

-- two tests that hold in the same cases are one
same_test : (x y : Bool) → (x ≡ true → y ≡ true) → (y ≡ true → x ≡ true) → x ≡ y
same_test true y f g = sym (f refl)
same_test false true f g = absurd (true≢false (sym (g refl)))
same_test false false f g = refl

-- a key of the same family and octets asks for the same address
key_same : (p key other : Peer) → key.kind % 2 ≡ other.kind % 2 → key.addr ≡ other.addr → same_address p key ≡ same_address p other
unfolding same_address address_size
key_same p key other k a = rw (k, a)

pub key_of_lem : (p key : Peer) → same_address p (key_of (eqb (key.kind % 2) 1) key.addr) ≡ same_address p key
unfolding key_of
key_of_lem p key = key_same p (key_of (eqb (key.kind % 2) 1) key.addr) key (family (key.kind % 2) (omega arith)) refl
  where
    family : (n : ℕ) → n < 2 → cond (eqb n 1) 1 0 % 2 ≡ n
    family zero h = refl
    family (suc zero) h = refl
    family (suc (suc n)) h = absurd (omega arith)

pub same_self : (p : Peer) → same_address p p ≡ true
same_self p = (same_plainly p p).1 (record { kind = refl; octet = λ i h. refl })

-- a peer has its address after it is stored, and no other
module _ (p : Peer) (family : ℕ) (octets : List ℕ) where
  size_of_lem : p.kind % 2 ≡ family → address_size p.kind ≡ cond (eqb family 1) 16 4
  unfolding address_size size_of
  size_of_lem e = rw e

  kept : (i : ℕ) → p.kind % 2 ≡ family → i < cond (eqb family 1) 16 4 → get_or (stored p).addr i 0 ≡ get_or p.addr i 0
  kept i e h = stored_octet p i (rw (size_of_lem e) h)

  has-stored : HasAddress (stored p) family octets ↔ HasAddress p family octets
  unfolding stored
  has-stored = (
    λ h. record { kind = h.kind; octet = λ i l. sym (kept i h.kind l) ∙ h.octet i l },
    λ h. record { kind = h.kind; octet = λ i l. kept i h.kind l ∙ h.octet i l },
  )

pub same_stored : (p key : Peer) → same_address (stored p) key ≡ same_address p key
same_stored p key =
    let s = has-stored p (key.kind % 2) key.addr in
    same_test (same_address (stored p) key) (same_address p key)
    (λ t. (same_plainly p key).1 (s.0 ((same_plainly (stored p) key).0 t)))
    (λ t. (same_plainly (stored p) key).1 (s.1 ((same_plainly p key).0 t)))
