-- Addresses compared, four octets as one number.
use Prim.Native.Nat.{ℕ, zero, suc, ◌+◌, ◌*◌, ◌<◌}
use mathlib.Core.Path.{◌≡◌, refl, sym, ◌∙◌, ap}
use mathlib.Core.List.{List}
use mathlib.Core.Bool.{Bool, true, false, ◌&&◌, ◌||◌, and-true, and_assoc}
use native.Mathlib.Nat.{add-zero, add-suc}
use native.Mathlib.Omega.{arith}
use borrow.Author.Tests.{eq-eqb, ne_eqb, eqb-true, eqb-false}
use lib.ListN.{get_or}
use lib.Dec.{eqb}
use Rattle.octets.specs.Octets.{be_at, Octets}
use Rattle.octets.proofs.Numbers.{be_halves, be_one, be_same}
use Rattle.peers_entry.specs.Peer.{address_size, same_octets, low_first}
use Rattle.peers_entry.proofs.Sizes.{address_either}

-- the first octet highest
high : (s : List ℕ) (at : ℕ) → ((get_or s at 0 * 256 + get_or s (at + 1) 0) * 256 + get_or s (at + 2) 0) * 256 + get_or s (at + 3) 0
    ≡ be_at s at 4
high s at =
    let two = be_halves s at 1 1 (be_one s at) (be_one s (at + 1)) in
    let three = be_halves s at 2 1 two (be_one s (at + 2)) in
    be_halves s at 3 1 three (be_one s (at + 3))

-- the lowest octet of a number, and the others
digit : (x y m n : ℕ) → x < 256 → y < 256 → x + 256 * m ≡ y + 256 * n → (x ≡ y) × (m ≡ n)
digit x y m n h k e = (omega arith, omega arith)

module _ (a b : List ℕ) (o : Octets a) (p : Octets b) (at : ℕ) where
  -- the four octets, where one of the numbers is the same
  record Fours : Type 0 where
    first : get_or a at 0 ≡ get_or b at 0
    second : get_or a (at + 1) 0 ≡ get_or b (at + 1) 0
    third : get_or a (at + 2) 0 ≡ get_or b (at + 2) 0
    fourth : get_or a (at + 3) 0 ≡ get_or b (at + 3) 0

  by_low : low_first a at ≡ low_first b at → Fours
  by_low q =
      let i = digit (get_or a at 0) (get_or b at 0) _ _ (o at) (p at) q in
      let j = digit (get_or a (at + 1) 0) (get_or b (at + 1) 0) _ _ (o (at + 1)) (p (at + 1)) i.1 in
      let k = digit (get_or a (at + 2) 0) (get_or b (at + 2) 0) _ _ (o (at + 2)) (p (at + 2)) j.1 in
      record { first = i.0; second = j.0; third = k.0; fourth = k.1 }

  turned : (x m : ℕ) → x + 256 * m ≡ m * 256 + x
  turned x m = omega arith

  by_high : be_at a at 4 ≡ be_at b at 4 → Fours
  by_high q =
      let whole = high a at ∙ q ∙ sym (high b at) in
      let i = digit (get_or a (at + 3) 0) (get_or b (at + 3) 0) _ _ (o (at + 3)) (p (at + 3)) (turned _ _ ∙ whole ∙ sym (turned _ _)) in
      let j = digit (get_or a (at + 2) 0) (get_or b (at + 2) 0) _ _ (o (at + 2)) (p (at + 2)) (turned _ _ ∙ i.1 ∙ sym (turned _ _)) in
      let k = digit (get_or a (at + 1) 0) (get_or b (at + 1) 0) _ _ (o (at + 1)) (p (at + 1)) (turned _ _ ∙ j.1 ∙ sym (turned _ _)) in
      record { first = k.1; second = k.0; third = j.0; fourth = i.0 }

  -- both orders tell the same octets apart
  pub four_same : {x y : ℕ} → x ≡ low_first a at → y ≡ low_first b at → eqb x y ≡ eqb (be_at a at 4) (be_at b at 4)
  four_same {x} {y} e f = by_test (eqb x y) refl
    where
      equal : x ≡ y → be_at a at 4 ≡ be_at b at 4
      equal q = let s = by_low (sym e ∙ q ∙ f) in sym (high a at) ∙ rw (s.first, s.second, s.third, s.fourth) (high b at)

      apart : be_at a at 4 ≡ be_at b at 4 → x ≡ y
      apart q = let s = by_high q in e ∙ rw (s.first, s.second, s.third, s.fourth) (sym f)

      by_test : (t : Bool) → eqb x y ≡ t → t ≡ eqb (be_at a at 4) (be_at b at 4)
      by_test true t = sym (eq-eqb _ _ (equal (eqb-true x y t)))
      by_test false t = sym (ne_eqb _ _ (λ q. eqb-false x y t (apart q)))

reorder : (x y z w : Bool) → (x && y && z && w) ≡ (x && (w && y && z))
reorder true true true true = refl
reorder true true true false = refl
reorder true true false true = refl
reorder true true false false = refl
reorder true false true true = refl
reorder true false true false = refl
reorder true false false true = refl
reorder true false false false = refl
reorder false y z w = refl

module _ (a b : List ℕ) (o : Octets a) (p : Octets b) where
  -- n octets, and the m after them as one number
  same_join : (n m : ℕ) → (same_octets n a b && eqb (be_at a n m) (be_at b n m)) ≡ same_octets (n + m) a b
  unfolding same_octets be_at
  same_join n zero = rw add-zero (and-true (same_octets n a b))
  same_join n (suc m) = rw (add-suc, ← same_join n m) (ap (λ (t : Bool). same_octets n a b && t) (sym (be_same a b n m o p))
      ∙ sym (and_assoc (same_octets n a b) (eqb (be_at a n m) (be_at b n m)) (eqb (get_or a (n + m) 0) (get_or b (n + m) 0))))

  -- whether four octets are the same
  abbrev four : ℕ → Bool
  four at = eqb (be_at a at 4) (be_at b at 4)

  same_first : four 0 ≡ same_octets 4 a b
  unfolding same_octets
  same_first = same_join 0 4

  same_all : (four 0 && four 4 && four 8 && four 12) ≡ same_octets 16 a b
  same_all = rw (same_first, same_join 4 4, same_join 8 4) (same_join 12 4)

  -- the first four, and where the address has more, the others
  pub decides : (kind : ℕ)
      → (four 0 && (eqb (address_size kind) 4 || (four 12 && four 4 && four 8))) ≡ same_octets (address_size kind) a b
  decides kind = by_size (eqb (address_size kind) 4) refl
    where
      long : same_octets 16 a b ≡ (four 0 && (four 12 && four 4 && four 8))
      long = sym same_all ∙ reorder (four 0) (four 4) (four 8) (four 12)

      by_size : (t : Bool) → eqb (address_size kind) 4 ≡ t
          → (four 0 && (t || (four 12 && four 4 && four 8))) ≡ same_octets (address_size kind) a b
      by_size true t = and-true (four 0) ∙ same_first ∙ ap (λ (n : ℕ). same_octets n a b) (sym (eqb-true _ _ t))
      by_size false t = sym (ap (λ (n : ℕ). same_octets n a b) (address_either kind (eqb-false _ _ t)) ∙ long)
