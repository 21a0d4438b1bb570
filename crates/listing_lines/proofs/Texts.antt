-- Texts written one after the other, from their parts to a line.
use Prim.Native.Nat.{ℕ, zero, suc, ◌+◌, ◌*◌, ◌/◌, ◌%◌, ◌^◌, ◌<◌, ◌≤◌}
use mathlib.Core.Path.{◌≡◌, refl, sym, ◌∙◌, ap}
use mathlib.Core.Bool.{Bool, true, false, cond}
use mathlib.Core.List.{List, [], ◌∷◌, ◌++◌}
use native.Mathlib.Nat.{pow-suc, div-lt_iff_lt-mul, add_assoc}
use native.Mathlib.Numerals.{add-one}
use native.Mathlib.Omega.{arith}
use lib.Dec.{ltb}
use lib.ListN.{length, get_or, drop, length-append, drop_of_length-le}
use lib.Seq.{drop-cons}
use borrow.Author.Tests.{lt-ltb, le-ltb, ltb-true, ltb-false}
use Rattle.octets.specs.Octets.{patch}
use Rattle.octets.proofs.Stores.{patch_run}
use Rattle.listing_lines.specs.Listing.{wrote, decimal, field, rest, fields}

-- a text, and a second one straight after it
pub wrote_run : (s : List ℕ) (at : ℕ) (xs ys : List ℕ) {t : List ℕ} {e : ℕ} → (t, e) ≡ wrote s at xs → wrote t e ys ≡ wrote s at (xs ++ ys)
unfolding wrote
wrote_run s at xs ys p =
    ap (λ (q : List ℕ × ℕ). (patch q.0 q.1 ys, q.1 + length ys)) p
    ∙ rw (patch_run xs ys s at, length-append xs ys, add_assoc at (length xs) (length ys))

-- no text leaves all as it is
pub wrote_none : (s : List ℕ) (at : ℕ) → wrote s at [] ≡ (s, at)
unfolding wrote patch
wrote_none s at = let z : at + 0 ≡ at = omega arith in rw z

-- one octet
pub wrote_octet : (s : List ℕ) (at v : ℕ) {t : List ℕ} → t ≡ patch s at (v ∷ []) → (t, at + 1) ≡ wrote s at (v ∷ [])
unfolding wrote
wrote_octet s at v p = rw p

-- where a text ends
pub wrote-end : (s : List ℕ) (at : ℕ) (xs : List ℕ) {t : List ℕ} {e : ℕ} → (t, e) ≡ wrote s at xs → e ≡ at + length xs
unfolding wrote
wrote-end s at xs p = ap (λ (q : List ℕ × ℕ). q.1) p

pub wrote-le : (s : List ℕ) (at : ℕ) (xs : List ℕ) (k : ℕ) {t : List ℕ} {e : ℕ} → length xs ≤ k → (t, e) ≡ wrote s at xs → e ≤ at + k
wrote-le s at xs k h p = let q = wrote-end s at xs p in omega arith

decimal_small : (k v : ℕ) → v < 10 → decimal (suc k) v ≡ (48 + v) ∷ []
unfolding decimal
decimal_small k v h = rw (lt-ltb v 10 h)

decimal_large : (k v : ℕ) → 10 ≤ v → decimal (suc k) v ≡ decimal k (v / 10) ++ ((48 + v % 10) ∷ [])
unfolding decimal
decimal_large k v h = rw (le-ltb v 10 h)

pub length-decimal-le : (k v : ℕ) → length (decimal k v) ≤ k
unfolding decimal
length-decimal-le zero v = omega arith
length-decimal-le (suc k) v = by_test (ltb v 10) (length-decimal-le k (v / 10))
  where
    by_test : (t : Bool) → length (decimal k (v / 10)) ≤ k
        → length (cond t ((48 + v) ∷ []) (decimal k (v / 10) ++ ((48 + v % 10) ∷ []))) ≤ suc k
    by_test true h = omega arith
    by_test false h = simp length-append (omega arith)

-- digits that are enough stay the same where there may be more
decimal_enough : (k v : ℕ) → v < 10 ^ suc k → decimal (suc (suc k)) v ≡ decimal (suc k) v
decimal_enough zero v h = decimal_small 1 v (omega arith) ∙ sym (decimal_small 0 v (omega arith))
decimal_enough (suc k) v h = by_test (ltb v 10) refl (decimal_enough k (v / 10))
  where
    by_test : (t : Bool) → ltb v 10 ≡ t → (v / 10 < 10 ^ suc k → decimal (suc (suc k)) (v / 10) ≡ decimal (suc k) (v / 10))
        → decimal (suc (suc (suc k))) v ≡ decimal (suc (suc k)) v
    by_test true e r = let l = ltb-true _ _ e in decimal_small (suc (suc k)) v l ∙ sym (decimal_small (suc k) v l)
    by_test false e r =
        let l = ltb-false _ _ e in
        let d : v / 10 < 10 ^ suc k = (div-lt_iff_lt-mul {k = 10} {x = v} {y = 10 ^ suc k} (omega arith)).1 (rw pow-suc at h) in
        decimal_large (suc (suc k)) v l ∙ rw (r d) (sym (decimal_large (suc k) v l))

module _ (s : List ℕ) (at v : ℕ) where
  pub decimal-first : {t : List ℕ} {e : ℕ} → v < 10 → (t, e) ≡ wrote s at ((48 + v) ∷ []) → (t, e) ≡ wrote s at (decimal 20 v)
  decimal-first h p = p ∙ ap (wrote s at) (sym (decimal_small 19 v h))

  module _ (h : 10 ≤ v) (f : v < 18446744073709551616) where
    before : decimal 20 (v / 10) ≡ decimal 19 (v / 10)
    before = decimal_enough 18 (v / 10) (omega arith)

    pub decimal_before_lt : {t : List ℕ} {e : ℕ} → (t, e) ≡ wrote s at (decimal 20 (v / 10)) → e < at + 20
    decimal_before_lt p = omega (arith, wrote-end s at _ p, ap length before, length-decimal-le 19 (v / 10))

    pub decimal-next : {t u : List ℕ} {d e : ℕ} → (t, d) ≡ wrote s at (decimal 20 (v / 10)) → (u, e) ≡ wrote t d ((48 + v % 10) ∷ [])
        → (u, e) ≡ wrote s at (decimal 20 v)
    decimal-next p q = q ∙ wrote_run s at _ _ p ∙ ap (wrote s at) (rw before (sym (decimal_large 19 v h)))

  pub field-done : {t u : List ℕ} {d e : ℕ} → (t, d) ≡ wrote s at (9 ∷ []) → (u, e) ≡ wrote t d (decimal 20 v)
      → (u, e) ≡ wrote s at (field v)
  unfolding field
  field-done p q = q ∙ wrote_run s at (9 ∷ []) (decimal 20 v) p

pub length-field-le : (v : ℕ) → length (field v) ≤ 21
unfolding field
length-field-le v = omega (arith, length-decimal-le 20 v)

pub length-rest-le : (vs : List ℕ) → length (rest vs) ≤ 1 + 21 * length vs
unfolding rest
length-rest-le [] = omega arith
length-rest-le (v ∷ vs) = simp length-append (omega (arith, length-field-le v, length-rest-le vs))

pub length-fields-le : (letter : ℕ) (vs : List ℕ) → length (fields letter vs) ≤ 2 + 21 * length vs
unfolding fields
length-fields-le letter vs = omega (arith, length-rest-le vs)

-- the fields of a line from the i-th on: one of them is written, and none is left
module _ (vs : List ℕ) (i : ℕ) where
  pub rest-next : (s : List ℕ) (at : ℕ) {t : List ℕ} {e : ℕ} → i < length vs → (t, e) ≡ wrote s at (field (get_or vs i 0))
      → wrote t e (rest (drop (i + 1) vs)) ≡ wrote s at (rest (drop i vs))
  unfolding rest
  rest-next s at h p = wrote_run s at _ (rest (drop (i + 1) vs)) p ∙ rw (add-one, drop-cons vs i 0 h)

  pub rest-done : (s : List ℕ) (at : ℕ) {t : List ℕ} {e : ℕ} → length vs ≤ i → (t, e) ≡ wrote s at (10 ∷ [])
      → (t, e) ≡ wrote s at (rest (drop i vs))
  unfolding rest
  rest-done s at h p = rw (drop_of_length-le vs h) p

-- a line: its letter, and the rest
pub fields-done : (s : List ℕ) (at letter : ℕ) (vs : List ℕ) {t : List ℕ} {e : ℕ} → (t, e) ≡ wrote s at (letter ∷ [])
    → wrote t e (rest vs) ≡ wrote s at (fields letter vs)
unfolding fields
fields-done s at letter vs p = wrote_run s at (letter ∷ []) (rest vs) p
