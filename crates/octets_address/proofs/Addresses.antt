-- Octets of an address: where they stand, copied, and held in sixteen.
use Prim.Native.Nat.{ℕ, zero, suc, ◌+◌, ◌-◌, ◌<◌, ◌≤◌}
use mathlib.Core.Path.{◌≡◌, refl, sym, ◌∙◌, ap}
use mathlib.Core.List.{List, [], ◌∷◌, ◌++◌, append_assoc, append-nil}
use mathlib.Core.Bool.{Bool, true, false, cond}
use native.Mathlib.Nat.{add-zero, add-suc, add_assoc, le_of_eq}
use native.Mathlib.Numerals.{add-one}
use native.Mathlib.Omega.{arith}
use borrow.Author.Tests.{le-leb, lt-leb, eqb-true, eqb-false}
use lib.Dec.{eqb, leb}
use lib.ListN.{length, get_or, take, drop, replicate, length-append, length-drop, length-replicate}
use lib.Seq.{take-suc, take_all, take_at, drop_at, get_or-drop}
use Rattle.std.specs.Prelude.{Some, None}
use Rattle.std.proofs.lemmas.Option.{none-some, same_Some}
use Rattle.octets.specs.Octets.{be_at, bytes_of, patch, part, Octets}
use Rattle.octets.proofs.Numbers.{bytes_of_be}
use Rattle.octets.proofs.Stores.{patch_front, stores, stores_front, length-patch}
use Rattle.octets.proofs.Parts.{be_front, drop-replicate}
use Rattle.octets_address.specs.Address.{size_of, address_size, nonzero, octets_at, address_at, address_in, put_address}

pub size-le : (long : Bool) → (4 ≤ size_of long) × (size_of long ≤ 16)
unfolding size_of
size-le true = (omega arith, omega arith)
size-le false = (omega arith, omega arith)

-- of a family that there is, an address is long where it has sixteen octets
pub family_size : (f : ℕ) {x : ℕ} → x ≡ address_size f → (x ≡ 0 → ⊥) → size_of (eqb x 16) ≡ x
unfolding size_of address_size
family_size f {x} e z = by_tests (eqb f 1) (eqb f 2) e
  where
    by_tests : (t u : Bool) → x ≡ cond t 4 (cond u 16 0) → cond (eqb x 16) 16 4 ≡ x
    by_tests true u q = rw q
    by_tests false true q = rw q
    by_tests false false q = absurd (z q)

-- what is found where there is a number, and where there is none
module _ (n : ℕ) where
  pub nonzero_some : {x : ℕ} → Some x ≡ nonzero n → (x ≡ n) × (x ≡ 0 → ⊥)
  unfolding nonzero
  nonzero_some {x} = by_test (eqb n 0) refl
    where
      by_test : (t : Bool) → eqb n 0 ≡ t → Some x ≡ cond t None (Some n) → (x ≡ n) × (x ≡ 0 → ⊥)
      by_test true z e = absurd (none-some x (sym e))
      by_test false z e =
          let same : x ≡ n = same_Some _ _ e in
          (same, λ y. eqb-false n 0 z (sym same ∙ y))

  pub nonzero_none : None ≡ nonzero n → n ≡ 0
  unfolding nonzero
  nonzero_none = by_test (eqb n 0) refl
    where
      by_test : (t : Bool) → eqb n 0 ≡ t → None ≡ cond t None (Some n) → n ≡ 0
      by_test true z e = eqb-true n 0 z
      by_test false z e = absurd (none-some n e)

pub address_le : (f : ℕ) → address_size f ≤ 16
unfolding address_size
address_le f = by_first (eqb f 1) (eqb f 2)
  where
    by_first : (t u : Bool) → cond t 4 (cond u 16 0) ≤ 16
    by_first true u = omega arith
    by_first false true = omega arith
    by_first false false = omega arith

-- the size that is found for a family
pub found_le : (f : ℕ) {x : ℕ} → Some x ≡ nonzero (address_size f) → x ≤ 16
found_le f e = rw (nonzero_some (address_size f) e).0 (address_le f)

pub ruleset found = (found_le, nonzero_some, nonzero_none)

-- of it, an address is long where it has sixteen octets
pub found_size : (f : ℕ) {x : ℕ} → Some x ≡ nonzero (address_size f) → size_of (eqb x 16) ≡ x
found_size f e = let z = nonzero_some (address_size f) e in family_size f z.0 z.1

pub size_most : (x : ℕ) → size_of (eqb x 16) ≡ x → x ≤ 16
size_most x e = omega (arith, (size-le (eqb x 16)).1)

-- ---- octets where they stand
pub length-octets : (s : List ℕ) (at n : ℕ) → length (octets_at s at n) ≡ n
unfolding octets_at
length-octets s at zero = refl
length-octets s at (suc n) = length-append (octets_at s at n) (get_or s (at + n) 0 ∷ []) ∙ ap (λ (k : ℕ). k + 1) (length-octets s at n)
    ∙ add-one n

pub octets-part : (s : List ℕ) (at n : ℕ) → at + n ≤ length s → octets_at s at n ≡ part s at n
unfolding octets_at
octets-part s at zero h = refl
octets-part s at (suc n) h =
    let e : octets_at s at n ≡ part s at n = octets-part s at n (omega arith) in
    let l : n < length (drop at s) = simp length-drop (omega arith) in
    rw (e, ← get_or-drop at s n 0) (sym (take-suc (drop at s) n 0 l))

-- octets between others
pub octets_between : (p x q : List ℕ) (n m : ℕ) → length p ≡ n → length x ≡ m → octets_at (p ++ x ++ q) n m ≡ x
octets_between p x q n m e f =
    let l : n + m ≤ length (p ++ x ++ q) = (let a = length-append (p ++ x) q in let b = length-append p x in omega arith) in
    let d : drop n (p ++ x ++ q) ≡ x ++ q = ap (drop n) (append_assoc p x q) ∙ drop_at p (x ++ q) n e in
    octets-part (p ++ x ++ q) n m l ∙ ap (take m) d ∙ take_at x q m f

-- octets of what is left after p others
pub octets-drop : (s : List ℕ) (p at n : ℕ) → octets_at (drop p s) at n ≡ octets_at s (p + at) n
unfolding octets_at
octets-drop s p at zero = refl
octets-drop s p at (suc n) = rw (octets-drop s p at n, get_or-drop p s (at + n) 0, add_assoc p at n)

octets_join : (s : List ℕ) (at n m : ℕ) → octets_at s at n ++ octets_at s (at + n) m ≡ octets_at s at (n + m)
unfolding octets_at
octets_join s at n zero = rw (add-zero, append-nil)
octets_join s at n (suc m) = rw (add-suc, ← octets_join s at n m, ← append_assoc, add_assoc at n m)

-- ---- copying: four octets as one number
pub four_stored : (s l : List ℕ) (to at : ℕ) {t : List ℕ} {v : ℕ} → Octets l → at + 4 ≤ length l
    → v ≡ be_at (part l at (at + 4 - at)) 0 4
    → t ≡ patch s to (bytes_of 4 v)
    → t ≡ patch s to (octets_at l at 4)
four_stored s l to at {t} {v} o k e f =
    let b : be_at (part l at (at + 4 - at)) 0 4 ≡ be_at l at 4 = be_front l at (at + 4) 4 (omega arith) in
    f ∙ ap (patch s to) (ap (bytes_of 4) (e ∙ b) ∙ bytes_of_be l at 4 o k ∙ sym (octets-part l at 4 k))

-- s has n octets of an address at to, and then the m after them
pub stored_join : (s l : List ℕ) (to at n m : ℕ) {t u : List ℕ} → t ≡ patch s to (octets_at l at n)
    → u ≡ patch t (to + n) (octets_at l (at + n) m)
    → u ≡ patch s to (octets_at l at (n + m))
stored_join s l to at n m e f = stores s to n (octets_at l at n) (octets_at l (at + n) m) (length-octets l at n) e f
    ∙ ap (patch s to) (octets_join l at n m)

-- ---- in sixteen octets
module _ (s : List ℕ) (at n : ℕ) where
  pub address_fits : at + n ≤ length s → address_in s at n ≡ address_at s at n
  unfolding address_in
  address_fits h = simp (le-leb _ _ h)

  pub address_none : length s < at + n → replicate 16 0 ≡ address_in s at n
  unfolding address_in
  address_none h = simp (lt-leb _ _ h)

  -- an address in the first of sixteen zeros
  pub address_read : n ≤ 16 → at + n ≤ length s → {t : List ℕ} → t ≡ patch (replicate 16 0) 0 (octets_at s at n) → t ≡ address_in s at n
  unfolding address_at
  address_read k h e =
      let x : List ℕ = octets_at s at n in
      let l : length x ≡ n = length-octets s at n in
      let m : length x ≤ 16 = omega arith in
      e ∙ patch_front (replicate 16 0) x m
      ∙ ap (λ (r : List ℕ). x ++ r) (drop-replicate (length x) 16 0 ∙ ap (λ (i : ℕ). replicate (16 - i) 0) l)
      ∙ sym (address_fits h)

  pub length_address : n ≤ 16 → length (address_at s at n) ≡ 16
  unfolding address_at
  length_address h =
      length-append (octets_at s at n) (replicate (16 - n) 0)
      ∙ rw (length-octets s at n, length-replicate {A = ℕ} (16 - n) 0) (omega arith)

  -- its own octets, out of the sixteen
  pub octets_back : octets_at (address_at s at n) 0 n ≡ octets_at s at n
  unfolding address_at
  octets_back = octets_between [] (octets_at s at n) (replicate (16 - n) 0) 0 n refl (length-octets s at n)

  -- an address that is held again
  pub address_again : address_at (address_at s at n) 0 n ≡ address_at s at n
  unfolding address_at
  address_again = ap (λ (x : List ℕ). x ++ replicate (16 - n) 0) octets_back

module _ (s : List ℕ) (at : ℕ) (address : List ℕ) (n : ℕ) where
  pub put_fits : at + n ≤ length s → put_address s at address n ≡ patch s at (octets_at address 0 n)
  unfolding put_address
  put_fits h = simp (le-leb _ _ h)

  pub put_done : at + n ≤ length s → {t : List ℕ} → t ≡ patch s at (octets_at address 0 n) → t ≡ put_address s at address n
  put_done h e = e ∙ sym (put_fits h)

  pub put_none : length s < at + n → s ≡ put_address s at address n
  unfolding put_address
  put_none h = simp (lt-leb _ _ h)

  pub length_put : length (put_address s at address n) ≡ length s
  unfolding put_address
  length_put = by_room (leb (at + n) (length s))
    where
      by_room : (t : Bool) → length (cond t (patch s at (octets_at address 0 n)) s) ≡ length s
      by_room true = length-patch s at (octets_at address 0 n)
      by_room false = refl

-- an address straight after the k octets xs at the front
pub put_front : (s : List ℕ) (k n : ℕ) (xs address : List ℕ) {t u : List ℕ} → length xs ≡ k → k + n ≤ length s → t ≡ patch s 0 xs
    → u ≡ put_address t k address n → u ≡ patch s 0 (xs ++ octets_at address 0 n)
put_front s k n xs address {t} l h p q =
    let m : length t ≡ length s = ap length p ∙ length-patch s 0 xs in
    stores_front s k xs (octets_at address 0 n) l p (q ∙ put_fits t k address n (omega arith))

-- all sixteen octets at the front
pub put_sixteen : (s address : List ℕ) → 16 ≤ length s → 16 ≡ length address → put_address s 0 address (size_of true) ≡ patch s 0 address
unfolding size_of
put_sixteen s address h e =
    put_fits s 0 address 16 (omega arith)
    ∙ ap (patch s 0) (octets-part address 0 16 (omega arith) ∙ take_all 16 address (le_of_eq (sym e)))
