-- The modular fact, over the width: how far a number of w bits lies after another, and what is told of it.
use Rattle.std.proofs.Common.{◌≡◌, ℕ, ◌+◌, ◌-◌, ◌%◌, ◌^◌, ◌<◌, ◌≤◌, Bool, true, false, leb, ◌↔◌, List, [], ◌∷◌, get_or, sym, refl, ap}
use Rattle.std.proofs.Common.{◌∙◌, mod-eq_of_lt, arith, eq-eqb, ne_eqb, leb-false, leb-true}
use native.Mathlib.Nat.{mod-eq-sub-mod}
use Rattle.walk_missing.specs.Turned.{width, apart, shown, since}

-- a sum that does not turn over, and one that does
module _ (n e x : ℕ) where
  sum_below : e + x < n → (e + x) % n ≡ e + x
  sum_below h = mod-eq_of_lt h

  sum_beyond : e < n → x ≤ n → n ≤ e + x → (e + x) % n ≡ e + x - n
  sum_beyond he hx h = mod-eq-sub-mod h ∙ mod-eq_of_lt (omega arith)

-- two numbers below n, the earlier e and the later l
module _ (n e l : ℕ) (he : e < n) (hl : l < n) where
  up : e ≤ l → (n + l - e) % n ≡ l - e
  up h = let q : n + l - e - n ≡ l - e = omega arith in mod-eq-sub-mod (omega arith) ∙ rw q (mod-eq_of_lt (omega arith))

  down : l < e → (n + l - e) % n ≡ n + l - e
  down h = mod-eq_of_lt (omega arith)

  below : (n + l - e) % n < n
  below = by_test (leb e l) refl
    where
      by_test : (t : Bool) → leb e l ≡ t → (n + l - e) % n < n
      by_test true t = let h : e ≤ l = leb-true _ _ t in let u = up h in omega arith
      by_test false t = let h : l < e = leb-false _ _ t in let u = down h in omega arith

  only : (x : ℕ) → x < n → (e + x) % n ≡ l → x ≡ (n + l - e) % n
  only x hx q = by_test (leb n (e + x)) refl
    where
      by_test : (t : Bool) → leb n (e + x) ≡ t → x ≡ (n + l - e) % n
      by_test true t =
          let h : n ≤ e + x = leb-true _ _ t in
          let z = sym (sum_beyond n e x he (omega arith) h) ∙ q in
          let u = down (omega arith) in
          omega arith
      by_test false t =
          let h : e + x < n = leb-false _ _ t in
          let z = sym (sum_below n e x h) ∙ q in
          let u = up (omega arith) in
          omega arith

  back : (e + (n + l - e) % n) % n ≡ l
  back = by_test (leb e l) refl
    where
      by_test : (t : Bool) → leb e l ≡ t → (e + (n + l - e) % n) % n ≡ l
      by_test true t =
          let h : e ≤ l = leb-true _ _ t in
          let s : e + (l - e) ≡ l = omega arith in
          rw (up h, s) (mod-eq_of_lt hl)
      by_test false t =
          let h : l < e = leb-false _ _ t in
          rw (down h) (sum_beyond n e (n + l - e) he (omega arith) (omega arith) ∙ omega arith)

-- m numbers lie between e and l: from e it is m + 1 steps to l, turned over at 2^w
abbrev pub Between : ℕ → ℕ → ℕ → ℕ → Type 0
Between w e l m = (m < 2 ^ w) × ((e + (m + 1)) % 2 ^ w ≡ l)

module _ (w e l : ℕ) (he : e < 2 ^ w) (hl : l < 2 ^ w) where
  -- the difference is the only number of w bits that leads from e to l
  pub apart_only : (x : ℕ) → x < 2 ^ w → (x + e) % 2 ^ w ≡ l → x ≡ apart w e l
  unfolding apart
  apart_only x hx q = let c : x + e ≡ e + x = omega arith in only (2 ^ w) e l he hl x hx (rw c at q)

  apart-lt : apart w e l < 2 ^ w
  unfolding apart
  apart-lt = below (2 ^ w) e l he hl

  apart_back : (e + apart w e l) % 2 ^ w ≡ l
  unfolding apart
  apart_back = back (2 ^ w) e l he hl

  apart_same : e ≡ l → apart w e l ≡ 0
  apart_same q = let z : 0 + e ≡ e = omega arith in sym (apart_only 0 (omega arith) (rw z (mod-eq_of_lt he ∙ q)))

  apart_other : (e ≡ l → ⊥) → apart w e l ≡ 0 → ⊥
  apart_other n z = let s : e + 0 ≡ e = omega arith in n (sym (mod-eq_of_lt he) ∙ (rw (z, s) at apart_back))

  -- 2^w - 1 numbers lie between a number and itself
  all_between : (m : ℕ) → m + 1 ≡ 2 ^ w → Between w e l m → e ≡ l
  all_between m s b =
      let q : e + (m + 1) - 2 ^ w ≡ e = omega arith in
      sym (mod-eq_of_lt he) ∙ ap (λ (x : ℕ). x % 2 ^ w) (sym q) ∙ sym (mod-eq-sub-mod (omega arith)) ∙ b.1

  less_between : (m : ℕ) → m + 1 < 2 ^ w → Between w e l m → m + 1 ≡ apart w e l
  less_between m s b = let c : m + 1 + e ≡ e + (m + 1) = omega arith in apart_only (m + 1) s (rw c b.1)

  -- THEOREM. Of two numbers of w bits that differ, the number of rows that is told is the only m below 2^w with e + m + 1 = l,
  -- turned over at 2^w.
  pub rows_only : (e ≡ l → ⊥) → (m : ℕ) → Between w e l m ↔ (since w true e l ≡ m ∷ 0 ∷ [])
  unfolding since shown
  rows_only n m = (λ b. by_room (leb (2 ^ w) (m + 1)) refl b, told)
    where
      shows : shown (apart w e l) ≡ (apart w e l - 1) ∷ 0 ∷ []
      shows = rw (ne_eqb (apart w e l) 0 (apart_other n))

      by_room : (t : Bool) → leb (2 ^ w) (m + 1) ≡ t → Between w e l m → shown (apart w e l) ≡ m ∷ 0 ∷ []
      by_room true t b = let h : 2 ^ w ≤ m + 1 = leb-true _ _ t in let k = b.0 in absurd (n (all_between m (omega arith) b))
      by_room false t b =
          let h : m + 1 < 2 ^ w = leb-false _ _ t in
          let k = less_between m h b in
          let i : apart w e l - 1 ≡ m = omega arith in
          shows ∙ ap (λ (x : ℕ). x ∷ 0 ∷ []) i

      told : shown (apart w e l) ≡ m ∷ 0 ∷ [] → Between w e l m
      told q =
          let i : apart w e l - 1 ≡ m = ap (λ (l : List ℕ). get_or l 0 0) (sym shows ∙ q) in
          let d = apart_other n in
          let k : m + 1 ≡ apart w e l = omega arith in
          let h = apart-lt in
          (omega arith, rw k apart_back)

  -- THEOREM. Of one that comes again a repeat is told, where that m would be 2^w - 1.
  pub repeat_only : e ≡ l → (since w true e l ≡ 0 ∷ 1 ∷ []) × ((m : ℕ) → Between w e l m ↔ (m + 1 ≡ 2 ^ w))
  unfolding since shown
  repeat_only q = (rw (eq-eqb (apart w e l) 0 (apart_same q)), λ m. (by_room m (leb (2 ^ w) (m + 1)) refl, all m))
    where
      by_room : (m : ℕ) (t : Bool) → leb (2 ^ w) (m + 1) ≡ t → Between w e l m → m + 1 ≡ 2 ^ w
      by_room m true t b = let h : 2 ^ w ≤ m + 1 = leb-true _ _ t in let k = b.0 in omega arith
      by_room m false t b =
          let h : m + 1 < 2 ^ w = leb-false _ _ t in
          let k = less_between m h b in
          let z = apart_same q in
          omega arith

      all : (m : ℕ) → m + 1 ≡ 2 ^ w → Between w e l m
      all m s = let r : e + 2 ^ w - 2 ^ w ≡ e = omega arith in
          (omega arith, rw s (mod-eq-sub-mod (omega arith) ∙ rw r (mod-eq_of_lt he ∙ q)))

-- the difference as code takes it leads to the later number: the earlier one is taken from 2^w first, so that nothing is taken from less
pub less-back : (w e l : ℕ) → e < 2 ^ w → l < 2 ^ w → ((l + (2 ^ w - e)) % 2 ^ w + e) % 2 ^ w ≡ l
less-back w e l he hl =
    let q : l + (2 ^ w - e) ≡ 2 ^ w + l - e = omega arith in
    let c : (2 ^ w + l - e) % 2 ^ w + e ≡ e + (2 ^ w + l - e) % 2 ^ w = omega arith in
    rw (q, c) (back (2 ^ w) e l he hl)

-- a counter whose width is known to be that of b
module _ (narrow b : Bool) (f : narrow ≡ b) where
  pub wrapped : (e l x : ℕ) → e < 2 ^ width narrow → l < 2 ^ width narrow → x < 2 ^ width b → (x + e) % 2 ^ width b ≡ l
      → x ≡ apart (width narrow) e l
  wrapped e l x he hl hx q = apart_only (width narrow) e l he hl x (rw f hx) (rw f q)
