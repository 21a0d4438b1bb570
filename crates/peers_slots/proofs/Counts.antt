-- The count, right or wrong, and how many slots are in use.
use Prim.Native.Nat.{ℕ, ◌<◌, ◌≤◌}
use mathlib.Core.Path.{◌≡◌, refl, sym, ◌∙◌}
use mathlib.Core.Bool.{Bool, true, false, true≢false}
use native.Mathlib.Omega.{arith}
use borrow.Author.Tests.{lt-ltb, le-ltb, ltb-true, ltb-false}
use lib.Dec.{ltb}
use Rattle.peers_slots.specs.Used.{wrong_count, in_use}

module _ (slots count : ℕ) where
  pub wrong_slots : slots < count → wrong_count slots count ≡ true
  unfolding wrong_count
  wrong_slots h = simp (lt-ltb _ _ h)

  pub by_large : count ≤ slots → wrong_count slots count ≡ ltb 65535 count
  unfolding wrong_count
  by_large h = simp (le-ltb _ _ h)

  pub right : count ≤ slots → count ≤ 65535 → wrong_count slots count ≡ false
  right h k = by_large h ∙ le-ltb _ _ k

  pub unused : wrong_count slots count ≡ true → 0 ≡ in_use slots count
  unfolding in_use
  unused w = simp w

  pub all_used : wrong_count slots count ≡ false → count ≡ in_use slots count
  unfolding in_use
  all_used w = simp w

-- both cases
module _ (slots count : ℕ) where
  pub used-either : {P : Type 0} → (wrong_count slots count ≡ true → in_use slots count ≡ 0 → P)
      → (wrong_count slots count ≡ false → in_use slots count ≡ count → count ≤ slots → count ≤ 65535 → P) → P
  used-either {P} f g = by_slots (ltb slots count) refl
    where
      wrong : wrong_count slots count ≡ true → P
      wrong w = f w (sym (unused slots count w))

      enough : count ≤ slots → (t : Bool) → ltb 65535 count ≡ t → P
      enough h true e = wrong (by_large slots count h ∙ e)
      enough h false e = let w : wrong_count slots count ≡ false = by_large slots count h ∙ e in
          g w (sym (all_used slots count w)) h (ltb-false _ _ e)

      by_slots : (t : Bool) → ltb slots count ≡ t → P
      by_slots true e = wrong (wrong_slots slots count (ltb-true _ _ e))
      by_slots false e = enough (ltb-false _ _ e) (ltb 65535 count) refl

  pub is_right : wrong_count slots count ≡ false → (count ≤ slots) × (count ≤ 65535)
  is_right r = used-either (λ w z. absurd (true≢false (sym w ∙ r))) (λ w z h k. (h, k))

  pub used_le : {m : ℕ} → m ≡ in_use slots count → m ≤ slots
  used_le e = used-either (λ w z. omega arith) (λ w z h k. omega arith)

  pub used_small : {m : ℕ} → m ≡ in_use slots count → m ≤ 65535
  used_small e = used-either (λ w z. omega arith) (λ w z h k. omega arith)
