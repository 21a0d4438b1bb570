-- What is left in the places lent for values, and what is returned.
use Prim.Native.Nat.{ℕ, ◌+◌, ◌-◌, ◌<◌, ◌≤◌, min}
use mathlib.Core.Path.{◌≡◌, refl, sym, ◌∙◌, ap}
use mathlib.Core.List.{List, ◌++◌}
use lib.ListN.{length, take, drop, get_or, set}
use native.Mathlib.Nat.{zero-add}
use lib.Seq.{length-take-le}
use native.Mathlib.Nat.{le_of_eq}
use native.Mathlib.Omega.{arith}
use borrow.Author.Tests.{le-leb, lt-leb, ne_eqb}
use Rattle.answer.specs.Refusal.{number_of}
use Rattle.answer.specs.declared.Refusal.{Refusal}
use Rattle.answer.proofs.Refusals.{number-not-zero}
use Rattle.octets.specs.Octets.{patch}
use Rattle.octets.proofs.Stores.{patch_front, copy_done, copy_turn}
use Rattle.mrt_lent.specs.Export.{exported}

-- values copied to the front, as many as there is room for
pub front_stored : (s src : List ℕ) {m : ℕ} {t : List ℕ} → m ≡ min (length src) (length s) → t ≡ take m src
    → t ++ drop m s ≡ patch s 0 src
front_stored s src {m} {t} e h =
    let l : length (take m src) ≡ m = length-take-le m src (omega arith) in
    let room : length (take m src) ≤ length s = rw l (omega arith) in
    let u : take m src ++ drop m s ≡ patch s 0 (take m src) = rw (patch_front s (take m src) room, l) refl in
    let z : m ≡ min (length s - 0) (length src) = omega arith in
    rw h (copy_done s src 0 (le_of_eq refl) (le_of_eq refl) z u)

-- one turn of a copy to the front
pub front_turn : (s src : List ℕ) (i : ℕ) {t : List ℕ} → i < length src → t ≡ patch s 0 (take i src)
    → set t i (get_or src i 0) ≡ patch s 0 (take (i + 1) src)
front_turn s src i {t} h e = ap (λ (k : ℕ). set t k (get_or src i 0)) (sym (zero-add i)) ∙ copy_turn s src 0 i h e

module _ (out vs : List ℕ) where
  -- too few places
  pub export_full : length out < length vs → (out, 9) ≡ exported out 0 vs
  unfolding exported
  export_full h = simp (lt-leb _ _ h)

  -- the values are stored
  pub export_stored : length vs ≤ length out → {t : List ℕ} → t ≡ patch out 0 vs → (t, 0) ≡ exported out 0 vs
  unfolding exported
  export_stored h e = simp (le-leb _ _ h, e)

  -- a refusal leaves the places
  pub export_refused : (r : Refusal) {n : ℕ} → n ≡ number_of r → (out, n) ≡ exported out (number_of r) vs
  unfolding exported
  export_refused r e = simp (ne_eqb (number_of r) 0 (number-not-zero r), e)

-- an answer of the type A is set out as an H, which has a number and values
module _ {A H : Type 0} (set_out : A → H) (number : H → ℕ) (values : H → List ℕ) (out : List ℕ) {a : A} {h : H} where
  -- a refusal, by the constructor that holds it
  pub refuses : (refused : Refusal → A) → ((r : Refusal) → number (set_out (refused r)) ≡ number_of r) → {r : Refusal} {n : ℕ}
      → a ≡ refused r → set_out a ≡ h → n ≡ number_of r → (out, n) ≡ exported out (number h) (values h)
  refuses refused says {r} given e returned =
      export_refused out (values (set_out (refused r))) r returned
      ∙ ap (λ (n : ℕ). exported out n (values (set_out (refused r)))) (sym (says r))
      ∙ ap (λ (x : H). exported out (number x) (values x)) (sym (ap set_out given) ∙ e)

  -- values that are handed out
  pub hands : {b : A} {x : List ℕ × ℕ} {ws : List ℕ} → x ≡ exported out 0 ws → a ≡ b → set_out a ≡ h → number (set_out b) ≡ 0
      → ws ≡ values (set_out b) → x ≡ exported out (number h) (values h)
  hands {b} left given e none same =
      left
      ∙ ap (exported out 0) same
      ∙ ap (λ (n : ℕ). exported out n (values (set_out b))) (sym none)
      ∙ ap (λ (x : H). exported out (number x) (values x)) (sym (ap set_out given) ∙ e)
