-- What a body has that passes the check, and which bodies pass.
use Prim.Native.Nat.{ℕ, ◌+◌, ◌*◌, ◌≤◌}
use mathlib.Core.Path.{◌≡◌, refl, sym, ◌∙◌}
use mathlib.Core.Bool.{Bool, true, false, true≢false}
use mathlib.Core.List.{List}
use native.Mathlib.Omega.{arith}
use lib.ListN.{length, get_or}
use lib.Dec.{eqb, leb}
use borrow.Author.Tests.{eq-eqb, ne_eqb, eqb-true, eqb-false, le-leb, leb-true}
use Rattle.octets.specs.Octets.{be_at}
use Rattle.octets_address.specs.Address.{address_size}
use Rattle.dump_layout.specs.Layout.{attributes_at}
use Rattle.dump_layout.specs.Check.{filled, check_dump}

-- what a body that is filled has
pub record Filled (x : ℕ) (s : List ℕ) : Type 0 where
  pub whole : attributes_at x + be_at s (12 + 2 * x) 2 ≡ length s
  pub bits : get_or s (4 + x) 0 ≤ 8 * x

pub filled-has : (x : ℕ) (s : List ℕ) → filled x s ≡ true → Filled x s
unfolding filled
filled-has x s e = by_length (eqb (attributes_at x + be_at s (12 + 2 * x) 2) (length s)) refl (leb (get_or s (4 + x) 0) (8 * x)) refl
  where
    by_length : (t : Bool) → eqb (attributes_at x + be_at s (12 + 2 * x) 2) (length s) ≡ t
        → (u : Bool) → leb (get_or s (4 + x) 0) (8 * x) ≡ u → Filled x s
    by_length true p true q = record { whole = eqb-true _ _ p; bits = leb-true _ _ q }
    by_length true p false q = absurd (true≢false (sym e ∙ simp (p, q)))
    by_length false p u q = absurd (true≢false (sym e ∙ simp p))

pub filled_so : (x : ℕ) (s : List ℕ) → Filled x s → filled x s ≡ true
unfolding filled
filled_so x s f = simp (eq-eqb _ _ f.whole, le-leb _ _ f.bits)

-- a body that passes is of a family and filled, and one that is so passes
module _ (s : List ℕ) (u : ℕ) where
  pub passes_so : (address_size u ≡ 0 → ⊥) → Filled (address_size u) s → check_dump s u ≡ 0
  unfolding check_dump
  passes_so z f = simp (ne_eqb (address_size u) 0 z, filled_so (address_size u) s f)

  both : check_dump s u ≡ 0 → (address_size u ≡ 0 → ⊥) × Filled (address_size u) s
  unfolding check_dump
  both = by_family (eqb (address_size u) 0) refl (filled (address_size u) s) refl
    where
      by_family : (t : Bool) → eqb (address_size u) 0 ≡ t → (f : Bool) → filled (address_size u) s ≡ f
          → check_dump s u ≡ 0 → (address_size u ≡ 0 → ⊥) × Filled (address_size u) s
      by_family true p f q = simp p (λ z. absurd (omega arith))
      by_family false p true q = λ z. (eqb-false _ _ p, filled-has (address_size u) s q)
      by_family false p false q = simp (p, q) (λ z. absurd (omega arith))

  pub passes-carried : check_dump s u ≡ 0 → address_size u ≡ 0 → ⊥
  passes-carried m = (both m).0

  pub passes-filled : check_dump s u ≡ 0 → Filled (address_size u) s
  passes-filled m = (both m).1
