-- The bound of 65,599 on a candidate never decides.
use Prim.Native.Nat.{ℕ, ◌<◌, ◌≤◌}
use mathlib.Core.Path.{◌≡◌, refl, sym, ◌∙◌}
use mathlib.Core.Bool.{Bool, true, false, ◌||◌, true≢false}
use mathlib.Core.List.{List}
use native.Mathlib.Omega.{arith}
use lib.ListN.{length}
use lib.Dec.{eqb}
use borrow.Author.Tests.{eqb-true}
use Rattle.walk_checks.proofs.Largest.{bgp4mp_most, largest, largest_passes}
use Rattle.walk_judge.specs.Body.{check}
use Rattle.walk_judge.proofs.Bodies.{check-message}
use Rattle.walk_candidate.specs.Candidate.{taken_up}

-- THEOREM. A record of a type that a scan takes up on, whose body passes its check, has a stored length of at most 65,579: the bound
-- of 65,599 that a candidate is held to never decides.
pub bound_never_decides : (k u n : ℕ) (b : List ℕ) → length b ≡ n → taken_up k ≡ true → check k u n b ≡ 0 → n ≤ 65579
unfolding taken_up
bound_never_decides k u n b l h c = by_type (eqb k 16) (eqb k 17) refl refl h
  where
    message : 16 ≤ k → k < 18 → n ≤ 65579
    message i j = let m = bgp4mp_most u b (check-message u b k n i j ∙ c) in omega arith

    by_type : (t v : Bool) → eqb k 16 ≡ t → eqb k 17 ≡ v → (t || v) ≡ true → n ≤ 65579
    by_type true v p q z = let e = eqb-true k 16 p in message (omega arith) (omega arith)
    by_type false true p q z = let e = eqb-true k 17 q in message (omega arith) (omega arith)
    by_type false false p q z = absurd (true≢false (sym z))

-- THEOREM. A record of type 16 with a body of 65,579 octets passes its check: no smaller bound would do.
pub bound_reached : (length largest ≡ 65579) × (check 16 4 65579 largest ≡ 0)
bound_reached = (largest_passes.1, sym (check-message 4 largest 16 65579 (omega arith) (omega arith)) ∙ largest_passes.2)
