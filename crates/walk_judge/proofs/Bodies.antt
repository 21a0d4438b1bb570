-- The body check by type.
use Prim.Native.Nat.{ℕ, ◌+◌, ◌*◌, ◌<◌, ◌≤◌}
use mathlib.Core.Path.{◌≡◌, refl}
use mathlib.Core.Bool.{Bool, true, false, ◌&&◌, cond, true≢false}
use mathlib.Core.Logic.{◌↔◌}
use mathlib.Core.List.{List}
use native.Mathlib.Omega.{arith}
use lib.ListN.{length}
use lib.Dec.{ltb, leb, eqb}
use borrow.Author.Tests.{eq-eqb, ne_eqb, eqb-true, eqb-false}
use Rattle.octets.specs.Octets.{be_at}
use Rattle.header.specs.Kind.{known}
use Rattle.octets_address.specs.Address.{address_size}
use Rattle.peers_table.specs.Table.{Heading, last_end, check_peers}
use Rattle.rib_head.specs.Layout.{carried as rib_carried, most_bits}
use Rattle.rib_head.specs.Head.{readable, check_rib}
use Rattle.dump_layout.specs.Check.{filled, check_dump}
use Rattle.walk_checks.specs.Within.{within, met}
use Rattle.walk_checks.specs.Legacy.{legacy_bounds, legacy}
use Rattle.walk_checks.specs.Bgp4mp.{as_size, envelope, bgp4mp}
use Rattle.walk_judge.specs.Body.{carried, table_dump_v2, check_of, check}

module _ (u : ℕ) (b : List ℕ) where
  pub dump-rib : (u ≡ 1 → ⊥) → check_rib b u ≡ table_dump_v2 u b
  unfolding table_dump_v2
  dump-rib n = simp (ne_eqb _ _ n)

  pub dump-peers : u ≡ 1 → (check_peers b).number ≡ table_dump_v2 u b
  unfolding table_dump_v2
  dump-peers e = simp (eq-eqb _ _ e)

  module _ (k n : ℕ) where
    pub check-dump : k ≡ 12 → check_dump b u ≡ check k u n b
    unfolding check check_of carried known
    check-dump e = rw e

    pub check-dump_v2 : k ≡ 13 → table_dump_v2 u b ≡ check k u n b
    unfolding check check_of carried known
    check-dump_v2 e = rw e

    check_plain : k ≡ 16 → bgp4mp u b ≡ check k u n b
    unfolding check check_of carried known
    check_plain e = rw e

    check-extended : k ≡ 17 → bgp4mp u b ≡ check k u n b
    unfolding check check_of carried known
    check-extended e = rw e

    pub check-message : 16 ≤ k → k < 18 → bgp4mp u b ≡ check k u n b
    check-message l h = by_test (eqb k 16) refl
      where
        by_test : (t : Bool) → eqb k 16 ≡ t → bgp4mp u b ≡ check k u n b
        by_test true e = check_plain (eqb-true k 16 e)
        by_test false e = let d : k ≡ 16 → ⊥ = eqb-false k 16 e in check-extended (omega arith)

-- a number that the check of a carried type may have: 0, 6 or 7
abbrev pub OfBody : ℕ → Type 0
OfBody n = (n ≡ 0 → ⊥) → (6 ≤ n) × (n ≤ 7)

either : {A : Type 0} (P : A → Type 0) (t : Bool) (x y : A) → P x → P y → P (cond t x y)
either P true x y p q = p
either P false x y p q = q

-- a check of its subtype, and then of its octets
by_subtype : (t v : Bool) → OfBody (cond t 6 (met v))
by_subtype true v z = (omega arith, omega arith)
by_subtype false true z = absurd (z refl)
by_subtype false false z = (omega arith, omega arith)

module _ (u : ℕ) (b : List ℕ) where
  legacy-number : (n : ℕ) → OfBody (legacy u n)
  unfolding legacy
  legacy-number n = by_subtype (ltb (legacy_bounds u).high (legacy_bounds u).low) (within (legacy_bounds u) n)

  dump-number : OfBody (check_dump b u)
  unfolding check_dump
  dump-number = by_subtype (eqb (address_size u) 0) (filled (address_size u) b)

  message-number : OfBody (bgp4mp u b)
  unfolding bgp4mp
  message-number =
      let x : ℕ = address_size (be_at b (2 * as_size u + 2) 2) in
      by_subtype (eqb (as_size u) 0) (leb (2 * as_size u + 4) (length b) && envelope (as_size u) x u b)

  dump_v2_number : OfBody (table_dump_v2 u b)
  unfolding table_dump_v2 check_peers check_rib
  dump_v2_number =
      either OfBody (eqb u 1) _ _
      (either (λ (h : Heading). OfBody h.number) (leb (last_end b) (length b)) _ _ (by_subtype false true) (by_subtype false false))
      (either OfBody (rib_carried u) _ _ (by_subtype false (readable (most_bits u) b)) (by_subtype true true))

  carried-number : (k n : ℕ) → OfBody (check_of k u n b)
  unfolding check_of
  carried-number k n =
      either OfBody (eqb k 5) _ _ (legacy-number n)
      (either OfBody (eqb k 12) _ _ dump-number
      (either OfBody (eqb k 13) _ _ dump_v2_number message-number))

  -- THEOREM. Of a known type the number is 5 exactly where the type is not carried.
  pub five_exactly : (k n : ℕ) → known k ≡ true → (check k u n b ≡ 5) ↔ (carried k ≡ false)
  unfolding check
  five_exactly k n e = rw e (by_type (carried k) (check_of k u n b) (carried-number k n))
    where
      by_type : (t : Bool) (m : ℕ) → OfBody m → (cond t m 5 ≡ 5) ↔ (t ≡ false)
      by_type true m c = (λ z. absurd (let w = (c (λ y. omega arith)).0 in omega arith), λ f. absurd (true≢false f))
      by_type false m c = (λ z. refl, λ f. refl)

  pub check-number : (k n : ℕ) → known k ≡ true → (check k u n b ≡ 0 → ⊥) → (5 ≤ check k u n b) × (check k u n b ≤ 7)
  unfolding check
  check-number k n e = rw e (by_type (carried k) (check_of k u n b) (carried-number k n))
    where
      by_type : (t : Bool) (m : ℕ) → OfBody m → (cond t m 5 ≡ 0 → ⊥) → (5 ≤ cond t m 5) × (cond t m 5 ≤ 7)
      by_type true m c z = let w = c z in let l = w.0 in (omega arith, w.1)
      by_type false m c z = (omega arith, omega arith)
