-- The largest body that passes the check of types 16 and 17.
use Prim.Native.Nat.{ℕ, zero, suc, ◌+◌, ◌*◌, ◌≤◌}
use mathlib.Core.Path.{◌≡◌, refl}
use mathlib.Core.Bool.{Bool, true, false, ◌&&◌, not, cond, and-eq-true_iff}
use mathlib.Core.List.{List, [], ◌∷◌, ◌++◌}
use native.Mathlib.Omega.{arith}
use lib.ListN.{length, get_or, drop, length-drop, replicate}
use lib.Dec.{eqb, leb}
use borrow.Author.Tests.{leb-true, eqb-true}
use Rattle.octets.specs.Octets.{be_at, ones, Octets}
use Rattle.octets_address.specs.Address.{address_size}
use Rattle.octets_address.proofs.Addresses.{address_le, nonzero_some, nonzero_none}
use Rattle.walk_checks.specs.Within.{within}
use Rattle.walk_checks.specs.Message.{message_bounds, message}
use Rattle.walk_checks.specs.declared.Bounds.{Bounds}
use Rattle.walk_checks.specs.Bgp4mp.{as_sizes, as_size, state_change, tail, envelope, bgp4mp}

-- the second of two tests that both hold
second : (a b : Bool) → (a && b) ≡ true → b ≡ true
second a b h = ((and-eq-true_iff a b).0 h).1

first : (a b : Bool) → (a && b) ≡ true → a ≡ true
first a b h = ((and-eq-true_iff a b).0 h).0

-- a length within bounds is at most the upper one, whatever they are
within_most : (b : Bounds) (n : ℕ) → within b n ≡ true → n ≤ b.high
within_most b n h = leb-true n b.high (second (leb b.low n) (leb n b.high) h)

-- whichever of two bounds a test chooses
either_most : {m : ℕ} (t : Bool) (x y : Bounds) → x.high ≤ m → y.high ≤ m → (cond t x y).high ≤ m
either_most true x y l k = l
either_most false x y l k = k

-- a message that passes is no longer than its type may be
message_most : (l : List ℕ) → message l ≡ true → length l ≤ (message_bounds (get_or l 18 0)).high
unfolding message
message_most l h =
    let n : ℕ = be_at l 16 2 in
    let b : Bounds = message_bounds (get_or l 18 0) in
    let marked : Bool = leb 19 (length l) && ones l 0 16 in
    let filled : Bool = eqb n (length l) in
    let w = within_most b n (second (marked && filled) (within b n) h) in
    let e = eqb-true n (length l) (second marked filled (first (marked && filled) (within b n) h)) in
    omega arith

-- every element of a list is at most m
up_to : ℕ → List ℕ → Bool
up_to m [] = true
up_to m (x ∷ l) = leb x m && up_to m l

get_or_most : (m : ℕ) (l : List ℕ) (i : ℕ) → up_to m l ≡ true → get_or l i 0 ≤ m
unfolding up_to
get_or_most m [] i h = omega arith
get_or_most m (x ∷ l) zero h = leb-true x m (first (leb x m) (up_to m l) h)
get_or_most m (x ∷ l) (suc i) h = get_or_most m l i (second (leb x m) (up_to m l) h)

pub as_most : (u : ℕ) → as_size u ≤ 4
unfolding as_size as_sizes up_to
as_most u = get_or_most 4 as_sizes u refl

-- the octets of an AS number and of an address: how many they are at most, and that none are 0
pub ruleset sizes = (as_most, address_le, nonzero_some, nonzero_none)

-- whatever the bounds of a message are, as long as none is above m
module _ (m : ℕ) (states : 4 ≤ m) (most : (t : ℕ) → (message_bounds t).high ≤ m) where
  tail_most : (u : ℕ) (l : List ℕ) → tail u l ≡ true → length l ≤ m
  unfolding tail
  tail_most u l = by_test (state_change u)
    where
      by_test : (t : Bool) → cond t (eqb (length l) 4) (message l) ≡ true → length l ≤ m
      by_test true h = let e = eqb-true (length l) 4 h in omega arith
      by_test false h = let p = message_most l h in let q = most (get_or l 18 0) in omega arith

  -- two AS numbers of 4, 4 octets, two addresses of 16, and a message
  body_most : (u : ℕ) (b : List ℕ) → bgp4mp u b ≡ 0 → length b ≤ 44 + m
  unfolding bgp4mp envelope
  body_most u b = by_tests (eqb (as_size u) 0) (leb (2 * as_size u + 4) (length b) && envelope (as_size u) x u b) refl
    where
      x : ℕ
      x = address_size (be_at b (2 * as_size u + 2) 2)

      by_tests : (t e : Bool) → (leb (2 * as_size u + 4) (length b) && envelope (as_size u) x u b) ≡ e
          → ◌≡◌ {A = ℕ} (cond t 6 (cond e 0 7)) 0 → length b ≤ 44 + m
      by_tests true e h z = absurd (omega arith)
      by_tests false false h z = absurd (omega arith)
      by_tests false true h z =
          let at : ℕ = 2 * as_size u + 4 + 2 * x in
          let fits : Bool = not (eqb x 0) && leb at (length b) in
          let i = second (leb (2 * as_size u + 4) (length b)) (fits && tail u (drop at b)) h in
          let l = tail_most u (drop at b) (second fits (tail u (drop at b)) i) in
          let d = length-drop at b in
          let p = as_most u in
          let q = address_le (be_at b (2 * as_size u + 2) 2) in
          omega arith

-- no type of message may be longer
message-high : (t : ℕ) → (message_bounds t).high ≤ 65535
unfolding message_bounds
message-high t =
    either_most (eqb t 1) _ _ (omega arith)
    (either_most (eqb t 2) _ _ (omega arith)
    (either_most (eqb t 3) _ _ (omega arith) (either_most (eqb t 4) _ _ (omega arith) (omega arith))))

-- THEOREM. No body of types 16 and 17 that passes has more than 65,579 octets: 44, and a message of 65,535.
pub bgp4mp_most : (u : ℕ) (b : List ℕ) → bgp4mp u b ≡ 0 → length b ≤ 65579
bgp4mp_most = body_most 65535 (omega arith) message-high

-- the largest body: subtype 4 with IPv6 addresses and an UPDATE of 65,535 octets
pub largest : List ℕ
largest = replicate 11 0 ++ (2 ∷ []) ++ replicate 32 0 ++ replicate 18 255 ++ (2 ∷ []) ++ replicate 65516 0

-- THEOREM. A body of 65,579 octets passes.
pub largest_passes : Octets largest × (length largest ≡ 65579) × (bgp4mp 4 largest ≡ 0)
unfolding largest up_to bgp4mp as_size as_sizes envelope address_size tail state_change message message_bounds be_at ones
largest_passes = (λ i. let h = get_or_most 255 largest i refl in omega arith, refl, refl)
