-- What a lookup finds, said plainly: the highest id in use that holds the address, or that none does.
use Prim.Native.Nat.{ℕ, zero, suc, ◌%◌, ◌<◌, ◌≤◌}
use mathlib.Core.Path.{◌≡◌, refl, sym, ◌∙◌, ap}
use mathlib.Core.Logic.{◌↔◌}
use mathlib.Core.List.{List}
use mathlib.Core.Bool.{Bool, true, false, cond, true≢false}
use native.Mathlib.Omega.{arith}
use borrow.Author.Tests.{eqb-true, eqb-false, ltb-true, ltb-false}
use lib.ListN.{length, get_or}
use lib.Dec.{eqb, ltb}
use Rattle.peers_entry.specs.Peer.{nobody, key_of, same_address}
use Rattle.peers_entry.specs.declared.Peer.{Peer}
use Rattle.peers_entry.proofs.SameAddress.{HasAddress, key_plainly, key_of_lem}
use Rattle.peers_slots.specs.Used.{wrong_count}
use Rattle.peers_slots.proofs.Counts.{used-either, right}
use Rattle.peers_find.specs.Find.{Finding, found, lost, highest, look_up, find_peer}

-- the count is right, the slot id is in use and holds what is looked for, and no later slot in use does
pub record Highest (Holds : ℕ → Type 0) (slots count id : ℕ) : Type 0 where
  pub slots_enough : count ≤ slots
  pub count_small : count ≤ 65535
  pub used : id < count
  pub holds : Holds id
  pub none-later : (j : ℕ) → id < j → j < count → Holds j → ⊥

-- the count is wrong, or no slot in use holds it
abbrev pub NoneHolds : (ℕ → Type 0) → ℕ → ℕ → Type 0
NoneHolds Holds slots count = count ≤ slots → count ≤ 65535 → (j : ℕ) → j < count → Holds j → ⊥

-- what an answer says: an id that was found is the highest, and where none is, nothing holds it
pub record Exactly (Holds : ℕ → Type 0) (slots count : ℕ) (f : Finding) : Type 0 where
  pub found-highest : (id : ℕ) → (f ≡ found id) ↔ Highest Holds slots count id
  pub lost-none : (f ≡ lost 8) ↔ NoneHolds Holds slots count
  pub zero-found : f.number ≡ 0 → f ≡ found f.id
  pub other_lost : (f.number ≡ 0 → ⊥) → f ≡ lost 8

-- the same, of slots that hold it in other words
module _ {P Q : ℕ → Type 0} (same : (j : ℕ) → P j ↔ Q j) {slots count : ℕ} where
  reworded : {id : ℕ} → Highest P slots count id → Highest Q slots count id
  reworded {id} h =
      record {
        slots_enough = h.slots_enough;
        count_small = h.count_small;
        used = h.used;
        holds = (same id).0 h.holds;
        none-later = λ j l u q. h.none-later j l u ((same j).1 q);
      }

  none_reworded : NoneHolds P slots count → NoneHolds Q slots count
  none_reworded h u v j l q = h u v j l ((same j).1 q)

pub exactly_reworded : {P Q : ℕ → Type 0} → ((j : ℕ) → P j ↔ Q j) → {slots count : ℕ} {f : Finding}
    → Exactly P slots count f → Exactly Q slots count f
exactly_reworded {P} {Q} same e =
    let back : (j : ℕ) → Q j ↔ P j = λ j. ((same j).1, (same j).0) in
    record {
      found-highest = λ id. (λ q. reworded same ((e.found-highest id).0 q), λ h. (e.found-highest id).1 (reworded back h));
      lost-none = (λ q. none_reworded same (e.lost-none.0 q), λ h. e.lost-none.1 (none_reworded back h));
      zero-found = e.zero-found;
      other_lost = e.other_lost;
    }

module _ (l : List Peer) (key : Peer) where
  -- the slot j holds the key's address
  abbrev Holds : ℕ → Type 0
  Holds j = same_address (get_or l j nobody) key ≡ true

  -- of the first n slots
  data Sought (n : ℕ) : Finding → Type 0 where
    there : (id : ℕ) → id < n → Holds id → ((j : ℕ) → id < j → j < n → Holds j → ⊥) → Sought n (found id)
    nowhere : ((j : ℕ) → j < n → Holds j → ⊥) → Sought n (lost 8)

  sought : (n : ℕ) → Sought n (highest key l n)
  unfolding highest
  sought zero = nowhere (λ j h t. omega arith)
  sought (suc n) = by_test (same_address (get_or l n nobody) key) refl (highest key l n) (sought n)
    where
      later : same_address (get_or l n nobody) key ≡ false → (j : ℕ) → (j < n → Holds j → ⊥) → j < suc n → Holds j → ⊥
      later e j f h t = by_last (eqb j n) refl
        where
          by_last : (b : Bool) → eqb j n ≡ b → ⊥
          by_last true b = let q : j ≡ n = eqb-true j n b in true≢false (sym (rw q at t) ∙ e)
          by_last false b = let q : j ≡ n → ⊥ = eqb-false j n b in f (omega arith) t

      by_test : (b : Bool) → same_address (get_or l n nobody) key ≡ b → (f : Finding) → Sought n f → Sought (suc n) (cond b (found n) f)
      by_test true e f s = there n (omega arith) e (λ j h k t. omega arith)
      by_test false e f (there id h t g) = there id (omega arith) t (λ j m k. later e j (g j m) k)
      by_test false e f (nowhere g) = nowhere (λ j. later e j (g j))

-- ---- the highest id is one, and the answer is it
module _ {Holds : ℕ → Type 0} {slots count : ℕ} where
  exactly_none : NoneHolds Holds slots count → Exactly Holds slots count (lost 8)
  exactly_none n =
      record {
        found-highest = λ id. (
          λ q. absurd (let z : ◌≡◌ {A = ℕ} 8 0 = ap (λ (f : Finding). f.number) q in omega arith),
          λ h. absurd (n h.slots_enough h.count_small id h.used h.holds),
        );
        lost-none = (λ q. n, λ h. refl);
        zero-found = λ z. absurd (omega arith);
        other_lost = λ z. refl;
      }

  -- two ids that are the highest are one
  one-highest : {i j : ℕ} → Highest Holds slots count i → Highest Holds slots count j → i ≤ j
  one-highest {i} {j} h k = by_test (ltb j i) refl
    where
      by_test : (b : Bool) → ltb j i ≡ b → i ≤ j
      by_test true b = absurd (k.none-later i (ltb-true j i b) h.used h.holds)
      by_test false b = ltb-false j i b

  exactly_found : {id : ℕ} → Highest Holds slots count id → Exactly Holds slots count (found id)
  exactly_found {id} h =
      record {
        found-highest = λ i. (
          λ q. let e : id ≡ i = ap (λ (f : Finding). f.id) q in rw e at h,
          λ k. let a = one-highest h k in let b = one-highest k h in let e : id ≡ i = omega arith in ap found e,
        );
        lost-none = (
          λ q. absurd (let z : ◌≡◌ {A = ℕ} 0 8 = ap (λ (f : Finding). f.number) q in omega arith),
          λ n. absurd (n h.slots_enough h.count_small id h.used h.holds),
        );
        zero-found = λ z. refl;
        other_lost = λ z. absurd (z refl);
      }

module _ (l : List Peer) (count : ℕ) where
  looked_wrong : (key : Peer) → wrong_count (length l) count ≡ true → look_up l count key ≡ lost 8
  unfolding look_up
  looked_wrong key w = simp w

  pub looked_right : (key : Peer) → wrong_count (length l) count ≡ false → look_up l count key ≡ highest key l count
  unfolding look_up
  looked_right key w = simp w

  -- THEOREM. A lookup finds an id exactly where it is the highest in use that holds the key's address, and else answers 8.
  pub look_up_highest : (key : Peer) → Exactly (λ j. same_address (get_or l j nobody) key ≡ true) (length l) count (look_up l count key)
  look_up_highest key =
      used-either (length l) count
      (λ w u. rw (looked_wrong key w) (exactly_none (λ h k. absurd (true≢false (sym w ∙ right (length l) count h k)))))
      (λ w u h k. rw (looked_right key w) (by_sought h k (highest key l count) (sought l key count)))
    where
      by_sought : count ≤ length l → count ≤ 65535 → (f : Finding) → Sought l key count f → Exactly (Holds l key) (length l) count f
      by_sought h k f (there id u t g) =
          exactly_found (record { slots_enough = h; count_small = k; used = u; holds = t; none-later = g })
      by_sought h k f (nowhere g) = exactly_none (λ u v. g)

  -- a count under which an address is found is right
  pub found_right : (key : Peer) (id : ℕ) → look_up l count key ≡ found id → wrong_count (length l) count ≡ false
  found_right key id e =
      let h = ((look_up_highest key).found-highest id).0 e in
      right (length l) count h.slots_enough h.count_small

  -- THEOREM. The same by family and octets, with what it is to hold the address set out: the family is the asked one, and so are
  -- the 16 or 4 octets that it has.
  pub find_peer-highest : (v6 : Bool) (addr : List ℕ)
      → Exactly (λ j. HasAddress (get_or l j nobody) (cond v6 1 0) addr) (length l) count (find_peer l count v6 addr)
  unfolding find_peer
  find_peer-highest v6 addr = exactly_reworded (λ j. key_plainly (get_or l j nobody) v6 addr) (look_up_highest (key_of v6 addr))

-- ---- what a lookup does not ask
-- slots after the last one in use
pub highest-kept : (key : Peer) (l m : List Peer) (n : ℕ) → ((j : ℕ) → j < n → get_or m j nobody ≡ get_or l j nobody)
    → highest key m n ≡ highest key l n
unfolding highest
highest-kept key l m zero same = refl
highest-kept key l m (suc n) same = rw (same n (omega arith), highest-kept key l m n (λ j h. same j (omega arith)))

-- what else a key has than its address
highest_key : (key other : Peer) → ((p : Peer) → same_address p key ≡ same_address p other) → (l : List Peer) (n : ℕ)
    → highest key l n ≡ highest other l n
unfolding highest
highest_key key other same l zero = refl
highest_key key other same l (suc n) = rw (same (get_or l n nobody), highest_key key other same l n)

-- the lookup of a peer is that of its own family and octets
pub find_own : (l : List Peer) (count : ℕ) (p : Peer) → find_peer l count (eqb (p.kind % 2) 1) p.addr ≡ look_up l count p
unfolding find_peer look_up
find_own l count p = rw (highest_key (key_of (eqb (p.kind % 2) 1) p.addr) p (λ q. key_of_lem q p) l count)
