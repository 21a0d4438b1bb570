-- What a lookup over slots answers.
use Prim.Native.Nat.{ℕ, ◌+◌, ◌<◌, ◌≤◌}
use mathlib.Core.Path.{◌≡◌, sym, ◌∙◌, ap}
use mathlib.Core.List.{List}
use mathlib.Core.Bool.{Bool, true, false, true≢false}
use native.Mathlib.Omega.{arith}
use lib.ListN.{length, get_or, take}
use Rattle.std.proofs.lemmas.List.{length-take-le, get_or-take}
use Rattle.peers_entry.specs.Peer.{nobody, key_of, same_address}
use Rattle.peers_entry.specs.declared.Peer.{Peer}
use Rattle.peers_slots.specs.Used.{in_use}
use Rattle.peers_slots.proofs.Counts.{used-either, used_le, all_used, right}
use Rattle.peers_find.specs.Find.{Finding, found, lost, look_up, find_peer}
use Rattle.peers_find.proofs.Highest.{look_up_highest}

-- the slots in use, as they are searched
module _ (l : List Peer) (count : ℕ) (key : Peer) {m : ℕ} (u : m ≡ in_use (length l) count) where
  abbrev holds : ℕ → Bool
  holds j = same_address (get_or (take m l) j nobody) key

  all-taken : length (take m l) ≡ m
  all-taken = length-take-le m l (used_le _ _ u)

  as_lent : (j : ℕ) → j < m → same_address (get_or l j nobody) key ≡ holds j
  as_lent j h = ap (λ (p : Peer). same_address p key) (sym (get_or-take m l j nobody h))

  -- the slot id holds the address, and no later one
  pub last_found : (id : ℕ) → id < length (take m l) → holds id ≡ true
      → ((j : ℕ) → id + 1 ≤ j → j < length (take m l) → holds j ≡ false) → found id ≡ look_up l count key
  last_found id h t f =
      used-either (length l) count
      (λ w z. absurd (omega (arith, all-taken)))
      (λ w z a b. sym (((look_up_highest l count key).found-highest id).1 (record {
        slots_enough = a;
        count_small = b;
        used = omega (arith, all-taken);
        holds = as_lent id (omega (arith, all-taken)) ∙ t;
        none-later = λ j g k e. true≢false (sym e ∙ as_lent j (omega arith) ∙ f j (omega arith) (omega (arith, all-taken)));
      })))

  -- none holds it
  pub none_found : ((j : ℕ) → j < length (take m l) → holds j ≡ false) → lost 8 ≡ look_up l count key
  none_found f =
      sym ((look_up_highest l count key).lost-none.1 (λ a b j h e.
      let k : j < m = omega (arith, all_used _ _ (right _ _ a b)) in
      true≢false (sym e ∙ as_lent j k ∙ f j (omega (arith, all-taken)))))

-- by family and octets
pub find_is : (l : List Peer) (count : ℕ) (v6 : Bool) (addr : List ℕ) {key : Peer} {f : Finding} → key ≡ key_of v6 addr
    → f ≡ look_up l count key → f ≡ find_peer l count v6 addr
unfolding find_peer
find_is l count v6 addr k e = e ∙ rw k
