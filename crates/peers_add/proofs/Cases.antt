-- What adding a peer answers, case by case.
use Prim.Native.Nat.{ℕ, ◌<◌, ◌≤◌}
use mathlib.Core.Path.{◌≡◌, sym}
use mathlib.Core.List.{List}
use mathlib.Core.Bool.{true, false}
use borrow.Author.Tests.{le-leb, lt-leb}
use lib.ListN.{length, set}
use Rattle.peers_entry.specs.Peer.{stored}
use Rattle.peers_entry.specs.declared.Peer.{Peer}
use Rattle.peers_slots.specs.Used.{wrong_count}
use Rattle.peers_find.specs.Find.{found, lost, look_up}
use Rattle.peers_find.proofs.Highest.{look_up_highest, found_right}
use Rattle.peers_add.specs.Add.{not_added, add_peer}

module _ (l : List Peer) (count : ℕ) (p : Peer) where
  pub add_known : (id : ℕ) → found id ≡ look_up l count p → record { number = 0; id = id; added = 0; slots = l } ≡ add_peer l count p
  unfolding add_peer
  add_known id k = rw (found_right l count p id (sym k), ← k)

  pub add_wrong : wrong_count (length l) count ≡ true → not_added 8 l ≡ add_peer l count p
  unfolding add_peer
  add_wrong w = simp w

  -- the address is not known
  module _ (n : ℕ) (k : lost n ≡ look_up l count p) (other : n ≡ 0 → ⊥) (w : wrong_count (length l) count ≡ false) where
    unknown : look_up l count p ≡ lost 8
    unknown = (look_up_highest l count p).other_lost (rw (← k) other)

    pub add_last : 65535 ≤ count → not_added 10 l ≡ add_peer l count p
    unfolding add_peer
    add_last h = rw unknown (simp (w, le-leb _ _ h))

    module _ (few : count < 65535) where
      pub add_full : length l ≤ count → not_added 9 l ≡ add_peer l count p
      unfolding add_peer
      add_full h = rw unknown (simp (w, lt-leb _ _ few, le-leb _ _ h))

      pub add_free : count < length l → {s : Peer} → s ≡ stored p
          → record { number = 0; id = count; added = 1; slots = set l count s } ≡ add_peer l count p
      unfolding add_peer
      add_free h e = rw (unknown, e) (simp (w, lt-leb _ _ few, lt-leb _ _ h))
