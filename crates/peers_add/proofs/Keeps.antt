-- What adding a peer gives and keeps: the peer is found by its address, and every other id and address is as it was.
use Prim.Native.Nat.{ℕ, ◌+◌, ◌%◌, ◌<◌}
use mathlib.Core.Path.{◌≡◌, refl, ◌∙◌, ap}
use mathlib.Core.List.{List}
use mathlib.Core.Bool.{Bool, true, false, cond}
use native.Mathlib.Nat.{add-zero}
use native.Mathlib.Numerals.{add-one}
use native.Mathlib.Omega.{arith}
use borrow.Author.Tests.{lt-leb, leb-false, eq-eqb, eqb-true, eqb-false}
use lib.ListN.{length, get_or, set, length-set}
use lib.Seq.{get_or-set_same, get_or-set_other}
use lib.Dec.{leb, eqb}
use Rattle.peers_entry.specs.Peer.{nobody, stored, key_of, same_address}
use Rattle.peers_entry.specs.declared.Peer.{Peer}
use Rattle.peers_entry.proofs.Stored.{stored-stored}
use Rattle.peers_entry.proofs.SameAddress.{HasAddress, key_plainly, same_self, same_stored}
use Rattle.peers_slots.specs.Used.{wrong_count}
use Rattle.peers_slots.proofs.Counts.{right}
use Rattle.peers_slots.proofs.AsStored.{AsStored}
use Rattle.peers_find.specs.Find.{found, lost, highest, look_up, find_peer}
use Rattle.peers_find.proofs.Highest.{look_up_highest, looked_right, found_right, highest-kept, find_own}
use Rattle.peers_add.specs.Add.{Adding, not_added, add_peer}

module _ (l : List Peer) (count : ℕ) (p : Peer) where
  -- the slots with the new peer
  abbrev grown : List Peer
  grown = set l count (stored p)

  -- what the call answers, and why
  data Case : Adding → Type 0 where
    known : (id : ℕ) → look_up l count p ≡ found id → Case (record { number = 0; id = id; added = 0; slots = l })
    new : look_up l count p ≡ lost 8 → wrong_count (length l) count ≡ false → count < 65535 → count < length l
        → Case (record { number = 0; id = count; added = 1; slots = grown })
    not_taken : (n : ℕ) → (n ≡ 0 → ⊥) → Case (not_added n l)

  case : Case (add_peer l count p)
  unfolding add_peer
  case =
      by_tests (wrong_count (length l) count) refl (eqb (look_up l count p).number 0) refl (leb 65535 count) refl (leb (length l) count)
      refl
    where
      by_tests : (a : Bool) → wrong_count (length l) count ≡ a → (b : Bool) → eqb (look_up l count p).number 0 ≡ b → (c : Bool)
          → leb 65535 count ≡ c → (d : Bool) → leb (length l) count ≡ d
          → Case (cond a (not_added 8 l) (cond b (record { number = 0; id = (look_up l count p).id; added = 0; slots = l })
          (cond c (not_added 10 l) (cond d (not_added 9 l) (record { number = 0; id = count; added = 1; slots = grown })))))
      by_tests true w b k c u d v = not_taken 8 (λ z. omega arith)
      by_tests false w true k c u d v = known (look_up l count p).id ((look_up_highest l count p).zero-found (eqb-true _ _ k))
      by_tests false w false k true u d v = not_taken 10 (λ z. omega arith)
      by_tests false w false k false u true v = not_taken 9 (λ z. omega arith)
      by_tests false w false k false u false v =
          new ((look_up_highest l count p).other_lost (eqb-false _ _ k)) w (leb-false _ _ u) (leb-false _ _ v)

  -- the first slots, and every other than the new one, keep their peers
  grown_kept : (j : ℕ) → (j ≡ count → ⊥) → get_or grown j nobody ≡ get_or l j nobody
  grown_kept j n = get_or-set_other l count j (stored p) nobody n

  module _ (w : wrong_count (length l) count ≡ false) (few : count < 65535) (room : count < length l) where
    last_there : get_or grown count nobody ≡ stored p
    last_there = get_or-set_same l count (stored p) nobody room

    -- a lookup after it asks the new slot first
    look_grown : (key : Peer) → look_up grown (count + 1) key ≡ cond (same_address p key) (found count) (look_up l count key)
    unfolding highest
    look_grown key =
        let z : length grown ≡ length l = length-set l count (stored p) in
        looked_right grown (count + 1) key (right (length grown) (count + 1) (omega arith) (omega arith))
        ∙ ap (highest key grown) (add-one count)
        ∙ rw (
          last_there,
          same_stored p key,
          highest-kept key l grown count (λ j h. grown_kept j (λ q. omega arith)),
          ← looked_right l count key w,
        )

  -- of a peer that is new: no slot in use held its address, and now the slot at the count holds it as stored
  pub record New (a : Adding) : Type 0 where
    pub unknown : look_up l count p ≡ lost 8
    pub one_more_lem : a.added ≡ 1
    pub id_is : a.id ≡ count
    pub slot_is : get_or a.slots count nobody ≡ stored p

  -- what an accepted call has done
  pub record Done (a : Adding) : Type 0 where
    -- the peer is found under its id, by its record and by its own family and octets
    pub found_after : look_up a.slots (count + a.added) p ≡ found a.id
    pub found_by_address : find_peer a.slots (count + a.added) (eqb (p.kind % 2) 1) p.addr ≡ found a.id
    -- slots: only the one at the count may change, and only where the peer is new
    pub known_kept : a.added ≡ 0 → a.slots ≡ l
    pub new_stored : (a.added ≡ 0 → ⊥) → New a
    pub others_kept : (j : ℕ) → (j ≡ count → ⊥) → get_or a.slots j nobody ≡ get_or l j nobody
    pub length-kept : length a.slots ≡ length l
    -- lookups of other addresses answer as before
    pub other_kept : (key : Peer) → same_address p key ≡ false → look_up a.slots (count + a.added) key ≡ look_up l count key
    pub other_address_kept : (v6 : Bool) (addr : List ℕ) → (HasAddress p (cond v6 1 0) addr → ⊥)
        → find_peer a.slots (count + a.added) v6 addr ≡ find_peer l count v6 addr

  other_key : (v6 : Bool) (addr : List ℕ) → (HasAddress p (cond v6 1 0) addr → ⊥) → same_address p (key_of v6 addr) ≡ false
  other_key v6 addr n = by_test (same_address p (key_of v6 addr)) refl
    where
      by_test : (t : Bool) → same_address p (key_of v6 addr) ≡ t → t ≡ false
      by_test true e = absurd (n ((key_plainly p v6 addr).0 e))
      by_test false e = refl

  -- by what holds of every lookup after the call
  done : (a : Adding) → look_up a.slots (count + a.added) p ≡ found a.id
      → (a.added ≡ 0 → a.slots ≡ l)
      → ((a.added ≡ 0 → ⊥) → New a)
      → ((j : ℕ) → (j ≡ count → ⊥) → get_or a.slots j nobody ≡ get_or l j nobody)
      → length a.slots ≡ length l
      → ((key : Peer) → same_address p key ≡ false → look_up a.slots (count + a.added) key ≡ look_up l count key)
      → Done a
  unfolding find_peer
  done a there same fresh others long apart =
      record {
        found_after = there;
        found_by_address = find_own a.slots (count + a.added) p ∙ there;
        known_kept = same;
        new_stored = fresh;
        others_kept = others;
        length-kept = long;
        other_kept = apart;
        other_address_kept = λ v6 addr n. apart (key_of v6 addr) (other_key v6 addr n);
      }

  by_case : (a : Adding) → Case a → a.number ≡ 0 → Done a
  by_case a (known id e) z =
      let k : count + 0 ≡ count = add-zero count in
      done a (ap (λ (n : ℕ). look_up l n p) k ∙ e) (λ y. refl) (λ y. absurd (y refl)) (λ j n. refl) refl
      (λ key n. ap (λ (m : ℕ). look_up l m key) k)
  by_case a (new unknown w few room) z =
      done a (look_grown w few room p ∙ rw (same_self p)) (λ y. absurd (omega arith))
      (λ y. record { unknown = unknown; one_more_lem = refl; id_is = refl; slot_is = last_there w few room }) grown_kept
      (length-set l count (stored p)) (λ key n. look_grown w few room key ∙ rw n)
  by_case a (not_taken n f) z = absurd (f z)

  -- THEOREM. A peer that was added, or known, is found by its address, and every other id and address is as it was.
  pub add_keeps : (add_peer l count p).number ≡ 0 → Done (add_peer l count p)
  add_keeps = by_case (add_peer l count p) case

  -- THEOREM. Where fewer than 65,535 peers are in use and a slot is left, none is refused; a known one never is.
  pub room-taken : count < 65535 → count < length l → (add_peer l count p).number ≡ 0
  unfolding add_peer
  room-taken few room = by_known (eqb (look_up l count p).number 0) refl
    where
      count_right : wrong_count (length l) count ≡ false
      count_right = right (length l) count (omega arith) (omega arith)

      by_known : (t : Bool) → eqb (look_up l count p).number 0 ≡ t → (add_peer l count p).number ≡ 0
      by_known true e = simp (count_right, e)
      by_known false e = simp (count_right, e, lt-leb 65535 count few, lt-leb (length l) count room)

  pub known-taken : (look_up l count p).number ≡ 0 → (add_peer l count p).number ≡ 0
  unfolding add_peer
  known-taken z = simp (found_right l count p _ ((look_up_highest l count p).zero-found z), eq-eqb _ _ z)

  -- THEOREM. A refused peer changes nothing.
  pub refused_keeps : ((add_peer l count p).number ≡ 0 → ⊥) → (add_peer l count p).slots ≡ l
  refused_keeps n = refusal (add_peer l count p) case n
    where
      refusal : (a : Adding) → Case a → (a.number ≡ 0 → ⊥) → a.slots ≡ l
      refusal a (known id e) f = refl
      refusal a (new unknown w few room) f = absurd (f refl)
      refusal a (not_taken n g) f = refl

  -- THEOREM. Peers that are as they are stored stay so, the new one with them.
  pub add_as_stored : AsStored l count → AsStored (add_peer l count p).slots (count + (add_peer l count p).added)
  add_as_stored kept = by_added (add_peer l count p) case
    where
      grown_stored : count < length l → (i : ℕ) → i < count + 1 → stored (get_or grown i nobody) ≡ get_or grown i nobody
      grown_stored room i h = by_last (eqb i count) refl
        where
          by_last : (t : Bool) → eqb i count ≡ t → stored (get_or grown i nobody) ≡ get_or grown i nobody
          by_last true t =
              let e : i ≡ count = eqb-true i count t in
              rw (e, get_or-set_same l count (stored p) nobody room) (stored-stored p)
          by_last false t =
              let e : i ≡ count → ⊥ = eqb-false i count t in
              rw (grown_kept i e) (kept i (omega arith))

      by_added : (a : Adding) → Case a → AsStored a.slots (count + a.added)
      by_added a (known id e) i h = kept i (omega arith)
      by_added a (new unknown w few room) i h = grown_stored room i h
      by_added a (not_taken n f) i h = kept i (omega arith)
