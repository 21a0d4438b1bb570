-- What the exported calls answer, from what the functions that they ask answer.
use Prim.Native.Nat.{ℕ, ◌%◌}
use mathlib.Core.Path.{◌≡◌, refl, ◌∙◌, ap}
use mathlib.Core.List.{[], List}
use mathlib.Core.Bool.{Bool, true, false}
use lib.ListN.{length}
use lib.Dec.{ltb, eqb}
use Rattle.std.specs.Prelude.{Result, Ok, Err, MatchResult}
use Rattle.answer.specs.declared.Refusal.{Refusal}
use Rattle.mrt_lent.specs.Export.{sixteen_of}
use Rattle.peers_entry.specs.declared.Peer.{Peer}
use Rattle.peers_slots.specs.Used.{wrong_count}
use Rattle.peers_add.specs.Add.{adding, add_peer}
use Rattle.peers_add.specs.declared.PeerId.{PeerId}
use Rattle.peers_add.specs.declared.PeerId.TheVariants.{Known, Added}
use Rattle.peers_find.specs.Find.{Finding, finding, look_up, find_peer}
use Rattle.mrt_peers.specs.Add.{added_as, added_out, add_out}
use Rattle.mrt_peers.specs.Given.{count_for, key_for, peer_for, fresh_of}
use Rattle.mrt_peers.specs.Find.{found_of, find_out}
use Rattle.mrt_peers.specs.declared.Key.{Key}
use Rattle.mrt_peers.specs.declared.Found.{Found}
use Rattle.mrt_peers.specs.declared.Fresh.{Fresh}

-- ---- what the helpers make of what is given
module _ (count kind : ℕ) (addr : List ℕ) {n : ℕ} {l : List ℕ} (n-is : n ≡ count_for count (length addr)) (l-is : l ≡ sixteen_of addr) where
  pub key_is : record { count = n; v6 = eqb (kind % 2) 1; addr = l } ≡ key_for count kind addr
  unfolding key_for
  key_is = rw (n-is, l-is)

  pub fresh_is : (id asn : ℕ)
      → ◌≡◌ {A = Fresh} (record {
        count = n;
        peer = record {
          kind = kind;
          id = id;
          addr = l;
          asn =
              asn;
        };
      }) (fresh_of count kind id addr asn)
  unfolding fresh_of peer_for
  fresh_is id asn = rw (n-is, l-is)

-- a count that no table has
no_table : (slots : ℕ) → wrong_count slots 65536 ≡ true
unfolding wrong_count
no_table slots = by_slots (ltb slots 65536) refl
  where
    by_slots : (t : Bool) → ltb slots 65536 ≡ t → wrong_count slots 65536 ≡ true
    by_slots true e = simp e
    by_slots false e = simp e

-- ---- a lookup
module _ (l : List Peer) (count kind : ℕ) (addr : List ℕ) where
  abbrev v6 : Bool
  v6 = eqb (kind % 2) 1

  looks : found_of (find_peer l (count_for count (length addr)) v6 (sixteen_of addr)) ≡ find_out l count kind addr
  unfolding count_for find_out find_peer look_up
  looks = by_size (ltb (length addr) 16) refl
    where
      by_size : (t : Bool) → ltb (length addr) 16 ≡ t
          → found_of (find_peer l (count_for count (length addr)) v6 (sixteen_of addr)) ≡ find_out l count kind addr
      by_size true e = simp (e, no_table (length l))
      by_size false e = simp e

  pub find_out_lem : {k : Key} {f : Finding} {r : Found} → k ≡ key_for count kind addr → f ≡ find_peer l k.count k.v6 k.addr
      → r ≡ found_of f → r ≡ find_out l count kind addr
  unfolding key_for
  find_out_lem {k} {f} {r} k-is f-is r-is =
      r-is
      ∙ ap found_of f-is
      ∙ ap (λ (x : Key). found_of (find_peer l x.count x.v6 x.addr)) k-is
      ∙ looks

-- ---- a peer added
-- its id, answered as that of a lookup
pub found_added : (r : Result PeerId Refusal) (m : Result ℕ Refusal) {n : Found}
    → MatchResult r (λ p. m ≡ Ok (adding (Ok p) []).id) (λ e. m ≡ Err e) → n ≡ found_of (finding m) → n ≡ added_as (adding r [])
found_added (Ok (Known id)) m h e = e ∙ ap (λ x. found_of (finding x)) h
found_added (Ok (Added id)) m h e = e ∙ ap (λ x. found_of (finding x)) h
found_added (Err why) m h e = e ∙ ap (λ x. found_of (finding x)) h

same_answer : (r : Result PeerId Refusal) (l : List Peer) → (l, added_as (adding r [])) ≡ added_out (adding r l)
same_answer (Ok (Known id)) l = refl
same_answer (Ok (Added id)) l = refl
same_answer (Err why) l = refl

module _ (ys : List Peer) (count kind id : ℕ) (addr : List ℕ) (asn : ℕ) where
  adds : added_out (add_peer ys (count_for count (length addr)) (peer_for kind id addr asn)) ≡ add_out ys count kind id addr asn
  unfolding count_for add_out add_peer
  adds = by_size (ltb (length addr) 16) refl
    where
      by_size : (t : Bool) → ltb (length addr) 16 ≡ t
          → added_out (add_peer ys (count_for count (length addr)) (peer_for kind id addr asn)) ≡ add_out ys count kind id addr asn
      by_size true e = simp (e, no_table (length ys))
      by_size false e = simp e

  -- the slots l that the call leaves, and its answer n
  pub add_out_lem : (f : Fresh) (r : Result PeerId Refusal) (l : List Peer) {n : Found} → f ≡ fresh_of count kind id addr asn
      → adding r l ≡ add_peer ys f.count f.peer → n ≡ added_as (adding r []) → (l, n) ≡ add_out ys count kind id addr asn
  unfolding fresh_of
  add_out_lem f r l f-is r-is n-is =
      ap (λ (x : Found). (l, x)) n-is
      ∙ same_answer r l
      ∙ ap added_out (r-is ∙ ap (λ (x : Fresh). add_peer ys x.count x.peer) f-is)
      ∙ adds
