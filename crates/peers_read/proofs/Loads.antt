-- A body read into slots: what of it goes there, one turn, and the end.
use Prim.Native.Nat.{ℕ, zero, suc, ◌+◌, ◌<◌, ◌≤◌}
use mathlib.Core.Path.{◌≡◌, refl, sym, ◌∙◌, ap}
use mathlib.Core.List.{List}
use mathlib.Core.Bool.{Bool, true, false, cond}
use native.Mathlib.Numerals.{add-one}
use native.Mathlib.Omega.{arith}
use borrow.Author.Tests.{lt-ltb, le-ltb, ltb-false, eqb-true, eqb-false}
use lib.ListN.{length, set, get_or, length-set}
use lib.Seq.{get_or-set_same, get_or-set_other}
use lib.Dec.{ltb, leb, eqb}
use Rattle.std.specs.Prelude.{Result, Ok, Err, IsOk}
use Rattle.answer.proofs.Refusals.{number-not-zero}
use Rattle.answer.specs.declared.Refusal.{Refusal}
use Rattle.peers_entry.specs.Peer.{nobody, peer_at, Reading, reading, read_peer}
use Rattle.peers_table.specs.Table.{Heading, refused, end_at, last_end, check_peers}
use Rattle.peers_entry.specs.declared.Peer.{Peer}
use Rattle.peers_entry.specs.declared.PeerRead.{PeerRead}
use Rattle.peers_table.proofs.Tables.{end_more, held-within}
use Rattle.peers_entry.proofs.Records.{read_fits}
use Rattle.peers_entry.proofs.Stored.{stored_read}
use Rattle.peers_slots.proofs.AsStored.{AsStored}
use Rattle.peers_read.specs.Load.{filled, head_for, load_peers}

-- ---- the head for so many slots
module _ (s : List ℕ) (slots : ℕ) where
  -- a body that is refused has no peers, so the slots alone decide
  head_by_slots : head_for s slots ≡ cond (ltb slots (check_peers s).count) (refused 9) (check_peers s)
  unfolding head_for check_peers
  head_by_slots = by_body (leb (last_end s) (length s)) refl
    where
      by_body : (t : Bool) → leb (last_end s) (length s) ≡ t
          → head_for s slots ≡ cond (ltb slots (check_peers s).count) (refused 9) (check_peers s)
      by_body true e = simp e
      by_body false e = let z : 0 ≤ slots = omega arith in simp (e, le-ltb slots 0 z)

  pub head-le : (head_for s slots).count ≤ slots
  head-le = rw head_by_slots (case (ltb slots (check_peers s).count) refl)
    where
      case : (t : Bool) → ltb slots (check_peers s).count ≡ t → (cond t (refused 9) (check_peers s)).count ≤ slots
      case true e = omega arith
      case false e = ltb-false slots (check_peers s).count e

  pub head-within : (i : ℕ) → i < (head_for s slots).count → end_at s (head_for s slots).first (i + 1) ≤ length s
  head-within i = rw head_by_slots (case (ltb slots (check_peers s).count))
    where
      case : (t : Bool) → i < (cond t (refused 9) (check_peers s)).count
          → end_at s (cond t (refused 9) (check_peers s)).first (i + 1) ≤ length s
      case true = λ h. absurd (omega arith)
      case false = held-within s i

-- ---- what the slots do to a head
module _ (s : List ℕ) (slots : ℕ) where
  pub head-refused : (n : ℕ) → refused n ≡ check_peers s → refused n ≡ head_for s slots
  head-refused n h = let z : 0 ≤ slots = omega arith in rw (head_by_slots s slots, ← h) (simp (le-ltb slots 0 z))

  pub head_few : (h : Heading) → h ≡ check_peers s → slots < h.count → refused 9 ≡ head_for s slots
  head_few h e l = rw (head_by_slots s slots, ← e) (simp (lt-ltb slots h.count l))

  pub head-whole : (h : Heading) → h ≡ check_peers s → h.count ≤ slots → h ≡ head_for s slots
  head-whole h e l = rw (head_by_slots s slots, ← e) (simp (le-ltb slots h.count l))

-- a body that passed its check holds the peers of its head
pub head-holds : (s : List ℕ) (h : Heading) → h ≡ check_peers s → (i : ℕ) → i < h.count → end_at s h.first (i + 1) ≤ length s
head-holds s h e i = rw e (held-within s i)

-- ---- the loop: i peers are in their slots, and the next one starts at p
module _ (s : List ℕ) (l : List Peer) (first : ℕ) where
  pub filled_none : l ≡ filled s first l 0
  unfolding filled
  filled_none = refl

  filled_more : (i : ℕ) → set (filled s first l i) i (peer_at s (end_at s first i)) ≡ filled s first l (i + 1)
  unfolding filled
  filled_more i = rw add-one

  module _ {p : ℕ} (i : ℕ) (at : p ≡ end_at s first i) (inside : end_at s first (i + 1) ≤ length s) where
    reads : read_peer s (end_at s first i) ≡ record { number = 0; peer = peer_at s (end_at s first i); next = end_at s first (i + 1) }
    reads = read_fits s (end_at s first i) (rw end_more inside)
        ∙ ap (λ (k : ℕ). record { number = 0; peer = peer_at s (end_at s first i); next = k }) (end_more s first i)

    pub filled_read : (r : Result PeerRead Refusal) → reading r ≡ read_peer s p → IsOk r
    filled_read (Ok x) h = refl
    filled_read (Err why) h = absurd (number-not-zero why (ap (λ (x : Reading). x.number) (h ∙ ap (read_peer s) at ∙ reads)))

    pub filled_turn : {t : List Peer} {r : Result PeerRead Refusal} (x : PeerRead) → r ≡ Ok x → reading r ≡ read_peer s p
        → t ≡ filled s first l i → (set t i x.peer ≡ filled s first l (i + 1)) × (x.next ≡ end_at s first (i + 1))
    filled_turn {t} {r} x k h e =
        let z : reading (Ok x) ≡ record { number = 0; peer = peer_at s (end_at s first i); next = end_at s first (i + 1) } =
        sym (ap reading k) ∙ h ∙ ap (read_peer s) at ∙ reads in
        (rw (ap (λ (x : Reading). x.peer) z, e) (filled_more i), ap (λ (x : Reading). x.next) z)

-- ---- the answer and the slots, as one
pub load_is : (s : List ℕ) (l t : List Peer) (h : Heading) → h ≡ head_for s (length l) → t ≡ filled s h.first l h.count
    → record { head = h; slots = t } ≡ load_peers s l
unfolding load_peers
load_is s l t h e f = rw (f, e)

-- ---- slots that were filled
module _ (s : List ℕ) (at : ℕ) (l : List Peer) where
  pub length-filled : (n : ℕ) → length (filled s at l n) ≡ length l
  unfolding filled
  length-filled zero = refl
  length-filled (suc n) = length-set (filled s at l n) n (peer_at s (end_at s at n)) ∙ length-filled n

  pub get_filled : (n i : ℕ) → i < n → n ≤ length l → get_or (filled s at l n) i nobody ≡ peer_at s (end_at s at i)
  unfolding filled
  get_filled zero i h k = absurd (omega arith)
  get_filled (suc n) i h k = case (eqb i n) refl (λ m. get_filled n i m (omega arith))
    where
      inside : n < length (filled s at l n)
      inside = let e : length (filled s at l n) ≡ length l = length-filled n in omega arith

      case : (t : Bool) → eqb i n ≡ t → (i < n → get_or (filled s at l n) i nobody ≡ peer_at s (end_at s at i))
          → get_or (filled s at l (suc n)) i nobody ≡ peer_at s (end_at s at i)
      case true t f = let e : i ≡ n = eqb-true _ _ t in rw e (get_or-set_same (filled s at l n) n (peer_at s (end_at s at n)) nobody inside)
      case false t f =
          let e : i ≡ n → ⊥ = eqb-false _ _ t in
          let m : i < n = omega arith in
          get_or-set_other (filled s at l n) n i (peer_at s (end_at s at n)) nobody e ∙ f m

-- THEOREM. Peers that were loaded are as they are stored.
pub load_as_stored : (s : List ℕ) (l : List Peer) → AsStored (load_peers s l).slots (load_peers s l).head.count
unfolding load_peers
load_as_stored s l i h =
    let first : ℕ = (head_for s (length l)).first in
    let e : get_or (filled s first l (head_for s (length l)).count) i nobody ≡ peer_at s (end_at s first i) =
    get_filled s first l (head_for s (length l)).count i h (head-le s (length l)) in
    rw e (stored_read s (end_at s first i))
