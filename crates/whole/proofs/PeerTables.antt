-- A table there and back: what was read is written as the same octets, less what stands after the last peer; and what is written
-- is read as the same peers, where they are as they are stored: an address's octets that are not in use are zero.
use Prim.Native.Nat.{ℕ, zero, suc, ◌+◌, ◌-◌, ◌^◌, ◌<◌, ◌≤◌}
use mathlib.Core.Path.{◌≡◌, refl, sym, ◌∙◌, ap}
use mathlib.Core.List.{List, [], ◌++◌, append_assoc}
use mathlib.Core.Bool.{Bool, true, false, true≢false}
use native.Mathlib.Nat.{zero-add, add-zero, suc-add}
use native.Mathlib.Numerals.{add-one}
use native.Mathlib.Omega.{arith}
use borrow.Author.Tests.{le-ltb, le-leb, leb-true, ltb-false, eqb-true, eqb-false}
use lib.ListN.{length, get_or, take, drop, length-append, length-drop, length-take, take-append-drop}
use lib.Seq.{take-append_seam, drop-append-add, drop_at, get_or-drop, length-take-le}
use lib.Dec.{leb, ltb, eqb}
use Rattle.answer.specs.Writing.{Writing, at_front}
use Rattle.octets.specs.Octets.{be_at, bytes_of, part, Octets}
use Rattle.octets.proofs.Parts.{part_join}
use Rattle.octets.proofs.Numbers.{be_of_bytes, bytes_of_be, length_bytes}
use Rattle.peers_entry.specs.Peer.{nobody, peer_size, peer_at, peer_octets, stored, unfit}
use Rattle.peers_table.specs.Table.{Heading, end_at, name_length, peer_count, first_peer, last_end, check_peers}
use Rattle.peers_entry.specs.declared.Peer.{Peer}
use Rattle.octets.proofs.Numbers.{be_lt}
use Rattle.peers_table.proofs.Tables.{end_none, end_more, end-le}
use Rattle.whole.proofs.Peers.{peer-drop, peer_of_octets, kind_of_octets, octets_of_peer, fits_of_peer}
use Rattle.peers_slots.specs.Used.{wrong_count}
use Rattle.peers_read.specs.Load.{filled, head_for, load_peers}
use Rattle.peers_write.specs.Write.{head_octets, peers_octets, any_unfit, table_octets, write_peers}
use Rattle.peers_write.specs.Steps.{sizes}
use Rattle.peers_slots.proofs.Counts.{right, used-either}
use Rattle.peers_slots.proofs.AsStored.{AsStored}
use Rattle.peers_read.proofs.Loads.{length-filled, get_filled, load_as_stored}
use Rattle.peers_add.proofs.Keeps.{add_as_stored}
use Rattle.whole.specs.Reached.{Reached, none, loaded, added}
use Rattle.peers_write.proofs.Writes.{length-head, length-peers}

-- ---- a body that is accepted
abbrev Accepted : List ℕ → Heading
Accepted s =
    record {
      number = 0;
      collector = be_at s 0 4;
      name = 6;
      length = name_length s;
      count = peer_count s;
      first = first_peer s;
      end = last_end s;
    }

module _ (s : List ℕ) (slots : ℕ) where
  accepts : last_end s ≤ length s → peer_count s ≤ slots → head_for s slots ≡ Accepted s
  unfolding head_for check_peers
  accepts h k = simp (le-leb (last_end s) (length s) h, le-ltb slots (peer_count s) k)

  was_accepted : (head_for s slots).number ≡ 0 → (last_end s ≤ length s) × (peer_count s ≤ slots)
  unfolding head_for check_peers
  was_accepted = by_body (leb (last_end s) (length s)) refl
    where
      by_slots : leb (last_end s) (length s) ≡ true → (t : Bool) → ltb slots (peer_count s) ≡ t → (head_for s slots).number ≡ 0
          → (last_end s ≤ length s) × (peer_count s ≤ slots)
      by_slots e true t = simp (e, t) (λ z. absurd (omega arith))
      by_slots e false t = λ z. (leb-true _ _ e, ltb-false _ _ t)

      by_body : (t : Bool) → leb (last_end s) (length s) ≡ t → (head_for s slots).number ≡ 0
          → (last_end s ≤ length s) × (peer_count s ≤ slots)
      by_body true e = by_slots e (ltb slots (peer_count s)) refl
      by_body false e = simp (e, le-ltb slots 0 (let z : 0 ≤ slots = omega arith in z)) (λ z. absurd (omega arith))

-- a body that was loaded passes its check
pub load_checked : (s : List ℕ) (l : List Peer) → (load_peers s l).head.number ≡ 0 → (check_peers s).number ≡ 0
unfolding load_peers check_peers
load_checked s l z = simp (le-leb (last_end s) (length s) (was_accepted s (length l) z).0)

-- ---- read, then written
module _ (s : List ℕ) (l : List Peer) (o : Octets s) (ok : (load_peers s l).head.number ≡ 0) where
  abbrev first : ℕ
  first = first_peer s

  abbrev slots : List Peer
  slots = filled s first l (peer_count s)

  abbrev view : List ℕ
  view = part s 6 (name_length s)

  inside : (last_end s ≤ length s) × (peer_count s ≤ length l)
  unfolding load_peers
  inside = was_accepted s (length l) ok

  ends : (n : ℕ) → n ≤ peer_count s → end_at s first n ≤ length s
  unfolding last_end
  ends n h = let e : end_at s first n ≤ end_at s first (peer_count s) = end-le s first n (peer_count s) h in omega (arith, inside.0)

  starts : (n : ℕ) → first ≤ end_at s first n
  starts n = let e : end_at s first 0 ≤ end_at s first n = end-le s first 0 n (omega arith) in omega (arith, end_none s first)

  -- a slot has the peer that stood there
  slot_is : (i : ℕ) → i < peer_count s → get_or slots i nobody ≡ peer_at s (end_at s first i)
  slot_is i h = get_filled s first l (peer_count s) i h inside.1

  next_fits : (n : ℕ) → n < peer_count s → end_at s first n + peer_size (get_or s (end_at s first n) 0) ≤ length s
  next_fits n h = rw end_more (ends (n + 1) (omega arith))

  peers-part : (n : ℕ) → n ≤ peer_count s → peers_octets slots n ≡ part s first (end_at s first n - first)
  unfolding peers_octets
  peers-part zero h = let e : end_at s first 0 - first ≡ 0 = omega (arith, end_none s first) in rw e
  peers-part (suc n) h =
      let e : ℕ = end_at s first n in
      let z : ℕ = peer_size (get_or s e 0) in
      let a : peers_octets slots n ≡ part s first (e - first) = peers-part n (omega arith) in
      let b : peer_octets (get_or slots n nobody) ≡ part s e z = ap peer_octets (slot_is n (omega arith))
      ∙ octets_of_peer s e o (next_fits n (omega arith)) in
      let c : first + (e - first) ≡ e = omega (arith, starts n) in
      let d : e - first + z ≡ end_at s first (suc n) - first = (let m : e + z ≡ end_at s first (n + 1) = end_more s first n in
      let k : end_at s first (n + 1) ≡ end_at s first (suc n) = ap (end_at s first) (add-one n) in omega (arith, starts n)) in
      ap (λ (x : List ℕ). x ++ peer_octets (get_or slots n nobody)) a ∙ ap (λ (x : List ℕ). part s first (e - first) ++ x) (b
      ∙ ap (λ (k : ℕ). part s k z) (sym c)) ∙ part_join s first (e - first) z ∙ ap (part s first) d

  no_unfit : (n : ℕ) → n ≤ peer_count s → any_unfit slots n ≡ false
  unfolding any_unfit
  no_unfit zero h = refl
  no_unfit (suc n) h =
      let a : any_unfit slots n ≡ false = no_unfit n (omega arith) in
      let b : unfit (get_or slots n nobody) ≡ false = ap unfit (slot_is n (omega arith))
      ∙ fits_of_peer s (end_at s first n) o (next_fits n (omega arith)) in
      simp (a, b)

  long : 8 + name_length s ≤ length s
  unfolding first_peer
  long = let a : first ≤ end_at s first 0 = starts 0 in let b : end_at s first 0 ≤ length s = ends 0 (omega arith) in omega arith

  length_view : length view ≡ name_length s
  length_view = simp (length-take, length-drop) (let h : 8 + name_length s ≤ length s = long in omega arith)

  head-part : head_octets (be_at s 0 4) view (peer_count s) ≡ part s 0 (8 + name_length s)
  unfolding head_octets name_length peer_count
  head-part =
      let n : ℕ = name_length s in
      let h : 8 + n ≤ length s = long in
      let a : bytes_of 4 (be_at s 0 4) ≡ part s 0 4 = bytes_of_be s 0 4 o (omega arith) in
      let b : bytes_of 2 (length view) ≡ part s 4 2 = ap (bytes_of 2) length_view ∙ bytes_of_be s 4 2 o (omega arith) in
      let c : bytes_of 2 (peer_count s) ≡ part s (6 + n) 2 = bytes_of_be s (6 + n) 2 o (omega arith) in
      let six : part s 0 4 ++ part s 4 2 ≡ part s 0 6 = part_join s 0 4 2 in
      let more : part s 0 6 ++ part s 6 n ≡ part s 0 (6 + n) = part_join s 0 6 n in
      let z : 6 + n + 2 ≡ 8 + n = omega arith in
      let all : part s 0 (6 + n) ++ part s (6 + n) 2 ≡ part s 0 (8 + n) = ap (λ (k : ℕ). part s 0 (6 + n) ++ part s k 2) (sym (zero-add
      (6 + n))) ∙ part_join s 0 (6 + n) 2 ∙ ap (part s 0) z in
      rw (a, b, c, six, more, all)

  table_part : table_octets (be_at s 0 4) view slots (peer_count s) ≡ take (last_end s) s
  unfolding table_octets last_end first_peer
  table_part =
      let c : first + (end_at s first (peer_count s) - first) ≡ end_at s first (peer_count s) = omega (arith, starts (peer_count s)) in
      ap (λ (x : List ℕ). x ++ peers_octets slots (peer_count s)) head-part
      ∙ ap (λ (x : List ℕ). part s 0 first ++ x) (peers-part (peer_count s) (omega arith))
      ∙ ap (λ (k : ℕ). part s 0 first ++ part s k (end_at s first (peer_count s) - first)) (sym (zero-add first))
      ∙ part_join s 0 first (end_at s first (peer_count s) - first) ∙ ap (part s 0) c

  count-lt : peer_count s < 256 ^ 2
  unfolding peer_count
  count-lt = be_lt s (6 + name_length s) 2 o

  name-lt : name_length s < 256 ^ 2
  unfolding name_length
  name-lt = be_lt s 4 2 o

  written : (out : List ℕ) → last_end s ≤ length out
      → write_peers out (be_at s 0 4) view slots (peer_count s) ≡ record {
        number = 0;
        octets = last_end s;
        output = take (last_end s) s ++ drop
            (last_end s) out;
      }
  unfolding write_peers at_front
  written out h =
      let k : length slots ≡ length l = length-filled s first l (peer_count s) in
      let w : wrong_count (length slots) (peer_count s) ≡ false = right (length slots) (peer_count s) (omega (arith, inside.1)) (omega
      (arith, count-lt)) in
      let n : length view ≤ 65535 = omega (arith, length_view, name-lt) in
      let u : any_unfit slots (peer_count s) ≡ false = no_unfit (peer_count s) (omega arith) in
      let z : length (take (last_end s) s) ≡ last_end s = length-take-le (last_end s) s inside.0 in
      simp (w, le-ltb 65535 (length view) n, u, table_part, z, le-leb (last_end s) (length out) h)

  -- what was read, written: the same octets up to the end of the last peer
  pub write_of_read : (out : List ℕ) → (load_peers s l).head.end ≤ length out
      → write_peers out (load_peers s l).head.collector (part s (load_peers s l).head.name (load_peers s l).head.length)
      (load_peers s l).slots (load_peers s l).head.count
      ≡ record {
        number = 0;
        octets = (load_peers s l).head.end;
        output = take (load_peers s l).head.end s ++ drop
            (load_peers s l).head.end out;
      }
  unfolding load_peers
  write_of_read out = let e : head_for s (length l) ≡ Accepted s = accepts s (length l) inside.0 inside.1 in rw e (written out)

-- ---- written, then read
-- each peer's id and AS are numbers of four octets
abbrev pub Fitting : List Peer → ℕ → Type 0
Fitting l n = (i : ℕ) → i < n → ((get_or l i nobody).id < 256 ^ 4) × ((get_or l i nobody).asn < 256 ^ 4)

-- what follows the first n peers begins with the next
peers-at : (l : List Peer) (n k : ℕ) (r : List ℕ) → (q : List ℕ)
    × (drop (sizes l n) (peers_octets l (k + suc n) ++ r) ≡ peer_octets (get_or l n nobody) ++ q)
unfolding peers_octets
peers-at l n zero r = (
  r,
  rw zero-add (ap (drop (sizes l n)) (append_assoc (peers_octets l n) (peer_octets (get_or l n nobody)) r)
      ∙ drop_at (peers_octets l n) (peer_octets (get_or l n nobody) ++ r) (sizes l n) (length-peers l n)),
)
peers-at l n (suc k) r =
    let h = peers-at l n k (peer_octets (get_or l (k + suc n) nobody) ++ r) in (
      h.0,
      rw suc-add (ap (drop (sizes l n)) (append_assoc (peers_octets l (k + suc n)) (peer_octets (get_or l (k + suc n) nobody)) r)
          ∙ h.1),
    )

fit_at : (l : List Peer) (n i : ℕ) → any_unfit l n ≡ false → i < n → unfit (get_or l i nobody) ≡ false
unfolding any_unfit
fit_at l zero i u h = absurd (omega arith)
fit_at l (suc n) i u h = by_rest (any_unfit l n) refl (λ v m. fit_at l n i v m)
  where
    by_last : any_unfit l n ≡ false → (t : Bool) → eqb i n ≡ t → (i < n → unfit (get_or l i nobody) ≡ false)
        → unfit (get_or l i nobody) ≡ false
    by_last e true t f = let z : i ≡ n = eqb-true _ _ t in rw z (simp e at u)
    by_last e false t f = let z : i ≡ n → ⊥ = eqb-false _ _ t in f (omega arith)

    by_rest : (t : Bool) → any_unfit l n ≡ t → (any_unfit l n ≡ false → i < n → unfit (get_or l i nobody) ≡ false)
        → unfit (get_or l i nobody) ≡ false
    by_rest true e f = let z : true ≡ false = simp e at u in absurd (true≢false z)
    by_rest false e f = by_last e (eqb i n) refl (f e)

module _ (collector : ℕ) (view : List ℕ) (l : List Peer) (count : ℕ) (r : List ℕ) (c-fits : collector < 256 ^ 4)
    (n-fits : length view ≤ 65535) (count_fits : count ≤ 65535) (u : any_unfit l count ≡ false) (fit : Fitting l count) where
  abbrev S : List ℕ
  S = table_octets collector view l count ++ r

  abbrev four : List ℕ
  four = bytes_of 4 collector

  abbrev two : List ℕ
  two = bytes_of 2 (length view)

  abbrev last_two : List ℕ
  last_two = bytes_of 2 count

  abbrev rest : List ℕ
  rest = peers_octets l count ++ r

  collector_back : be_at S 0 4 ≡ collector
  unfolding table_octets head_octets
  collector_back =
      let e : S ≡ [] ++ four ++ (two ++ (view ++ (last_two ++ rest))) = simp append_assoc in
      ap (λ (s : List ℕ). be_at s 0 4) e ∙ be_of_bytes 4 collector [] (two ++ (view ++ (last_two ++ rest))) c-fits

  name_back : name_length S ≡ length view
  unfolding table_octets head_octets name_length
  name_back =
      let e : S ≡ four ++ two ++ (view ++ (last_two ++ rest)) = simp append_assoc in
      let k : 4 ≡ length four = sym (length_bytes 4 collector) in
      ap (λ (s : List ℕ). be_at s 4 2) e ∙ ap (λ (n : ℕ). be_at (four ++ two ++ (view ++ (last_two ++ rest))) n 2) k
      ∙ be_of_bytes 2 (length view) four (view ++ (last_two ++ rest)) (omega arith)

  length_front : length (four ++ two ++ view) ≡ 6 + length view
  length_front = length-append (four ++ two) view ∙ (let a = length-append four two in let b = length_bytes 4 collector in
      let c = length_bytes 2 (length view) in omega arith)

  count_read : be_at S (6 + length view) 2 ≡ count
  unfolding table_octets head_octets
  count_read =
      let e : S ≡ (four ++ two ++ view) ++ last_two ++ rest = simp append_assoc in
      ap (λ (s : List ℕ). be_at s (6 + length view) 2) e
      ∙ ap (λ (n : ℕ). be_at ((four ++ two ++ view) ++ last_two ++ rest) n 2) (sym length_front)
      ∙ be_of_bytes 2 count (four ++ two ++ view) rest (omega arith)

  count_back : peer_count S ≡ count
  unfolding peer_count
  count_back = ap (λ (n : ℕ). be_at S (6 + n) 2) name_back ∙ count_read

  first_back : first_peer S ≡ 8 + length view
  unfolding first_peer
  first_back = ap (λ (n : ℕ). 8 + n) name_back

  view_back : part S 6 (length view) ≡ view
  unfolding table_octets head_octets
  view_back =
      let e : S ≡ (four ++ two) ++ (view ++ (last_two ++ rest)) = simp append_assoc in
      let k : length (four ++ two) ≡ 6 = length-append four two ∙ (let b = length_bytes 4 collector in
      let c = length_bytes 2 (length view) in omega arith) in
      ap (λ (s : List ℕ). part s 6 (length view)) e ∙ ap (take (length view)) (drop_at (four ++ two) (view ++ (last_two ++ rest)) 6 k)
      ∙ take-append_seam view (last_two ++ rest)

  -- a peer stands after the head and the peers before it
  drop_head : (k : ℕ) → drop (8 + length view + k) S ≡ drop k rest
  unfolding table_octets
  drop_head k =
      let head : List ℕ = head_octets collector view count in
      let e : S ≡ head ++ rest = append_assoc head (peers_octets l count) r in
      ap (drop (8 + length view + k)) e ∙ ap (λ (n : ℕ). drop (n + k) (head ++ rest)) (sym (length-head collector view count))
      ∙ drop-append-add head rest k

  peer_there : (i : ℕ) → i < count → (q : List ℕ) × (drop (8 + length view + sizes l i) S ≡ peer_octets (get_or l i nobody) ++ q)
  peer_there i h =
      let p = peers-at l i (count - suc i) r in
      let e : count - suc i + suc i ≡ count = omega arith in
      (p.0, drop_head (sizes l i) ∙ ap (λ (n : ℕ). drop (sizes l i) (peers_octets l n ++ r)) (sym e) ∙ p.1)

  kind_back : (i : ℕ) → i < count → get_or S (8 + length view + sizes l i) 0 ≡ (get_or l i nobody).kind
  kind_back i h =
      let p = peer_there i h in
      let at : ℕ = 8 + length view + sizes l i in
      ap (λ (n : ℕ). get_or S n 0) (sym (add-zero at)) ∙ sym (get_or-drop at S 0 0) ∙ ap (λ (s : List ℕ). get_or s 0 0) p.1
      ∙ kind_of_octets (get_or l i nobody) p.0

  peer_back : (i : ℕ) → i < count → peer_at S (8 + length view + sizes l i) ≡ stored (get_or l i nobody)
  peer_back i h =
      let p = peer_there i h in
      peer-drop S (8 + length view + sizes l i) ∙ ap (λ (s : List ℕ). peer_at s 0) p.1
      ∙ peer_of_octets (get_or l i nobody) p.0 (fit_at l count i u h) (fit i h).0 (fit i h).1

  end_back : (n : ℕ) → n ≤ count → end_at S (8 + length view) n ≡ 8 + length view + sizes l n
  unfolding end_at sizes
  end_back zero h = omega arith
  end_back (suc n) h =
      let e : end_at S (8 + length view) n ≡ 8 + length view + sizes l n = end_back n (omega arith) in
      let k : peer_size (get_or S (end_at S (8 + length view) n) 0) ≡ peer_size (get_or l n nobody).kind =
      ap (λ (m : ℕ). peer_size (get_or S m 0)) e
      ∙ ap peer_size (kind_back n (omega arith)) in
      omega arith

  length_table : length (table_octets collector view l count) ≡ 8 + length view + sizes l count
  unfolding table_octets
  length_table = length-append (head_octets collector view count) (peers_octets l count) ∙ (let a = length-head collector view count in
      let b = length-peers l count in omega arith)

  last_back : last_end S ≡ length (table_octets collector view l count)
  unfolding last_end
  last_back = ap (λ (n : ℕ). end_at S n (peer_count S)) first_back ∙ ap (end_at S (8 + length view)) count_back
      ∙ end_back count (omega arith)
      ∙ sym length_table

  abbrev Back : Heading
  Back = record {
    number = 0;
    collector = collector;
    name = 6;
    length = length view;
    count = count;
    first = 8 + length view;
    end = length
        (table_octets collector view l count);
  }

  head_back : (m : List Peer) → count ≤ length m → head_for S (length m) ≡ Back
  head_back m h =
      let k : length S ≡ length (table_octets collector view l count) + length r = length-append (table_octets collector view l count) r in
      accepts S (length m) (omega (arith, last_back)) (omega (arith, count_back))
      ∙ rw (collector_back, name_back, count_back, first_back, last_back)

  read_back_lem : (m : List Peer) → count ≤ length m → ((load_peers S m).head ≡ Back) × ((i : ℕ) → i < count
      → get_or (load_peers S m).slots i nobody ≡ stored (get_or l i nobody))
  unfolding load_peers
  read_back_lem m h = (
    head_back m h,
    λ i k. ap (λ (x : Heading). get_or (filled S x.first m x.count) i nobody) (head_back m h)
        ∙ get_filled S (8 + length view) m count i k h ∙ ap (peer_at S) (end_back i (omega arith)) ∙ peer_back i k,
  )

module _ (out : List ℕ) (collector : ℕ) (view : List ℕ) (l : List Peer) (count : ℕ) where
  abbrev Done : Writing
  Done = write_peers out collector view l count

  abbrev Body : List ℕ
  Body = table_octets collector view l count

  -- what an accepted call has shown
  abbrev Was : Type 0
  Was =
      (wrong_count (length l) count ≡ false) × (length view ≤ 65535) × (any_unfit l count ≡ false)
      × (Done ≡ record { number = 0; octets = length Body; output = Body ++ drop (length Body) out })

  was_written : Done.number ≡ 0 → Was
  unfolding write_peers at_front
  was_written = by_count (wrong_count (length l) count) refl
    where
      by_room : wrong_count (length l) count ≡ false → length view ≤ 65535 → any_unfit l count ≡ false → (t : Bool)
          → leb (length Body) (length out) ≡ t → Done.number ≡ 0 → Was
      by_room w n u true e = λ z. (w, n, u, simp (w, le-ltb 65535 (length view) n, u, e))
      by_room w n u false e = simp (w, le-ltb 65535 (length view) n, u, e) (λ z. absurd (omega arith))

      by_unfit : wrong_count (length l) count ≡ false → length view ≤ 65535 → (t : Bool) → any_unfit l count ≡ t → Done.number ≡ 0 → Was
      by_unfit w n true e = simp (w, le-ltb 65535 (length view) n, e) (λ z. absurd (omega arith))
      by_unfit w n false e = by_room w n e (leb (length Body) (length out)) refl

      by_name : wrong_count (length l) count ≡ false → (t : Bool) → ltb 65535 (length view) ≡ t → Done.number ≡ 0 → Was
      by_name w true e = simp (w, e) (λ z. absurd (omega arith))
      by_name w false e = by_unfit w (ltb-false _ _ e) (any_unfit l count) refl

      by_count : (t : Bool) → wrong_count (length l) count ≡ t → Done.number ≡ 0 → Was
      by_count true e = simp e (λ z. absurd (omega arith))
      by_count false e = by_name e (ltb 65535 (length view)) refl

  -- how the octets s read: the same head, the same view name, and the peers as they are stored
  pub record ReadsBack (s : List ℕ) (m : List Peer) : Type 0 where
    pub head : (load_peers s m).head ≡ record
        { number = 0; collector = collector; name = 6; length = length view; count = count; first = 8 + length view; end = Done.octets }
    pub name : part s 6 (length view) ≡ view
    pub peers : (i : ℕ) → i < count → get_or (load_peers s m).slots i nobody ≡ stored (get_or l i nobody)

  pub right_of_write : Done.number ≡ 0 → (count ≤ length l) × (count ≤ 65535)
  right_of_write z =
      used-either (length l) count (λ x y. absurd (true≢false (sym x ∙ (was_written z).0))) (λ x y p q. (p, q))

  pub length_of_write : Done.number ≡ 0 → length (take Done.octets Done.output) ≡ Done.octets
  length_of_write z = rw ((was_written z).3, take-append_seam Body (drop (length Body) out))

  -- what was written, read, whatever stands after it
  pub read_of_body : Done.number ≡ 0 → collector < 256 ^ 4 → Fitting l count → (r : List ℕ) (m : List Peer) → count ≤ length m
      → ReadsBack (take Done.octets Done.output ++ r) m
  read_of_body z c fit r m h =
      let w = was_written z in
      let e : Done ≡ record { number = 0; octets = length Body; output = Body ++ drop (length Body) out } = w.3 in
      let k = (right_of_write z).1 in
      let b = read_back_lem collector view l count r c w.1 k w.2 fit m h in
      let o : length Body ≡ Done.octets = sym (ap (λ (x : Writing). x.octets) e) in
      rw (e, take-append_seam Body (drop (length Body) out))
      (record { head = rw o at b.0; name = view_back collector view l count r c w.1 k w.2 fit; peers = b.1 })

  pub read_of_write : Done.number ≡ 0 → collector < 256 ^ 4 → Fitting l count → (m : List Peer) → count ≤ length m
      → ReadsBack Done.output m
  read_of_write z c fit m h =
      rw (take-append-drop Done.octets Done.output) at (read_of_body z c fit (drop Done.octets Done.output) m h)

  -- THEOREM. Where the peers are as they are stored, what was written is read as the same peers.
  pub read_of_write_same : Done.number ≡ 0 → collector < 256 ^ 4 → Fitting l count → AsStored l count
      → (m : List Peer) → count ≤ length m
      → (i : ℕ) → i < count → get_or (load_peers Done.output m).slots i nobody ≡ get_or l i nobody
  read_of_write_same z c fit kept m h i k = (read_of_write z c fit m h).peers i k ∙ kept i k

-- THEOREM. Peers that the calls have put into slots, by whatever run of them, are as they are stored; so they come back the same.
pub reached_as_stored : {l : List Peer} {n : ℕ} → Reached l n → AsStored l n
reached_as_stored (none l) = λ i h. absurd (omega arith)
reached_as_stored (loaded s l) = load_as_stored s l
reached_as_stored (added l n p r) = add_as_stored l n p (reached_as_stored r)
