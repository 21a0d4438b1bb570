-- The slots written as a body: what the peers leave of the room, one turn, and the end.
use Prim.Native.Nat.{ℕ, zero, suc, ◌+◌, ◌-◌, ◌*◌, ◌≤◌}
use mathlib.Core.Path.{◌≡◌, refl, ◌∙◌, ap}
use mathlib.Core.List.{List, ◌++◌}
use mathlib.Core.Bool.{false, ◌||◌}
use native.Mathlib.Nat.{zero-add, suc-add}
use native.Mathlib.Numerals.{add-one}
use native.Mathlib.Omega.{arith}
use borrow.Author.Tests.{le-leb}
use lib.ListN.{length, get_or, length-append}
use Rattle.answer.specs.Writing.{at_front}
use Rattle.octets.specs.Octets.{bytes_of, patch}
use Rattle.octets.proofs.Numbers.{length_bytes}
use Rattle.octets.proofs.Stores.{stores, patch_front}
use Rattle.peers_entry.specs.Peer.{nobody, peer_size, unfit, peer_octets, put_peer}
use Rattle.peers_entry.specs.declared.Peer.{Peer}
use Rattle.peers_entry.proofs.Records.{length-peer}
use Rattle.peers_entry.proofs.Sizes.{size_is, address_le, as_le}
use Rattle.peers_write.specs.Write.{head_octets, peers_octets, any_unfit, table_octets}
use Rattle.peers_write.specs.Steps.{sizes}

pub peer_le : (kind : ℕ) → peer_size kind ≤ 25
peer_le kind = omega (arith, size_is kind, address_le kind, as_le kind)

-- ---- what the peers in the first n slots take, and whether one does not fit
module _ (l : List Peer) where
  pub sizes_none : 0 ≡ sizes l 0
  unfolding sizes
  sizes_none = refl

  pub sizes_more : (i : ℕ) → sizes l i + peer_size (get_or l i nobody).kind ≡ sizes l (i + 1)
  unfolding sizes
  sizes_more i = rw add-one

  pub sizes-least : (n : ℕ) → sizes l n ≤ n * 25
  unfolding sizes
  sizes-least zero = omega arith
  sizes-least (suc n) =
      let h : sizes l n ≤ n * 25 = sizes-least n in
      let k : peer_size (get_or l n nobody).kind ≤ 25 = peer_le (get_or l n nobody).kind in
      omega arith

  pub unfit_none : false ≡ any_unfit l 0
  unfolding any_unfit
  unfit_none = refl

  pub unfit_more : (i : ℕ) → any_unfit l i || unfit (get_or l i nobody) ≡ any_unfit l (i + 1)
  unfolding any_unfit
  unfit_more i = rw add-one

-- ---- the octets of the peers
module _ (l : List Peer) where
  pub length-peers : (n : ℕ) → length (peers_octets l n) ≡ sizes l n
  unfolding peers_octets sizes
  length-peers zero = refl
  length-peers (suc n) =
      let a : length (peers_octets l n) ≡ sizes l n = length-peers n in
      let b : length (peer_octets (get_or l n nobody)) ≡ peer_size (get_or l n nobody).kind = length-peer (get_or l n nobody) in
      length-append (peers_octets l n) (peer_octets (get_or l n nobody)) ∙ omega arith

  sizes_on : (n k : ℕ) → sizes l n ≤ sizes l (k + n)
  unfolding sizes
  sizes_on n zero = rw zero-add (omega arith)
  sizes_on n (suc k) = let h : sizes l n ≤ sizes l (k + n) = sizes_on n k in rw suc-add (omega arith)

  pub sizes-le : (n m : ℕ) → n ≤ m → sizes l n ≤ sizes l m
  sizes-le n m h = let e : m - n + n ≡ m = omega arith in rw e at (sizes_on n (m - n))

  octets_more : (i : ℕ) → peers_octets l i ++ peer_octets (get_or l i nobody) ≡ peers_octets l (i + 1)
  unfolding peers_octets
  octets_more i = rw add-one

  -- i peers are written from at on in t, and the next one goes to p
  pub written_none : (t : List ℕ) (at : ℕ) → (t ≡ patch t at (peers_octets l 0)) × (at ≡ at + sizes l 0)
  unfolding peers_octets sizes patch
  written_none t at = (refl, omega arith)

  put_fits : (s : List ℕ) (p : ℕ) (e : Peer) → p + peer_size e.kind ≤ length s
      → put_peer s p e ≡ (patch s p (peer_octets e), p + peer_size e.kind)
  unfolding put_peer
  put_fits s p e h = simp (le-leb _ _ h)

  pub written_turn : (t : List ℕ) (at i : ℕ) {p r : ℕ} {s u : List ℕ} → at + sizes l (i + 1) ≤ length s → s ≡ patch t at (peers_octets l i)
      → p ≡ at + sizes l i → (u, r) ≡ put_peer s p (get_or l i nobody)
      → (u ≡ patch t at (peers_octets l (i + 1))) × (r ≡ at + sizes l (i + 1))
  written_turn t at i {p} {r} {s} {u} h e k j =
      let m : sizes l i + peer_size (get_or l i nobody).kind ≡ sizes l (i + 1) = sizes_more l i in
      let f : p + peer_size (get_or l i nobody).kind ≤ length s = omega arith in
      let both : ◌≡◌ {A = List ℕ × ℕ} (u, r) (patch s p (peer_octets (get_or l i nobody)), p + peer_size (get_or l i nobody).kind) = j
      ∙ put_fits s p (get_or l i nobody) f in
      let first : u ≡ patch s (at + sizes l i) (peer_octets (get_or l i nobody)) = ap (λ (x : List ℕ × ℕ). x.0) both
      ∙ ap (λ (n : ℕ). patch s n (peer_octets (get_or l i nobody))) k in
      let second : r ≡ p + peer_size (get_or l i nobody).kind = ap (λ (x : List ℕ × ℕ). x.1) both in (
        stores t at (sizes l i) (peers_octets l i) (peer_octets (get_or l i nobody)) (length-peers i) e first
            ∙ ap (patch t at) (octets_more i),
        omega arith,
      )

pub length-head : (collector : ℕ) (view : List ℕ) (count : ℕ) → length (head_octets collector view count) ≡ 8 + length view
unfolding head_octets
length-head collector view count =
    let four : List ℕ = bytes_of 4 collector in
    let two : List ℕ = bytes_of 2 (length view) in
    let last : List ℕ = bytes_of 2 count in
    let a : length four ≡ 4 = length_bytes 4 collector in
    let b : length two ≡ 2 = length_bytes 2 (length view) in
    let c : length last ≡ 2 = length_bytes 2 count in
    let d : length (four ++ two ++ view ++ last) ≡ length (four ++ two ++ view) + length last = length-append (four ++ two ++ view) last in
    let e : length (four ++ two ++ view) ≡ length (four ++ two) + length view = length-append (four ++ two) view in
    let f : length (four ++ two) ≡ length four + length two = length-append four two in
    omega arith

-- ---- the whole body
module _ (s : List ℕ) (collector : ℕ) (view : List ℕ) (l : List Peer) (count : ℕ) where
  abbrev Table : List ℕ
  Table = table_octets collector view l count

  pub length_table : length Table ≡ 8 + length view + sizes l count
  unfolding table_octets
  length_table =
      let a : length (head_octets collector view count) ≡ 8 + length view = length-head collector view count in
      let b : length (peers_octets l count) ≡ sizes l count = length-peers l count in
      length-append (head_octets collector view count) (peers_octets l count) ∙ omega arith

  -- the head and the peers after it
  pub whole : {t : List ℕ} {n : ℕ} → length Table ≤ length s → n ≡ length Table → t ≡ patch s 0 (head_octets collector view count)
      → record { number = 0; octets = n; output = patch t (8 + length view) (peers_octets l count) } ≡ at_front s Table
  unfolding at_front table_octets
  whole {t} {n} r hn ht =
      let head : List ℕ = head_octets collector view count in
      let e : patch t (8 + length view) (peers_octets l count) ≡ patch s 0 Table =
      stores s 0 (8 + length view) head (peers_octets l count) (length-head collector view count) ht (rw zero-add) in
      rw (hn, e, patch_front s Table r) (simp (le-leb (length Table) (length s) r))
