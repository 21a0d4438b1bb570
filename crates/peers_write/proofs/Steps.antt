-- What the helpers give, and what the call answers, case by case.
use Prim.Native.Nat.{ℕ, zero, suc, ◌+◌, ◌/◌, ◌%◌, ◌<◌, ◌≤◌}
use mathlib.Core.Path.{◌≡◌, refl, ◌∙◌, ap}
use mathlib.Core.List.{List, [], ◌∷◌, ◌++◌}
use mathlib.Core.Bool.{Bool, true, false}
use native.Mathlib.Nat.{zero-add}
use native.Mathlib.Omega.{arith}
use borrow.Author.Tests.{lt-ltb, le-ltb, lt-leb, eqb-true, eqb-false}
use lib.Dec.{eqb}
use lib.ListN.{length, get_or, take, length-append}
use Rattle.std.proofs.lemmas.List.{get_or-take, length-take-le}
use Rattle.answer.specs.Writing.{refuse, at_front}
use Rattle.octets.specs.Octets.{bytes_of, patch}
use Rattle.octets.proofs.Numbers.{length_bytes}
use Rattle.octets.proofs.Stores.{stores}
use Rattle.octets_address.specs.Address.{size_of}
use Rattle.peers_entry.specs.Peer.{nobody, wide, address_size, as_size, peer_size}
use Rattle.peers_entry.specs.declared.Peer.{Peer}
use Rattle.peers_slots.specs.Used.{wrong_count}
use Rattle.peers_write.specs.Write.{head_octets, peers_octets, any_unfit, table_octets, write_peers}
use Rattle.peers_write.specs.Steps.{sizes}
use Rattle.peers_write.proofs.Writes.{length_table, whole}

-- the sizes by the low two bits of the type
abbrev sizes-row : List ℕ
sizes-row = 11 ∷ 23 ∷ 13 ∷ 25 ∷ []

pub size-row : (kind : ℕ) → get_or sizes-row (kind % 4) 0 ≡ peer_size kind
unfolding peer_size address_size size_of as_size wide
size-row kind = by_tests (eqb (kind % 2) 1) (eqb (kind / 2 % 2) 1) refl refl
  where
    by_tests : (t u : Bool) → eqb (kind % 2) 1 ≡ t → eqb (kind / 2 % 2) 1 ≡ u
        → get_or sizes-row (kind % 4) 0 ≡ peer_size kind
    by_tests true true p q =
        let h : kind % 2 ≡ 1 = eqb-true _ _ p in
        let w : kind / 2 % 2 ≡ 1 = eqb-true _ _ q in
        let e : kind % 4 ≡ 3 = omega arith in
        rw (e, p, q)
    by_tests true false p q =
        let h : kind % 2 ≡ 1 = eqb-true _ _ p in
        let w : kind / 2 % 2 ≡ 1 → ⊥ = eqb-false _ _ q in
        let e : kind % 4 ≡ 1 = omega arith in
        rw (e, p, q)
    by_tests false true p q =
        let h : kind % 2 ≡ 1 → ⊥ = eqb-false _ _ p in
        let w : kind / 2 % 2 ≡ 1 = eqb-true _ _ q in
        let e : kind % 4 ≡ 2 = omega arith in
        rw (e, p, q)
    by_tests false false p q =
        let h : kind % 2 ≡ 1 → ⊥ = eqb-false _ _ p in
        let w : kind / 2 % 2 ≡ 1 → ⊥ = eqb-false _ _ q in
        let e : kind % 4 ≡ 0 = omega arith in
        rw (e, p, q)

-- ---- the slots in use alone
module _ (l : List Peer) (count : ℕ) where
  taken : (i : ℕ) → i < count → get_or (take count l) i nobody ≡ get_or l i nobody
  taken i h = get_or-take count l i nobody h

  octets-taken : (n : ℕ) → n ≤ count → peers_octets (take count l) n ≡ peers_octets l n
  unfolding peers_octets
  octets-taken zero h = refl
  octets-taken (suc n) h = rw (octets-taken n (omega arith), taken n (omega arith))

  sizes-taken : (n : ℕ) → n ≤ count → sizes (take count l) n ≡ sizes l n
  unfolding sizes
  sizes-taken zero h = refl
  sizes-taken (suc n) h = rw (sizes-taken n (omega arith), taken n (omega arith))

  unfit-taken : (n : ℕ) → n ≤ count → any_unfit (take count l) n ≡ any_unfit l n
  unfolding any_unfit
  unfit-taken zero h = refl
  unfit-taken (suc n) h = rw (unfit-taken n (omega arith), taken n (omega arith))

  module _ (inside : count ≤ length l) where
    pub taken-length : length (take count l) ≡ count
    taken-length = length-take-le count l inside

    pub taken_unfit : any_unfit (take count l) (length (take count l)) ≡ any_unfit l count
    taken_unfit = ap (any_unfit (take count l)) taken-length ∙ unfit-taken count (omega arith)

    pub taken_sizes : sizes (take count l) (length (take count l)) ≡ sizes l count
    taken_sizes = ap (sizes (take count l)) taken-length ∙ sizes-taken count (omega arith)

    pub taken_octets : peers_octets (take count l) (length (take count l)) ≡ peers_octets l count
    taken_octets = ap (peers_octets (take count l)) taken-length ∙ octets-taken count (omega arith)

-- ---- the answer
module _ (s : List ℕ) (collector : ℕ) (view : List ℕ) (l : List Peer) (count : ℕ) where
  pub write_wrong : wrong_count (length l) count ≡ true → refuse 8 s ≡ write_peers s collector view l count
  unfolding write_peers
  write_wrong w = simp w

  module _ (w : wrong_count (length l) count ≡ false) where
    pub write_name : 65535 < length view → refuse 10 s ≡ write_peers s collector view l count
    unfolding write_peers
    write_name h = simp (w, lt-ltb _ _ h)

    module _ (n : length view ≤ 65535) where
      pub write_unfit : any_unfit l count ≡ true → refuse 10 s ≡ write_peers s collector view l count
      unfolding write_peers
      write_unfit u = simp (w, le-ltb _ _ n, u)

      module _ (u : any_unfit l count ≡ false) where
        -- all fits its fields, so the room decides
        fits : at_front s (table_octets collector view l count) ≡ write_peers s collector view l count
        unfolding write_peers
        fits = simp (w, le-ltb _ _ n, u)

        pub write_small : length s < 8 + length view + sizes l count → refuse 9 s ≡ write_peers s collector view l count
        unfolding at_front
        write_small h =
            let m : length s < length (table_octets collector view l count) = omega (arith, length_table s collector view l count) in
            simp (lt-leb _ _ m) at fits

        pub write_whole : {t u : List ℕ} {n : ℕ} → 8 + length view + sizes l count ≤ length s
            → t ≡ patch s 0 (head_octets collector view count) → u ≡ patch t (8 + length view) (peers_octets l count)
            → n ≡ 8 + length view + sizes l count
            → record { number = 0; octets = n; output = u } ≡ write_peers s collector view l count
        write_whole {t} {u} {n} h e f k =
            let table : length (table_octets collector view l count) ≡ 8 + length view + sizes l count =
            length_table s collector view l count in
            rw f (whole s collector view l count (omega arith) (omega arith) e ∙ fits)

-- the head's fields one after the other
pub head_run : (s : List ℕ) (collector : ℕ) (view : List ℕ) (count : ℕ) {t u v w : List ℕ} → t ≡ patch s 0 (bytes_of 4 collector)
    → u ≡ patch t 4 (bytes_of 2 (length view))
    → v ≡ patch u 6 view → w ≡ patch v (6 + length view) (bytes_of 2 count) → w ≡ patch s 0 (head_octets collector view count)
unfolding head_octets
head_run s collector view count {t} {u} {v} {w} ht hu hv hw =
    let four : List ℕ = bytes_of 4 collector in
    let two : List ℕ = bytes_of 2 (length view) in
    let l : length four ≡ 4 = length_bytes 4 collector in
    let m : length (four ++ two) ≡ 6 = length-append four two ∙ (let k : length two ≡ 2 = length_bytes 2 (length view) in omega arith) in
    let n : length (four ++ two ++ view) ≡ 6 + length view = length-append (four ++ two) view ∙ (omega arith) in
    let first : u ≡ patch s 0 (four ++ two) = stores s 0 4 four two l ht (rw zero-add hu) in
    let then : v ≡ patch s 0 (four ++ two ++ view) = stores s 0 6 (four ++ two) view m first (rw zero-add hv) in
    stores s 0 (6 + length view) (four ++ two ++ view) (bytes_of 2 count) n then (rw zero-add hw)
