-- What stands in a body that is put together: an entry between other octets, entries one after the other, and the head.
use Prim.Native.Nat.{ℕ, zero, suc, ◌+◌, ◌*◌, ◌^◌, ◌<◌, ◌≤◌}
use mathlib.Core.Path.{◌≡◌, refl, sym, ◌∙◌, ap}
use mathlib.Core.Bool.{Bool, true, false}
use mathlib.Core.List.{List, [], ◌∷◌, ◌++◌, append_assoc, append-nil}
use native.Mathlib.Omega.{arith}
use lib.ListN.{length, get_or, length-append, get_or-eq_default}
use lib.Seq.{take_at, drop_at, get_or_at}
use lib.Dec.{ltb}
use borrow.Author.Tests.{le-leb, ltb-true, ltb-false}
use Rattle.octets.specs.Octets.{be_at, bytes_of, part, Octets}
use Rattle.octets.proofs.Numbers.{be_of_bytes, length_bytes}
use Rattle.rib_head.specs.Layout.{prefix_size}
use Rattle.rib_head.specs.Prefix.{masked, cleared}
use Rattle.rib_read.specs.Rib.{prefix_at}
use Rattle.rib_head.specs.Head.{bits_of, count_at, declared, entries_at}
use Rattle.rib_entries.specs.Entry.{attributes_at, entry_end, fits, passed}
use Rattle.rib_head.proofs.Prefixes.{length-cleared, cleared_same, get_or-cleared, masked-masked, masked-after}
use Rattle.whole.specs.Run.{Given, given_octets, entries_octets}
use Rattle.rib_begin.specs.Layout.{head_with}
use Rattle.rib_write.specs.Layout.{entry_octets}
use Rattle.rib_begin.proofs.Sizes.{length-head_with}
use Rattle.rib_write.proofs.Sizes.{length-entry}

-- every value of an entry fits its field, the path number in p octets
pub record Kept (p : ℕ) (g : Given) : Type 0 where
  pub peer : g.entry.peer < 65536
  pub originated : g.entry.originated < 4294967296
  pub path : g.entry.path < 256 ^ p
  pub attributes : length g.attributes < 65536

abbrev pub AllKept : ℕ → List Given → Type 0
AllKept p [] = Unit {0}
AllKept p (g ∷ gs) = Kept p g × AllKept p gs

-- a number after other octets
be_at_lem : (s p q : List ℕ) (n v at : ℕ) → s ≡ p ++ bytes_of n v ++ q → length p ≡ at → v < 256 ^ n → be_at s at n ≡ v
be_at_lem s p q n v at e l h = rw (e, ← l) (be_of_bytes n v p q h)

-- an entry between h and r
module _ (p : ℕ) (h r : List ℕ) (g : Given) (k : Kept p g) (s : List ℕ) (e : s ≡ h ++ given_octets p g ++ r) where
  pub length_at : be_at s (length h + (6 + p)) 2 ≡ length g.attributes
  unfolding entry_octets
  length_at =
      let f : List ℕ = bytes_of 2 g.entry.peer ++ bytes_of 4 g.entry.originated ++ bytes_of p g.entry.path in
      be_at_lem s (h ++ f) (g.attributes ++ r) 2 (length g.attributes) (length h + (6 + p)) (e ∙ simp append_assoc)
      (simp (length-append, length_bytes) (omega arith)) k.attributes

  pub end-at : entry_end p s (length h) ≡ length (h ++ given_octets p g)
  unfolding entry_end attributes_at
  end-at = rw (length_at, length-append, length-entry p g.entry g.attributes) (omega arith)

  pub fits-at : fits p s (length h) ≡ true
  unfolding fits
  fits-at =
      let l : length s ≡ length (h ++ given_octets p g) + length r = ap length e ∙ length-append (h ++ given_octets p g) r in
      le-leb (entry_end p s (length h)) (length s) (omega (arith, end-at))

  pub peer-at : be_at s (length h) 2 ≡ g.entry.peer
  unfolding entry_octets
  peer-at =
      let f : List ℕ =
      bytes_of 4 g.entry.originated ++ bytes_of p g.entry.path ++ bytes_of 2 (length g.attributes) ++ g.attributes ++ r in
      be_at_lem s h f 2 g.entry.peer (length h) (e ∙ simp append_assoc) refl k.peer

  pub originated-at : be_at s (length h + 2) 4 ≡ g.entry.originated
  unfolding entry_octets
  originated-at =
      let f : List ℕ = bytes_of p g.entry.path ++ bytes_of 2 (length g.attributes) ++ g.attributes ++ r in
      be_at_lem s (h ++ bytes_of 2 g.entry.peer) f 4 g.entry.originated (length h + 2) (e ∙ simp append_assoc)
      (simp (length-append, length_bytes)) k.originated

  pub path-at : be_at s (length h + 6) p ≡ g.entry.path
  unfolding entry_octets
  path-at =
      let f : List ℕ = bytes_of 2 g.entry.peer ++ bytes_of 4 g.entry.originated in
      be_at_lem s (h ++ f) (bytes_of 2 (length g.attributes) ++ g.attributes ++ r) p g.entry.path (length h + 6)
      (e ∙ simp append_assoc) (simp (length-append, length_bytes)) k.path

  pub attributes-at : part s (length h + (8 + p)) (length g.attributes) ≡ g.attributes
  unfolding entry_octets
  attributes-at =
      let f : List ℕ =
      bytes_of 2 g.entry.peer ++ bytes_of 4 g.entry.originated ++ bytes_of p g.entry.path ++ bytes_of 2
      (length g.attributes) in
      let q : s ≡ h ++ f ++ (g.attributes ++ r) = e ∙ simp append_assoc in
      let l : length (h ++ f) ≡ length h + (8 + p) = simp (length-append, length_bytes) (omega arith) in
      rw (q, drop_at (h ++ f) (g.attributes ++ r) (length h + (8 + p)) l) (take_at g.attributes r (length g.attributes) refl)

-- the entry at an offset with its attributes, and n of them from there on
unfoldable pub given_at : ℕ → List ℕ → ℕ → Given
given_at p s at =
    record {
      entry = record { peer = be_at s at 2; originated = be_at s (at + 2) 4; path = be_at s (at + 6) p };
      attributes = part s (at + (8 + p)) (be_at s (at + (6 + p)) 2);
    }

unfoldable pub givens_at : ℕ → List ℕ → ℕ → ℕ → List Given
givens_at p s at zero = []
givens_at p s at (suc n) = given_at p s at ∷ givens_at p s (entry_end p s at) n

pub given_at_lem : (p : ℕ) (h r : List ℕ) (g : Given) → Kept p g → (s : List ℕ) → s ≡ h ++ given_octets p g ++ r
    → given_at p s (length h) ≡ g
unfolding given_at
given_at_lem p h r g k s e =
    rw (peer-at p h r g k s e, originated-at p h r g k s e, path-at p h r g k s e, length_at p h r g k s e, attributes-at p h r g k s e)

-- entries between h and r
step-over : (p : ℕ) (h r : List ℕ) (g : Given) (gs : List Given) (s : List ℕ) → s ≡ h ++ entries_octets p (g ∷ gs) ++ r
    → s ≡ h ++ given_octets p g ++ (entries_octets p gs ++ r)
unfolding entries_octets
step-over p h r g gs s e = e ∙ simp append_assoc

step_on : (p : ℕ) (h r : List ℕ) (g : Given) (gs : List Given) (s : List ℕ) → s ≡ h ++ entries_octets p (g ∷ gs) ++ r
    → s ≡ h ++ given_octets p g ++ entries_octets p gs ++ r
unfolding entries_octets
step_on p h r g gs s e = e ∙ simp append_assoc

pub passed_built : (p : ℕ) (gs : List Given) (h r : List ℕ) → AllKept p gs → (s : List ℕ) → s ≡ h ++ entries_octets p gs ++ r
    → passed p s (length h) (length gs) ≡ record { at = length (h ++ entries_octets p gs); left = 0 }
unfolding passed entries_octets
passed_built p [] h r k s e = rw append-nil
passed_built p (g ∷ gs) h r k s e =
    let f : List ℕ = h ++ given_octets p g in
    let o = step-over p h r g gs s e in
    rw (
      fits-at p h (entries_octets p gs ++ r) g k.0 s o,
      end-at p h (entries_octets p gs ++ r) g k.0 s o,
      ← append_assoc h (given_octets p g) (entries_octets p gs),
    )
    (passed_built p gs f r k.1 s (step_on p h r g gs s e))

pub givens_built : (p : ℕ) (gs : List Given) (h r : List ℕ) → AllKept p gs → (s : List ℕ) → s ≡ h ++ entries_octets p gs ++ r
    → givens_at p s (length h) (length gs) ≡ gs
unfolding givens_at entries_octets
givens_built p [] h r k s e = refl
givens_built p (g ∷ gs) h r k s e =
    let f : List ℕ = h ++ given_octets p g in
    let o = step-over p h r g gs s e in
    rw (given_at_lem p h (entries_octets p gs ++ r) g k.0 s o, end-at p h (entries_octets p gs ++ r) g k.0 s o)
    (ap (λ (l : List Given). g ∷ l) (givens_built p gs f r k.1 s (step_on p h r g gs s e)))

-- a head without its count: sequence, prefix bits, and the prefix's octets as they stand
pub record Front : Type 0 where
  pub sequence : ℕ
  pub bits : ℕ
  pub octets : List ℕ

-- the head with a count
abbrev pub head_of : Front → ℕ → List ℕ
head_of h count = head_with h.sequence h.bits h.octets count

-- the head h before r
module _ (h : Front) (count : ℕ) (r : List ℕ) (l : length h.octets ≡ prefix_size h.bits) (s : List ℕ)
    (e : s ≡ head_of h count ++ r) where
  pub bits_at : bits_of s ≡ h.bits
  unfolding bits_of head_with
  bits_at =
      let q : s ≡ bytes_of 4 h.sequence ++ (h.bits ∷ (h.octets ++ bytes_of 2 count ++ r)) = e ∙ simp append_assoc in
      rw q (get_or_at (bytes_of 4 h.sequence) h.bits (h.octets ++ bytes_of 2 count ++ r) 0 4 (length_bytes 4 h.sequence))

  pub count_at_lem : count_at s ≡ 5 + prefix_size h.bits
  unfolding count_at
  count_at_lem = rw bits_at

  pub entries-at : entries_at s ≡ length (head_of h count)
  unfolding entries_at
  entries-at = rw (bits_at, length-head_with h.sequence h.bits h.octets count, l)

  pub sequence-at : h.sequence < 4294967296 → be_at s 0 4 ≡ h.sequence
  unfolding head_with
  sequence-at b = be_at_lem s [] ((h.bits ∷ []) ++ h.octets ++ bytes_of 2 count ++ r) 4 h.sequence 0 (e ∙ simp append_assoc) refl b

  pub declared-at : count < 65536 → declared s ≡ count
  unfolding declared head_with
  declared-at b =
      let f : List ℕ = bytes_of 4 h.sequence ++ (h.bits ∷ []) ++ h.octets in
      rw count_at_lem (be_at_lem s f r 2 count (5 + prefix_size h.bits) e (simp (length-append, length_bytes) (omega arith)) b)

  part-prefix : part s 5 (prefix_size h.bits) ≡ h.octets
  unfolding head_with
  part-prefix =
      let f : List ℕ = bytes_of 4 h.sequence ++ (h.bits ∷ []) in
      let q : s ≡ f ++ (h.octets ++ (bytes_of 2 count ++ r)) = e ∙ simp append_assoc in
      let k : length f ≡ 5 = simp (length-append, length_bytes) refl in
      rw (q, drop_at f (h.octets ++ (bytes_of 2 count ++ r)) 5 k) (take_at h.octets (bytes_of 2 count ++ r) (prefix_size h.bits) l)

  pub prefix-at : prefix_at h.bits s ≡ cleared h.bits h.octets 16
  unfolding prefix_at
  prefix-at = rw part-prefix

-- cleared octets that are cleared again, in 16 octets
pub cleared_again : (bits : ℕ) (prefix : List ℕ) → Octets prefix
    → cleared bits (cleared bits prefix (prefix_size bits)) 16 ≡ cleared bits prefix 16
unfolding prefix_size
cleared_again bits prefix o =
    cleared_same bits (cleared bits prefix (prefix_size bits)) prefix 16 (λ i h. by_test i (ltb i (prefix_size bits)) refl)
  where
    by_test : (i : ℕ) (b : Bool) → ltb i (prefix_size bits) ≡ b
        → masked bits i (get_or (cleared bits prefix (prefix_size bits)) i 0) ≡ masked bits i (get_or prefix i 0)
    by_test i true t =
        rw (get_or-cleared bits prefix (prefix_size bits) i (ltb-true i (prefix_size bits) t)) (masked-masked bits i (get_or prefix i 0))
    by_test i false t =
        let h : prefix_size bits ≤ i = ltb-false i (prefix_size bits) t in
        let k : bits ≤ 8 * i = omega arith in
        let l : length (cleared bits prefix (prefix_size bits)) ≤ i = rw (length-cleared bits prefix (prefix_size bits)) h in
        rw (get_or-eq_default (cleared bits prefix (prefix_size bits)) 0 l)
        (sym (masked-after bits i 0 (omega arith) k) ∙ masked-after bits i (get_or prefix i 0) (o i) k)
