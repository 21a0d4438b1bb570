-- The whole body and its prefix, one law for each way through the call.
use Prim.Native.Nat.{ℕ, zero, suc, ◌+◌, ◌-◌, ◌≤◌}
use mathlib.Core.Path.{◌≡◌, refl, sym, ◌∙◌, ap}
use mathlib.Core.Bool.{Bool, true, false}
use mathlib.Core.List.{List, ◌++◌}
use native.Mathlib.Omega.{arith}
use lib.ListN.{length, get_or, replicate, length-take, length-drop, length-replicate, get_or-append, get_or-eq_default}
use lib.Seq.{get_or-append-add}
use lib.Dec.{ltb}
use borrow.Author.Tests.{eq-eqb, ltb-true, ltb-false}
use Rattle.std.specs.Prelude.{Ok, Err}
use Rattle.answer.specs.Refusal.{number_of}
use Rattle.answer.specs.declared.Refusal.{Refusal}
use Rattle.answer.proofs.Refusals.{number_refusal}
use Rattle.octets.specs.Octets.{be_at, part, patch}
use Rattle.octets.proofs.Stores.{patch_front}
use Rattle.octets.proofs.Parts.{drop-replicate}
use Rattle.rib_head.specs.Layout.{path_size, prefix_size}
use Rattle.rib_head.specs.Prefix.{masked, cleared}
use Rattle.rib_head.specs.Head.{bits_of, entries_at, check_rib}
use Rattle.rib_head.proofs.Heads.{met-within, met-bits}
use Rattle.rib_head.proofs.Prefixes.{cleared_same}
use Rattle.rib_entries.specs.Entry.{passed, read_count, first_of, cursor_values}
use Rattle.rib_entries.specs.declared.Cursor.{Cursor}
use Rattle.rib_entries.proofs.Passing.{left_le}
use Rattle.rib_entries.proofs.Steps.{first-refused, first-check, left-first, at_first}
use Rattle.rib_read.specs.Rib.{no_rib, prefix_at, rib_of}

module _ (s : List ℕ) (t : ℕ) where
  pub rib_unmet : (r : Refusal) → cursor_values (Err r) ≡ first_of s t → no_rib (number_of r) ≡ rib_of s t
  unfolding rib_of
  rib_unmet r said = rw (← first-refused s t r said, number_refusal r)

  module _ {d : Cursor} (said : cursor_values (Ok d) ≡ first_of s t) where
    -- what the passed entries leave, and the room that the head takes
    pub left-le-first : {c : Cursor} → c ≡ passed (path_size t) s d.at d.left → c.left ≤ d.left
    left-le-first q = rw q (left_le (path_size t) s d.at d.left)

    pub prefix-within : {b : ℕ} → b ≡ get_or s 4 0 → (b ≤ 128) × (5 + prefix_size b ≤ length s)
    unfolding entries_at bits_of
    prefix-within e = rw e (met-bits s t (first-check s t said), omega (arith, met-within s t (first-check s t said)))

    -- the body, read
    pub rib-met : {c : Cursor} → c ≡ passed (path_size t) s d.at d.left → {q b : ℕ} {x : List ℕ}
        → q ≡ be_at s 0 4 → b ≡ get_or s 4 0 → x ≡ prefix_at b s
        →
        record {
          number = 0;
          sequence = q;
          bits = b;
          prefix = x;
          declared = d.left;
          count = d.left - c.left;
          entries = d.at;
        } ≡ rib_of s t
    unfolding rib_of read_count bits_of
    rib-met g q e x = rw (eq-eqb (check_rib s t) 0 (first-check s t said), g, x, e, q, left-first s t said, at_first s t said)

-- octets and zeros after them
pub get_or_padded : (l : List ℕ) (n i : ℕ) → get_or (l ++ replicate n 0) i 0 ≡ get_or l i 0
get_or_padded l n i = by_test (ltb i (length l)) refl
  where
    zeros : (n j : ℕ) → ◌≡◌ {A = ℕ} (get_or (replicate n 0) j 0) 0
    zeros zero j = refl
    zeros (suc n) zero = refl
    zeros (suc n) (suc j) = zeros n j

    by_test : (t : Bool) → ltb i (length l) ≡ t → get_or (l ++ replicate n 0) i 0 ≡ get_or l i 0
    by_test true e = get_or-append l (replicate n 0) 0 i (ltb-true _ _ e)
    by_test false e =
        let h : length l ≤ i = ltb-false _ _ e in
        let k : length l + (i - length l) ≡ i = omega arith in
        rw (← k, get_or-append-add l (replicate n 0) (i - length l) 0, k) (zeros n (i - length l) ∙ sym (get_or-eq_default l 0 h))

-- the octets of a prefix, stored in front of zeros and cleared
pub prefix-stored : (bits : ℕ) (s : List ℕ) {n : ℕ} {p : List ℕ} → bits ≤ 128 → n ≡ prefix_size bits → 5 + prefix_size bits ≤ length s
    → p ≡ patch (replicate 16 0) 0 (part s 5 (5 + n - 5)) → cleared bits p 16 ≡ prefix_at bits s
unfolding prefix_at prefix_size
prefix-stored bits s {n} {p} h e l q =
    let w : 5 + n - 5 ≡ n = omega arith in
    let k : length (part s 5 n) ≡ n = simp (length-take, length-drop) (omega arith) in
    let m : n ≤ 16 = omega arith in
    let z : length {A = ℕ} (replicate 16 0) ≡ 16 = length-replicate {A = ℕ} 16 0 in
    let f : p ≡ part s 5 n ++ replicate (16 - n) 0 =
    rw w at q ∙ patch_front (replicate 16 0) (part s 5 n) (omega arith) ∙ rw (k, drop-replicate n 16 0) in
    rw (← e) (cleared_same bits p (part s 5 n) 16 (λ i g. ap (masked bits i) (rw f (get_or_padded (part s 5 n) (16 - n) i))))
