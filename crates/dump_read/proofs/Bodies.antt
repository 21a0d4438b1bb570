-- A whole body in each of its cases.
use Prim.Native.Nat.{ℕ, ◌+◌, ◌-◌, ◌*◌, ◌≤◌}
use mathlib.Core.Path.{◌≡◌, refl, sym, ◌∙◌, ap}
use mathlib.Core.List.{List}
use native.Mathlib.Nat.{add-zero}
use native.Mathlib.Omega.{arith}
use lib.ListN.{length, get_or, take}
use lib.Seq.{length-take-le}
use lib.Dec.{eqb}
use borrow.Author.Tests.{eq-eqb}
use Rattle.std.specs.Prelude.{Option, Some, None, IsSome}
use Rattle.answer.specs.Refusal.{number_of}
use Rattle.answer.specs.declared.Refusal.{Refusal}
use Rattle.answer.proofs.Refusals.{number_refusal}
use Rattle.octets.specs.Octets.{be_at, part}
use Rattle.octets.proofs.Numbers.{be_take}
use Rattle.octets.proofs.Parts.{octet_part, be_part, be_front}
use Rattle.octets_address.specs.Address.{size_of, address_size, nonzero, address_at, address_in}
use Rattle.octets_address.proofs.Addresses.{address_fits, found_size, nonzero_some, nonzero_none}
use Rattle.dump_layout.specs.Layout.{attributes_at, dump_at}
use Rattle.dump_layout.specs.Check.{check_dump}
use Rattle.dump_layout.specs.declared.Dump.{Dump}
use Rattle.dump_layout.proofs.Checks.{passes-carried, passes-filled}
use Rattle.dump_read.specs.Read.{no_dump, dump_of}

-- what stands before the attributes, read by its parts, where an address is long or has x octets all the same
module _ (s : List ℕ) (x : ℕ) (w : size_of (eqb x 16) ≡ x) (h : attributes_at x ≤ length s) where
  pub head_there : 4 ≡ length (take 4 s)
  head_there = sym (length-take-le 4 s (omega arith))

  address_there : (at : ℕ) {p : List ℕ} → at + x ≤ length s → p ≡ address_in s at (size_of (eqb x 16)) → p ≡ address_at s at x
  address_there at l e = e ∙ rw w (address_fits s at x l)

  pub fields_are : {v q b t o a : ℕ} {p r : List ℕ}
      → v ≡ be_at (take 4 s) 0 2 → q ≡ be_at (take 4 s) 2 2 → p ≡ address_in s 4 (size_of (eqb x 16))
      → b ≡ get_or (part s (4 + x) (10 + x - (4 + x))) 0 0 → t ≡ get_or (part s (4 + x) (10 + x - (4 + x))) 1 0
      → o ≡ be_at (part s (4 + x) (10 + x - (4 + x))) 2 4 → r ≡ address_in s (10 + x) (size_of (eqb x 16))
      → a ≡ be_at (part s (10 + 2 * x) (12 + 2 * x - (10 + 2 * x))) 0 2
      → record { view = v; sequence = q; prefix = p; bits = b; status = t; originated = o; peer = r; asn = a } ≡ dump_at x s
  unfolding dump_at
  fields_are v q p b t o r a =
      let n : ℕ = 10 + x - (4 + x) in
      let f : 4 + x + 1 ≡ 5 + x = omega arith in
      let g : 4 + x + 2 ≡ 6 + x = omega arith in
      let d = b ∙ octet_part s (4 + x) n 0 (omega arith) ∙ ap (λ (k : ℕ). get_or s k 0) (add-zero (4 + x)) in
      let k = t ∙ octet_part s (4 + x) n 1 (omega arith) ∙ ap (λ (k : ℕ). get_or s k 0) f in
      let l = o ∙ be_part s (4 + x) n 2 4 (omega arith) ∙ ap (λ (k : ℕ). be_at s k 4) g in
      let m = a ∙ be_front s (10 + 2 * x) (12 + 2 * x) 2 (omega arith) in
      let i = address_there 4 (omega arith) p in
      let j = address_there (10 + x) (omega arith) r in
      rw (v ∙ be_take s 4 0 2 (omega arith), q ∙ be_take s 4 2 2 (omega arith), i, d, k, l, j, m)

module _ (s : List ℕ) (u : ℕ) where
  pub dump_unmet : (r : Refusal) → number_of r ≡ check_dump s u → no_dump (number_of r) ≡ dump_of s u
  unfolding dump_of
  dump_unmet r n = rw (← n, number_refusal r)

  -- a body that passes
  module _ (passes : 0 ≡ check_dump s u) where
    -- there is a size of its addresses
    pub size_there : (o : Option ℕ) → o ≡ nonzero (address_size u) → IsSome o
    size_there (Some x) e = refl
    size_there None e = absurd (passes-carried s u (sym passes) (nonzero_none (address_size u) e))

    -- x is that size
    module _ {x : ℕ} (sized : Some x ≡ nonzero (address_size u)) where
      -- an address is long or has x octets all the same, and what stands before the attributes is there
      pub front_there : (size_of (eqb x 16) ≡ x) × (attributes_at x ≤ length s)
      front_there =
          let z = nonzero_some (address_size u) sized in
          let f = (passes-filled s u (sym passes)).whole in
          (found_size u sized, omega (arith, z.0))

      pub dump-met : {d : Dump} → d ≡ dump_at x s
          → record { number = 0; dump = d; start = 14 + 2 * x; end = length s } ≡ dump_of s u
      unfolding dump_of
      dump-met q = rw (q, (nonzero_some (address_size u) sized).0, eq-eqb (check_dump s u) 0 (sym passes))
