-- What the call answers, one law for each way through it.
use Prim.Native.Nat.{ℕ, ◌+◌, ◌*◌, ◌<◌, ◌≤◌}
use mathlib.Core.Path.{◌≡◌, refl, sym, ◌∙◌}
use mathlib.Core.Bool.{Bool, true, false, true≢false}
use mathlib.Core.List.{List, ◌++◌}
use lib.ListN.{length}
use lib.Dec.{leb}
use borrow.Author.Tests.{ne_eqb, le-leb, lt-leb, leb-true}
use Rattle.std.specs.Prelude.{Some, None}
use Rattle.answer.specs.Refusal.{number_of}
use Rattle.answer.specs.declared.Refusal.{Refusal}
use Rattle.answer.specs.declared.Refusal.TheVariants.{TooLarge}
use Rattle.answer.specs.Writing.{refuse, at_front}
use Rattle.answer.proofs.Writers.{front_full, front_stored}
use Rattle.octets.specs.Octets.{patch}
use Rattle.octets.proofs.Stores.{stores_front}
use Rattle.octets_address.specs.Address.{address_size, nonzero}
use Rattle.octets_address.proofs.Addresses.{nonzero_some, nonzero_none}
use Rattle.dump_layout.specs.Layout.{attributes_at, head_octets, dump_octets}
use Rattle.dump_layout.specs.declared.Dump.{Dump}
use Rattle.dump_layout.proofs.Fields.{length-head, length-dump}
use Rattle.dump_write.specs.Write.{fits, write_dump}

-- ---- whether each value fits
module _ (x : ℕ) (d : Dump) (n : ℕ) where
  -- what values that fit have
  pub record Fit : Type 0 where
    pub bits : d.bits ≤ 8 * x
    pub asn : d.asn ≤ 65535
    pub count : n ≤ 65535

  pub fit_has : fits x d n ≡ true → Fit
  unfolding fits
  fit_has = by_bits (leb d.bits (8 * x)) refl (leb d.asn 65535) refl (leb n 65535) refl
    where
      by_bits : (t : Bool) → leb d.bits (8 * x) ≡ t → (u : Bool) → leb d.asn 65535 ≡ u → (v : Bool) → leb n 65535 ≡ v
          → fits x d n ≡ true → Fit
      by_bits true p true q true r = λ e. record { bits = leb-true _ _ p; asn = leb-true _ _ q; count = leb-true _ _ r }
      by_bits true p true q false r = simp (p, q, r) (λ e. absurd (true≢false (sym e)))
      by_bits true p false q v r = simp (p, q) (λ e. absurd (true≢false (sym e)))
      by_bits false p u q v r = simp p (λ e. absurd (true≢false (sym e)))

  pub fit_so : Fit → fits x d n ≡ true
  unfolding fits
  fit_so f = simp (le-leb _ _ f.bits, le-leb _ _ f.asn, le-leb _ _ f.count)

-- ---- the call
module _ (s : List ℕ) (u : ℕ) (d : Dump) (attributes : List ℕ) where
  pub write_other : None ≡ nonzero (address_size u) → refuse 6 s ≡ write_dump s u d attributes
  unfolding write_dump
  write_other z = rw (nonzero_none (address_size u) z)

  -- x is the size of an address
  module _ {x : ℕ} (sized : Some x ≡ nonzero (address_size u)) where
    -- a value that does not fit
    large : fits x d (length attributes) ≡ false → refuse 10 s ≡ write_dump s u d attributes
    unfolding write_dump
    large f = let z = nonzero_some (address_size u) sized in rw (← z.0, ne_eqb x 0 z.1, f)

    pub large-bits : 8 * x < d.bits → refuse 10 s ≡ write_dump s u d attributes
    unfolding fits
    large-bits h = large (simp (lt-leb _ _ h))

    module _ (b : d.bits ≤ 8 * x) where
      pub large_as : (r : Refusal) → (r ≡ TooLarge) × (65535 < d.asn) → refuse (number_of r) s ≡ write_dump s u d attributes
      unfolding fits
      large_as r h = rw h.0 (large (simp (le-leb _ _ b, lt-leb _ _ h.1)))

      module _ {v : ℕ} (a : (v ≡ d.asn) × (d.asn ≤ 65535)) where
        pub large_count : (r : Refusal) → (r ≡ TooLarge) × (65535 < length attributes)
            → refuse (number_of r) s ≡ write_dump s u d attributes
        unfolding fits
        large_count r h = rw h.0 (large (simp (le-leb _ _ b, le-leb _ _ a.1, lt-leb _ _ h.1)))

        -- every value fits
        module _ {k : ℕ} (c : (k ≡ length attributes) × (length attributes ≤ 65535)) where
          front : at_front s (dump_octets x d attributes) ≡ write_dump s u d attributes
          unfolding write_dump
          front =
              let z = nonzero_some (address_size u) sized in
              let f = fit_so x d (length attributes) (record { bits = b; asn = a.1; count = c.1 }) in
              rw (← z.0, ne_eqb x 0 z.1, f)

          pub write_full : length s < attributes_at x + length attributes → refuse 9 s ≡ write_dump s u d attributes
          write_full h =
              front_full s (dump_octets x d attributes) (attributes_at x + length attributes) (length-dump x d attributes) h ∙ front

          pub write_done : attributes_at x + length attributes ≤ length s → {t v : List ℕ} → t ≡ patch s 0 (head_octets x d k)
              → v ≡ patch t (attributes_at x) attributes
              → record { number = 0; octets = attributes_at x + length attributes; output = v } ≡ write_dump s u d attributes
          unfolding dump_octets
          write_done h {t} {v} head rest =
              let l : length (head_octets x d (length attributes)) ≡ attributes_at x = length-head x d (length attributes) in
              let all : v ≡ patch s 0 (head_octets x d (length attributes) ++ attributes) =
              stores_front s (attributes_at x) (head_octets x d (length attributes)) attributes l (rw c.0 at head) rest in
              front_stored s (dump_octets x d attributes) (attributes_at x + length attributes) (length-dump x d attributes) h v all ∙ front
