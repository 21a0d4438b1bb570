-- A TABLE_DUMP body there and back: what is written is read as the same fields and attributes, and what is read is written as the same
-- octets.
use Prim.Native.Nat.{ℕ, ◌+◌, ◌-◌, ◌*◌, ◌^◌, ◌<◌, ◌≤◌}
use mathlib.Core.Path.{◌≡◌, refl, sym, ◌∙◌, ap}
use mathlib.Core.Bool.{Bool, true, false}
use mathlib.Core.List.{List, ◌++◌}
use native.Mathlib.Omega.{arith}
use lib.ListN.{length, take, drop, length-drop}
use lib.Seq.{take-append_seam}
use lib.Dec.{eqb, leb}
use borrow.Author.Tests.{eq-eqb, ne_eqb, eqb-true, eqb-false, le-leb}
use Rattle.answer.specs.Writing.{Writing, at_front}
use Rattle.octets.specs.Octets.{part, Octets}
use Rattle.octets.proofs.Numbers.{be_lt}
use Rattle.octets.proofs.Parts.{part-rest}
use Rattle.octets_address.specs.Address.{address_size}
use Rattle.dump_layout.specs.Layout.{attributes_at, dump_at, dump_octets}
use Rattle.dump_layout.specs.Check.{check_dump}
use Rattle.dump_layout.specs.declared.Dump.{Dump}
use Rattle.dump_layout.proofs.Checks.{passes_so, passes-carried, passes-filled}
use Rattle.dump_layout.proofs.Fields.{kept, attributes_back, filled_back, dump_of_octets, octets_of_dump}
use Rattle.dump_read.specs.Read.{dump_of}
use Rattle.dump_write.specs.Write.{fits, write_dump}
use Rattle.dump_write.proofs.Answers.{Fit, fit_has, fit_so}

-- a body that passes its check, read
dump_read : (s : List ℕ) (u : ℕ) → check_dump s u ≡ 0
    → dump_of s u ≡ record { number = 0; dump = dump_at (address_size u) s; start = attributes_at (address_size u); end = length s }
unfolding dump_of
dump_read s u m = rw (eq-eqb (check_dump s u) 0 m)

-- one that is read passes
pub read_passes : (s : List ℕ) (u : ℕ) → (dump_of s u).number ≡ 0 → check_dump s u ≡ 0
unfolding dump_of
read_passes s u = by_test (eqb (check_dump s u) 0) refl
  where
    by_test : (t : Bool) → eqb (check_dump s u) 0 ≡ t → (dump_of s u).number ≡ 0 → check_dump s u ≡ 0
    by_test true e = λ z. eqb-true _ _ e
    by_test false e = simp e (λ z. z)

-- ---- written, then read
module _ (out : List ℕ) (u : ℕ) (d : Dump) (attributes : List ℕ) where
  abbrev Done : Writing
  Done = write_dump out u d attributes

  abbrev x : ℕ
  x = address_size u

  abbrev Body : List ℕ
  Body = dump_octets x d attributes

  -- what an accepted call has shown
  record Was : Type 0 where
    carried : x ≡ 0 → ⊥
    fit : Fit x d (length attributes)
    all : Done ≡ record { number = 0; octets = length Body; output = Body ++ drop (length Body) out }

  was_written : Done.number ≡ 0 → Was
  unfolding write_dump at_front
  was_written = by_family (eqb x 0) refl
    where
      by_room : eqb x 0 ≡ false → fits x d (length attributes) ≡ true → (t : Bool) → leb (length Body) (length out) ≡ t → Done.number ≡ 0
          → Was
      by_room c f true e = λ z.
          record { carried = eqb-false _ _ c; fit = fit_has x d (length attributes) f; all = simp (c, f, e) }
      by_room c f false e = simp (c, f, e) (λ z. absurd (omega arith))

      by_fit : eqb x 0 ≡ false → (t : Bool) → fits x d (length attributes) ≡ t → Done.number ≡ 0 → Was
      by_fit c true f = by_room c f (leb (length Body) (length out)) refl
      by_fit c false f = simp (c, f) (λ z. absurd (omega arith))

      by_family : (t : Bool) → eqb x 0 ≡ t → Done.number ≡ 0 → Was
      by_family true c = simp c (λ z. absurd (omega arith))
      by_family false c = by_fit c (fits x d (length attributes)) refl

  -- how the body b reads: the fields, of each address the octets that the family has, and the attributes
  pub record ReadsBack (b : List ℕ) : Type 0 where
    pub read : dump_of b u ≡ record { number = 0; dump = kept x d; start = attributes_at x; end = Done.octets }
    pub opaque_part : part b (attributes_at x) (Done.octets - attributes_at x) ≡ attributes

  module _ (z : Done.number ≡ 0) where
    body_written : take Done.octets Done.output ≡ Body
    body_written = rw ((was_written z).all, take-append_seam Body (drop (length Body) out))

    octets_written : Done.octets ≡ length Body
    octets_written = ap (λ (w : Writing). w.octets) (was_written z).all

    pub length_of_write : length (take Done.octets Done.output) ≡ Done.octets
    length_of_write = ap length body_written ∙ sym octets_written

    body-passes : check_dump Body u ≡ 0
    body-passes =
        let w = (was_written z).fit in
        let c = w.count in
        passes_so Body u (was_written z).carried (filled_back x d attributes (omega arith) w.bits)

    -- THEOREM. What was written passes its check.
    pub passes_of_write : check_dump (take Done.octets Done.output) u ≡ 0
    passes_of_write = rw body_written body-passes

    -- THEOREM. What was written is read as the same fields, with the same attributes.
    pub read_of_write : d.view < 256 ^ 2 → d.sequence < 256 ^ 2 → d.originated < 256 ^ 4 → ReadsBack (take Done.octets Done.output)
    read_of_write v q o =
        let a = (was_written z).fit.asn in
        let k : dump_at x Body ≡ kept x d =
        dump_of_octets x d attributes (record { view = v; sequence = q; originated = o; asn = omega arith }) in
        let l : length Body ≡ Done.octets = sym octets_written in
        let there : part Body (attributes_at x) (Done.octets - attributes_at x) ≡ attributes =
        ap (λ (n : ℕ). part Body (attributes_at x) (n - attributes_at x)) octets_written
        ∙ part-rest Body (attributes_at x) ∙ attributes_back x d attributes in
        let seen : dump_of Body u ≡ record { number = 0; dump = kept x d; start = attributes_at x; end = Done.octets } =
        dump_read Body u body-passes ∙ rw (k, l) in
        rw body_written (record { read = seen; opaque_part = there })

-- ---- read, then written
module _ (s : List ℕ) (u : ℕ) (o : Octets s) (z : (dump_of s u).number ≡ 0) where
  abbrev n : ℕ
  n = address_size u

  abbrev rest : List ℕ
  rest = drop (attributes_at n) s

  fit_read : Fit n (dump_at n s) (length rest)
  unfolding dump_at
  fit_read =
      let f = passes-filled s u (read_passes s u z) in
      let w = f.whole in
      let a = be_lt s (10 + 2 * n) 2 o in
      let c = be_lt s (12 + 2 * n) 2 o in
      let l = length-drop (attributes_at n) s in
      record { bits = f.bits; asn = omega arith; count = omega arith }

  written : (out : List ℕ) → length s ≤ length out
      → write_dump out u (dump_at n s) rest ≡ record { number = 0; octets = length s; output = s ++ drop (length s) out }
  unfolding write_dump at_front
  written out h =
      let m = read_passes s u z in
      let e = octets_of_dump n s o (passes-filled s u m).whole in
      rw (ne_eqb n 0 (passes-carried s u m), fit_so n (dump_at n s) (length rest) fit_read, e, le-leb (length s) (length out) h)

  -- THEOREM. What was read is written as the same octets.
  pub write_of_read : (out : List ℕ) → length s ≤ length out
      → write_dump out u (dump_of s u).dump (part s (dump_of s u).start ((dump_of s u).end - (dump_of s u).start))
      ≡ record { number = 0; octets = length s; output = s ++ drop (length s) out }
  write_of_read out h = rw (dump_read s u (read_passes s u z), part-rest s (attributes_at n)) (written out h)
