-- What is written is read back, and what is read is written back.
use Prim.Native.Nat.{ℕ, ◌+◌, ◌-◌, ◌<◌, ◌≤◌}
use mathlib.Core.Path.{◌≡◌, refl, sym, ◌∙◌}
use mathlib.Core.Bool.{Bool, true, false}
use mathlib.Core.List.{List, [], ◌++◌, append_assoc}
use native.Mathlib.Omega.{arith}
use lib.ListN.{length, take, drop, length-append}
use borrow.Author.Tests.{le-leb, le-ltb, ltb-false, eqb-true, not-false}
use Rattle.answer.specs.Writing.{at_front}
use Rattle.octets.specs.Octets.{be_at, bytes_of, part, Octets}
use Rattle.octets.proofs.Numbers.{be_of_field, bytes_of_be, be_lt, length_bytes}
use Rattle.octets.proofs.Parts.{part_join}
use Rattle.rules.specs.Ask.{over}
use Rattle.header.specs.Kind.{known, timed, size}
use Rattle.header.specs.Read.{Heading, accepted, header}
use Rattle.header.specs.Write.{wire_of, common_octets, header_octets, unfit, write_header}
use Rattle.header.specs.Back.{header_of, InWidth}
use Rattle.header.specs.declared.CommonHeader.{CommonHeader}
use Rattle.header.specs.declared.WireLength.{WireLength}
use Rattle.header.proofs.KnownTypes.{size-timed, size_plain}
use Rattle.header.proofs.Reading.{Fields, header_plain, header-timed, Shape, plain, extended, shape}
use Rattle.header.proofs.Writing.{length-common, length-header, timed-octets, plain_octets, write_accepted}

-- a header whose octets stand at the front is read
module _ (h : CommonHeader) (i : InWidth h) where
  common-fields : (w : WireLength) (q : List ℕ) → w.0 < 4294967296
      → Fields (common_octets h w ++ q) h.timestamp h.kind h.subtype w.0
  unfolding common_octets
  common-fields w q l =
      let t = bytes_of 4 h.timestamp in
      let k = bytes_of 2 h.kind in
      let u = bytes_of 2 h.subtype in
      let v = bytes_of 4 w.0 in
      let four : length t ≡ 4 = length_bytes 4 h.timestamp in
      let six : length (t ++ k) ≡ 6 = length-append t k ∙ simp (four, length_bytes 2 h.kind) in
      let eight : length (t ++ k ++ u) ≡ 8 = length-append (t ++ k) u ∙ simp (six, length_bytes 2 h.subtype) in
      let one : t ++ k ++ u ++ v ++ q ≡ t ++ (k ++ (u ++ (v ++ q))) = simp append_assoc in
      let two : t ++ (k ++ (u ++ (v ++ q))) ≡ t ++ k ++ (u ++ (v ++ q)) = simp append_assoc in
      let three : t ++ (k ++ (u ++ (v ++ q))) ≡ t ++ k ++ u ++ (v ++ q) = simp append_assoc in
      record {
        twelve = rw (length-append (t ++ k ++ u ++ v) q, length-append (t ++ k ++ u) v, eight, length_bytes 4 w.0) (omega arith);
        time = rw one (be_of_field [] (k ++ (u ++ (v ++ q))) 0 4 h.timestamp refl i.timestamp);
        type = rw one (be_of_field t (u ++ (v ++ q)) 4 2 h.kind four i.kind);
        sub = rw (one, two) (be_of_field (t ++ k) (v ++ q) 6 2 h.subtype six i.subtype);
        wire = rw (one, three) (be_of_field (t ++ k ++ u) q 8 4 w.0 eight l);
      }

  wire-timed : timed h.kind ≡ true → wire_of h ≡ record { 0 = h.length.0 + 4 }
  unfolding wire_of
  wire-timed e = simp e

  wire_plain : timed h.kind ≡ false → wire_of h ≡ record { 0 = h.length.0 }
  unfolding wire_of
  wire_plain e = simp e

  fit-timed : timed h.kind ≡ true → unfit h ≡ false → h.length.0 ≤ 4294967291
  unfolding unfit
  fit-timed e f = ltb-false _ _ (rw e at f)

  fit_plain : timed h.kind ≡ false → unfit h ≡ false → h.micros ≡ 0
  unfolding unfit
  fit_plain e f = eqb-true _ _ (not-false _ (rw e at f))

  -- what the reader says of it
  abbrev said : Heading
  said = accepted h.timestamp h.kind h.subtype (wire_of h).0 h.length.0 h.micros

  read_timed : (q : List ℕ) → known h.kind ≡ true → timed h.kind ≡ true → unfit h ≡ false → said ≡ over (header_octets h ++ q) header
  read_timed q n e f =
      let l : h.length.0 ≤ 4294967291 = fit-timed e f in
      let w : WireLength = record { 0 = h.length.0 + 4 } in
      let m = bytes_of 4 h.micros in
      let c = common_octets h w in
      let g : header_octets h ++ q ≡ c ++ (m ++ q) = rw (← timed-octets h e) (append_assoc c m q) in
      let s : h.length.0 + 4 - 4 ≡ h.length.0 = omega arith in
      let k : 16 ≤ length (c ++ (m ++ q)) =
      rw (length-append c (m ++ q), length-append m q, length-common h w, length_bytes 4 h.micros) (omega arith) in
      let us = be_of_field c q 12 4 h.micros (length-common h w) i.micros in
      rw (g, wire-timed e, ← header-timed (common-fields w (m ++ q) (omega arith)) n e (omega arith) k us, s)

  read_plain : (q : List ℕ) → known h.kind ≡ true → timed h.kind ≡ false → unfit h ≡ false → said ≡ over (header_octets h ++ q) header
  read_plain q n e f =
      let w : WireLength = record { 0 = h.length.0 } in
      rw (← plain_octets h e, wire_plain e, ← header_plain (common-fields w q i.stored) n e, fit_plain e f)

  pub read_octets : (q : List ℕ) → known h.kind ≡ true → unfit h ≡ false → said ≡ over (header_octets h ++ q) header
  read_octets q n f = by_test (timed h.kind) refl
    where
      by_test : (t : Bool) → timed h.kind ≡ t → said ≡ over (header_octets h ++ q) header
      by_test true e = read_timed q n e f
      by_test false e = read_plain q n e f

  -- THEOREM. What the writer writes, the reader reads back, for every header that the writer accepts.
  pub read_of_write : (s : List ℕ) → (write_header s h).number ≡ 0
      → over (write_header s h).output header ≡ accepted h.timestamp h.kind h.subtype (wire_of h).0 h.length.0 h.micros
  read_of_write s z =
      let a = write_accepted h s z in
      rw a.all (sym (read_octets (drop (length (header_octets h)) s) a.known_type a.fits))

-- the octets of the header that was read are the octets that stood there
module _ (s : List ℕ) (o : Octets s) where
  common_back : (h : CommonHeader) (w : WireLength) → 12 ≤ length s
      → h.timestamp ≡ be_at s 0 4 → h.kind ≡ be_at s 4 2 → h.subtype ≡ be_at s 6 2 → w.0 ≡ be_at s 8 4 → common_octets h w ≡ part s 0 12
  unfolding common_octets
  common_back h w l t k u v =
      rw (
        t,
        k,
        u,
        v,
        bytes_of_be s 0 4 o (omega arith),
        bytes_of_be s 4 2 o (omega arith),
        bytes_of_be s 6 2 o (omega arith),
        bytes_of_be s 8 4 o l,
        part_join s 0 4 2,
        part_join s 0 6 2,
        part_join s 0 8 4,
      )

  octets_back : (h : Heading) → Shape s h → header_octets (header_of h) ≡ take (size h.kind) s
  octets_back h (plain l n e) =
      rw (size_plain (be_at s 4 2) e, ← plain_octets (header_of h) e)
      (common_back (header_of h) (record { 0 = be_at s 8 4 }) l refl refl refl refl)
  octets_back h (extended l n e g) =
      let w : WireLength = record { 0 = be_at s 8 4 - 4 + 4 } in
      let c : common_octets (header_of h) w ≡ part s 0 12 = common_back (header_of h) w (omega arith) refl refl refl (omega arith) in
      rw (size-timed (be_at s 4 2) e, ← timed-octets (header_of h) e, c, bytes_of_be s 12 4 o l, part_join s 0 12 4)

  fits_back : (h : Heading) → Shape s h → unfit (header_of h) ≡ false
  unfolding unfit
  fits_back h (plain l n e) = rw e
  fits_back h (extended l n e g) = let b = be_lt s 8 4 o in rw e (le-ltb 4294967291 (be_at s 8 4 - 4) (omega arith))

  known_back : (h : Heading) → Shape s h → known h.kind ≡ true
  known_back h (plain l n e) = n
  known_back h (extended l n e g) = n

  -- THEOREM. What the reader accepts, the writer writes back as the same octets, wherever they have room.
  pub write_of_read : (out : List ℕ) → (over s header).number ≡ 0 → size (over s header).kind ≤ length out
      → write_header out (header_of (over s header))
      ≡ record {
        number = 0;
        octets = size (over s header).kind;
        output = take (size (over s header).kind) s ++ drop (size (over s header).kind) out;
      }
  unfolding write_header at_front
  write_of_read out z r =
      let h : Heading = over s header in
      let v : Shape s h = shape s z in
      let l : length (header_octets (header_of h)) ≡ size h.kind = length-header (header_of h) in
      rw (known_back h v, fits_back h v, l, le-leb (size h.kind) (length out) r, octets_back h v)
