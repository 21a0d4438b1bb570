-- A record that stands anywhere in a stream is judged fit, with the values that were written.
use Prim.Native.Nat.{ℕ, ◌+◌, ◌-◌, ◌≤◌}
use mathlib.Core.Path.{◌≡◌, refl, sym, ◌∙◌, ap}
use mathlib.Core.List.{List, ◌++◌, append_assoc}
use native.Mathlib.Omega.{arith}
use lib.ListN.{length, drop, length-append}
use lib.Seq.{take_at, drop_at}
use borrow.Author.Tests.{le-ltb}
use Rattle.octets.specs.Octets.{part}
use Rattle.rules.specs.Ask.{over}
use Rattle.header.specs.Kind.{size}
use Rattle.header.specs.Read.{header_at}
use Rattle.header.specs.Write.{header_octets}
use Rattle.header.specs.Frame.{frame_at}
use Rattle.header.proofs.RoundTrips.{read_octets}
use Rattle.header.proofs.Writing.{length-header}
use Rattle.header.proofs.Framing.{of_whole, frame_read}
use Rattle.walk.specs.Judged.{fit}
use Rattle.walk_judge.specs.Body.{check}
use Rattle.walk_judge.specs.Record.{judge_at, judgement_at}
use Rattle.walk_judge.proofs.Judging.{judged-fit, judgement-within}
use Rattle.whole.specs.Stream.{Whole, Proper, record_octets, placed}

pub length_record : (r : Whole) → length (record_octets r) ≡ size r.header.kind + length r.body
length_record r = length-append (header_octets r.header) r.body ∙ rw (length-header r.header)

-- the record r between other octets
module _ (pre : List ℕ) (r : Whole) (rest s : List ℕ) (e : s ≡ pre ++ record_octets r ++ rest) where
  abbrev p : ℕ
  p = length pre

  long_enough : length s ≡ p + (size r.header.kind + length r.body) + length rest
  long_enough =
      ap length e ∙ length-append (pre ++ record_octets r) rest
      ∙ ap (λ (n : ℕ). n + length rest) (length-append pre (record_octets r) ∙ ap (λ (n : ℕ). p + n) (length_record r))

  -- its body, where it is said to stand
  pub body_there : part s (placed p r).body ((placed p r).end - (placed p r).body) ≡ r.body
  body_there =
      let k : ℕ = size r.header.kind in
      let h : List ℕ = header_octets r.header in
      let q : s ≡ (pre ++ h) ++ (r.body ++ rest) = e ∙ simp append_assoc in
      let l : length (pre ++ h) ≡ p + k = length-append pre h ∙ rw (length-header r.header) in
      let n : length r.body ≡ p + (k + length r.body) - (p + k) = omega arith in
      rw (q, drop_at (pre ++ h) (r.body ++ rest) (p + k) l) (take_at r.body rest (p + (k + length r.body) - (p + k)) n)

  module _ (ok : Proper r) where
    -- its header is read, and it is framed
    pub read_there : (placed p r).head ≡ header_at s p
    unfolding header_at
    read_there =
        let q : s ≡ pre ++ (header_octets r.header ++ (r.body ++ rest)) = e ∙ simp append_assoc in
        let d : drop p s ≡ header_octets r.header ++ (r.body ++ rest) =
        ap (drop p) q ∙ drop_at pre (header_octets r.header ++ (r.body ++ rest)) p refl in
        rw (le-ltb (length s) p (omega (arith, long_enough)), d)
        (read_octets r.header ok.widths (r.body ++ rest) ok.known_type ok.fits)

    pub framed_there : placed p r ≡ frame_at s p
    framed_there =
        let k : ℕ = size r.header.kind in
        let m : k + r.header.length.0 ≤ length s - p = omega (arith, long_enough, ok.long) in
        ap (λ (n : ℕ). record { head = (placed p r).head; body = p + k; end = p + (k + n) }) ok.long
        ∙ of_whole s p (placed p r).head (omega (arith, long_enough)) refl refl m
        ∙ frame_read s p read_there

    -- THEOREM. A record that was written is judged fit wherever it stands, with the header's values, the wire length that the writer
    -- writes, and the body where it was put.
    pub judged_there : over s (judge_at p) ≡ fit (placed p r)
    judged_there =
        sym (judged-fit s p (placed p r) framed_there refl
        (sym ok.passes ∙ ap (check r.header.kind r.header.subtype r.header.length.0) (sym body_there)) refl)

    -- the same of the public judgement
    pub judgement_there : judgement_at s p ≡ record { start = p; frame = placed p r }
    judgement_there = sym (judgement-within s p (omega (arith, long_enough)) (sym judged_there))
