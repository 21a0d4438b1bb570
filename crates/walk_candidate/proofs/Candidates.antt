-- The candidate test in each of its cases, and that a candidate is a record that passes.
use Prim.Native.Nat.{ℕ, ◌+◌, ◌*◌, ◌<◌, ◌≤◌}
use mathlib.Core.Path.{◌≡◌, refl, sym, ◌∙◌, ap}
use mathlib.Core.Bool.{Bool, true, false, ◌&&◌, and-false, cond}
use mathlib.Core.List.{List}
use native.Mathlib.Omega.{arith}
use lib.ListN.{length, drop, get_or}
use lib.Dec.{leb, eqb}
use borrow.Author.Tests.{lt-leb, le-ltb, leb-true, leb-false, ne_eqb, eqb-true}
use Rattle.octets.specs.Octets.{be_at}
use Rattle.octets.proofs.Numbers.{be_drop, be_halves, be_one}
use Rattle.rules.specs.Ask.{done, ◌>>=◌, over, past}
use Rattle.rules.proofs.Asked.{over_bind, over-past}
use Rattle.header.specs.Read.{Heading, refused, accepted, header, header_at}
use Rattle.header.specs.Frame.{Framing, framed, frame}
use Rattle.header.proofs.Reading.{header-kind, header-stored}
use Rattle.header.proofs.Framing.{read_within}
use Rattle.walk_checks.specs.Bgp4mp.{state_change}
use Rattle.walk.specs.Judged.{Judged, fit, off, cut, stands, fails}
use Rattle.walk.proofs.Sound.{Sound}
use Rattle.walk_judge.specs.Record.{verdict, judge, judge_at}
use Rattle.walk_candidate.specs.Candidate.{taken_up, evidence, plausible, standing, headed, candidate, candidate_at}
use Rattle.walk_judge.proofs.Soundness.{judge-left, inside, off-number, cut-number}

pub not-taken_up : (k : ℕ) → (k ≡ 16 → ⊥) → (k ≡ 17 → ⊥) → false ≡ taken_up k
unfolding taken_up
not-taken_up k a b = simp (ne_eqb _ _ a, ne_eqb _ _ b)

module _ (u : ℕ) where
  pub evidence_states : state_change u ≡ true → 3 ≡ evidence u
  unfolding evidence
  evidence_states e = simp e

  evidence_between : (2 ≤ evidence u) × (evidence u ≤ 3)
  unfolding evidence
  evidence_between = by_test (state_change u)
    where
      by_test : (t : Bool) → (2 ≤ cond t 3 2) × (cond t 3 2 ≤ 3)
      by_test true = (omega arith, omega arith)
      by_test false = (omega arith, omega arith)

-- a judged record as a candidate, by its cases
module _ {j : Judged} where
  pub standing-cut : {n : ℕ} → cut n ≡ j → fails ≡ standing j
  unfolding standing
  standing-cut e = rw (← e)

  pub standing-off : {n end : ℕ} → off n end ≡ j → fails ≡ standing j
  unfolding standing
  standing-off e = rw (← e)

  pub standing-fit : {f : Framing} → fit f ≡ j → {x : ℕ} → x ≡ evidence f.head.subtype → stands x f.end ≡ standing j
  unfolding standing
  standing-fit e q = rw (← e, q)

-- what the header alone decides
module _ (k u n us : ℕ) where
  -- a type that a scan does not take up on
  pub plausible_type : false ≡ taken_up k → false ≡ plausible k u n us
  unfolding plausible
  plausible_type e = simp (← e)

  -- a length that no candidate has
  pub plausible-long : 65599 < n → false ≡ plausible k u n us
  unfolding plausible
  plausible-long l = simp (lt-leb n 65599 l, and-false)

-- whether a header may begin a candidate
abbrev plausible-head : Heading → Bool
plausible-head h = plausible h.kind h.subtype h.stored h.micros

abbrev begins : Heading → Bool
begins h = eqb h.number 0 && plausible-head h

-- the test by the header and the judgement
pub candidate-over : (s : List ℕ) (at : ℕ) → over s (candidate at) ≡ cond (begins (over s header)) (standing (over s (judge at))) fails
unfolding candidate headed judge frame over
candidate-over s at =
    let judged = over_bind s verdict (header >>= framed at) ∙ ap (λ (f : Framing). over s (verdict f)) (over_bind s (framed at) header) in
    over_bind s (headed at) header
    ∙ by_test (begins (over s header))
    ∙ ap (λ (j : Judged). cond (begins (over s header)) (standing j) fails) (sym judged)
  where
    by_test : (t : Bool) → over s (cond t (framed at (over s header) >>= verdict >>= λ j. done (standing j)) (done fails))
        ≡ cond t (standing (over s (verdict (over s (framed at (over s header)))))) fails
    by_test true = over_bind s _ (framed at (over s header) >>= verdict) ∙ ap standing (over_bind s verdict (framed at (over s header)))
    by_test false = refl

module _ (s : List ℕ) (p : ℕ) where
  candidate-left : p ≤ length s → over s (candidate_at p) ≡ over (drop p s) (candidate p)
  unfolding candidate_at
  candidate-left l = over-past s p l (candidate p)

  -- too few octets are left for a header
  pub candidate_near : length s < p + 12 → fails ≡ over s (candidate_at p)
  unfolding candidate_at candidate header headed past over ◌>>=◌
  candidate_near l = simp (lt-leb (p + 12) (length s) l)

  -- the type by its two octets
  type_octets : get_or s (p + 4) 0 * 256 + get_or s (p + 5) 0 ≡ be_at s (p + 4) 2
  type_octets =
      let f : p + 4 + 1 ≡ p + 5 = omega arith in
      rw f at (be_halves s (p + 4) 1 1 (be_one s (p + 4)) (be_one s (p + 4 + 1)))

  -- the length by its first two octets and the others
  length-octets : (get_or s (p + 8) 0 * 256 + get_or s (p + 9) 0) * 65536 + be_at s (p + 10) 2 ≡ be_at s (p + 8) 4
  length-octets =
      let f : p + 8 + 1 ≡ p + 9 = omega arith in
      let g : p + 8 + 2 ≡ p + 10 = omega arith in
      let h : get_or s (p + 8) 0 * 256 + get_or s (p + 9) 0 ≡ be_at s (p + 8) 2 =
      rw f at (be_halves s (p + 8) 1 1 (be_one s (p + 8)) (be_one s (p + 8 + 1))) in
      rw g at (be_halves s (p + 8) 2 2 h refl)

  module _ (l : p ≤ length s) where
    -- a header that begins no candidate
    not_begun : begins (over (drop p s) header) ≡ false → fails ≡ over s (candidate_at p)
    not_begun e = rw (candidate-left l, candidate-over (drop p s) p, e)

    -- nor does one that was read and is not plausible
    not-plausible : ((over (drop p s) header).number ≡ 0 → false ≡ plausible-head (over (drop p s) header))
        → fails ≡ over s (candidate_at p)
    not-plausible h = not_begun (by_number (eqb (over (drop p s) header).number 0) refl)
      where
        by_number : (t : Bool) → eqb (over (drop p s) header).number 0 ≡ t → (t && plausible-head (over (drop p s) header)) ≡ false
        by_number true t = sym (h (eqb-true _ _ t))
        by_number false t = refl

    -- a type that is neither 16 nor 17
    candidate_other : (be_at s (p + 4) 2 ≡ 16 → ⊥) → (be_at s (p + 4) 2 ≡ 17 → ⊥) → fails ≡ over s (candidate_at p)
    candidate_other a b =
        not-plausible (λ t. let h : (over (drop p s) header).kind ≡ be_at s (p + 4) 2 = header-kind (drop p s) t ∙ be_drop s p 4 2 in
        plausible_type (over (drop p s) header).kind _ _ _ (rw h (not-taken_up _ a b)))

    -- a wire length that no candidate has
    candidate-long : 65603 < be_at s (p + 8) 4 → fails ≡ over s (candidate_at p)
    candidate-long m =
        not-plausible (λ t. let h : be_at (drop p s) 8 4 ≤ (over (drop p s) header).stored + 4 = header-stored (drop p s) t in
        let d : be_at (drop p s) 8 4 ≡ be_at s (p + 8) 4 = be_drop s p 8 4 in
        plausible-long _ _ _ _ (omega arith))

    -- either, by the octets of the type and the first two of the length
    pub candidate_unmarked :
        (get_or s (p + 4) 0 ≡ 0 → 16 ≤ get_or s (p + 5) 0 → get_or s (p + 5) 0 ≤ 17 → get_or s (p + 8) 0 ≡ 0 → 1 < get_or s (p + 9) 0)
        → fails ≡ over s (candidate_at p)
    candidate_unmarked h = by_length (leb (be_at s (p + 8) 4) 65603) refl
      where
        by_length : (t : Bool) → leb (be_at s (p + 8) 4) 65603 ≡ t → fails ≡ over s (candidate_at p)
        by_length true t =
            let m : be_at s (p + 8) 4 ≤ 65603 = leb-true _ _ t in
            let e = type_octets in
            let f = length-octets in
            candidate_other
            (λ x. let z = h (omega arith) (omega arith) (omega arith) (omega arith) in omega arith)
            (λ x. let z = h (omega arith) (omega arith) (omega arith) (omega arith) in omega arith)
        by_length false t = candidate-long (leb-false _ _ t)

    -- the header that was read there
    read_there : over (drop p s) header ≡ header_at s p
    unfolding header_at
    read_there = simp (le-ltb _ _ l)

  pub candidate-unread : {n : ℕ} → (n ≡ 0 → ⊥) → refused n ≡ header_at s p → fails ≡ over s (candidate_at p)
  candidate-unread {n} z e = by_place (leb p (length s)) refl
    where
      by_place : (t : Bool) → leb p (length s) ≡ t → fails ≡ over s (candidate_at p)
      by_place true t = let l : p ≤ length s = leb-true _ _ t in not_begun l (rw (read_there l, ← e, ne_eqb n 0 z))
      by_place false t = candidate_near (let m : length s < p = leb-false _ _ t in omega arith)

  module _ {t k u w n us : ℕ} (e : accepted t k u w n us ≡ header_at s p) where
    pub candidate_implausible : plausible k u n us ≡ false → fails ≡ over s (candidate_at p)
    candidate_implausible q = let l = read_within s p e in not_begun l (rw (read_there l, ← e, q))

    pub candidate-plausible : plausible k u n us ≡ true → standing (over s (judge_at p)) ≡ over s (candidate_at p)
    candidate-plausible q =
        let l = read_within s p e in
        rw (candidate-left l, candidate-over (drop p s) p, read_there l, ← e, q, judge-left s p l)

    -- THEOREM. Where a header is read whose type is neither 16 nor 17, no candidate stands, whatever its body is.
    pub no_candidate : (k ≡ 16 → ⊥) → (k ≡ 17 → ⊥) → fails ≡ over s (candidate_at p)
    no_candidate a b = candidate_implausible (sym (plausible_type k u n us (not-taken_up k a b)))

-- THEOREM. A candidate is a record that the judgement accepts, with the same end, and its evidence is 2 or 3.
pub record Accepted (s : List ℕ) (p v e : ℕ) : Type 0 where
  pub frame : Framing
  pub accepted : over s (judge_at p) ≡ fit frame
  pub same_end : frame.end ≡ e
  pub between : (2 ≤ v) × (v ≤ 3)

pub candidate-accepted : (s : List ℕ) (p v e : ℕ) → over s (candidate_at p) ≡ stands v e → Accepted s p v e
unfolding standing
candidate-accepted s p v e q = by_place (leb p (length s)) refl
  where
    by_judged : p ≤ length s → (j : Judged) → over (drop p s) (judge p) ≡ j → (t : Bool) → cond t (standing j) fails ≡ stands v e
        → Accepted s p v e
    by_judged l (off r x) z true q = cc
    by_judged l (cut r) z true q = cc
    by_judged l (off r x) z false q = cc
    by_judged l (cut r) z false q = cc
    by_judged l (fit g) z false q = cc
    by_judged l (fit g) z true q =
        let x : g.end ≡ e = cc in
        let w : evidence g.head.subtype ≡ v = cc in
        let y = evidence_between g.head.subtype in
        record { frame = g; accepted = judge-left s p l ∙ z; same_end = x; between = rw w at y }

    by_place : (t : Bool) → leb p (length s) ≡ t → Accepted s p v e
    by_place true t =
        let l : p ≤ length s = leb-true _ _ t in
        by_judged l (over (drop p s) (judge p)) refl (begins (over (drop p s) header))
        (sym (candidate-over (drop p s) p) ∙ sym (candidate-left s p l) ∙ q)
    by_place false t =
        let m : length s < p = leb-false _ _ t in
        let z = candidate_near s p (omega arith) in
        cc

-- the walk may rest on this judgement
pub sound : Sound judge_at candidate_at
sound =
    record {
      fits = λ s p f q. let i = rw q at (inside s p) in (i.0, i.1);
      offs = λ s p r e q. rw q at (inside s p);
      off-number = off-number;
      cut-number = cut-number;
      carried = λ s p v e q. let a = candidate-accepted s p v e q in (a.frame, a.accepted, a.same_end);
      evidence = λ s p v e q. (candidate-accepted s p v e q).between;
    }
