-- The judgement of one record in each of its cases.
use Prim.Native.Nat.{ℕ, ◌-◌, ◌<◌, ◌≤◌}
use mathlib.Core.Path.{◌≡◌, refl, ◌∙◌}
use mathlib.Core.List.{List}
use native.Mathlib.Omega.{arith}
use lib.ListN.{length, drop}
use lib.Seq.{drop-drop}
use borrow.Author.Tests.{lt-ltb, le-ltb, eq-eqb, ne_eqb}
use Rattle.octets.specs.Octets.{part}
use Rattle.rules.specs.Ask.{over}
use Rattle.rules.proofs.Asked.{over_bind}
use Rattle.header.specs.Kind.{size}
use Rattle.header.specs.Frame.{Framing, unframed, framing_of, frame, frame_at}
use Rattle.header.specs.declared.Framed.{Framed}
use Rattle.header.proofs.Framing.{framed-within, framed-left, framed-placed}
use Rattle.walk.specs.Judged.{Judged, fit, off, cut}
use Rattle.walk_judge.specs.Body.{check}
use Rattle.walk_judge.specs.Record.{ruled, verdict, judge, judge_at, not_judged, judgement, judgement_at}
use Rattle.walk_judge.proofs.Soundness.{judge-left}

-- the judgement by the frame
judge-over : (s : List ℕ) (at : ℕ) → over s (judge at) ≡ over s (verdict (over s (frame at)))
unfolding judge
judge-over s at = over_bind s verdict (frame at)

module _ (s : List ℕ) (at : ℕ) where
  -- no record is framed
  pub judged-cut : (n : ℕ) → (n ≡ 0 → ⊥) → at ≤ length s → unframed n ≡ frame_at s at → cut n ≡ over s (judge_at at)
  unfolding frame_at verdict over
  judged-cut n z l e =
      let q : unframed n ≡ over (drop at s) (frame at) = e ∙ simp (le-ltb _ _ l) in
      rw (judge-left s at l, judge-over (drop at s) at, ← q, ne_eqb n 0 z)

  -- a record that is framed, and what its body check has found
  module _ (f : Framing) (e : f ≡ frame_at s at) (z : f.head.number ≡ 0) where
    -- the body as code lends it
    lent : part s f.body (f.end - f.body) ≡ part (drop at s) (size f.head.kind) f.head.stored
    lent =
        let p = framed-placed s at f e z in
        let n : f.end - f.body ≡ f.head.stored = let a = p.body in let b = p.end in omega arith in
        rw (n, p.body, drop-drop (size f.head.kind) at s)

    module _ {c : ℕ} (q : c ≡ check f.head.kind f.head.subtype f.head.stored (part s f.body (f.end - f.body))) where
      judged-framed : ruled f c ≡ over s (judge_at at)
      unfolding verdict over
      judged-framed =
          let left = judge-left s at (framed-within s at f e z) in
          rw (left, judge-over (drop at s) at, ← framed-left s at f e z, eq-eqb f.head.number 0 z, ← lent, ← q)

      pub judged-fit : c ≡ 0 → fit f ≡ over s (judge_at at)
      judged-fit y = rw (← judged-framed, eq-eqb c 0 y)

      pub judged-off : (c ≡ 0 → ⊥) → off c f.end ≡ over s (judge_at at)
      judged-off y = rw (← judged-framed, ne_eqb c 0 y)

  -- it lies in the stream
  pub frame_inside : (x : Framed) → framing_of x ≡ frame_at s at → (x.body ≤ x.end) × (x.end ≤ length s)
  frame_inside x e =
      let p = framed-placed s at (framing_of x) e refl in
      let a = p.body in let b = p.end in (omega arith, p.room)

  -- the public judgement by the verdict
  pub judgement_beyond : length s < at → not_judged 8 ≡ judgement_at s at
  unfolding judgement_at
  judgement_beyond l = simp (lt-ltb _ _ l)

  pub judgement-within : at ≤ length s → {j : Judged} → j ≡ over s (judge_at at) → judgement at j ≡ judgement_at s at
  unfolding judgement_at
  judgement-within l q = rw (le-ltb (length s) at l, q, judge-left s at l)
