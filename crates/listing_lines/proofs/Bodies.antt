-- A record that a call hands out lies in its stream, and so does the walk after the call.
use Prim.Native.Nat.{ℕ, ◌≤◌}
use mathlib.Core.Path.{◌≡◌, refl, sym, ap, subst}
use mathlib.Core.Bool.{Bool, true, false}
use mathlib.Core.List.{List}
use lib.ListN.{length}
use Rattle.walk.specs.Step.{Answer, Stepped, at}
use Rattle.walk.specs.declared.Walk.{Walk}
use Rattle.walk.proofs.Calls.{Call, ends, fits, own, takes, none, full, called as called_at, call_finished}
use Rattle.walk.proofs.Whole.{call-within}
use Rattle.walk_judge.specs.Record.{judge_at}
use Rattle.walk_judge.proofs.Soundness.{inside}
use Rattle.walk_candidate.specs.Candidate.{candidate_at}
use Rattle.walk_candidate.proofs.Candidates.{sound}
use Rattle.listing_lines.specs.Listing.{called, Within}

module _ (s : List ℕ) where
  by_call : (p : ℕ) (x : Stepped) → Call judge_at candidate_at s 1048576 3 p x → Within (length s) x.answer
  by_call p x (ends q) = tt
  by_call p x (fits f q) = let i = rw q at (inside s p) in (i.2, i.1)
  by_call p x (own r e m q t) = tt
  by_call p x (takes r o v u i q) = tt
  by_call p x (none r u i q w t) = tt
  by_call p x (full r u i q t) = tt

  module _ (w : Walk) (l : w.position ≤ length s) where
    call_lies : Within (length s) (called s w).answer
    call_lies = by_mark w.finished refl
      where
        by_mark : (f : Bool) → w.finished ≡ f → Within (length s) (called s w).answer
        by_mark true f = rw (← call_finished judge_at candidate_at s 1048576 3 w l f) tt
        by_mark false f =
            let e : w ≡ at w.position = ap {B = Walk} (λ (b : Bool). record { position = w.position; finished = b }) f in
            rw e (by_call w.position _ (called_at judge_at candidate_at s 1048576 3 w.position l))

    module _ (v : Walk) (a : Answer) (q : record { walk = v; answer = a } ≡ called s w) where
      pub answer_lies : Within (length s) a
      answer_lies = subst (λ (x : Stepped). Within (length s) x.answer) (sym q) call_lies

      pub walk_lies : v.position ≤ length s
      walk_lies =
          subst (λ (x : Stepped). x.walk.position ≤ length s) (sym q) (call-within judge_at candidate_at sound s 1048576 3 w l)
