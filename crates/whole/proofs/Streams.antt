-- A stream of records and nothing else is walked as exactly those records, and then the end: no octet goes into a gap.
use Prim.Native.Nat.{ℕ, zero, suc, ◌+◌, ◌<◌}
use mathlib.Core.Path.{◌≡◌, refl, sym, ◌∙◌, ap}
use mathlib.Core.List.{List, [], ◌∷◌, ◌++◌, append_assoc, append-nil}
use native.Mathlib.Omega.{arith}
use lib.ListN.{length, take, length-append}
use lib.Seq.{length-take-le}
use Rattle.header.proofs.KnownTypes.{size-least}
use Rattle.walk.specs.Step.{Answer, handed, end, at, fresh_walk}
use Rattle.walk.specs.Promises.{up_to, answers}
use Rattle.walk.proofs.Calls.{call, call-fit, call-end}
use Rattle.walk_judge.specs.Record.{judge_at}
use Rattle.walk_candidate.specs.Candidate.{candidate_at}
use Rattle.whole.specs.Stream.{Whole, AllProper, record_octets, stream, placed, handed_out}
use Rattle.whole.proofs.Records.{length_record, judged_there}
use Rattle.whole.proofs.Written.{Holds}

module _ (s : List ℕ) (window k : ℕ) where
  -- m or more calls are left, where the walk stands before rs
  from_here : (rs : List Whole) → AllProper rs → (m : ℕ) → length rs < m → (pre : List ℕ) → s ≡ pre ++ stream rs
      → answers (call judge_at candidate_at s window k) m (at (length pre)) ≡ handed_out (length pre) rs ++ (end (length s) ∷ [])
  unfolding answers up_to stream handed_out
  from_here [] ok (suc m) h pre e =
      let z : length pre ≡ length s = ap length (sym (append-nil pre) ∙ sym e) in
      rw (← call-end judge_at candidate_at s window k (at (length pre)) (omega arith) refl (sym z)) (ap (λ (n : ℕ). end n ∷ []) z)
  from_here [] ok zero h pre e = absurd (omega arith)
  from_here (r ∷ rs) ok zero h pre e = absurd (omega arith)
  from_here (r ∷ rs) ok (suc m) h pre e =
      let p : ℕ = length pre in
      let f : List ℕ = pre ++ record_octets r in
      let q : s ≡ f ++ stream rs = e ∙ sym (append_assoc pre (record_octets r) (stream rs)) in
      let l : length s ≡ length f + length (stream rs) = ap length q ∙ length-append f (stream rs) in
      let n : length f ≡ (placed p r).end = length-append pre (record_octets r) ∙ ap (λ (i : ℕ). p + i) (length_record r) in
      let inside : p < length s = omega (arith, size-least r.header.kind) in
      let i = from_here rs ok.1 m (omega arith) f q in
      let fit-there = sym (judged_there pre r (stream rs) s q ok.0) in
      rw (← call-fit judge_at candidate_at s window k (at p) (omega arith) refl (λ z. omega arith) (placed p r) fit-there)
      (ap (λ (x : List Answer). handed p (placed p r) ∷ x) (rw n at i))

-- THEOREM. Any stream that is a list of records one after another and nothing else is walked as exactly those records, each where it was
-- put and with the values that were written, and then the end: for every window and asked number, in as many calls as there are
-- records and one more.
pub walk_of_records : (rs : List Whole) → AllProper rs → (window k m : ℕ) → length rs < m
    → answers (call judge_at candidate_at (stream rs) window k) m fresh_walk ≡ handed_out 0 rs ++ (end (length (stream rs)) ∷ [])
walk_of_records rs ok window k m h = from_here (stream rs) window k rs ok m h [] refl

-- the same of an output that was filled record after record, as far as it is used
pub walk_of_output : (rs : List Whole) (used : ℕ) (output : List ℕ) → Holds rs used output → (window k m : ℕ) → length rs < m
    → answers (call judge_at candidate_at (take used output) window k) m fresh_walk ≡ handed_out 0 rs ++ (end used ∷ [])
walk_of_output rs used output h window k m l =
    let u : length (stream rs) ≡ used = ap length (sym h.front) ∙ length-take-le used output h.within in
    rw h.front (walk_of_records rs h.proper window k m l ∙ ap (λ (n : ℕ). handed_out 0 rs ++ (end n ∷ [])) u)
