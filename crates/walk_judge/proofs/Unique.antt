-- Two answers that say the same are equal: the promises allow one result.
use Prim.Native.Nat.{ℕ}
use mathlib.Core.Path.{◌≡◌, sym, ◌∙◌, ap}
use Rattle.std.specs.Prelude.{Result, Ok, Err}
use Rattle.answer.specs.Refusal.{number_of}
use Rattle.answer.specs.declared.Refusal.{Refusal}
use Rattle.answer.proofs.Refusals.{number-not-zero, number_unique}
use Rattle.header.specs.Frame.{framing_of}
use Rattle.header.specs.declared.Framed.{Framed}
use Rattle.header.specs.declared.Located.{Located}
use Rattle.header.proofs.Unique.{framing_unique}
use Rattle.walk_judge.specs.Record.{Judging, judging, judged}
use Rattle.walk_judge.specs.declared.Verdict.{Verdict}
use Rattle.walk_judge.specs.declared.Verdict.TheVariants.{Fit, Off, Cut}

pub framed_unique : (a b : Framed) → framing_of a ≡ framing_of b → a ≡ b
framed_unique a b e = let q = framing_unique (Ok a) (Ok b) e in cc

pub located_unique : (a b : Located) → a.start ≡ b.start → framing_of a.frame ≡ framing_of b.frame → a ≡ b
located_unique a b i e =
    let f : ℕ → Framed → Located = λ s x. record { start = s; frame = x } in
    ap (λ (s : ℕ). f s a.frame) i ∙ ap (f b.start) (framed_unique a.frame b.frame e)

pub judging_unique : (a b : Result Located Refusal) → judging a ≡ judging b → a ≡ b
judging_unique (Ok x) (Ok y) e =
    ap Ok (located_unique x y (ap (λ (j : Judging). j.start) e) (ap (λ (j : Judging). j.frame) e))
judging_unique (Ok x) (Err r) e = absurd (number-not-zero r (ap (λ (j : Judging). j.frame.head.number) (sym e)))
judging_unique (Err r) (Ok x) e = absurd (number-not-zero r (ap (λ (j : Judging). j.frame.head.number) e))
judging_unique (Err r) (Err q) e = ap Err (number_unique r q (ap (λ (j : Judging). j.frame.head.number) e))

pub judged_unique : (a b : Verdict) → judged a ≡ judged b → a ≡ b
judged_unique (Fit f) (Fit g) e = ap Fit (framed_unique f g (let i : framing_of f ≡ framing_of g = cc in i))
judged_unique (Fit f) (Off r z) e = cc
judged_unique (Fit f) (Cut r) e = cc
judged_unique (Off r z) (Fit f) e = cc
judged_unique (Off r z) (Off q y) e = let n : number_of r ≡ number_of q = cc in let m = number_unique r q n in cc
judged_unique (Off r z) (Cut q) e = cc
judged_unique (Cut r) (Fit f) e = cc
judged_unique (Cut r) (Off q z) e = cc
judged_unique (Cut r) (Cut q) e = ap Cut (number_unique r q (let n : number_of r ≡ number_of q = cc in n))
