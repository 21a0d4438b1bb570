-- An evidence is known by its number.
use Prim.Native.Nat.{ℕ}
use mathlib.Core.Path.{◌≡◌, refl, sym, ◌∙◌, ap}
use mathlib.Core.Bool.{cond}
use lib.Dec.{eqb}
use Rattle.walk.specs.Evidence.{evidence_number}
use Rattle.walk.specs.declared.Evidence.{Evidence}
use Rattle.walk.specs.declared.Evidence.TheVariants.{Message, StateChange, OwnEnd, End}

-- the evidence that has a number
named : ℕ → Evidence
named n = cond (eqb n 2) Message (cond (eqb n 3) StateChange (cond (eqb n 4) OwnEnd End))

named-number : (e : Evidence) → named (evidence_number e) ≡ e
unfolding named
named-number Message = refl
named-number StateChange = refl
named-number OwnEnd = refl
named-number End = refl

pub evidence_unique : (a b : Evidence) → evidence_number a ≡ evidence_number b → a ≡ b
evidence_unique a b e = sym (named-number a) ∙ ap named e ∙ named-number b
