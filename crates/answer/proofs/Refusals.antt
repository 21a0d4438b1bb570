-- Laws of refusals' and outcomes' numbers.
use Prim.Native.Nat.{ℕ}
use mathlib.Core.Path.{◌≡◌, refl, sym, ◌∙◌, ap}
use mathlib.Core.Bool.{false, cond}
use lib.Dec.{eqb}
use borrow.Author.Tests.{ne_eqb}
use native.Mathlib.Omega.{arith}
use Rattle.answer.specs.Refusal.{number_of, outcome_number}
use Rattle.std.specs.Prelude.{Result, Ok, Err}
use Rattle.answer.specs.declared.Refusal.{Refusal}
use Rattle.answer.specs.declared.Refusal.TheVariants.{TruncatedHeader, UnknownType, ShortLength, TruncatedBody}
use Rattle.answer.specs.declared.Refusal.TheVariants.{NotCarried, OtherSubtype, BodyNotMet, Beyond, NoRoom, TooLarge}

-- no refusal has the number of none
pub number-not-zero : (r : Refusal) → number_of r ≡ 0 → ⊥
number-not-zero TruncatedHeader e = omega arith
number-not-zero UnknownType e = omega arith
number-not-zero ShortLength e = omega arith
number-not-zero TruncatedBody e = omega arith
number-not-zero NotCarried e = omega arith
number-not-zero OtherSubtype e = omega arith
number-not-zero BodyNotMet e = omega arith
number-not-zero Beyond e = omega arith
number-not-zero NoRoom e = omega arith
number-not-zero TooLarge e = omega arith

pub number_refusal : (r : Refusal) → eqb (number_of r) 0 ≡ false
number_refusal r = ne_eqb (number_of r) 0 (number-not-zero r)

-- the refusal that has a number
named : ℕ → Refusal
named n =
    cond (eqb n 1) TruncatedHeader
    (cond (eqb n 2) UnknownType
    (cond (eqb n 3) ShortLength
    (cond (eqb n 4) TruncatedBody
    (cond (eqb n 5) NotCarried
    (cond (eqb n 6) OtherSubtype
    (cond (eqb n 7) BodyNotMet
    (cond (eqb n 8) Beyond
    (cond (eqb n 9) NoRoom TooLarge))))))))

named-number : (r : Refusal) → named (number_of r) ≡ r
unfolding named
named-number TruncatedHeader = refl
named-number UnknownType = refl
named-number ShortLength = refl
named-number TruncatedBody = refl
named-number NotCarried = refl
named-number OtherSubtype = refl
named-number BodyNotMet = refl
named-number Beyond = refl
named-number NoRoom = refl
named-number TooLarge = refl

-- a refusal is known by its number
pub number_unique : (a b : Refusal) → number_of a ≡ number_of b → a ≡ b
number_unique a b e = sym (named-number a) ∙ ap named e ∙ named-number b

-- an outcome is known by its number
pub outcome_unique : (a b : Result Unit Refusal) → outcome_number a ≡ outcome_number b → a ≡ b
outcome_unique (Ok x) (Ok y) e = refl
outcome_unique (Ok x) (Err r) e = absurd (number-not-zero r (sym e))
outcome_unique (Err r) (Ok x) e = absurd (number-not-zero r e)
outcome_unique (Err r) (Err q) e = ap Err (number_unique r q e)
