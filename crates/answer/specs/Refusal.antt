-- Refusal numbers (01, Refusal numbers). 0 stands for no refusal, wherever an answer is set out in numbers. 11 is an answer of the
-- walk, with values of its own.
use Rattle.std.specs.Prelude.{ℕ, Result, Ok, Err}
use Rattle.answer.specs.declared.Refusal.{Refusal}
use Rattle.answer.specs.declared.Refusal.TheVariants.{TruncatedHeader, UnknownType, ShortLength, TruncatedBody}
use Rattle.answer.specs.declared.Refusal.TheVariants.{NotCarried, OtherSubtype, BodyNotMet, Beyond, NoRoom, TooLarge}

-- the number of each refusal
abbrev pub number_of : Refusal → ℕ
number_of TruncatedHeader = 1
number_of UnknownType = 2
number_of ShortLength = 3
number_of TruncatedBody = 4
number_of NotCarried = 5
number_of OtherSubtype = 6
number_of BodyNotMet = 7
number_of Beyond = 8
number_of NoRoom = 9
number_of TooLarge = 10

-- the number of an outcome, 0 where the call has served
abbrev pub outcome_number : Result Unit Refusal → ℕ
outcome_number (Ok x) = 0
outcome_number (Err r) = number_of r
