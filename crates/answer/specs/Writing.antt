-- What every writer answers and leaves (01, Refusal numbers: a refusal leaves the output as before the call,
-- an accepted call changes only the octets that it writes).
use Rattle.std.specs.Prelude.{ℕ, List, ◌++◌, cond, length, drop, leb, Result, Ok, Err}
use Rattle.answer.specs.Refusal.{number_of}
use Rattle.answer.specs.declared.Refusal.{Refusal}

-- the refusal's number or 0, how many octets were written, and the output after the call
pub record Writing : Type 0 where
  pub number : ℕ
  pub octets : ℕ
  pub output : List ℕ

-- a writer's answer, set out with the output t that it leaves
abbrev pub wrote : Result ℕ Refusal → List ℕ → Writing
wrote (Ok n) t = record { number = 0; octets = n; output = t }
wrote (Err r) t = record { number = number_of r; octets = 0; output = t }

-- the refusal n, which leaves the output s
abbrev pub refuse : ℕ → List ℕ → Writing
refuse n s = record { number = n; octets = 0; output = s }

-- the octets bs at the front of the output s, or 9 where they have no room
unfoldable pub at_front : List ℕ → List ℕ → Writing
at_front s bs =
    cond (leb (length bs) (length s))
    (record { number = 0; octets = length bs; output = bs ++ drop (length bs) s })
    (refuse 9 s)
