use native.Mathlib.Omega.{arith}
use Rattle.header.proofs.KnownTypes.{up_to_13, from_14, after_49}
use Rattle.header.proofs.kind.is_known.Goals as goal

pub returns-then-kind-lt14 : goal.returns-then-kind-lt14
returns-then-kind-lt14 c = record { answer = up_to_13 _ (omega arith) }

pub returns-then-kind-gt49 : goal.returns-then-kind-gt49
returns-then-kind-gt49 c = record { answer = after_49 _ c.if-kind-gt49.true }

pub returns : goal.returns
returns c = record { answer = from_14 _ c.if-kind-lt14.false c.if-kind-gt49.false }
