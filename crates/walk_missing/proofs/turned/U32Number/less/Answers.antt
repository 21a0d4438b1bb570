use mathlib.Core.Path.{refl}
use Rattle.std.proofs.Common.{false, arith}
use Rattle.walk_missing.proofs.Turns.{less-back, wrapped}
use Rattle.walk_missing.proofs.turned.U32Number.less.Goals as goal

pub returns : goal.returns
returns c = wrapped false false refl _ _ _ (omega arith) (omega arith) (omega arith) (less-back 32 _ _ (omega arith) (omega arith))
