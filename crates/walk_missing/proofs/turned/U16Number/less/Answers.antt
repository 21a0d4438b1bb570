use mathlib.Core.Path.{refl}
use Rattle.std.proofs.Common.{◌∙◌, true, arith}
use Rattle.walk_missing.proofs.Turns.{less-back, wrapped}
use Rattle.walk_missing.proofs.turned.U16Number.less.Goals as goal

pub returns : goal.returns
returns c = c.from.ensures
    ∙ wrapped true true refl _ _ _ (omega arith) (omega arith) (omega arith) (less-back 16 _ _ (omega arith) (omega arith))
