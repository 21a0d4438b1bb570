use mathlib.Core.Path.{refl, sym}
use native.Mathlib.Nat.{le_of_eq}
use native.Mathlib.Omega.{arith}
use borrow.Author.Tests.{leb-true}
use Rattle.octets.proofs.Parts.{patch_lent}
use Rattle.octets_copies.proofs.store.Goals as goal

pub overflow_add-end : goal.overflow_add-end
overflow_add-end g c = omega (arith, leb-true _ _ (sym c.if-not-has_room.ensures.answer))

pub returns : goal.returns
returns g c = patch_lent _ _ _ g.row.N _ (omega arith) (leb-true _ _ (sym c.if-not-has_room.ensures.answer)) (le_of_eq refl) c.put-2.ensures
