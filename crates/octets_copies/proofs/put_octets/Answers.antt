use mathlib.Core.Path.{refl}
use native.Mathlib.Nat.{le_of_eq}
use Rattle.octets.proofs.Stores.{patch_beyond, copy_done}
use Rattle.octets_copies.proofs.put_octets.Goals as goal

pub returns-then-n-at : goal.returns-then-n-at
returns-then-n-at c = patch_beyond _ _ _ c.if-n-at.true

pub returns-then-m-lt16 : goal.returns-then-m-lt16
returns-then-m-lt16 c = copy_done _ _ _ (le_of_eq refl) (le_of_eq refl) c.min-m.ensures c.put_few.ensures

pub returns-then-m-le128 : goal.returns-then-m-le128
returns-then-m-le128 c = copy_done _ _ _ (le_of_eq refl) (le_of_eq refl) c.min-m.ensures c.put_eight.ensures

pub returns-else-m-le128 : goal.returns-else-m-le128
returns-else-m-le128 c = copy_done _ _ _ (le_of_eq refl) (le_of_eq refl) c.min-m.ensures c.put_each.ensures
