-- A law of tests.
use mathlib.Core.Path.{◌≡◌, refl}
use mathlib.Core.Bool.{Bool, true, false, cond}

-- what comes last of two is needed only where the test fails
pub cond-last : {A : Type 0} (q : Bool) (a : A) {x y : A} → (q ≡ false → x ≡ y) → cond q a x ≡ cond q a y
cond-last true a e = refl
cond-last false a e = e refl
