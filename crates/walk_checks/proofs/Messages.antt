-- The marker as four numbers, and the cases of a message.
use Prim.Native.Nat.{ℕ}
use mathlib.Core.Path.{◌≡◌, sym, ◌∙◌, ap}
use mathlib.Core.Bool.{Bool, ◌&&◌}
use mathlib.Core.List.{List}
use lib.Dec.{eqb}
use Rattle.octets.specs.Octets.{be_at, ones, Octets}
use Rattle.octets.proofs.Ones.{ones_join, ones_be}

-- the marker, four octets at a time
module _ (s : List ℕ) (o : Octets s) where
  abbrev pub quarter : ℕ → Bool
  quarter at = eqb (be_at s at 4) 4294967295

  pub quarters : ones s 0 16 ≡ (quarter 0 && (quarter 4 && (quarter 8 && quarter 12)))
  quarters =
      sym (ones_join s 0 4 12)
      ∙ ap (λ (b : Bool). ones s 0 4 && b) (sym (ones_join s 4 4 8))
      ∙ ap (λ (b : Bool). ones s 0 4 && (ones s 4 4 && b)) (sym (ones_join s 8 4 4))
      ∙ simp (ones_be s 0 4 o, ones_be s 4 4 o, ones_be s 8 4 o, ones_be s 12 4 o)
