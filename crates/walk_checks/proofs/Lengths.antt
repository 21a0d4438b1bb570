-- A table of rows, read by number, for any rows; and bounds as rows of two numbers.
use Prim.Native.Nat.{ℕ, zero, suc, ◌<◌, ◌≤◌}
use mathlib.Core.Path.{◌≡◌, refl, sym, ◌∙◌, ap}
use mathlib.Core.List.{List, [], ◌∷◌, map}
use native.Mathlib.Omega.{arith}
use lib.ListN.{length, get_or, get_or-map, get_or-eq_default}
use denote.Ref.{Bor}
use Rattle.std.specs.Prelude.{Option, Some, None, unwrap_or}
use Rattle.std.specs.Option.{option_map, option_copied, option_flatten}
use Rattle.std.specs.Slice.{IsItemAt}
use Rattle.walk_checks.specs.Within.{from_to, none}
use Rattle.walk_checks.specs.Bgp4mp.{as_sizes, as_size}
use Rattle.walk_checks.specs.declared.Bounds.{Bounds}

now_or : {X : Type 0} (r : Option (Bor X)) (d : X) → unwrap_or (option_copied r) d
    ≡ unwrap_or (option_map (λ (x : Bor X). x.now) r) d
now_or None d = refl
now_or (Some x) d = refl

-- f says each row as code has it, and what code has beyond the rows
module _ {X Y : Type 0} (f : Y → X) (rows : List Y) (d : Y) where
  pub row_read : {a : X} {b : Option X} (r : Option (Bor X)) {u v : ℕ} → a ≡ unwrap_or b (f d) → b ≡ option_copied r
      → u ≡ v → IsItemAt (map f rows) u r → a ≡ f (get_or rows v d)
  row_read r {u} p q e i =
      p ∙ ap (λ (o : Option X). unwrap_or o (f d)) q ∙ rw (← e) (now_or r (f d) ∙ i.4 (omega arith) (f d) ∙ get_or-map f rows u d)

pub flat : {X : Type 0} (o : Option (Option X)) → option_flatten o ≡ unwrap_or o None
flat None = refl
flat (Some x) = refl

-- bounds as a row
abbrev pub pair : Bounds → List ℕ
pair b = b.low ∷ b.high ∷ []

pub of_row : {r : List ℕ} (b : Bounds) → r ≡ pair b → from_to (get_or r 0 0) (get_or r 1 0) ≡ b
of_row b = ap (λ (r : List ℕ). from_to (get_or r 0 0) (get_or r 1 0))

-- a row of a table, and what stands in for one beyond its end
pub row_at : (bs : List Bounds) (u : ℕ) → u < length bs → get_or (map pair bs) u [] ≡ pair (get_or bs u none)
row_at [] u h = absurd (omega arith)
row_at (b ∷ bs) zero h = refl
row_at (b ∷ bs) (suc u) h = row_at bs u (omega arith)

pub row_beyond : (bs : List Bounds) (u : ℕ) → length bs ≤ u → pair none ≡ pair (get_or bs u none)
row_beyond bs u h = ap pair (sym (get_or-eq_default bs none h))

-- beyond the table there is no size of an AS
pub as_size-rest : (u : ℕ) → 12 ≤ u → 0 ≡ as_size u
unfolding as_size as_sizes
as_size-rest u h = sym (get_or-eq_default as_sizes 0 h)
