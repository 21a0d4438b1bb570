-- The few properties of a judgement that the walk rests on.
use Prim.Native.Nat.{ℕ, ◌+◌, ◌≤◌}
use mathlib.Core.Path.{◌≡◌}
use mathlib.Core.List.{List}
use lib.ListN.{length}
use Rattle.rules.specs.Ask.{Ask, over}
use Rattle.header.specs.Frame.{Framing}
use Rattle.walk.specs.Judged.{Judged, fit, off, cut, Candidate, stands}

pub record Sound (judge : ℕ → Ask Judged) (candidate : ℕ → Ask Candidate) : Type 0 where
  -- a record that passes, and one that is refused with 5, 6 or 7, has 12 octets or more and lies in the stream
  pub fits : (s : List ℕ) (p : ℕ) (f : Framing) → over s (judge p) ≡ fit f → (p + 12 ≤ f.end) × (f.end ≤ length s)
  pub offs : (s : List ℕ) (p r e : ℕ) → over s (judge p) ≡ off r e → (p + 12 ≤ e) × (e ≤ length s)
  -- the numbers that it is refused with, and those of what is not framed
  pub off-number : (s : List ℕ) (p r e : ℕ) → over s (judge p) ≡ off r e → (5 ≤ r) × (r ≤ 7)
  pub cut-number : (s : List ℕ) (p r : ℕ) → over s (judge p) ≡ cut r → (1 ≤ r) × (r ≤ 4)
  -- a candidate is a record that passes, with the evidence 2 or 3
  pub carried : (s : List ℕ) (p v e : ℕ) → over s (candidate p) ≡ stands v e → (f : Framing) × (over s (judge p) ≡ fit f) × (f.end ≡ e)
  pub evidence : (s : List ℕ) (p v e : ℕ) → over s (candidate p) ≡ stands v e → (2 ≤ v) × (v ≤ 3)
