-- What the call answers where the subtype is carried and the prefix is no longer than it allows.
use Prim.Native.Nat.{ℕ, ◌+◌, ◌<◌, ◌≤◌}
use mathlib.Core.Path.{◌≡◌, ◌∙◌}
use mathlib.Core.List.{List}
use native.Mathlib.Omega.{arith}
use lib.ListN.{length}
use Rattle.std.proofs.Common.{Some}
use Rattle.std.proofs.lemmas.Bool.Decides.{nat_tests}
use Rattle.answer.specs.Writing.{refuse, at_front}
use Rattle.answer.proofs.Writers.{front_full, front_stored}
use Rattle.octets.specs.Octets.{patch}
use Rattle.rib_head.specs.Layout.{prefix_size, layout_of}
use Rattle.rib_head.specs.declared.Layout.{Layout}
use Rattle.rib_begin.specs.Layout.{head_octets}
use Rattle.rib_begin.specs.Begin.{begin_rib}
use Rattle.rib_begin.proofs.Sizes.{length-head}

module _ (s : List ℕ) (t sequence bits : ℕ) (prefix : List ℕ) {l : Layout} (e : Some l ≡ layout_of t) (h : bits ≤ l.most) {n : ℕ}
    (size : n ≡ prefix_size bits) where
  front : at_front s (head_octets sequence bits prefix 0) ≡ begin_rib s t sequence bits prefix
  unfolding begin_rib
  front = grind (arith, nat_tests)

  taken : length (head_octets sequence bits prefix 0) ≡ 7 + n
  taken = length-head sequence bits prefix 0 ∙ rw size

  pub begin_full : length s < 7 + n → refuse 9 s ≡ begin_rib s t sequence bits prefix
  begin_full r = front_full s (head_octets sequence bits prefix 0) (7 + n) taken r ∙ front

  pub begin_done : 7 + n ≤ length s → {u : List ℕ} → u ≡ patch s 0 (head_octets sequence bits prefix 0)
      → record { number = 0; octets = 7 + n; output = u } ≡ begin_rib s t sequence bits prefix
  begin_done r {u} q = front_stored s (head_octets sequence bits prefix 0) (7 + n) taken r u q ∙ front
