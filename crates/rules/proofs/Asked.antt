-- What rules answer over a stream: one after another, and over what is left. Proved once, for every rule.
use Prim.Native.Nat.{ℕ, ◌+◌, ◌≤◌}
use mathlib.Core.Path.{◌≡◌, refl, sym, ◌∙◌, ap}
use mathlib.Core.Bool.{Bool, true, false, cond}
use mathlib.Core.List.{List}
use native.Mathlib.Omega.{arith}
use lib.ListN.{length, take, drop, length-drop}
use lib.Seq.{drop-drop}
use lib.Dec.{leb}
use borrow.Author.Tests.{le-leb, lt-leb, leb-true, leb-false}
use Rattle.octets.specs.Octets.{be_at, part}
use Rattle.octets.proofs.Numbers.{be_drop}
use Rattle.rules.specs.Ask.{Ask, done, has, number, octets, ◌>>=◌, over, past}

-- one rule after another
pub over_bind : {A B : Type 0} (s : List ℕ) (g : A → Ask B) (t : Ask A) → over s (t >>= g) ≡ over s (g (over s t))
unfolding over ◌>>=◌
over_bind s g (done a) = refl
over_bind s g (has m a b) = by_test (leb m (length s)) (over_bind s g a) (over_bind s g (b (length s)))
  where
    by_test : (t : Bool) → over s (a >>= g) ≡ over s (g (over s a)) → over s (b (length s) >>= g) ≡ over s (g (over s (b (length s))))
        → cond t (over s (a >>= g)) (over s (b (length s) >>= g)) ≡ over s (g (cond t (over s a) (over s (b (length s)))))
    by_test true p q = p
    by_test false p q = q
over_bind s g (number at n f) = over_bind s g (f (be_at s at n))
over_bind s g (octets at n f) = over_bind s g (f (part s at n))

-- the same questions further on are the questions of what is left
module _ (s : List ℕ) (p : ℕ) (l : p ≤ length s) where
  leb-past : (m : ℕ) (t : Bool) → leb m (length (drop p s)) ≡ t → leb (p + m) (length s) ≡ t
  leb-past m true t = let c = simp length-drop at (leb-true m (length (drop p s)) t) in le-leb (p + m) (length s) (omega arith)
  leb-past m false t = let c = simp length-drop at (leb-false m (length (drop p s)) t) in lt-leb (p + m) (length s) (omega arith)

  pub over-past : {A : Type 0} (t : Ask A) → over s (past p t) ≡ over (drop p s) t
  unfolding over past
  over-past (done x) = refl
  over-past (has m x y) = rw (leb-past m _ refl, ← length-drop p s, over-past x, over-past (y (length (drop p s)))) refl
  over-past (number at n f) = over-past (f (be_at s (p + at) n)) ∙ ap (λ (v : ℕ). over (drop p s) (f v)) (sym (be_drop s p at n))
  over-past (octets at n f) =
      over-past (f (part s (p + at) n)) ∙ ap (λ (r : List ℕ). over (drop p s) (f (take n r))) (sym (drop-drop at p s))
