-- What every answer of a rule meets, whatever the stream: shown from the rule's questions alone.
use Prim.Native.Nat.{ℕ, ◌+◌, ◌<◌, ◌≤◌, max}
use mathlib.Core.Path.{◌≡◌, refl}
use mathlib.Core.Bool.{Bool, true, false, cond}
use mathlib.Core.List.{List}
use native.Mathlib.Omega.{arith}
use lib.ListN.{length}
use lib.Dec.{leb}
use borrow.Author.Tests.{leb-true, leb-false}
use Rattle.octets.specs.Octets.{be_at, part}
use Rattle.rules.specs.Ask.{Ask, done, has, number, octets, ◌>>=◌, over}

-- each answer x that t gives has P b m x, where m octets are there for certain, and b says whether a question met the
-- end of the stream; and t looks only at octets that it has asked for
abbrev pub Meets : {A : Type 0} → (Bool → ℕ → A → Type 0) → Bool → ℕ → Ask A → Type 0
Meets P b m (done x) = P b m x
Meets P b m (has k x y) = Meets P b (max m k) x × ((n : ℕ) → n < k → Meets P true n (y n))
Meets P b m (number at n f) = (at + n ≤ m) × ((v : ℕ) → Meets P b m (f v))
Meets P b m (octets at n f) = (at + n ≤ m) × ((l : List ℕ) → Meets P b m (f l))

module _ {A : Type 0} (P : Bool → ℕ → A → Type 0) where
  -- whichever way a test goes
  pub meets_cond : (t b : Bool) (m : ℕ) (x y : Ask A) → (t ≡ true → Meets P b m x) → (t ≡ false → Meets P b m y) → Meets P b m (cond t x y)
  meets_cond true b m x y p q = p refl
  meets_cond false b m x y p q = q refl

  -- one rule after another
  module _ {B : Type 0} (Q : Bool → ℕ → B → Type 0) (g : B → Ask A) (each : (b : Bool) (m : ℕ) (x : B) → Q b m x → Meets P b m (g x)) where
    pub meets_bind : (b : Bool) (m : ℕ) (t : Ask B) → Meets Q b m t → Meets P b m (t >>= g)
    unfolding ◌>>=◌
    meets_bind b m (done x) h = each b m x h
    meets_bind b m (has k x y) h = (meets_bind b (max m k) x h.0, λ n l. meets_bind true n (y n) (h.1 n l))
    meets_bind b m (number at n f) h = (h.0, λ v. meets_bind b m (f v) (h.1 v))
    meets_bind b m (octets at n f) h = (h.0, λ l. meets_bind b m (f l) (h.1 l))

  -- over a stream: the answer meets P for some octets of it
  pub record Over (s : List ℕ) (t : Ask A) : Type 0 where
    pub met : Bool
    pub bytes : ℕ
    pub within : bytes ≤ length s
    pub holds : P met bytes (over s t)

  pub meets_over : (s : List ℕ) (b : Bool) (m : ℕ) (t : Ask A) → m ≤ length s → Meets P b m t → Over s t
  unfolding over
  meets_over s b m (done x) l h = record { met = b; bytes = m; within = l; holds = h }
  meets_over s b m (has k x y) l h =
      by_test (leb k (length s)) refl (λ c. meets_over s b (max m k) x c h.0)
      (λ c. meets_over s true (length s) (y (length s)) (omega arith) (h.1 (length s) c))
    where
      by_test : (t : Bool) → leb k (length s) ≡ t → (max m k ≤ length s → Over s x) → (length s < k → Over s (y (length s)))
          → Over s (has k x y)
      by_test true t p q =
          let c : k ≤ length s = leb-true _ _ t in
          let r = p (omega arith) in
          record { met = r.met; bytes = r.bytes; within = r.within; holds = rw t r.holds }
      by_test false t p q =
          let r = q (leb-false _ _ t) in
          record { met = r.met; bytes = r.bytes; within = r.within; holds = rw t r.holds }
  meets_over s b m (number at n f) l h =
      let r = meets_over s b m (f (be_at s at n)) l (h.1 (be_at s at n)) in
      record { met = r.met; bytes = r.bytes; within = r.within; holds = r.holds }
  meets_over s b m (octets at n f) l h =
      let r = meets_over s b m (f (part s at n)) l (h.1 (part s at n)) in
      record { met = r.met; bytes = r.bytes; within = r.within; holds = r.holds }
