-- A rule as the questions that it asks of a stream, one after the other. A rule has no position in it: it speaks of
-- what stands at the front, so that it is written once for a whole stream, for what is left of one after p octets,
-- and for octets that arrive in pieces.
use Rattle.std.specs.Prelude.{ℕ, ◌+◌, ◌-◌, List, cond, length, leb}
use Rattle.octets.specs.Octets.{be_at, part}

-- done a: the answer is a
-- has m a b: go on with a where the stream has m octets; else it ends before that, and b goes on with its length
-- number at n f: go on with the number in the n octets from at on
-- octets at n f: go on with the n octets from at on
pub data Ask (A : Type 0) : Type 0 where
  done : A → Ask A
  has : ℕ → Ask A → (ℕ → Ask A) → Ask A
  number : ℕ → ℕ → (ℕ → Ask A) → Ask A
  octets : ℕ → ℕ → (List ℕ → Ask A) → Ask A

-- one rule, and then the next with its answer
infixl 20 ◌>>=◌
unfoldable pub ◌>>=◌ : {A B : Type 0} → Ask A → (A → Ask B) → Ask B
◌>>=◌ (done a) g = g a
◌>>=◌ (has m a b) g = has m (a >>= g) (λ n. b n >>= g)
◌>>=◌ (number at n f) g = number at n (λ v. f v >>= g)
◌>>=◌ (octets at n f) g = octets at n (λ l. f l >>= g)

-- the answer over a whole stream
unfoldable pub over : {A : Type 0} → List ℕ → Ask A → A
over s (done a) = a
over s (has m a b) = cond (leb m (length s)) (over s a) (over s (b (length s)))
over s (number at n f) = over s (f (be_at s at n))
over s (octets at n f) = over s (f (part s at n))

-- the same questions of what stands after the first p octets
unfoldable pub past : {A : Type 0} → ℕ → Ask A → Ask A
past p (done a) = done a
past p (has m a b) = has (p + m) (past p a) (λ n. past p (b (n - p)))
past p (number at n f) = number (p + at) n (λ v. past p (f v))
past p (octets at n f) = octets (p + at) n (λ l. past p (f l))
