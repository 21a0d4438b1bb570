-- What the reader's definition is in each of its cases.
use Prim.Native.Nat.{ℕ, ◌+◌, ◌-◌, ◌<◌, ◌≤◌}
use mathlib.Core.Path.{◌≡◌, refl, ◌∙◌, ap}
use mathlib.Core.Bool.{Bool, true, false}
use mathlib.Core.List.{List}
use lib.ListN.{length, drop, take}
use Rattle.octets.proofs.Parts.{part-rest}
use lib.Dec.{leb, ltb}
use native.Mathlib.Omega.{arith}
use borrow.Author.Tests.{lt-ltb, le-ltb, le-leb, lt-leb, leb-true, ltb-false}
use Rattle.octets.specs.Octets.{be_at}
use Rattle.rules.specs.Ask.{over}
use Rattle.header.specs.Kind.{known, timed}
use Rattle.header.specs.Read.{Heading, refused, accepted, header, header_at}

module _ (s : List ℕ) (at : ℕ) where
  pub header_beyond : length s < at → refused 8 ≡ header_at s at
  unfolding header_at
  header_beyond h = simp (lt-ltb _ _ h)

  -- the part that is lent to the reader of the front
  pub header-within : at ≤ length s → {r : Heading} → r ≡ over (take (length s - at) (drop at s)) header → r ≡ header_at s at
  unfolding header_at
  header-within h e = simp (le-ltb _ _ h) (e ∙ ap (λ (l : List ℕ). over l header) (part-rest s at))

pub header_short : (s : List ℕ) → length s < 12 → refused 1 ≡ over s header
unfolding header over
header_short s h = simp (lt-leb _ _ h)

-- what is known once the twelve octets are read: t, k, u and w are the four fields
pub record Fields (s : List ℕ) (t k u w : ℕ) : Type 0 where
  pub twelve : 12 ≤ length s
  pub time : t ≡ be_at s 0 4
  pub type : k ≡ be_at s 4 2
  pub sub : u ≡ be_at s 6 2
  pub wire : w ≡ be_at s 8 4

pub fields : {s : List ℕ} {t k u w : ℕ} → 12 ≤ length s → t ≡ be_at s 0 4 → k ≡ be_at s 4 2 → u ≡ be_at s 6 2 → w ≡ be_at s 8 4
    → Fields s t k u w
fields l t k u w = record { twelve = l; time = t; type = k; sub = u; wire = w }

module _ {s : List ℕ} {t k u w : ℕ} (f : Fields s t k u w) where
  pub header_unknown : known k ≡ false → refused 2 ≡ over s header
  unfolding header over
  header_unknown n = simp (le-leb _ _ f.twelve, ← f.type, n)

  module _ (n : known k ≡ true) where
    pub header_plain : timed k ≡ false → accepted t k u w w 0 ≡ over s header
    unfolding header over
    header_plain o = simp (le-leb _ _ f.twelve, ← f.time, ← f.type, ← f.sub, ← f.wire, n, o)

    module _ (o : timed k ≡ true) where
      pub header_tiny : w < 4 → refused 3 ≡ over s header
      unfolding header over
      header_tiny l = simp (le-leb _ _ f.twelve, ← f.type, ← f.wire, n, o, lt-ltb _ _ l)

      pub header-cut : 4 ≤ w → length s < 16 → refused 1 ≡ over s header
      unfolding header over
      header-cut l m = simp (le-leb _ _ f.twelve, ← f.type, ← f.wire, n, o, le-ltb _ _ l, lt-leb _ _ m)

      pub header-timed : {us : ℕ} → 4 ≤ w → 16 ≤ length s → us ≡ be_at s 12 4 → accepted t k u w (w - 4) us ≡ over s header
      unfolding header over
      header-timed l m e = simp (le-leb _ _ f.twelve, ← f.time, ← f.type, ← f.sub, ← f.wire, ← e, n, o, le-ltb _ _ l, le-leb _ _ m)

-- a header that was read, by its two shapes
pub data Shape (s : List ℕ) : Heading → Type 0 where
  plain : 12 ≤ length s → known (be_at s 4 2) ≡ true → timed (be_at s 4 2) ≡ false
      → Shape s (accepted (be_at s 0 4) (be_at s 4 2) (be_at s 6 2) (be_at s 8 4) (be_at s 8 4) 0)
  extended : 16 ≤ length s → known (be_at s 4 2) ≡ true → timed (be_at s 4 2) ≡ true → 4 ≤ be_at s 8 4
      → Shape s (accepted (be_at s 0 4) (be_at s 4 2) (be_at s 6 2) (be_at s 8 4) (be_at s 8 4 - 4) (be_at s 12 4))

pub shape : (s : List ℕ) → (over s header).number ≡ 0 → Shape s (over s header)
unfolding header over
shape s z =
    by_tests (leb 12 (length s)) (known (be_at s 4 2)) (timed (be_at s 4 2)) (ltb (be_at s 8 4) 4) (leb 16 (length s))
    refl refl refl refl refl z
  where
    by_tests : (a b c d e : Bool) → leb 12 (length s) ≡ a → known (be_at s 4 2) ≡ b → timed (be_at s 4 2) ≡ c
        → ltb (be_at s 8 4) 4 ≡ d → leb 16 (length s) ≡ e → (over s header).number ≡ 0 → Shape s (over s header)
    by_tests false b c d e p q r u v z = absurd (let y : ◌≡◌ {A = ℕ} 1 0 = rw p at z in omega arith)
    by_tests true false c d e p q r u v z = absurd (let y : ◌≡◌ {A = ℕ} 2 0 = rw (p, q) at z in omega arith)
    by_tests true true false d e p q r u v z = rw (p, q, r) (plain (leb-true _ _ p) q r)
    by_tests true true true true e p q r u v z = absurd (let y : ◌≡◌ {A = ℕ} 3 0 = rw (p, q, r, u) at z in omega arith)
    by_tests true true true false true p q r u v z = rw (p, q, r, u, v) (extended (leb-true _ _ v) q r (ltb-false _ _ u))
    by_tests true true true false false p q r u v z = absurd (let y : ◌≡◌ {A = ℕ} 1 0 = rw (p, q, r, u, v) at z in omega arith)

pub header-kind : (s : List ℕ) → (over s header).number ≡ 0 → (over s header).kind ≡ be_at s 4 2
header-kind s z = by_shape (over s header) (shape s z)
  where
    by_shape : (h : Heading) → Shape s h → h.kind ≡ be_at s 4 2
    by_shape h (plain l n e) = refl
    by_shape h (extended l n e g) = refl

-- the stored length is the wire length, or four less
pub header-stored : (s : List ℕ) → (over s header).number ≡ 0 → be_at s 8 4 ≤ (over s header).stored + 4
header-stored s z = by_shape (over s header) (shape s z)
  where
    by_shape : (h : Heading) → Shape s h → be_at s 8 4 ≤ h.stored + 4
    by_shape h (plain l n e) = omega arith
    by_shape h (extended l n e g) = omega arith
