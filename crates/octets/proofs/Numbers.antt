-- Big-endian numbers over their width: two numbers side by side, numbers in a part, equal numbers, and there and
-- back.
use Prim.Native.Nat.{ℕ, zero, suc, ◌+◌, ◌*◌, ◌/◌, ◌%◌, ◌^◌, ◌<◌, ◌≤◌}
use mathlib.Core.Path.{◌≡◌, refl, sym, ◌∙◌, ap, subst}
use mathlib.Core.List.{List, [], ◌∷◌, ◌++◌, append_assoc, append-nil}
use mathlib.Core.Bool.{Bool, true, false, ◌&&◌}
use native.Mathlib.Nat.{add-zero, add-suc, add_assoc, mul_assoc, mul-one, pow-suc}
use native.Mathlib.Nat.{div-lt_iff_lt-mul, div-add-mod', mod-lt, one-le-pow}
use native.Mathlib.Omega.{arith}
use borrow.Author.Tests.{eq-eqb, ne_eqb, eqb-true, eqb-false}
use lib.Dec.{eqb}
use lib.ListN.{length, get_or, take, drop, length-append, length-drop}
use lib.Seq.{get_or-take, get_or-drop, get_or_at, take-suc}
use Rattle.octets.specs.Octets.{be_at, bytes_of, part, Octets}

-- n octets and the m after them
pub be_join : (s : List ℕ) (at n m : ℕ) → be_at s at n * 256 ^ m + be_at s (at + n) m ≡ be_at s at (n + m)
unfolding be_at
be_join s at n zero = rw (add-zero, add-zero) (mul-one (be_at s at n))
be_join s at n (suc m) =
    let e : be_at s at n * 256 ^ m + be_at s (at + n) m ≡ be_at s at (n + m) = be_join s at n m in
    let p : be_at s at n * 256 ^ suc m ≡ be_at s at n * 256 ^ m * 256 =
    ap (λ (k : ℕ). be_at s at n * k) (pow-suc 256 m) ∙ sym (mul_assoc (be_at s at n) (256 ^ m) 256) in
    rw (add-suc, p, ← add_assoc at n m) (omega arith)

pub be_one : (s : List ℕ) (at : ℕ) → get_or s at 0 ≡ be_at s at 1
unfolding be_at
be_one s at = rw add-zero (omega arith)

-- a number put together from its two halves
pub be_halves : (s : List ℕ) (at n m : ℕ) {high low : ℕ} → high ≡ be_at s at n → low ≡ be_at s (at + n) m
    → high * 256 ^ m + low ≡ be_at s at (n + m)
be_halves s at n m h l = rw (h, l) (be_join s at n m)

-- a number of what is left after p octets, and one within a part
pub be_drop : (s : List ℕ) (p at n : ℕ) → be_at (drop p s) at n ≡ be_at s (p + at) n
unfolding be_at
be_drop s p at zero = refl
be_drop s p at (suc n) = rw (be_drop s p at n, get_or-drop p s (at + n) 0, add_assoc p at n)

pub be_take : (s : List ℕ) (m at n : ℕ) → at + n ≤ m → be_at (take m s) at n ≡ be_at s at n
unfolding be_at
be_take s m at zero h = refl
be_take s m at (suc n) h =
    let l : at + n ≤ m = omega arith in
    let k : at + n < m = omega arith in
    rw (be_take s m at n l, get_or-take m s (at + n) 0 k)

-- a digit more: two numbers are equal where both parts are
pub digit : (x y z w : ℕ) → y < 256 → w < 256 → (t u : Bool) → eqb x z ≡ t → eqb y w ≡ u → (t && u) ≡ eqb (x * 256 + y) (z * 256 + w)
digit x y z w l k true true p q = let a = eqb-true x z p in let b = eqb-true y w q in sym (eq-eqb (x * 256 + y) (z * 256 + w) (omega arith))
digit x y z w l k true false p q = sym (ne_eqb (x * 256 + y) (z * 256 + w) (λ e. eqb-false y w q (omega arith)))
digit x y z w l k false u p q = sym (ne_eqb (x * 256 + y) (z * 256 + w) (λ e. eqb-false x z p (omega arith)))

-- an octet more: two numbers are equal exactly where their octets are
pub be_same : (a b : List ℕ) (at n : ℕ) → Octets a → Octets b
    → (eqb (be_at a at n) (be_at b at n) && eqb (get_or a (at + n) 0) (get_or b (at + n) 0)) ≡ eqb (be_at a at (suc n)) (be_at b at (suc n))
unfolding be_at
be_same a b at n o p = digit (be_at a at n) (get_or a (at + n) 0) (be_at b at n) (get_or b (at + n) 0) (o (at + n)) (p (at + n)) _ _ refl
    refl

pub length_bytes : (n v : ℕ) → length (bytes_of n v) ≡ n
unfolding bytes_of
length_bytes zero v = refl
length_bytes (suc n) v =
    let e : length (bytes_of n (v / 256)) ≡ n = length_bytes n (v / 256) in
    length-append (bytes_of n (v / 256)) (v % 256 ∷ []) ∙ omega arith

-- a number in n octets and one in the m after them
pub bytes_join : (n m high low : ℕ) → low < 256 ^ m → bytes_of n high ++ bytes_of m low ≡ bytes_of (n + m) (high * 256 ^ m + low)
unfolding bytes_of
bytes_join n zero high low h =
    let e : high * 256 ^ 0 + low ≡ high = omega arith in
    rw (e, add-zero, append-nil)
bytes_join n (suc m) high low h =
    let x : ℕ = high * 256 ^ m in
    let p : high * 256 ^ suc m ≡ x * 256 = ap (λ (k : ℕ). high * k) (pow-suc 256 m) ∙ sym (mul_assoc high (256 ^ m) 256) in
    let d : (x * 256 + low) / 256 ≡ x + low / 256 = omega arith in
    let r : (x * 256 + low) % 256 ≡ low % 256 = omega arith in
    let k : low / 256 < 256 ^ m = (div-lt_iff_lt-mul {k = 256} {x = low} {y = 256 ^ m} (omega arith)).1 (rw pow-suc at h) in
    rw (add-suc, p, d, r, ← bytes_join n m high (low / 256) k, ← append_assoc)

-- v in n octets and the m after them
pub bytes_halves : (n m v : ℕ) → bytes_of n (v / 256 ^ m) ++ bytes_of m (v % 256 ^ m) ≡ bytes_of (n + m) v
bytes_halves n m v =
    bytes_join n m (v / 256 ^ m) (v % 256 ^ m) (mod-lt v (one-le-pow m 256 (omega arith)))
    ∙ ap (bytes_of (n + m)) (div-add-mod' v (256 ^ m))

-- what is written is read back
pub be_of_bytes : (n v : ℕ) (p q : List ℕ) → v < 256 ^ n → be_at (p ++ bytes_of n v ++ q) (length p) n ≡ v
unfolding be_at bytes_of
be_of_bytes zero v p q h = omega arith
be_of_bytes (suc n) v p q h =
    let b : List ℕ = bytes_of n (v / 256) in
    let e : p ++ bytes_of (suc n) v ++ q ≡ p ++ b ++ (v % 256 ∷ q) =
    ap (λ (l : List ℕ). l ++ q) (sym (append_assoc p b (v % 256 ∷ []))) ∙ append_assoc (p ++ b) (v % 256 ∷ []) q in
    let l : length (p ++ b) ≡ length p + n = length-append p b ∙ ap (λ (k : ℕ). length p + k) (length_bytes n (v / 256)) in
    let k : v / 256 < 256 ^ n = (div-lt_iff_lt-mul {k = 256} {x = v} {y = 256 ^ n} (omega arith)).1 (rw pow-suc at h) in
    subst (λ (s : List ℕ). be_at s (length p) (suc n) ≡ v) (sym e)
    (rw (be_of_bytes n (v / 256) p (v % 256 ∷ q) k, get_or_at (p ++ b) (v % 256) q 0 (length p + n) l) (div-add-mod' v 256))

-- the same where what stands after the number is grouped with it
pub be_of_field : (p q : List ℕ) (at n v : ℕ) → length p ≡ at → v < 256 ^ n → v ≡ be_at (p ++ (bytes_of n v ++ q)) at n
be_of_field p q at n v l h = rw (← l, ← append_assoc p (bytes_of n v) q) (sym (be_of_bytes n v p q h))

-- a number of octets fits its width
pub be_lt : (s : List ℕ) (at n : ℕ) → Octets s → be_at s at n < 256 ^ n
unfolding be_at
be_lt s at zero o = omega arith
be_lt s at (suc n) o = let i = be_lt s at n o in let b = o (at + n) in rw pow-suc (omega arith)

-- what is read is written back
pub bytes_of_be : (s : List ℕ) (at n : ℕ) → Octets s → at + n ≤ length s → bytes_of n (be_at s at n) ≡ part s at n
unfolding be_at bytes_of
bytes_of_be s at zero o h = refl
bytes_of_be s at (suc n) o h =
    let x : ℕ = be_at s at n in
    let y : ℕ = get_or s (at + n) 0 in
    let d : (x * 256 + y) / 256 ≡ x = omega (arith, o (at + n)) in
    let m : (x * 256 + y) % 256 ≡ y = omega (arith, o (at + n)) in
    let k : n < length (drop at s) = simp length-drop (omega arith) in
    rw (d, m, bytes_of_be s at n o (omega arith), ← get_or-drop at s n 0) (sym (take-suc (drop at s) n 0 k))
