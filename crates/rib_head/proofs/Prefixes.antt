-- Masks and cleared octets.
use Prim.Native.Nat.{ℕ, zero, suc, ◌+◌, ◌-◌, ◌*◌, ◌/◌, ◌^◌, ◌<◌, ◌≤◌}
use mathlib.Core.Path.{◌≡◌, refl, sym, ◌∙◌, ap}
use mathlib.Core.Bool.{Bool, true, false}
use mathlib.Core.List.{List, [], ◌∷◌, ◌++◌, append_assoc}
use native.Mathlib.Omega.{arith}
use native.Mathlib.Nat.{mul-div_cancel, one-le-pow}
use native.Mathlib.Numerals.{add-one}
use lib.Dec.{ltb}
use lib.ListN.{length-append, get_or-append, length, get_or, set, drop}
use lib.Seq.{get_or_at, set_at, drop-cons}
use borrow.Author.Tests.{ltb-true, ltb-false}
use Rattle.rib_head.specs.Prefix.{masked, cleared}

module _ (bits i v : ℕ) where
  -- an octet after the prefix
  pub masked-after : v < 256 → bits ≤ 8 * i → 0 ≡ masked bits i v
  unfolding masked
  masked-after h l = let e : 8 - (bits - 8 * i) ≡ 8 = omega arith in rw e (let z : v / 256 ≡ 0 = omega arith in rw z)

pub length-cleared : (bits : ℕ) (l : List ℕ) (n : ℕ) → length (cleared bits l n) ≡ n
unfolding cleared
length-cleared bits l zero = refl
length-cleared bits l (suc n) =
    length-append (cleared bits l n) (masked bits n (get_or l n 0) ∷ []) ∙ rw (length-cleared bits l n) (omega arith)

-- one turn: the octets before i are cleared, and then the octet i
pub clear_turn : (bits : ℕ) (l : List ℕ) (i : ℕ) → i < length l → {p : List ℕ} → p ≡ cleared bits l i ++ drop i l
    → {v : ℕ} → v ≡ masked bits i (get_or p i 0) → set p i v ≡ cleared bits l (i + 1) ++ drop (i + 1) l
unfolding cleared
clear_turn bits l i h {p} q {v} e =
    let x : ℕ = get_or l i 0 in
    let d : p ≡ cleared bits l i ++ (x ∷ drop (suc i) l) = rw (← drop-cons l i 0 h) q in
    let g : get_or p i 0 ≡ x = rw d (get_or_at (cleared bits l i) x (drop (suc i) l) 0 i (length-cleared bits l i)) in
    rw (add-one, d, set_at (cleared bits l i) x (drop (suc i) l) v i (length-cleared bits l i), e, g)
    (sym (append_assoc (cleared bits l i) (masked bits i x ∷ []) (drop (suc i) l)))

-- cleared octets are those of any list whose octets have the same bits within the prefix
pub cleared_same : (bits : ℕ) (l m : List ℕ) (n : ℕ) → ((i : ℕ) → i < n → masked bits i (get_or l i 0) ≡ masked bits i (get_or m i 0))
    → cleared bits l n ≡ cleared bits m n
unfolding cleared
cleared_same bits l m zero e = refl
cleared_same bits l m (suc n) e = rw (cleared_same bits l m n (λ i h. e i (omega arith)), e n (omega arith))

pub get_or-cleared : (bits : ℕ) (l : List ℕ) (n i : ℕ) → i < n → get_or (cleared bits l n) i 0 ≡ masked bits i (get_or l i 0)
unfolding cleared
get_or-cleared bits l zero i h = absurd (omega arith)
get_or-cleared bits l (suc n) i h = by_test (ltb i n) refl (λ g. get_or-cleared bits l n i g)
  where
    by_test : (t : Bool) → ltb i n ≡ t → (i < n → get_or (cleared bits l n) i 0 ≡ masked bits i (get_or l i 0))
        → get_or (cleared bits l n ++ (masked bits n (get_or l n 0) ∷ [])) i 0 ≡ masked bits i (get_or l i 0)
    by_test true e below =
        get_or-append (cleared bits l n) (masked bits n (get_or l n 0) ∷ []) 0 i (rw (length-cleared bits l n) (ltb-true i n e))
        ∙ below (ltb-true i n e)
    by_test false e below =
        let k = ltb-false i n e in
        let m : n ≡ i = omega arith in
        rw (← m) (get_or_at (cleared bits l n) (masked bits n (get_or l n 0)) [] 0 n (length-cleared bits l n))

-- clearing once is clearing for good
pub masked-masked : (bits i v : ℕ) → masked bits i (masked bits i v) ≡ masked bits i v
unfolding masked
masked-masked bits i v =
    ap (λ (x : ℕ). x * 2 ^ (8 - (bits - 8 * i)))
    (mul-div_cancel (v / 2 ^ (8 - (bits - 8 * i))) (one-le-pow (8 - (bits - 8 * i)) 2 (omega arith)))
