-- Parts of octets: of a list, and as they are lent and come back.
use Prim.Native.Nat.{ℕ, zero, suc, ◌+◌, ◌-◌, ◌<◌, ◌≤◌}
use mathlib.Core.Path.{◌≡◌, refl, sym, ◌∙◌, ap}
use mathlib.Core.List.{List, [], ◌∷◌, ◌++◌, append_assoc, append-nil}
use native.Mathlib.Nat.{add-zero, le_of_eq}
use native.Mathlib.Omega.{arith}
use lib.ListN.{length, get_or, take, drop, length-take, length-drop, take-append-drop, drop_of_length-le, replicate}
use lib.Seq.{drop-cons, get_or-take, get_or-drop, take_all, take-add, drop-append-le, drop-drop, length-take-le}
use Rattle.octets.specs.Octets.{be_at, patch, part}
use Rattle.octets.proofs.Numbers.{be_drop, be_take}
use Rattle.octets.proofs.Stores.{stores, patch_front, patch-over, patch-part, patch-within, length-patch}

pub length_part : (s : List ℕ) (at n : ℕ) → at + n ≤ length s → length (part s at n) ≡ n
length_part s at n h = simp (length-take, length-drop) (omega arith)

-- the part that is lent from at on is what is left
pub part-rest : (s : List ℕ) (at : ℕ) → part s at (length s - at) ≡ drop at s
part-rest s at = take_all (length s - at) (drop at s) (le_of_eq (length-drop at s))

-- a part of one octet
pub part-one : (s : List ℕ) (at : ℕ) → at < length s → get_or s at 0 ∷ [] ≡ part s at 1
part-one s at h = rw (drop-cons s at 0 h)

-- a part and the part straight after it
pub part_join : (s : List ℕ) (at n m : ℕ) → part s at n ++ part s (at + n) m ≡ part s at (n + m)
part_join s at n m = sym (take-add n m (drop at s) ∙ ap (λ (l : List ℕ). part s at n ++ take m l) (drop-drop n at s))

-- an octet of a part is that of the whole
pub octet_part : (s : List ℕ) (at n i : ℕ) → i < n → get_or (part s at n) i 0 ≡ get_or s (at + i) 0
octet_part s at n i h = get_or-take n (drop at s) i 0 h ∙ get_or-drop at s i 0

-- a number of a part is that of the whole
pub be_part : (s : List ℕ) (at n i w : ℕ) → i + w ≤ n → be_at (part s at n) i w ≡ be_at s (at + i) w
be_part s at n i w h = be_take (drop at s) n i w h ∙ be_drop s at i w

-- the number at the front of the part that is lent from at to end
pub be_front : (s : List ℕ) (at end w : ℕ) → at + w ≤ end → be_at (part s at (end - at)) 0 w ≡ be_at s at w
be_front s at end w h = be_part s at (end - at) 0 w (omega arith) ∙ ap (λ (k : ℕ). be_at s k w) (add-zero at)

-- stores at the front of the part that was lent from e to end, seen in the whole
pub patch_lent : (s : List ℕ) (e end n : ℕ) (bs : List ℕ) {t : List ℕ} → length bs ≡ n → end ≤ length s → e + n ≤ end
    → t ≡ patch (part s e (end - e)) 0 bs
    → take e s ++ (t ++ drop (end - e) (drop e s)) ≡ patch s e bs
patch_lent s e end n bs {t} z h l q =
    let k : ℕ = end - e in
    let d : List ℕ = drop e s in
    let m : length bs ≤ length (take k d) = simp (length-take, length-drop) (omega arith) in
    let r : drop (length bs) (take k d) ++ drop k d ≡ drop (e + length bs) s =
    sym (drop-append-le (length bs) (take k d) (drop k d) m) ∙ ap (drop (length bs)) (take-append-drop k d) ∙ drop-drop (length bs) e s in
    ap (λ (x : List ℕ). take e s ++ (x ++ drop k d)) (q ∙ patch_front (take k d) bs m)
    ∙ ap (λ (x : List ℕ). take e s ++ x) (append_assoc bs (drop (length bs) (take k d)) (drop k d) ∙ ap (λ (x : List ℕ). bs ++ x) r)
    ∙ sym (append_assoc (take e s) bs (drop (e + length bs) s)) ∙ sym (patch-within s e bs (omega arith))

-- n octets in the place of the part that was lent from at on, seen in the whole
pub lent_over : (s bs : List ℕ) (at n : ℕ) {t : List ℕ} → length bs ≡ n → at + n ≤ length s → t ≡ bs
    → take at s ++ (t ++ drop (at + n - at) (drop at s)) ≡ patch s at bs
lent_over s bs at n l h q =
    let k : at + n - at ≡ length bs = omega arith in
    rw (q, k, drop-drop (length bs) at s)
    (sym (append_assoc (take at s) bs (drop (at + length bs) s)) ∙ sym (patch-within s at bs (omega arith)))

-- ---- copies: n octets of l are stored, and then the m after them
pub copy_part : (s l : List ℕ) (at n m : ℕ) {t u : List ℕ} → n ≤ length l → t ≡ patch s at (take n l) → u ≡ patch t (at + n) (part l n m)
    → u ≡ patch s at (take (n + m) l)
copy_part s l at n m h p q = stores s at n (take n l) (part l n m) (length-take-le n l h) p q ∙ ap (patch s at) (sym (take-add n m l))

-- n octets from e on, over some of them that are stored already
pub copy_over : (s l : List ℕ) (at i e n : ℕ) {t u : List ℕ} → e ≤ i → i ≤ e + n → e + n ≤ length l → at + (e + n) ≤ length s
    → t ≡ patch s at (take i l)
    → u ≡ patch t (at + e) (part l e n) → u ≡ patch s at (take (e + n) l)
copy_over s l at i e n {t} {u} b c d f p q =
    let r : List ℕ = patch s at (take e l) in
    let x : e + (i - e) ≡ i = omega arith in
    let k : length (part l e (i - e)) ≡ i - e = length_part l e (i - e) (omega arith) in
    let j : length (part l e n) ≡ n = length_part l e n (omega arith) in
    let g : length r ≡ length s = length-patch s at (take e l) in
    let before : t ≡ patch r (at + e) (part l e (i - e)) =
    p ∙ ap (λ (v : ℕ). patch s at (take v l)) (sym x) ∙ sym (copy_part s l at e (i - e) (omega arith) refl refl) in
    copy_part s l at e n (omega arith) refl (q ∙ ap (λ (v : List ℕ). patch v (at + e) (part l e n)) before
    ∙ patch-over r (at + e) (part l e (i - e)) (part l e n) (omega arith) (omega arith))

-- stores in the part that was lent from e on, seen in the whole
pub patch-rest : (s : List ℕ) (e at : ℕ) (bs : List ℕ) {t : List ℕ} → e ≤ length s → t ≡ patch (part s e (length s - e)) at bs
    → take e s ++ (t ++ drop (length s - e) (drop e s)) ≡ patch s (e + at) bs
patch-rest s e at bs h q =
    let z : drop (length s - e) (drop e s) ≡ [] = drop_of_length-le (drop e s) (le_of_eq (length-drop e s)) in
    rw (z, append-nil, q, part-rest s e) (patch-part s e at bs h)

-- what is left of equal elements
pub drop-replicate : (k n v : ℕ) → drop k (replicate n v) ≡ replicate (n - k) v
drop-replicate zero n v = let e : n - 0 ≡ n = omega arith in rw e
drop-replicate (suc k) zero v = let e : 0 - suc k ≡ 0 = omega arith in rw e
drop-replicate (suc k) (suc n) v = let e : suc n - suc k ≡ n - k = omega arith in rw e (drop-replicate k n v)
