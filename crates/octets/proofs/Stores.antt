-- What stores leave in lent octets: one law for each run of stores, whatever is stored.
use Prim.Native.Nat.{ℕ, zero, suc, ◌+◌, ◌-◌, ◌<◌, ◌≤◌, min}
use mathlib.Core.Path.{◌≡◌, refl, sym, ◌∙◌, ap}
use mathlib.Core.List.{List, [], ◌∷◌, ◌++◌, append_assoc}
use mathlib.Core.Bool.{Bool, true, false}
use lib.Dec.{leb}
use borrow.Author.Tests.{leb-true, leb-false}
use native.Mathlib.Nat.{add-zero, zero-add, add-suc, suc-add}
use native.Mathlib.Numerals.{add-one}
use native.Mathlib.Omega.{arith}
use lib.ListN.{length, get_or, take, drop, set, take-append-drop, length-append, length-drop}
use lib.Seq.{sets, sets-eq, length-sets, set_out, take-suc, take-add, take-take, take-append-le, length-take-le, take_all, take_at, drop_at}
use Rattle.octets.specs.Octets.{patch}

pub length-patch : (s : List ℕ) (at : ℕ) (bs : List ℕ) → length (patch s at bs) ≡ length s
unfolding patch
length-patch s at bs = length-sets s at bs

-- a run of stores, and a second one straight after it
pub patch_run : (xs ys s : List ℕ) (at : ℕ) → patch (patch s at xs) (at + length xs) ys ≡ patch s at (xs ++ ys)
unfolding patch
patch_run [] ys s at = rw add-zero
patch_run (x ∷ xs) ys s at = rw (add-suc, ← suc-add) (patch_run xs ys (set s at x) (suc at))

-- t is s after one run of k octets, and u is t after the next
pub stores : (s : List ℕ) (at k : ℕ) (xs ys : List ℕ) {t u : List ℕ} → length xs ≡ k → t ≡ patch s at xs → u ≡ patch t (at + k) ys
    → u ≡ patch s at (xs ++ ys)
stores s at k xs ys l p q = q ∙ rw (p, ← l) (patch_run xs ys s at)

-- the same at the front
pub stores_front : (s : List ℕ) (k : ℕ) (xs ys : List ℕ) {t u : List ℕ} → length xs ≡ k → t ≡ patch s 0 xs → u ≡ patch t k ys
    → u ≡ patch s 0 (xs ++ ys)
stores_front s k xs ys l p q = stores s 0 k xs ys l p (rw (zero-add k) q)

-- past the end nothing is stored
pub patch_beyond : (s : List ℕ) (at : ℕ) (bs : List ℕ) → length s ≤ at → s ≡ patch s at bs
unfolding patch
patch_beyond s at [] h = refl
patch_beyond s at (b ∷ bs) h = rw (set_out s at b h) (patch_beyond s (suc at) bs (omega arith))

-- where there is room: what stood before, the octets, and what stood after
pub patch-within : (s : List ℕ) (at : ℕ) (bs : List ℕ) → at + length bs ≤ length s
    → patch s at bs ≡ take at s ++ bs ++ drop (at + length bs) s
unfolding patch
patch-within s at bs h = sets-eq bs s at h

pub patch_front : (s bs : List ℕ) → length bs ≤ length s → patch s 0 bs ≡ bs ++ drop (length bs) s
patch_front s bs h = rw (patch-within s 0 bs (rw zero-add h), zero-add)

-- octets in the place of as many others
pub patch_between : (p a b q : List ℕ) (at : ℕ) → length p ≡ at → length a ≡ length b → patch (p ++ (a ++ q)) at b ≡ p ++ (b ++ q)
patch_between p a b q at l e =
    let h : at + length b ≤ length (p ++ (a ++ q)) = simp length-append (omega arith) in
    let k : length (p ++ a) ≡ at + length b = simp length-append (omega arith) in
    patch-within (p ++ (a ++ q)) at b h
    ∙ rw (take_at p (a ++ q) at l, ← append_assoc p a q, drop_at (p ++ a) q (at + length b) k, append_assoc p b q)

-- octets stored over as many others, and over fewer
over_same : (s : List ℕ) (at : ℕ) (xs ys : List ℕ) → length xs ≡ length ys → at + length xs ≤ length s
    → patch (patch s at xs) at ys ≡ patch s at ys
over_same s at xs ys e h =
    let p : List ℕ = take at s in
    let q : List ℕ = drop (at + length xs) s in
    let l : length p ≡ at = length-take-le at s (omega arith) in
    ap (λ (t : List ℕ). patch t at ys) (patch-within s at xs h ∙ append_assoc p xs q)
    ∙ patch_between p xs ys q at l e
    ∙ sym (append_assoc p ys q) ∙ ap (λ (n : ℕ). p ++ ys ++ drop (at + n) s) e ∙ sym (patch-within s at ys (omega arith))

pub patch-over : (s : List ℕ) (at : ℕ) (xs ys : List ℕ) → length xs ≤ length ys → at + length xs ≤ length s
    → patch (patch s at xs) at ys ≡ patch s at ys
patch-over s at xs ys e h =
    let n : ℕ = length xs in
    let f : List ℕ = take n ys in
    let r : List ℕ = drop n ys in
    let l : length f ≡ n = length-take-le n ys e in
    ap (patch (patch s at xs) at) (sym (take-append-drop n ys))
    ∙ sym (stores (patch s at xs) at n f r l refl refl)
    ∙ ap (λ (t : List ℕ). patch t (at + n) r) (over_same s at xs f (sym l) h)
    ∙ stores s at n f r l refl refl
    ∙ ap (patch s at) (take-append-drop n ys)

-- stores in the part that starts at e, seen in the whole
pub patch-part : (s : List ℕ) (e at : ℕ) (bs : List ℕ) → e ≤ length s → take e s ++ patch (drop e s) at bs ≡ patch s (e + at) bs
unfolding patch
patch-part s zero at bs h = rw zero-add
patch-part [] (suc e) at bs h = absurd (let z : 1 ≤ 0 = omega arith in omega arith)
patch-part (x ∷ s) (suc e) at bs h = rw suc-add (ap (λ (t : List ℕ). x ∷ t) (patch-part s e at bs (omega arith)) ∙ under bs s (e + at))
  where
    under : (bs s : List ℕ) (j : ℕ) → x ∷ sets s j bs ≡ sets (x ∷ s) (suc j) bs
    under [] s j = refl
    under (b ∷ bs) s j = under bs (set s j b) (suc j)

-- octets that are stored where they stand
pub patch-own : (s : List ℕ) (at n : ℕ) → at + n ≤ length s → patch s at (take n (drop at s)) ≡ s
patch-own s at n h =
    let l : length (take n (drop at s)) ≡ n = length-take-le n (drop at s) (let d = length-drop at s in omega arith) in
    patch-within s at (take n (drop at s)) (omega arith)
    ∙ ap (λ (k : ℕ). take at s ++ take n (drop at s) ++ drop (at + k) s) l
    ∙ ap (λ (x : List ℕ). x ++ drop (at + n) s) (sym (take-add at n s))
    ∙ take-append-drop (at + n) s

-- stores in places that lie apart, in either order
pub patch-apart : (s : List ℕ) (at to : ℕ) (xs ys : List ℕ) → at + length xs ≤ to → to ≤ length s
    → patch (patch s at xs) to ys ≡ patch (patch s to ys) at xs
patch-apart s at to xs ys h b =
    let e : ℕ = at + length xs in
    let j : ℕ = to - e in
    let t : e + j ≡ to = omega arith in
    let z : List ℕ = patch s at xs in
    let q : List ℕ = patch (drop e s) j ys in
    let f : List ℕ = take at s ++ xs in
    let n : length (take at s) ≡ at = length-take-le at s (omega arith) in
    let l : length f ≡ e = length-append (take at s) xs ∙ ap (λ (k : ℕ). k + length xs) n in
    let split : z ≡ f ++ drop e s = patch-within s at xs (omega arith) in
    let m : length (take e s) ≡ e = length-take-le e s (omega arith) in
    let left : patch z to ys ≡ f ++ q =
    ap (λ (k : ℕ). patch z k ys) (sym t) ∙ sym (patch-part z e j ys (let k = length-patch s at xs in omega arith))
    ∙ rw (split, take_at f (drop e s) e l, drop_at f (drop e s) e l) in
    let w : patch s to ys ≡ take e s ++ q = ap (λ (k : ℕ). patch s k ys) (sym t) ∙ sym (patch-part s e j ys (omega arith)) in
    let right : patch (take e s ++ q) at xs ≡ f ++ q =
    patch-within (take e s ++ q) at xs (let k = length-append (take e s) q in omega arith)
    ∙ rw (take-append-le at (take e s) q (omega arith), take-take at e s (omega arith), drop_at (take e s) q e m) in
    left ∙ sym (ap (λ (x : List ℕ). patch x at xs) w ∙ right)

-- what is stored again afterwards need not be stored before
pub patch_late : (s : List ℕ) (at to : ℕ) (xs ys zs : List ℕ) → length xs ≡ length zs → at + length xs ≤ to → to ≤ length s
    → patch (patch (patch s at xs) to ys) at zs ≡ patch (patch s to ys) at zs
patch_late s at to xs ys zs e h b =
    ap (λ (x : List ℕ). patch x at zs) (patch-apart s at to xs ys h b)
    ∙ patch-over (patch s to ys) at xs zs (omega arith) (let k = length-patch s to ys in omega arith)

-- one turn of a copy: the first i octets of src are stored, and then the next
pub copy_turn : (s src : List ℕ) (at i : ℕ) {t : List ℕ} → i < length src → t ≡ patch s at (take i src)
    → set t (at + i) (get_or src i 0) ≡ patch s at (take (i + 1) src)
unfolding patch
copy_turn s src at i h e =
    let l : length (take i src) ≡ i = length-take-le i src (omega arith) in
    rw (add-one, take-suc src i 0 h) (stores s at i (take i src) (get_or src i 0 ∷ []) l e refl)

-- a copy ends with src, or where the room does: what of src has no room is dropped
pub copy_done : (s src : List ℕ) (at : ℕ) {t : List ℕ} {i m : ℕ} → i ≤ m → m ≤ i → m ≡ min (length s - at) (length src)
    → t ≡ patch s at (take i src) → t ≡ patch s at src
copy_done s src at {t} {i} {m} u v h p = p ∙ by_test (leb (length src) i) refl
  where
    by_test : (t : Bool) → leb (length src) i ≡ t → patch s at (take i src) ≡ patch s at src
    by_test true e = ap (patch s at) (take_all i src (leb-true _ _ e))
    by_test false e =
        let lt : i < length src = leb-false _ _ e in
        let l : length (take i src) ≡ i = length-take-le i src (omega arith) in
        let k : length (patch s at (take i src)) ≡ length s = length-patch s at (take i src) in
        patch_beyond (patch s at (take i src)) (at + i) (drop i src) (omega arith)
        ∙ stores s at i (take i src) (drop i src) l refl refl
        ∙ ap (patch s at) (take-append-drop i src)
