-- The lines of a walk's answers, written one call after the other.
use Prim.Native.Nat.{ℕ, suc, ◌+◌, ◌-◌, ◌*◌, ◌/◌, ◌<◌, ◌≤◌}
use mathlib.Core.Path.{◌≡◌, refl, sym, ◌∙◌, ap, subst}
use mathlib.Core.Bool.{true, false}
use mathlib.Core.List.{List, [], ◌∷◌, append-nil}
use native.Mathlib.Nat.{zero-add}
use native.Mathlib.Omega.{arith}
use lib.ListN.{length, length-append}
use borrow.Author.Tests.{lt-ltb, le-ltb}
use Rattle.walk.specs.Step.{Answer, handed, gap, end, refused, fresh_walk}
use Rattle.walk.specs.Promises.{up_to, answers}
use Rattle.walk.specs.declared.Walk.{Walk}
use Rattle.walk_missing.specs.Row.{Counting, fresh_counters}
use Rattle.walk_missing.specs.declared.Counters.{Counters}
use Rattle.walk_missing.proofs.Rows.{told-le}
use Rattle.listing_lines.specs.Listing.{wrote, fields, missing_line, lines, counting, lines_of, called, listing, listed, is_last}
use Rattle.listing_lines.proofs.Texts.{wrote_run, wrote_none, wrote-le, length-fields-le}

-- what is told has two numbers, or none
pub length-told-le : (s : List ℕ) (c : Counters) (a : Answer) → length (counting s c a).told ≤ 2
length-told-le s c (handed a f) = told-le c f.head.subtype _ f.head.kind
length-told-le s c (gap a e r v n) = omega arith
length-told-le s c (end a) = omega arith
length-told-le s c (refused n a w r) = omega arith

length_missing_le : (a : ℕ) (o : List ℕ) → length o ≤ 2 → length (missing_line a o) ≤ 65
unfolding missing_line
length_missing_le a [] h = omega arith
length_missing_le a (m ∷ l) h = omega (arith, length-fields-le 83 (a ∷ m ∷ l))

pub length-lines-le : (a : Answer) (o : List ℕ) → length o ≤ 2 → length (lines a o) ≤ 151
unfolding lines
length-lines-le (handed a f) o h =
    let r = length-fields-le 82 (a ∷ f.end ∷ f.head.kind ∷ f.head.subtype ∷ []) in
    simp length-append (omega (arith, length_missing_le a o h))
length-lines-le (gap a e r v c) o h = omega (arith, length-fields-le 71 (a ∷ e ∷ r ∷ v ∷ c ∷ []))
length-lines-le (end a) o h = omega (arith, length-fields-le 69 (a ∷ []))
length-lines-le (refused n a w r) o h = omega arith

up_to_on : (a : Answer) (l : List Answer) → is_last a ≡ false → up_to a l ≡ a ∷ l
unfolding up_to
up_to_on (handed a f) l h = refl
up_to_on (gap a e r v c) l h = refl
up_to_on (end a) l h = cc
up_to_on (refused n a w r) l h = cc

up_to-last : (a : Answer) (l : List Answer) → is_last a ≡ true → up_to a l ≡ a ∷ []
unfolding up_to
up_to-last (handed a f) l h = cc
up_to-last (gap a e r v c) l h = cc
up_to-last (end a) l h = refl
up_to-last (refused n a w r) l h = refl

-- what m calls from the walk w on write, with the counters c
abbrev pub text : List ℕ → ℕ → Walk → Counters → List ℕ
text s m w c = lines_of s c (answers (called s) m w)

-- no call of n is left after i
pub text_over : (s : List ℕ) (n i : ℕ) (w : Walk) (c : Counters) (out : List ℕ) (at : ℕ) → n ≤ i
    → (out, at) ≡ wrote out at (text s (n - i) w c)
unfolding answers lines_of
text_over s n i w c out at h = let z : n - i ≡ 0 = omega arith in rw z (sym (wrote_none out at))

-- one call of n after i, whose lines are written straight after what stands there; d are the counters after it, o is what was told
module _ (s : List ℕ) (n i : ℕ) (w : Walk) (c : Counters) (out : List ℕ) (at : ℕ) (v : Walk) (a : Answer)
    (q : record { walk = v; answer = a } ≡ called s w) (d : Counters) (o : List ℕ)
    (k : record { counters = d; told = o } ≡ counting s c a) where
  text_first : i < n → text s (n - i) w c ≡ lines_of s c (up_to a (answers (called s) (n - (i + 1)) v))
  unfolding answers
  text_first h = let z : n - i ≡ suc (n - (i + 1)) = omega arith in rw (z, ← q)

  module _ {t : List ℕ} {e : ℕ} (h : i < n) (p : (t, e) ≡ wrote out at (lines a o)) where
    -- where they end
    pub text_le : e ≤ at + 151
    text_le =
        let l : length o ≤ 2 = subst (λ (x : Counting). length x.told ≤ 2) (sym k) (length-told-le s c a) in
        wrote-le out at (lines a o) 151 (length-lines-le a o l) p

    pub text_next : is_last a ≡ false → wrote t e (text s (n - (i + 1)) v d) ≡ wrote out at (text s (n - i) w c)
    unfolding lines_of
    text_next g =
        wrote_run out at (lines a o) (text s (n - (i + 1)) v d) p
        ∙ rw (text_first h, up_to_on a (answers (called s) (n - (i + 1)) v) g, ← k)

    pub text_last : is_last a ≡ true → (t, e) ≡ wrote out at (text s (n - i) w c)
    unfolding lines_of
    text_last g = p ∙ rw (text_first h, up_to-last a (answers (called s) (n - (i + 1)) v) g, ← k, append-nil)

module _ (s out : List ℕ) (at : ℕ) where
  pub list_long : {t : List ℕ} {e : ℕ} → 65536 < length s → (t, e) ≡ wrote out at (fields 76 (65536 ∷ []))
      → (t, e) ≡ wrote out at (listing s)
  unfolding listing
  list_long h p = rw (lt-ltb 65536 (length s) h) p

  pub list_short : (w : Walk) (c : Counters) {t u : List ℕ} {d e : ℕ} → length s ≤ 65536 → w ≡ fresh_walk → c ≡ fresh_counters
      → (t, d) ≡ wrote out at (fields 72 (length s ∷ 1048576 ∷ 3 ∷ []))
      → (u, e) ≡ wrote t d (text s (2 * (length s / 12) + 2) w c) → (u, e) ≡ wrote out at (listing s)
  unfolding listing
  list_short w c {t} {d = d} h f g p q =
      q
      ∙ ap (λ (x : Walk). wrote t d (text s (2 * (length s / 12) + 2) x c)) f
      ∙ ap (λ (x : Counters). wrote t d (text s (2 * (length s / 12) + 2) fresh_walk x)) g
      ∙ wrote_run out at (fields 72 (length s ∷ 1048576 ∷ 3 ∷ [])) (text s (2 * (length s / 12) + 2) fresh_walk fresh_counters) p
      ∙ rw (le-ltb 65536 (length s) h)

-- a listing from the front on
pub list_front : (s out : List ℕ) → wrote out 0 (listing s) ≡ listed s out
unfolding wrote
list_front s out = rw zero-add
