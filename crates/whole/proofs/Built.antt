-- A body under construction: what it reads as, and what one entry more makes of it.
use Prim.Native.Nat.{ℕ, ◌+◌, ◌-◌, ◌<◌, ◌≤◌}
use mathlib.Core.Path.{◌≡◌, refl, sym, ◌∙◌, ap}
use mathlib.Core.Bool.{true, cond}
use mathlib.Core.List.{List, [], ◌∷◌, ◌++◌, append_assoc, append-nil}
use native.Mathlib.Omega.{arith}
use lib.ListN.{length, take, drop, length-append, take-append-drop}
use lib.Seq.{length-take-le, take-append_seam}
use lib.Dec.{ltb}
use borrow.Author.Tests.{le-ltb, le-leb, ltb-false}
use Rattle.octets.specs.Octets.{bytes_of, patch}
use Rattle.octets.proofs.Numbers.{length_bytes}
use Rattle.rib_head.specs.Layout.{carried, most_bits, path_size, prefix_size}
use Rattle.rib_head.specs.Head.{bits_of, count_at, declared, entries_at, readable, check_rib}
use Rattle.rib_entries.specs.Entry.{passed}
use Rattle.rib_entries.specs.declared.Cursor.{Cursor}
use Rattle.rib_add.proofs.Opened.{Whole, standing-whole}
use Rattle.whole.specs.Run.{Given, given_octets, entries_octets}
use Rattle.rib_begin.specs.Layout.{head_with}
use Rattle.rib_write.specs.Push.{unfit, added, Pushing, unpushed, standing, push_after, push_entry}
use Rattle.rib_write.specs.declared.Builder.{Builder}
use Rattle.octets.proofs.Stores.{patch_between}
use Rattle.whole.proofs.Tests.{cond-last}
use Rattle.rib_begin.proofs.Sizes.{length-head_with}
use Rattle.whole.proofs.Seams.{AllKept, Front, head_of, bits_at, count_at_lem, entries-at, declared-at, passed_built}

-- one entry more at the end
pub entries_snoc : (p : ℕ) (gs : List Given) (g : Given) → entries_octets p (gs ++ (g ∷ [])) ≡ entries_octets p gs ++ given_octets p g
unfolding entries_octets
entries_snoc p [] g = append-nil (given_octets p g)
entries_snoc p (x ∷ gs) g = rw (entries_snoc p gs g) (sym (append_assoc (given_octets p x) (entries_octets p gs) (given_octets p g)))

-- the body of subtype t with the head h and these entries
unfoldable pub body : ℕ → Front → List Given → List ℕ
body t h gs = head_of h (length gs) ++ entries_octets (path_size t) gs

-- the builder at its end
abbrev pub builder : ℕ → Front → List Given → Builder
builder t h gs = record { len = length (body t h gs); at = 5 + prefix_size h.bits; count = length gs }

-- what a builder has left that has written it in front of r
unfoldable pub state : ℕ → Front → List Given → List ℕ → Pushing
state t h gs r =
    record { number = 0; len = length (body t h gs); at = 5 + prefix_size h.bits; count = length gs; output = body t h gs ++ r }

pub body-split : (t : ℕ) (h : Front) (gs : List Given) → body t h gs ≡ head_of h (length gs) ++ entries_octets (path_size t) gs
unfolding body
body-split t h gs = refl

-- a head that can be read in subtype t
pub record Sound (t : ℕ) (h : Front) : Type 0 where
  pub carries : carried t ≡ true
  pub few : h.bits ≤ most_bits t
  pub full : length h.octets ≡ prefix_size h.bits

-- entries that a body can have
pub record Fitting (t : ℕ) (gs : List Given) : Type 0 where
  pub kept : AllKept (path_size t) gs
  pub count : length gs < 65536

module _ (t : ℕ) (h : Front) (w : Sound t h) (gs : List Given) (k : Fitting t gs) where
  starts : entries_at (body t h gs) ≡ length (head_of h (length gs))
  starts = entries-at h (length gs) (entries_octets (path_size t) gs) w.full (body t h gs) (body-split t h gs)

  -- its head can be read
  pub check_built : check_rib (body t h gs) t ≡ 0
  unfolding check_rib readable
  check_built =
      let s : List ℕ = body t h gs in
      let x : bits_of s ≡ h.bits = bits_at h (length gs) (entries_octets (path_size t) gs) w.full s (body-split t h gs) in
      let z : length s ≡ length (head_of h (length gs)) + length (entries_octets (path_size t) gs) =
      ap length (body-split t h gs) ∙ length-append (head_of h (length gs)) (entries_octets (path_size t) gs) in
      let m = w.few in
      rw (w.carries, le-leb (bits_of s) (most_bits t) (omega arith), le-leb (entries_at s) (length s) (omega (arith, starts)))

  pub declared_built : declared (body t h gs) ≡ length gs
  declared_built = declared-at h (length gs) (entries_octets (path_size t) gs) w.full (body t h gs) (body-split t h gs) k.count

  -- all of its entries are passed, to its end
  pub passed_all : passed (path_size t) (body t h gs) (entries_at (body t h gs)) (length gs) ≡ record {
    at = length (body t h gs);
    left =
        0;
  }
  passed_all =
      let f : List ℕ = head_of h (length gs) in
      let e : List ℕ = entries_octets (path_size t) gs in
      let q : body t h gs ≡ f ++ e ++ [] = body-split t h gs ∙ sym (append-nil (f ++ e)) in
      rw starts
      (passed_built (path_size t) gs f [] k.kept (body t h gs) q ∙ ap (λ (l : List ℕ).
      record {
        at = length l;
        left = 0;
      }) (sym (body-split t h gs)))

  -- it has every declared entry and nothing after them
  pub whole_built : Whole (body t h gs) t
  whole_built =
      let s : List ℕ = body t h gs in
      let e : passed (path_size t) s (entries_at s) (declared s) ≡ record { at = length s; left = 0 } = rw declared_built passed_all in
      record { check = check_built; left = ap (λ (c : Cursor). c.left) e; at = ap (λ (c : Cursor). c.at) e }

module _ (t : ℕ) (h : Front) (full : length h.octets ≡ prefix_size h.bits) where
  -- an entry after the others, and the count raised
  pub added_built : (gs : List Given) (r : List ℕ) (g : Given) → length (given_octets (path_size t) g) ≤ length r
      → added (body t h gs ++ r) (length (body t h gs)) (given_octets (path_size t) g) (5 + prefix_size h.bits) (length gs + 1)
      ≡ body t h (gs ++ (g ∷ [])) ++ drop (length (given_octets (path_size t) g)) r
  unfolding added body head_with
  added_built gs r g b =
      let y : List ℕ = given_octets (path_size t) g in
      let z : List ℕ = drop (length y) r in
      let f : List ℕ = bytes_of 4 h.sequence ++ (h.bits ∷ []) ++ h.octets in
      let e : List ℕ = entries_octets (path_size t) gs in
      let n : ℕ = length gs in
      let first : patch (body t h gs ++ r) (length (body t h gs)) y ≡ f ++ (bytes_of 2 n ++ (e ++ (y ++ z))) =
      ap (λ (l : List ℕ). patch (body t h gs ++ l) (length (body t h gs)) y) (sym (take-append-drop (length y) r))
      ∙ patch_between (body t h gs) (take (length y) r) y z (length (body t h gs)) refl (length-take-le (length y) r b)
      ∙ simp append_assoc in
      let l : length f ≡ 5 + prefix_size h.bits = simp (length-append, length_bytes) (omega arith) in
      let m : length (bytes_of 2 n) ≡ length (bytes_of 2 (n + 1)) = length_bytes 2 n ∙ sym (length_bytes 2 (n + 1)) in
      rw (
        first,
        patch_between f (bytes_of 2 n) (bytes_of 2 (n + 1)) (e ++ (y ++ z)) (5 + prefix_size h.bits) l m,
        length-append,
        entries_snoc (path_size t) gs g,
      )
      (simp append_assoc)

  pub length-body : (gs : List Given) → length (body t h gs) ≡ 7 + prefix_size h.bits + length (entries_octets (path_size t) gs)
  unfolding body
  length-body gs =
      length-append (head_of h (length gs)) (entries_octets (path_size t) gs)
      ∙ rw (length-head_with h.sequence h.bits h.octets (length gs), full)

  length-body_snoc : (gs : List Given) (g : Given)
      → length (body t h (gs ++ (g ∷ []))) ≡ length (body t h gs) + length (given_octets (path_size t) g)
  length-body_snoc gs g =
      let p : ℕ = path_size t in
      let e : length (entries_octets p (gs ++ (g ∷ []))) ≡ length (entries_octets p gs) + length (given_octets p g) =
      ap length (entries_snoc p gs g) ∙ length-append (entries_octets p gs) (given_octets p g) in
      omega (arith, length-body gs, length-body (gs ++ (g ∷ [])))

-- where the count stands
pub count_built : (t : ℕ) (h : Front) → Sound t h → (gs : List Given) → count_at (body t h gs) ≡ 5 + prefix_size h.bits
count_built t h w gs = count_at_lem h (length gs) (entries_octets (path_size t) gs) w.full (body t h gs) (body-split t h gs)

-- what pushing an entry answers
module _ (t : ℕ) (h : Front) (w : Sound t h) (gs : List Given) (k : Fitting t gs) where
  pub standing_built : standing (body t h gs) t (builder t h gs) ≡ 0
  standing_built =
      let s : List ℕ = body t h gs in
      rw (count_built t h w gs, declared_built t h w gs k) at (standing-whole s t (whole_built t h w gs k) (length s))

  pub push_built : (r : List ℕ) (g : Given)
      → push_entry (body t h gs ++ r) t (builder t h gs) g.entry g.attributes
      ≡ cond (unfit (length gs) t g.entry.path (length g.attributes)) (unpushed 10 (body t h gs ++ r))
      (cond (ltb (length r) (length (given_octets (path_size t) g))) (unpushed 9 (body t h gs ++ r))
      (state t h (gs ++ (g ∷ [])) (drop (length (given_octets (path_size t) g)) r)))
  unfolding push_entry push_after state
  push_built r g =
      let s : List ℕ = body t h gs in
      let x : List ℕ = given_octets (path_size t) g in
      let l : length (s ++ r) ≡ length s + length r = length-append s r in
      let m : length (s ++ r) - length s ≡ length r = omega arith in
      rw (le-ltb (length (s ++ r)) (length s) (omega arith), take-append_seam s r, standing_built, m)
      (ap (λ (w : Pushing). cond (unfit (length gs) t g.entry.path (length g.attributes)) (unpushed 10 (s ++ r)) w)
      (cond-last (ltb (length r) (length x)) (unpushed 9 (s ++ r))
      (λ e. rw (
        added_built t h w.full gs r g (ltb-false (length r) (length x) e),
        length-body_snoc t h w.full gs g,
        length-append gs (g ∷ []),
      ))))
