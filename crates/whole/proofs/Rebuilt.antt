-- What reading takes out of a body, put together again.
use Prim.Native.Nat.{ℕ, zero, suc, ◌+◌, ◌-◌, ◌^◌, ◌<◌, ◌≤◌}
use mathlib.Core.Path.{◌≡◌, refl, ◌∙◌, ap}
use mathlib.Core.Bool.{true}
use mathlib.Core.List.{List, [], ◌∷◌, ◌++◌, append_assoc}
use native.Mathlib.Nat.{sub_self}
use native.Mathlib.Omega.{arith}
use lib.ListN.{length, get_or, take, drop, length-take, length-drop, take-append-drop}
use lib.Seq.{take-suc, take_all, get_or-take}
use borrow.Author.Tests.{leb-true}
use Rattle.octets.specs.Octets.{be_at, part, Octets}
use Rattle.octets.proofs.Numbers.{bytes_of_be}
use Rattle.rib_head.specs.Layout.{prefix_size, path_size}
use Rattle.rib_head.specs.Prefix.{cleared}
use Rattle.rib_read.specs.Rib.{prefix_at}
use Rattle.rib_head.specs.Head.{bits_of, count_at, declared, entries_at}
use Rattle.rib_entries.specs.Entry.{attributes_at, entry_end, fits, passed}
use Rattle.rib_head.proofs.Heads.{met-within, met-bits}
use Rattle.rib_entries.proofs.Passing.{by_fit}
use Rattle.rib_head.proofs.Prefixes.{cleared_same, get_or-cleared, masked-masked}
use Rattle.whole.specs.Run.{Given, given_octets, entries_octets}
use Rattle.rib_begin.specs.Layout.{head_with}
use Rattle.rib_write.specs.Layout.{entry_octets}
use Rattle.whole.specs.Run.{tidied}
use Rattle.octets.proofs.Numbers.{be_lt}
use Rattle.octets.proofs.Parts.{length_part, part_join}
use Rattle.rib_add.proofs.Opened.{Whole}
use Rattle.whole.proofs.Seams.{Kept, AllKept, given_at, givens_at}
use Rattle.whole.proofs.Built.{body, Fitting}

module _ (p : ℕ) (s : List ℕ) (o : Octets s) where
  -- what is read fits its fields
  kept_given : (at : ℕ) → Kept p (given_at p s at)
  unfolding given_at
  kept_given at =
      let x : ℕ = be_at s (at + (6 + p)) 2 in
      let l : x < 256 ^ 2 = be_lt s (at + (6 + p)) 2 o in
      record {
        peer = be_lt s at 2 o;
        originated = be_lt s (at + 2) 4 o;
        path = be_lt s (at + 6) p o;
        attributes = rw (length-take x (drop (at + (8 + p)) s)) (omega arith);
      }

  pub kept_givens : (n at : ℕ) → AllKept p (givens_at p s at n)
  unfolding givens_at
  kept_givens zero at = tt
  kept_givens (suc n) at = (kept_given at, kept_givens n (entry_end p s at))

  pub length_givens : (n at : ℕ) → length (givens_at p s at n) ≡ n
  unfolding givens_at
  length_givens zero at = refl
  length_givens (suc n) at = ap suc (length_givens n (entry_end p s at))

  -- an entry that fits is its octets
  entry_read : (at : ℕ) → fits p s at ≡ true → given_octets p (given_at p s at) ≡ part s at (entry_end p s at - at)
  unfolding fits entry_end attributes_at entry_octets given_at
  entry_read at f =
      let x : ℕ = be_at s (at + (6 + p)) 2 in
      let h : at + (8 + p) + x ≤ length s = leb-true (at + (8 + p) + x) (length s) f in
      let l : length (part s (at + (8 + p)) x) ≡ x = length_part s (at + (8 + p)) x h in
      let a₁ : at + 6 ≡ at + 2 + 4 = omega arith in
      let m : at + (8 + p) + x - at ≡ 6 + p + 2 + x = omega arith in
      let c : at + (8 + p) ≡ at + (6 + p + 2) = omega arith in
      rw (
        l,
        bytes_of_be s at 2 o (omega arith),
        bytes_of_be s (at + 2) 4 o (omega arith),
        bytes_of_be s (at + 6) p o (omega arith),
        bytes_of_be s (at + (6 + p)) 2 o (omega arith),
        part_join s at 2 4,
        part_join s at 6 p,
        part_join s at (6 + p) 2,
        c,
        part_join s at (6 + p + 2) x,
        ← c,
        m,
      )

  parts_meet : (at m e : ℕ) → at ≤ m → m ≤ e → part s at (m - at) ++ part s m (e - m) ≡ part s at (e - at)
  parts_meet at m e h l =
      let a : at + (m - at) ≡ m = omega arith in
      let b : m - at + (e - m) ≡ e - at = omega arith in
      rw (a, b) at (part_join s at (m - at) (e - m))

  end_after : (at : ℕ) → at ≤ entry_end p s at
  unfolding entry_end attributes_at
  end_after at = omega arith

  -- entries that are all there are their octets
  pub entries_read : (n at : ℕ) → (passed p s at n).left ≡ 0
      → (at ≤ (passed p s at n).at) × (entries_octets p (givens_at p s at n) ≡ part s at ((passed p s at n).at - at))
  unfolding passed givens_at entries_octets
  entries_read zero at z = (omega arith, rw (sub_self at))
  entries_read (suc n) at z =
      by_fit p s at
      ((at ≤ (passed p s at (suc n)).at) × (entries_octets p (givens_at p s at (suc n)) ≡ part s at ((passed p s at (suc n)).at - at)))
      (λ f.
      let i = entries_read n (entry_end p s at) (rw f at z) in
      let b = end_after at in
      rw f (omega arith, rw (entry_read at f, i.1) (parts_meet at (entry_end p s at) (passed p s (entry_end p s at) n).at b i.0)))
      (λ f. absurd (let m = rw f at z in omega arith))

-- a whole body, put together from what is read of it
module _ (s : List ℕ) (t : ℕ) (o : Octets s) (w : Whole s t) where
  pub within : 7 + prefix_size (bits_of s) ≤ length s
  unfolding entries_at
  within = met-within s t w.check

  pub declared-lt : declared s < 256 ^ 2
  unfolding declared
  declared-lt = be_lt s (count_at s) 2 o

  -- its entries, and how long they are
  unfoldable pub gs : List Given
  gs = givens_at (path_size t) s (entries_at s) (declared s)

  pub entries_all : entries_octets (path_size t) gs ≡ part s (entries_at s) (length s - entries_at s)
  unfolding gs
  entries_all =
      (entries_read (path_size t) s o (declared s) (entries_at s) w.left).1
      ∙ ap (λ (e : ℕ). part s (entries_at s) (e - entries_at s)) w.at

  pub length-entries : length (entries_octets (path_size t) gs) ≡ length s - (7 + prefix_size (bits_of s))
  unfolding entries_at
  length-entries = ap length entries_all ∙ length_part s (entries_at s) (length s - entries_at s) (let m = within in omega arith)

  pub fitting_all : Fitting t gs
  unfolding gs
  fitting_all =
      let n = length_givens (path_size t) s o (declared s) (entries_at s) in
      let d = declared-lt in
      record { kept = kept_givens (path_size t) s o (declared s) (entries_at s); count = omega arith }

  -- the body with other prefix octets
  split_with : (y : List ℕ)
      → body t (record { sequence = be_at s 0 4; bits = bits_of s; octets = y }) gs ≡ take 5 s ++ y ++ drop (count_at s) s
  unfolding body gs head_with declared count_at entries_at bits_of
  split_with y =
      let n : ℕ = prefix_size (get_or s 4 0) in
      let l : 7 + n ≤ length s = within in
      let a : take 5 s ≡ take 4 s ++ (get_or s 4 0 ∷ []) = take-suc s 4 0 (omega arith) in
      let j : 5 + n + 2 ≡ 7 + n = omega arith in
      let c : 2 + (length s - (7 + n)) ≡ length s - (5 + n) = omega arith in
      let d : part s (5 + n) 2 ++ part s (7 + n) (length s - (7 + n)) ≡ drop (5 + n) s =
      rw (← j)
      (part_join s (5 + n) 2 (length s - (5 + n + 2))
      ∙ rw (j, c) (take_all (length s - (5 + n)) (drop (5 + n) s) (simp length-drop (omega arith)))) in
      let x : List ℕ = take 4 s ++ (get_or s 4 0 ∷ []) ++ y in
      rw (
        entries_all,
        length_givens (path_size t) s o (be_at s (5 + n) 2) (7 + n),
        bytes_of_be s 0 4 o (omega arith),
        bytes_of_be s (5 + n) 2 o (omega arith),
        a,
      )
      (append_assoc x (part s (5 + n) 2) (part s (7 + n) (length s - (7 + n))) ∙ ap (λ (l : List ℕ). x ++ l) d)

  -- the prefix, cleared once and again
  prefix_again : cleared (bits_of s) (prefix_at (bits_of s) s) (prefix_size (bits_of s))
      ≡ cleared (bits_of s) (drop 5 s) (prefix_size (bits_of s))
  unfolding prefix_at prefix_size
  prefix_again =
      let b : ℕ = bits_of s in
      let n : ℕ = prefix_size b in
      let h : b ≤ 128 = met-bits s t w.check in
      cleared_same b (prefix_at b s) (drop 5 s) n
      (λ i l. rw (get_or-cleared b (part s 5 n) 16 i (omega arith), masked-masked, get_or-take n (drop 5 s) i 0 l))

  -- with its own prefix octets it is itself, and with the cleared ones it is tidied
  pub body_own : body t (record { sequence = be_at s 0 4; bits = bits_of s; octets = part s 5 (prefix_size (bits_of s)) }) gs ≡ s
  unfolding count_at
  body_own =
      let n : ℕ = prefix_size (bits_of s) in
      split_with (part s 5 n) ∙ rw (part_join s 0 5 n) (take-append-drop (5 + n) s)

  pub body-tidied : body t (
      record {
        sequence = be_at s 0 4;
        bits = bits_of s;
        octets = cleared (bits_of s) (prefix_at (bits_of s) s) (prefix_size (bits_of s));
      }) gs
      ≡ tidied s
  unfolding tidied
  body-tidied = split_with (cleared (bits_of s) (prefix_at (bits_of s) s) (prefix_size (bits_of s))) ∙ rw prefix_again
