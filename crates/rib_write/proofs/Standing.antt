-- A builder that stands: what that says of its body's head, and that it stands after an entry more.
use Prim.Native.Nat.{ℕ, ◌+◌, ◌<◌, ◌≤◌}
use mathlib.Core.Path.{◌≡◌, refl, sym, ◌∙◌, ap}
use mathlib.Core.Bool.{Bool, true, false, ◌&&◌, cond, true≢false}
use mathlib.Core.List.{List, ◌++◌, append_assoc}
use native.Mathlib.Omega.{arith}
use lib.ListN.{length, take, drop, get_or}
use lib.Seq.{length-take-le, take-append-le, take-take, get_or-take}
use lib.Dec.{eqb}
use borrow.Author.Tests.{le-leb, eq-eqb, eqb-true, eqb-false}
use Rattle.octets.specs.Octets.{be_at, bytes_of, patch, Octets}
use Rattle.octets.proofs.Numbers.{length_bytes, be_take, be_of_bytes, bytes_of_be}
use Rattle.octets.proofs.Stores.{length-patch, patch-within, patch-own}
use Rattle.rib_head.specs.Layout.{most_bits, prefix_size}
use Rattle.rib_head.specs.Head.{bits_of, count_at, declared, entries_at, readable, check_rib}
use Rattle.rib_head.proofs.Heads.{met-within, met-carried, met_most}
use Rattle.rib_write.specs.Push.{standing, added}
use Rattle.rib_write.specs.declared.Builder.{Builder}

pub both : (a b : Bool) → (a && b) ≡ true → (a ≡ true) × (b ≡ true)
both true b e = (refl, e)
both false b e = absurd (true≢false (sym e))

-- octets before a store stay
take-patch : (s bs : List ℕ) (at n : ℕ) → n ≤ at → at + length bs ≤ length s → take n (patch s at bs) ≡ take n s
take-patch s bs at n h k =
    let l : length (take at s) ≡ at = length-take-le at s (omega arith) in
    ap (take n) (patch-within s at bs k ∙ append_assoc (take at s) bs (drop (at + length bs) s))
    ∙ take-append-le n (take at s) (bs ++ drop (at + length bs) s) (omega arith)
    ∙ take-take n at s h

-- a builder that stands in the output s, as far as the head of its body tells
pub record Stands (s : List ℕ) (t : ℕ) (b : Builder) : Type 0 where
  pub within : b.len ≤ length s
  pub stands : standing (take b.len s) t b ≡ 0

module _ {s : List ℕ} {t : ℕ} {b : Builder} (w : Stands s t b) where
  body : List ℕ
  body = take b.len s

  -- what that says
  record Headed : Type 0 where
    pub check : check_rib body t ≡ 0
    pub at : b.at ≡ count_at body
    pub count : b.count ≡ declared body

  headed : Headed
  unfolding standing body
  headed = by_tests (eqb (check_rib body t) 0) refl (eqb b.at (count_at body) && eqb b.count (declared body)) refl w.stands
    where
      by_tests : (x : Bool) → eqb (check_rib body t) 0 ≡ x → (y : Bool) → eqb b.at (count_at body) && eqb b.count (declared body) ≡ y
          → cond x (cond y 0 7) (check_rib body t) ≡ 0 → Headed
      by_tests true e true f z =
          let g = both _ _ f in
          record { check = eqb-true _ 0 e; at = eqb-true _ _ g.0; count = eqb-true _ _ g.1 }
      by_tests true e false f z = absurd (omega arith)
      by_tests false e y f z = absurd (eqb-false _ 0 e z)

  -- the count lies before the body's end
  pub count-within : b.at + 2 ≤ b.len
  unfolding count_at entries_at body
  count-within =
      let l : length body ≡ b.len = length-take-le b.len s w.within in
      omega (arith, met-within body t headed.check, headed.at)

  count_fits : b.at + 2 ≤ length s
  count_fits = let h = w.within in omega (arith, count-within)

  -- it is stored there already
  pub count-stored : Octets s → patch s b.at (bytes_of 2 b.count) ≡ s
  unfolding declared body
  count-stored o =
      let c : b.count ≡ be_at s b.at 2 =
      headed.count ∙ ap (λ (k : ℕ). be_at body k 2) (sym headed.at) ∙ be_take s b.len b.at 2 count-within in
      rw (c, bytes_of_be s b.at 2 o count_fits) (patch-own s b.at 2 count_fits)

  -- after an entry of octets bs, and a count of v
  module _ (bs : List ℕ) (v : ℕ) (fits : b.len + length bs ≤ length s) (small : v < 65536) where
    abbrev next : List ℕ
    next = added s b.len bs b.at v

    abbrev first : List ℕ
    first = patch s b.len bs

    length-first : length first ≡ length s
    length-first = length-patch s b.len bs

    length-next : length next ≡ length s
    unfolding added
    length-next = length-patch (patch s b.len bs) b.at (bytes_of 2 v) ∙ length-patch s b.len bs

    front : take b.at next ≡ take b.at s
    unfolding added
    front =
        let k : b.at + length (bytes_of 2 v) ≤ length first = omega (arith, count_fits, length-first, length_bytes 2 v) in
        take-patch first (bytes_of 2 v) b.at b.at (omega arith) k
        ∙ take-patch s bs b.len b.at (omega (arith, count-within)) fits

    -- up to an end after it
    module _ (end : ℕ) (h : b.len ≤ end) (g : end ≤ length s) where
      grown : List ℕ
      grown = take end next

      length_grown : length grown ≡ end
      unfolding grown
      length_grown = length-take-le end next (omega (arith, length-next))

      same_bits : bits_of grown ≡ bits_of body
      unfolding bits_of count_at grown body
      same_bits =
          let a : 4 < b.at = omega (arith, headed.at) in
          get_or-take end next 4 0 (omega (arith, count-within)) ∙ sym (get_or-take b.at next 4 0 a)
          ∙ ap (λ (x : List ℕ). get_or x 4 0) front
          ∙ get_or-take b.at s 4 0 a ∙ sym (get_or-take b.len s 4 0 (omega (arith, count-within)))

      same_at : b.at ≡ count_at grown
      unfolding count_at
      same_at = headed.at ∙ ap (λ (x : ℕ). 5 + prefix_size x) (sym same_bits)

      count_there : declared grown ≡ v
      unfolding declared grown added
      count_there =
          let k : b.at + length (bytes_of 2 v) ≤ length first = omega (arith, count_fits, length-first, length_bytes 2 v) in
          let l : length (take b.at first) ≡ b.at = length-take-le b.at first (omega (arith, count_fits, length-first)) in
          rw (← same_at, be_take next end b.at 2 (omega (arith, count-within)), patch-within first b.at (bytes_of 2 v) k)
          (rw l at (be_of_bytes 2 v (take b.at first) (drop (b.at + length (bytes_of 2 v)) first) small))

      check_there : check_rib grown t ≡ 0
      unfolding check_rib readable entries_at count_at
      check_there =
          let m = met_most body t headed.check in
          rw (
            met-carried body t headed.check,
            le-leb (bits_of grown) (most_bits t) (rw same_bits m),
            le-leb (7 + prefix_size (bits_of grown)) (length grown) (omega (arith, length_grown, same_at, count-within)),
          )

      pub stands_on : Stands next t (record { len = end; at = b.at; count = v })
      unfolding standing grown
      stands_on =
          record {
            within = omega (arith, length-next);
            stands = rw (eq-eqb _ 0 check_there, eq-eqb _ _ same_at, eq-eqb _ _ (sym count_there));
          }
