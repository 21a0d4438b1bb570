-- What an opened body is, and that adding is opening and pushing.
use Prim.Native.Nat.{ℕ, ◌+◌, ◌-◌, ◌≤◌}
use mathlib.Core.Path.{◌≡◌, refl, sym, ◌∙◌, ap}
use mathlib.Core.Bool.{Bool, true, false, ◌&&◌, cond}
use mathlib.Core.List.{List}
use native.Mathlib.Omega.{arith}
use lib.ListN.{length, take}
use lib.Seq.{length-take-le}
use lib.Dec.{ltb, eqb}
use borrow.Author.Tests.{eqb-true, eqb-false, le-ltb, eq-eqb}
use Rattle.answer.specs.Writing.{refuse}
use Rattle.rib_head.specs.Layout.{path_size}
use Rattle.rib_head.specs.Head.{count_at, declared, entries_at, check_rib}
use Rattle.rib_entries.specs.Entry.{passed, placed, after_of}
use Rattle.rib_entries.specs.declared.Cursor.{Cursor}
use Rattle.rib_write.specs.Layout.{entry_octets}
use Rattle.rib_write.specs.Push.{unfit, added, Pushing, unpushed, standing, push_after, push_entry}
use Rattle.rib_write.specs.declared.NewEntry.{NewEntry}
use Rattle.rib_write.specs.declared.Builder.{Builder}
use Rattle.std.specs.Prelude.{Ok}
use Rattle.rib_add.specs.Add.{Opening, unopened, open_values, open_of, add_entry, length_only}

-- a body with every declared entry and nothing after them
pub record Whole (s : List ℕ) (t : ℕ) : Type 0 where
  pub check : check_rib s t ≡ 0
  pub left : (passed (path_size t) s (entries_at s) (declared s)).left ≡ 0
  pub at : (passed (path_size t) s (entries_at s) (declared s)).at ≡ length s

pub whole-opened : (s : List ℕ) (t : ℕ) → (open_of s t).number ≡ 0 → Whole s t
unfolding open_of after_of placed
whole-opened s t z = by_tests (eqb (check_rib s t) 0) refl z
  where
    stop : Cursor
    stop = passed (path_size t) s (entries_at s) (declared s)

    both : check_rib s t ≡ 0 → (a b : Bool) → eqb stop.left 0 ≡ a → eqb stop.at (length s) ≡ b
        → (cond (a && b) (record { number = 0; len = length s; at = count_at s; count = declared s }) (unopened 7)).number ≡ 0 → Whole s t
    both c true true e f z = record { check = c; left = eqb-true stop.left 0 e; at = eqb-true stop.at (length s) f }
    both c true false e f z = absurd (omega arith)
    both c false b e f z = absurd (omega arith)

    by_tests : (a : Bool) → eqb (check_rib s t) 0 ≡ a → (open_of s t).number ≡ 0 → Whole s t
    by_tests true e z = both (eqb-true (check_rib s t) 0 e) (eqb stop.left 0) (eqb stop.at (length s)) refl refl (rw e at z)
    by_tests false e z = absurd (eqb-false (check_rib s t) 0 e (rw (e, e) at z))

-- where the builder of a whole body stands
module _ (s : List ℕ) (t : ℕ) (w : Whole s t) where
  pub open_whole : open_of s t ≡ record { number = 0; len = length s; at = count_at s; count = declared s }
  unfolding open_of after_of placed
  open_whole =
      rw (
        eq-eqb (check_rib s t) 0 w.check,
        eq-eqb (passed (path_size t) s (entries_at s) (declared s)).left 0 w.left,
        eq-eqb (passed (path_size t) s (entries_at s) (declared s)).at (length s) w.at,
      )

  -- and it is one of that body
  pub standing-whole : (n : ℕ) → standing s t (record { len = n; at = count_at s; count = declared s }) ≡ 0
  unfolding standing
  standing-whole n =
      rw (eq-eqb (check_rib s t) 0 w.check, eq-eqb (count_at s) (count_at s) refl, eq-eqb (declared s) (declared s) refl)

-- a push that goes through two tests, as a writer's answer
length_only_lem : (s : List ℕ) (u v : Bool) (x : Pushing)
    → length_only (cond u (unpushed 10 s) (cond v (unpushed 9 s) x)) ≡ cond u (refuse 10 s) (cond v (refuse 9 s) (length_only x))
length_only_lem s true v x = refl
length_only_lem s false true x = refl
length_only_lem s false false x = refl

-- adding to a whole body is pushing where its builder stands
module _ (s : List ℕ) (len t : ℕ) (h : len ≤ length s) where
  -- that builder
  abbrev end_of : Builder
  end_of = record { len = len; at = count_at (take len s); count = declared (take len s) }

  module _ (w : Whole (take len s) t) (e : NewEntry) (l : List ℕ) where
    add_of_after : length_only (push_after s t end_of e l) ≡ add_entry s len t e l
    unfolding add_entry push_after
    add_of_after =
        let b : List ℕ = take len s in
        let x : List ℕ = entry_octets (path_size t) e l in
        rw (le-ltb (length s) len h, open_whole b t w)
        (length_only_lem s (unfit (declared b) t e.path (length l)) (ltb (length s - len) (length x))
        (record {
          number = 0;
          len = len + length x;
          at = count_at b;
          count = declared b + 1;
          output = added s len x (count_at b) (declared b + 1);
        }))

    pub add_of_push : length_only (push_entry s t end_of e l) ≡ add_entry s len t e l
    unfolding push_entry
    add_of_push = rw (le-ltb (length s) len h, standing-whole (take len s) t w len) add_of_after

  -- the way of the code: a body is opened, and then the entry is pushed
  module _ {b : Builder} (said : open_values (Ok b) ≡ open_of (take len s) t) where
    whole : Whole (take len s) t
    whole = whole-opened (take len s) t (ap (λ (x : Opening). x.number) (sym said))

    builder : b ≡ end_of
    builder =
        let o = said ∙ open_whole (take len s) t whole in
        let p : b.len ≡ len = ap (λ (x : Opening). x.len) o ∙ length-take-le len s h in
        let q : b.at ≡ count_at (take len s) = ap (λ (x : Opening). x.at) o in
        let r : b.count ≡ declared (take len s) = ap (λ (x : Opening). x.count) o in
        rw (p, q, r) refl

    pub add_pushed : (e : NewEntry) (l : List ℕ) {p : Pushing} → p ≡ push_entry s t b e l → length_only p ≡ add_entry s len t e l
    add_pushed e l does = ap length_only does ∙ rw builder (add_of_push whole e l)
