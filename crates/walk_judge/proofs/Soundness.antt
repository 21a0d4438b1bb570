-- What every judgement has, whatever the stream; so the walk may rest on it.
use Prim.Native.Nat.{ℕ, ◌+◌, ◌<◌, ◌≤◌}
use mathlib.Core.Path.{◌≡◌, refl}
use mathlib.Core.Bool.{Bool, true, false, cond}
use mathlib.Core.List.{List}
use native.Mathlib.Omega.{arith}
use lib.ListN.{length, drop, length-drop}
use lib.Dec.{leb, eqb}
use borrow.Author.Tests.{lt-leb, leb-true, leb-false, eqb-true, eqb-false}
use Rattle.rules.specs.Ask.{done, octets, ◌>>=◌, over, past}
use Rattle.rules.proofs.Asked.{over-past}
use Rattle.rules.proofs.Meets.{Meets, meets_cond, meets_bind, meets_over}
use Rattle.header.specs.Kind.{size}
use Rattle.header.specs.Read.{header}
use Rattle.header.specs.Frame.{Framing, framed, frame}
use Rattle.header.proofs.KnownTypes.{size-least}
use Rattle.header.proofs.Framing.{FrameOk, frame_ok}
use Rattle.walk.specs.Judged.{Judged, fit, off, cut}
use Rattle.walk_judge.specs.Body.{check}
use Rattle.walk_judge.specs.Record.{ruled, verdict, judge, judge_at}
use Rattle.walk_judge.proofs.Bodies.{check-number}

-- a record that is framed has 12 octets or more, all of them there, and is refused with 5, 6 or 7; where none is framed the
-- number is 1 to 4, and only 1 and 4 are for want of octets
abbrev pub JudgedOk : ℕ → Bool → ℕ → Judged → Type 0
JudgedOk at b m (fit f) = (f.head.number ≡ 0) × (at + 12 ≤ f.end) × (f.end ≤ at + m) × (b ≡ false) × (f.body ≤ f.end)
JudgedOk at b m (off r e) = (5 ≤ r) × (r ≤ 7) × (at + 12 ≤ e) × (e ≤ at + m) × (b ≡ false)
JudgedOk at b m (cut r) = (1 ≤ r) × (r ≤ 4) × ((r ≡ 1 → ⊥) → (r ≡ 4 → ⊥) → b ≡ false)

verdict_ok : (at : ℕ) (b : Bool) (m : ℕ) (f : Framing) → FrameOk at b m f → Meets (JudgedOk at) b m (verdict f)
unfolding verdict
verdict_ok at b m f o = meets_cond (JudgedOk at) (eqb f.head.number 0) b m _ _ whole none
  where
    by_check : (n : ℕ) → ((n ≡ 0 → ⊥) → (5 ≤ n) × (n ≤ 7)) → (t : Bool) → eqb n 0 ≡ t → f.head.number ≡ 0
        → JudgedOk at b m (cond t (fit f) (off n f.end))
    by_check n c true t z =
        let r = o.room z in let e = o.end z in let l = size-least f.head.kind in
        let i = o.body z in
        (z, omega arith, omega arith, o.all_there (λ y. omega arith) (λ y. omega arith), omega arith)
    by_check n c false t z =
        let r = o.room z in let e = o.end z in let l = size-least f.head.kind in
        let w = c (eqb-false n 0 t) in
        (w.0, w.1, omega arith, omega arith, o.all_there (λ y. omega arith) (λ y. omega arith))

    whole : eqb f.head.number 0 ≡ true
        → Meets (JudgedOk at) b m (octets (size f.head.kind) f.head.stored λ l.
        done (ruled f (check f.head.kind f.head.subtype f.head.stored l)))
    whole e =
        let z = eqb-true f.head.number 0 e in
        let k : ℕ = f.head.kind in
        let u : ℕ = f.head.subtype in
        let n : ℕ = f.head.stored in
        (o.room z, λ l. by_check (check k u n l) (check-number u l k n (o.known_type z)) _ refl z)

    none : eqb f.head.number 0 ≡ false → JudgedOk at b m (cut f.head.number)
    none e = let z = eqb-false f.head.number 0 e in let m = o.most in (omega arith, m, o.all_there)

pub judge_ok : (at : ℕ) → Meets (JudgedOk at) false 0 (judge at)
unfolding judge
judge_ok at = meets_bind (JudgedOk at) (FrameOk at) verdict (verdict_ok at) false 0 (frame at) (frame_ok at)

-- the judgement at an offset is that of what is left, and beyond the stream there is none
module _ (s : List ℕ) (p : ℕ) where
  pub judge-left : p ≤ length s → over s (judge_at p) ≡ over (drop p s) (judge p)
  unfolding judge_at
  judge-left l = over-past s p l (judge p)

  pub judge_beyond : length s < p → over s (judge_at p) ≡ cut 1
  unfolding judge_at judge frame header framed verdict past over ◌>>=◌
  judge_beyond l = simp (lt-leb (p + 12) (length s) (omega arith))

-- a record that is framed lies in the stream
abbrev pub Inside : ℕ → ℕ → Judged → Type 0
Inside p n (fit f) = (p + 12 ≤ f.end) × (f.end ≤ n) × (f.body ≤ f.end)
Inside p n (off r e) = (p + 12 ≤ e) × (e ≤ n)
Inside p n (cut r) = Unit

-- one that is refused has 5, 6 or 7; where none is framed the number is 1 to 4
abbrev pub Numbered : Judged → Type 0
Numbered (fit f) = f.head.number ≡ 0
Numbered (off r e) = (5 ≤ r) × (r ≤ 7)
Numbered (cut r) = (1 ≤ r) × (r ≤ 4)

module _ (s : List ℕ) (p : ℕ) where
  both : Inside p (length s) (over s (judge_at p)) × Numbered (over s (judge_at p))
  both = by_place (leb p (length s)) refl
    where
      by_judged : (m : ℕ) (b : Bool) → p + m ≤ length s → (j : Judged) → JudgedOk p b m j → Inside p (length s) j × Numbered j
      by_judged m b u (fit f) q = ((q.1, (let y = q.2 in omega arith), q.4), q.0)
      by_judged m b u (off r e) q = ((q.2, let y = q.3 in omega arith), (q.0, q.1))
      by_judged m b u (cut r) q = (tt, (q.0, q.1))

      by_place : (t : Bool) → leb p (length s) ≡ t → Inside p (length s) (over s (judge_at p)) × Numbered (over s (judge_at p))
      by_place true t =
          let l : p ≤ length s = leb-true _ _ t in
          let o = meets_over (JudgedOk p) (drop p s) false 0 (judge p) (omega arith) (judge_ok p) in
          let w = o.within in
          let d = length-drop p s in
          rw (judge-left s p l) (by_judged o.bytes o.met (omega arith) (over (drop p s) (judge p)) o.holds)
      by_place false t = rw (judge_beyond s p (leb-false _ _ t)) (tt, (omega arith, omega arith))

  pub inside : Inside p (length s) (over s (judge_at p))
  inside = both.0

  -- THEOREM. A record that is framed and refused has 5, 6 or 7.
  pub off-number : (r e : ℕ) → over s (judge_at p) ≡ off r e → (5 ≤ r) × (r ≤ 7)
  off-number r e q = rw q at both.1

  -- THEOREM. Where no record is framed the number is 1, 2, 3 or 4.
  pub cut-number : (r : ℕ) → over s (judge_at p) ≡ cut r → (1 ≤ r) × (r ≤ 4)
  cut-number r q = rw q at both.1
