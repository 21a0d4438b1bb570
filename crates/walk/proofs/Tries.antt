-- The try at a record's own end: what it confirms, and when it fails.
use Prim.Native.Nat.{ℕ, zero, suc, ◌+◌, ◌<◌, ◌≤◌}
use mathlib.Core.Path.{◌≡◌, refl, sym, ◌∙◌, ap}
use mathlib.Core.Bool.{Bool, true, false, cond}
use mathlib.Core.List.{List}
use native.Mathlib.Omega.{arith}
use lib.ListN.{length}
use lib.Dec.{leb}
use borrow.Author.Tests.{leb-true, leb-false}
use Rattle.rules.specs.Ask.{Ask, done, ◌>>=◌, over}
use Rattle.rules.proofs.Asked.{over_bind}
use Rattle.header.specs.Frame.{Framing}
use Rattle.walk.specs.Judged.{Judged, fit, off, cut, Candidate}
use Rattle.walk.specs.Step.{asked, passed, failed, when_fit, aligned}
use Rattle.walk.specs.Promises.{RunTo, Confirms}
use Rattle.walk.proofs.Sound.{Sound}

-- a record that passes, as no other judgement
abbrev frame_of : Framing → Judged → Framing
frame_of d (fit f) = f
frame_of d (off r e) = d
frame_of d (cut r) = d

pub fit_unique : (f g : Framing) → fit f ≡ fit g → f ≡ g
fit_unique f g e = ap (frame_of f) e

module _ (judge : ℕ → Ask Judged) (candidate : ℕ → Ask Candidate) (sound : Sound judge candidate) (s : List ℕ) where
  -- the try counts records that pass, from m on, and stops short of n more only at the end of the stream
  pub record Try (n m p c : ℕ) : Type 0 where
    pub more : ℕ
    pub last : ℕ
    pub sum : c ≡ m + more
    pub runs : RunTo judge s more p last
    pub most : more ≤ n
    pub short : more < n → last ≡ length s

  pub tries : (n m p c : ℕ) → p ≤ length s → over s (aligned judge n m p) ≡ passed c → Try n m p c
  unfolding aligned over when_fit
  tries zero m p c l q =
      let e : m ≡ c = cc in
      record { more = 0; last = p; sum = omega arith; runs = refl; most = omega arith; short = λ h. absurd (omega arith) }
  tries (suc n) m p c l q = by_test (leb (suc p) (length s)) refl q (λ (e : ℕ). tries n (suc m) e c)
    where
      by_judged : (j : Judged) → over s (judge p) ≡ j → over s (when_fit (aligned judge n (suc m)) (done failed) j) ≡ passed c
          → ((e : ℕ) → e ≤ length s → over s (aligned judge n (suc m) e) ≡ passed c → Try n (suc m) e c) → Try (suc n) m p c
      by_judged (fit f) u q ih =
          let t = ih f.end (sound.fits s p f u).1 q in
          let z = t.sum in
          let y = t.most in
          record {
            more = suc t.more;
            last = t.last;
            sum = omega arith;
            runs = (f, u, t.runs);
            most = omega arith;
            short = λ h. t.short (omega arith);
          }
      by_judged (off r e) u q ih = cc
      by_judged (cut r) u q ih = cc

      by_test : (t : Bool) → leb (suc p) (length s) ≡ t
          → cond t (over s (judge p >>= when_fit (aligned judge n (suc m)) (done failed))) (passed m) ≡ passed c
          → ((e : ℕ) → e ≤ length s → over s (aligned judge n (suc m) e) ≡ passed c → Try n (suc m) e c) → Try (suc n) m p c
      by_test true t q ih = by_judged (over s (judge p)) refl (rw (over_bind s _ (judge p)) at q) ih
      by_test false t q ih =
          let a : length s < suc p = leb-false _ _ t in
          let e : m ≡ c = cc in
          record { more = 0; last = p; sum = omega arith; runs = refl; most = omega arith; short = λ h. omega arith }

  -- a try that passes confirms
  pub tried_confirms : (k p c : ℕ) → p ≤ length s → over s (aligned judge (asked k) 0 p) ≡ passed c → Confirms judge s k p c
  tried_confirms k p c l q =
      let t = tries (asked k) 0 p c l q in
      let e : c ≡ t.more = let z = t.sum in omega arith in
      rw e (t.last, t.runs, t.most, t.short)

  -- where a try fails, no run from there on is long enough
  pub fails_runs : (n m p c e : ℕ) → p ≤ length s → over s (aligned judge n m p) ≡ failed → RunTo judge s c p e → c ≤ n
      → (c < n → e ≡ length s) → ⊥
  unfolding aligned over when_fit
  fails_runs zero m p c e l q r u h = cc
  fails_runs (suc n) m p c e l q r u h = by_test (leb (suc p) (length s)) refl q c r u h (λ (d b : ℕ). fails_runs n (suc m) b d e)
    where
      by_judged : (j : Judged) → over s (judge p) ≡ j → over s (when_fit (aligned judge n (suc m)) (done failed) j) ≡ failed
          → p < length s → (c : ℕ) → RunTo judge s c p e → c ≤ suc n → (c < suc n → e ≡ length s)
          → ((d b : ℕ) → b ≤ length s → over s (aligned judge n (suc m) b) ≡ failed → RunTo judge s d b e → d ≤ n
          → (d < n → e ≡ length s) → ⊥) → ⊥
      by_judged j v q a zero r u h ih = let z : e ≡ length s = h (omega arith) in omega arith
      by_judged (fit f) v q a (suc d) r u h ih =
          let g : r.0 ≡ f = fit_unique r.0 f (sym r.1 ∙ v) in
          ih d f.end (sound.fits s p f v).1 q (rw g at r.2) (omega arith) (λ i. h (omega arith))
      by_judged (off x y) v q a (suc d) r u h ih = let w = r.1 in cc
      by_judged (cut x) v q a (suc d) r u h ih = let w = r.1 in cc

      by_test : (t : Bool) → leb (suc p) (length s) ≡ t
          → cond t (over s (judge p >>= when_fit (aligned judge n (suc m)) (done failed))) (passed m) ≡ failed
          → (c : ℕ) → RunTo judge s c p e → c ≤ suc n → (c < suc n → e ≡ length s)
          → ((d b : ℕ) → b ≤ length s → over s (aligned judge n (suc m) b) ≡ failed → RunTo judge s d b e → d ≤ n
          → (d < n → e ≡ length s) → ⊥) → ⊥
      by_test true t q c r u h ih =
          by_judged (over s (judge p)) refl (rw (over_bind s _ (judge p)) at q) (leb-true _ _ t) c r u h ih
      by_test false t q c r u h ih = cc

  -- a try that fails confirms nothing
  pub tried_nothing : (k p : ℕ) → p ≤ length s → over s (aligned judge (asked k) 0 p) ≡ failed → (c : ℕ) → ¬ Confirms judge s k p c
  tried_nothing k p l q c r = fails_runs (asked k) 0 p c r.0 l q r.1 r.2 r.3
