-- What a whole walk promises leaves one list of answers: no two lists have it for the same stream, window and asked number.
use Prim.Native.Nat.{ℕ, zero, suc, ◌<◌, ◌≤◌}
use mathlib.Core.Path.{◌≡◌, refl, sym, ◌∙◌, ap}
use mathlib.Core.Bool.{Bool, true, false}
use mathlib.Core.List.{List, [], ◌∷◌}
use native.Mathlib.Omega.{arith}
use lib.ListN.{length}
use lib.Dec.{leb}
use borrow.Author.Tests.{leb-true, leb-false}
use Rattle.rules.specs.Ask.{Ask, over}
use Rattle.header.specs.Frame.{Framing}
use Rattle.walk.specs.Judged.{Judged, fit, off, cut, Candidate, stands}
use Rattle.walk.specs.Step.{Answer, handed, gap, end, refused}
use Rattle.walk.specs.Promises.{Covers, Passed, RunTo, Confirms, Off, Scans, unframed, unconfirmed}
use Rattle.walk.specs.Promises.{Evident, Ends, own, least, none, Shut, Sought, Promised}
use Rattle.walk.proofs.Sound.{Sound}
use Rattle.walk.proofs.Tries.{fit_unique}

-- one of two numbers is the less, or they are equal
least_or : {A : Type 0} (a b : ℕ) → (a < b → A) → (b < a → A) → (a ≡ b → A) → A
least_or {A} a b f g h = by_test (leb a b) refl (leb b a) refl
  where
    by_test : (t : Bool) → leb a b ≡ t → (u : Bool) → leb b a ≡ u → A
    by_test true t true u = let x = leb-true a b t in let y = leb-true b a u in h (omega arith)
    by_test false t u z = g (leb-false a b t)
    by_test true t false u = f (leb-false b a u)

module _ (judge : ℕ → Ask Judged) (candidate : ℕ → Ask Candidate) (sound : Sound judge candidate) (s : List ℕ) where
  -- no record stands at the end of the stream
  none-at-end : (f : Framing) → over s (judge (length s)) ≡ fit f → ⊥
  none-at-end f q = let g = sound.fits s (length s) f q in omega (arith, g.0, g.1)

  -- a run to the end of the stream is the longest
  longest : (c d p e q : ℕ) → RunTo judge s c p e → e ≡ length s → RunTo judge s d p q → d ≤ c
  longest c zero p e q x z y = omega arith
  longest zero (suc d) p e q x z y = absurd (none-at-end y.0 (ap (λ (o : ℕ). over s (judge o)) (sym (x ∙ z)) ∙ y.1))
  longest (suc c) (suc d) p e q x z y =
      let g : y.0 ≡ x.0 = fit_unique y.0 x.0 (sym y.1 ∙ x.1) in
      let r = longest c d x.0.end e q x.2 z (rw g at y.2) in
      omega arith

  module _ (k : ℕ) where
    -- a try confirms one number
    confirms_unique : (p c d : ℕ) → Confirms judge s k p c → Confirms judge s k p d → c ≡ d
    confirms_unique p c d x y =
        least_or c d
        (λ l. absurd (let m = longest c d p x.0 y.0 x.1 (x.3 (omega (arith, y.2))) y.1 in omega arith))
        (λ l. absurd (let m = longest d c p y.0 x.0 y.1 (y.3 (omega (arith, x.2))) x.1 in omega arith))
        (λ e. e)

    -- a record that passes is neither refused nor scanned for
    fit-off : (p r e : ℕ) (f : Framing) → over s (judge p) ≡ fit f → Off judge s p r e → ⊥
    fit-off p r e f q x = let w = x.judged in cc

    fit-scans : (p r : ℕ) (f : Framing) → over s (judge p) ≡ fit f → Scans judge s k p r → ⊥
    fit-scans p r f q (unframed c l h) = cc
    fit-scans p r f q (unconfirmed e x n) = fit-off p r e f q x

    -- a record is refused with one number, and has one end
    off_unique : (p r e q d : ℕ) → Off judge s p r e → Off judge s p q d → (r ≡ q) × (e ≡ d)
    off_unique p r e q d x y =
        let w : off r e ≡ off q d = sym x.judged ∙ y.judged in
        let i : r ≡ q = cc in
        let j : e ≡ d = cc in
        (i, j)

    scans_unique : (p r q : ℕ) → Scans judge s k p r → Scans judge s k p q → r ≡ q
    scans_unique p r q (unframed x l h) (unframed y m i) = let w : cut r ≡ cut q = sym x ∙ y in let z : r ≡ q = cc in z
    scans_unique p r q (unframed x l h) (unconfirmed e y n) = let w = y.judged in cc
    scans_unique p r q (unconfirmed e x n) (unframed y l h) = let w = x.judged in cc
    scans_unique p r q (unconfirmed e x n) (unconfirmed d y m) = (off_unique p r e q d x y).0

    -- where the own end is taken, nothing is scanned
    own-scans : (p r e c q : ℕ) → Off judge s p r e → Confirms judge s k e c → Scans judge s k p q → ⊥
    own-scans p r e c q x y (unframed z l h) = let w = x.judged in cc
    own-scans p r e c q x y (unconfirmed d z n) =
        let i : e ≡ d = (off_unique p r e q d x z).1 in
        n c (rw i at y)

    evident_unique : (o v w : ℕ) → Evident candidate s v o → Evident candidate s w o → v ≡ w
    evident_unique o v w x y =
        let z : stands v x.0 ≡ stands w y.0 = sym x.1 ∙ y.1 in
        let i : v ≡ w = cc in
        i

    module _ (window p : ℕ) where
      -- a gap ends in one way
      record Same (e r v c d q w b : ℕ) : Type 0 where
        end : e ≡ d
        refusal : r ≡ q
        evidence : v ≡ w
        confirmed : c ≡ b

      ends_unique : {e r v c d q w b : ℕ} → Ends judge candidate s window k p e r v c → Ends judge candidate s window k p d q w b
          → Same e r v c d q w b
      ends_unique {e} {r} {v} {c} {d} {q} {w} {b} (own x y) (own z u) =
          let i = off_unique p r e q d x z in
          let j : e ≡ d = i.1 in
          record { end = j; refusal = i.0; evidence = refl; confirmed = confirms_unique d c b (rw j at y) u }
      ends_unique (own x y) (least z lo hi v w h) = absurd (own-scans p _ _ _ _ x y z)
      ends_unique (own x y) (none z n a b) = absurd (own-scans p _ _ _ _ x y z)
      ends_unique (least z lo hi v w h) (own x y) = absurd (own-scans p _ _ _ _ x y z)
      ends_unique (none z n a b) (own x y) = absurd (own-scans p _ _ _ _ x y z)
      ends_unique {e} {r} {v} {c} {d} {q} {w} {b} (least z lo hi x y h) (least a lp hj f g i) =
          let j : e ≡ d = least_or e d (λ l. absurd (i e lo l y)) (λ l. absurd (h d lp l g)) (λ o. o) in
          record { end = j; refusal = scans_unique p r q z a; evidence = evident_unique d v w (rw j at x) f; confirmed = refl }
      ends_unique (least z lo hi x y h) (none a n b c) = absurd (n _ lo hi y)
      ends_unique (none a n b c) (least z lo hi x y h) = absurd (n _ lo hi y)
      ends_unique (none x n a b) (none y m c d) = record { end = refl; refusal = scans_unique p _ _ x y; evidence = refl; confirmed = refl }

      -- where a gap ends, the window is not refused
      ends_shut : {e r v c q : ℕ} → Ends judge candidate s window k p e r v c → Shut judge candidate s window k p q → ⊥
      ends_shut (own x y) z = own-scans p _ _ _ _ x y z.scans
      ends_shut (least x lo hi v w h) z = z.nowhere _ lo hi w
      ends_shut (none x n a b) z = let m = z.far a in omega arith

      ends_fit : {e r v c : ℕ} (f : Framing) → over s (judge p) ≡ fit f → Ends judge candidate s window k p e r v c → ⊥
      ends_fit f q (own x y) = fit-off p _ _ f q x
      ends_fit f q (least x lo hi v w h) = fit-scans p _ f q x
      ends_fit f q (none x n a b) = fit-scans p _ f q x

    module _ (window : ℕ) where
      -- what the answers from p on promise
      record From (p : ℕ) (l : List Answer) : Type 0 where
        covers : Covers (length s) p l
        passed : Passed judge s l
        sought : Sought judge candidate s window k l

      one_list : (l m : List Answer) (p : ℕ) → From p l → From p m → l ≡ m
      one_list [] m p x y = absurd x.covers
      one_list (handed a f ∷ l) [] p x y = absurd y.covers
      one_list (handed a f ∷ l) (handed b g ∷ m) p x y =
          let i : a ≡ p = x.covers.0 in
          let j : b ≡ p = y.covers.0 in
          let u : over s (judge p) ≡ fit f = rw i at x.passed.0 in
          let v : over s (judge p) ≡ fit g = rw j at y.passed.0 in
          let e : f ≡ g = fit_unique f g (sym u ∙ v) in
          let t : l ≡ m =
          one_list l m f.end (record { covers = x.covers.3; passed = x.passed.1; sought = x.sought })
          (record { covers = rw (← e) at y.covers.3; passed = y.passed.1; sought = y.sought }) in
          rw (i, j, e, t)
      one_list (handed a f ∷ l) (gap b d r v c ∷ m) p x y =
          let i : a ≡ p = x.covers.0 in
          let j : b ≡ p = y.covers.0 in
          absurd (ends_fit window p f (rw i at x.passed.0) (rw j at y.sought.0))
      one_list (handed a f ∷ l) (end b ∷ m) p x y = absurd (omega (arith, x.covers.1, x.covers.2, y.covers.1))
      one_list (handed a f ∷ l) (refused n b w r ∷ m) p x y =
          let i : a ≡ p = x.covers.0 in
          let j : b ≡ p = y.covers.1 in
          absurd (fit-scans p r f (rw i at x.passed.0) (rw j at y.sought.1.scans))
      one_list (gap a e r v c ∷ l) [] p x y = absurd y.covers
      one_list (gap a e r v c ∷ l) (handed b g ∷ m) p x y =
          let i : a ≡ p = x.covers.0 in
          let j : b ≡ p = y.covers.0 in
          absurd (ends_fit window p g (rw j at y.passed.0) (rw i at x.sought.0))
      one_list (gap a e r v c ∷ l) (gap b d q w n ∷ m) p x y =
          let i : a ≡ p = x.covers.0 in
          let j : b ≡ p = y.covers.0 in
          let z = ends_unique window p (rw i at x.sought.0) (rw j at y.sought.0) in
          let t : l ≡ m =
          one_list l m e (record { covers = x.covers.3; passed = x.passed; sought = x.sought.1 })
          (record { covers = rw (← z.end) at y.covers.3; passed = y.passed; sought = y.sought.1 }) in
          rw (i, j, z.end, z.refusal, z.evidence, z.confirmed, t)
      one_list (gap a e r v c ∷ l) (end b ∷ m) p x y = absurd (omega (arith, x.covers.1, x.covers.2, y.covers.1))
      one_list (gap a e r v c ∷ l) (refused n b w q ∷ m) p x y =
          let i : a ≡ p = x.covers.0 in
          let j : b ≡ p = y.covers.1 in
          absurd (ends_shut window p (rw i at x.sought.0) (rw j at y.sought.1))
      one_list (end a ∷ l) [] p x y = absurd y.covers
      one_list (end a ∷ l) (handed b g ∷ m) p x y = absurd (omega (arith, y.covers.1, y.covers.2, x.covers.1))
      one_list (end a ∷ l) (gap b d r v c ∷ m) p x y = absurd (omega (arith, y.covers.1, y.covers.2, x.covers.1))
      one_list (end a ∷ l) (end b ∷ m) p x y = rw (x.covers.0, y.covers.0, x.covers.2, y.covers.2)
      one_list (end a ∷ l) (refused n b w r ∷ m) p x y = absurd (omega (arith, x.covers.1, y.covers.2))
      one_list (refused n a w r ∷ l) [] p x y = absurd y.covers
      one_list (refused n a w r ∷ l) (handed b g ∷ m) p x y =
          let i : a ≡ p = x.covers.1 in
          let j : b ≡ p = y.covers.0 in
          absurd (fit-scans p r g (rw j at y.passed.0) (rw i at x.sought.1.scans))
      one_list (refused n a w r ∷ l) (gap b d q v c ∷ m) p x y =
          let i : a ≡ p = x.covers.1 in
          let j : b ≡ p = y.covers.0 in
          absurd (ends_shut window p (rw j at y.sought.0) (rw i at x.sought.1))
      one_list (refused n a w r ∷ l) (end b ∷ m) p x y = absurd (omega (arith, y.covers.1, x.covers.2))
      one_list (refused n a w r ∷ l) (refused h b v q ∷ m) p x y =
          let i : a ≡ p = x.covers.1 in
          let j : b ≡ p = y.covers.1 in
          let z : r ≡ q = scans_unique p r q (rw i at x.sought.1.scans) (rw j at y.sought.1.scans) in
          rw (x.covers.0, y.covers.0, i, j, x.sought.0, y.sought.0, z, x.covers.3, y.covers.3)

  -- THEOREM. Two lists of answers that promise what a whole walk promises are equal.
  pub promised_unique : (window k : ℕ) (l m : List Answer) → Promised judge candidate s window k l → Promised judge candidate s window k m
      → l ≡ m
  promised_unique window k l m x y =
      one_list k window l m 0 (record { covers = x.covers; passed = x.passed; sought = x.sought })
      (record { covers = y.covers; passed = y.passed; sought = y.sought })
