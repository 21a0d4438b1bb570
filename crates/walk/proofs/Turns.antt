-- One turn of each loop of the walk, for code: what a rule is once the next judgement is known.
use Prim.Native.Nat.{ℕ, zero, suc, ◌+◌, ◌-◌, ◌<◌, ◌≤◌}
use mathlib.Core.Path.{◌≡◌, refl, sym, ◌∙◌}
use mathlib.Core.Bool.{cond}
use mathlib.Core.List.{List}
use native.Mathlib.Omega.{arith}
use native.Mathlib.Nat.{sub-zero}
use lib.ListN.{length}
use lib.Dec.{eqb}
use borrow.Author.Tests.{ne_eqb, le-leb, lt-leb}
use Rattle.rules.specs.Ask.{Ask, done, over}
use Rattle.rules.proofs.Asked.{over_bind}
use Rattle.header.specs.Frame.{Framing}
use Rattle.walk.specs.Judged.{Judged, fit, off, cut, Candidate, stands, fails}
use Rattle.walk.specs.Step.{passed, failed, whole, broken, found, nowhere, when_fit, when_stands, when_whole}
use Rattle.walk.specs.Step.{aligned, row_from, row_on, row, scan}

-- records from a record's own end on
module _ (judge : ℕ → Ask Judged) (s : List ℕ) where
  pub aligned_enough : (m p : ℕ) → passed m ≡ over s (aligned judge 0 m p)
  unfolding aligned over
  aligned_enough m p = refl

  module _ (n m p : ℕ) where
    pub aligned-end : length s ≤ p → passed m ≡ over s (aligned judge (suc n) m p)
    unfolding aligned over
    aligned-end l = simp (lt-leb (suc p) (length s) (omega arith))

    module _ (l : p < length s) where
      aligned-judged : {j : Judged} → over s (judge p) ≡ j
          → over s (aligned judge (suc n) m p) ≡ over s (when_fit (aligned judge n (suc m)) (done failed) j)
      unfolding aligned over
      aligned-judged q = simp (le-leb (suc p) (length s) l) (over_bind s _ (judge p) ∙ rw q)

      pub aligned-fit : {f : Framing} → over s (judge p) ≡ fit f
          → over s (aligned judge (suc n) m p) ≡ over s (aligned judge n (suc m) f.end)
      unfolding when_fit
      aligned-fit q = aligned-judged q

      pub aligned-off : {r e : ℕ} → over s (judge p) ≡ off r e → failed ≡ over s (aligned judge (suc n) m p)
      unfolding when_fit over
      aligned-off q = sym (aligned-judged q)

      pub aligned-cut : {r : ℕ} → over s (judge p) ≡ cut r → failed ≡ over s (aligned judge (suc n) m p)
      unfolding when_fit over
      aligned-cut q = sym (aligned-judged q)

-- rows of candidates, and the scan for one
module _ (candidate : ℕ → Ask Candidate) (s : List ℕ) where
  pub row-fails : (n p : ℕ) → over s (candidate p) ≡ fails → over s (row candidate n p) ≡ broken
  unfolding row row_on over
  row-fails n p q = over_bind s _ (candidate p) ∙ rw q

  row_first : (n p : ℕ) {v e : ℕ} → over s (candidate p) ≡ stands v e → over s (row candidate n p) ≡ over s (row_from candidate n v e)
  unfolding row row_on
  row_first n p q = over_bind s _ (candidate p) ∙ rw q

  -- i of n candidates stand, and the next is looked for at p
  module _ (n i v p : ℕ) (l : i < n) where
    left : n - i ≡ suc (n - suc i)
    left = omega arith

    row_breaks : over s (candidate p) ≡ fails → over s (row_from candidate (n - i) v p) ≡ broken
    unfolding row_from when_stands over
    row_breaks q = rw left (over_bind s _ (candidate p) ∙ rw q)

    row_goes : {w e : ℕ} → over s (candidate p) ≡ stands w e
        → over s (row_from candidate (n - i) v p) ≡ over s (row_from candidate (n - suc i) v e)
    unfolding row_from when_stands
    row_goes q = rw left (over_bind s _ (candidate p) ∙ rw q)

  -- the row at o, of n candidates after the first: i have stood, by the evidence v, and the next is looked for at p
  module _ (n o : ℕ) where
    pub Stood : ℕ → ℕ → ℕ → Type 0
    Stood zero v p = p ≡ o
    Stood (suc i) v p = over s (row candidate n o) ≡ over s (row_from candidate (n - i) v p)

    pub row_starts : (v : ℕ) → Stood 0 v o
    unfolding Stood
    row_starts v = refl

    pub row_ends : (i v p : ℕ) → i ≤ n → Stood i v p → over s (candidate p) ≡ fails → broken ≡ over s (row candidate n o)
    unfolding Stood
    row_ends zero v p l h q = sym (row-fails n o (rw h at q))
    row_ends (suc i) v p l h q = sym (h ∙ row_breaks n i v p l q)

    -- one more stands; the first sets the evidence
    pub row_turned : {w e : ℕ} (i v p : ℕ) → i ≤ n → Stood i v p → over s (candidate p) ≡ stands w e
        → {v' : ℕ} → v' ≡ cond (eqb i 0) w v → Stood (i + 1) v' e
    unfolding Stood
    row_turned zero v p l h q y = rw (y, sub-zero) (row_first n o (rw h at q))
    row_turned (suc i) v p l h q y =
        let a : suc i + 1 ≡ suc (suc i) = omega arith in
        let b = ne_eqb (suc i) 0 (λ z. omega arith) in
        rw (a, y, b) (h ∙ row_goes n i v p l q)

    pub row-whole : (i v p : ℕ) → n ≤ i → Stood (i + 1) v p → whole v ≡ over s (row candidate n o)
    unfolding Stood row_from over
    row-whole i v p l h =
        let a : i + 1 ≡ suc i = omega arith in
        let b : n - i ≡ 0 = omega arith in
        sym ((rw a at h) ∙ rw b)

  -- the scan from p of a window, for n candidates after the first
  module _ (n p window : ℕ) where
    -- d distances are turned down
    pub Left : ℕ → Type 0
    Left d = over s (scan candidate n (suc p) window) ≡ over s (scan candidate n (suc (p + d)) (window - d))

    -- d distances are turned down but for the last, at o
    pub Looks : ℕ → ℕ → Type 0
    Looks d o = over s (scan candidate n (suc p) window) ≡ over s (scan candidate n o (suc (window - d)))

    pub scan_starts : Left 0
    unfolding Left
    scan_starts = let a : p + 0 ≡ p = omega arith in let b : window - 0 ≡ window = omega arith in rw (a, b)

    pub scan-over : (d : ℕ) → d ≡ window → Left d → nowhere ≡ over s (scan candidate n (suc p) window)
    unfolding Left scan over
    scan-over d e h = let z : window - d ≡ 0 = omega arith in rw (h, z)

    pub scan_looks : (d : ℕ) → d < window → Left d → Looks (d + 1) (p + (d + 1))
    unfolding Left Looks
    scan_looks d l h =
        let a : suc (p + d) ≡ p + (d + 1) = omega arith in
        let b : window - d ≡ suc (window - (d + 1)) = omega arith in
        h ∙ rw (a, b)

    pub scan_turned : (d o : ℕ) → o ≡ p + d → Looks d o → over s (row candidate n o) ≡ broken → Left d
    unfolding Left Looks scan when_whole
    scan_turned d o e h q = h ∙ over_bind s _ (row candidate n o) ∙ rw (q, e)

    pub scan-left : (d o : ℕ) {v : ℕ} → Looks d o → over s (row candidate n o) ≡ whole v
        → found o v ≡ over s (scan candidate n (suc p) window)
    unfolding Looks scan when_whole over
    scan-left d o h q = sym (h ∙ over_bind s _ (row candidate n o) ∙ rw q)

  -- where no candidate stands from some offset on, a scan from there finds nothing
  scan-none : (n d p : ℕ) → ((q : ℕ) → p ≤ q → over s (candidate q) ≡ fails) → over s (scan candidate n p d) ≡ nowhere
  unfolding scan when_whole over
  scan-none n zero p f = refl
  scan-none n (suc d) p f =
      over_bind s _ (row candidate n p)
      ∙ rw (row-fails n p (f p (omega arith))) (scan-none n d (suc p) (λ q l. f q (omega arith)))

  pub scan-past : (n p window d : ℕ) → Left n p window d → ((q : ℕ) → p + d < q → over s (candidate q) ≡ fails)
      → nowhere ≡ over s (scan candidate n (suc p) window)
  unfolding Left
  scan-past n p window d h f = sym (h ∙ scan-none n (window - d) (suc (p + d)) f)
