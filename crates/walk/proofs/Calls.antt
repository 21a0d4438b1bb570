-- What one call is by its cases: each part once the parts before it are known, and then the whole.
use Prim.Native.Nat.{ℕ, zero, suc, ◌+◌, ◌-◌, ◌<◌, ◌≤◌}
use mathlib.Core.Path.{◌≡◌, refl, sym, ◌∙◌}
use mathlib.Core.Bool.{Bool, true, false}
use mathlib.Core.List.{List}
use native.Mathlib.Omega.{arith}
use lib.ListN.{length}
use lib.Dec.{leb, eqb}
use borrow.Author.Tests.{le-leb, lt-leb, leb-true, leb-false, eqb-true, eqb-false}
use Rattle.rules.specs.Ask.{Ask, over}
use Rattle.rules.proofs.Asked.{over_bind}
use Rattle.header.specs.Frame.{Framing}
use Rattle.walk.specs.Judged.{Judged, fit, off, cut, Candidate}
use Rattle.walk.specs.Step.{handed, gap, end, refused, Stepped, at, moved, stopped, asked}
use Rattle.walk.specs.Step.{Tried, passed, failed, Found, found, nowhere, aligned, scan}
use Rattle.walk.specs.Step.{unfound, leave, scanned, resume, own_end, judged, going, step}
use Rattle.walk.specs.declared.Walk.{Walk}

-- no offset in the window: the gap to the end, or refusal 11
module _ (s : List ℕ) (p r : ℕ) where
  abbrev to_end : Stepped
  to_end = moved (length s) (gap p (length s) r 5 0)

  abbrev shut : ℕ → Stepped
  shut window = stopped p (refused 11 p window r)

  pub unfound-none : (window : ℕ) → window ≡ 0 → shut window ≡ over s (unfound p window r)
  unfolding unfound over
  unfound-none window e = rw e

  unfound-gap : (window : ℕ) → (window ≡ 0 → ⊥) → length s < p + (window + 6) → to_end ≡ over s (unfound p window r)
  unfolding unfound over
  unfound-gap zero z l = absurd (z refl)
  unfound-gap (suc w) z l = simp (lt-leb (p + (suc w + 6)) (length s) l)

  unfound_window : (window : ℕ) → (window ≡ 0 → ⊥) → p + (window + 6) ≤ length s → shut window ≡ over s (unfound p window r)
  unfolding unfound over
  unfound_window zero z l = absurd (z refl)
  unfound_window (suc w) z l = simp (le-leb (p + (suc w + 6)) (length s) l)

  -- code compares what is left after six octets
  module _ (l : p < length s) where
    pub unfound-left : (window : ℕ) → length s - p - 6 < window → to_end ≡ over s (unfound p window r)
    unfound-left window m = unfound-gap window (λ z. omega arith) (omega arith)

    pub unfound_shut : (window : ℕ) → window ≤ length s - p - 6 → shut window ≡ over s (unfound p window r)
    unfound_shut zero m = unfound-none zero refl
    unfound_shut (suc w) m = unfound_window (suc w) (λ z. omega arith) (omega arith)

module _ (judge : ℕ → Ask Judged) (candidate : ℕ → Ask Candidate) (s : List ℕ) (window k : ℕ) where
  -- a call on a walk over the whole stream
  abbrev pub call : Walk → Stepped
  call w = over s (step judge candidate w window k)

  abbrev search : ℕ → Found
  search p = over s (scan candidate (k - 1) (suc p) window)

  abbrev tried : ℕ → Tried
  tried e = over s (aligned judge (asked k) 0 e)

  -- the scan from p, with the refusal r of what stands there
  module _ (p r : ℕ) where
    pub scanned-found : {o v : ℕ} → found o v ≡ search p → moved o (gap p o r v (asked k)) ≡ over s (scanned judge candidate p window k r)
    unfolding scanned leave over
    scanned-found q = sym (over_bind s (leave p window k r) (scan candidate (k - 1) (suc p) window) ∙ rw (← q))

    pub scanned-nowhere : nowhere ≡ search p → over s (unfound p window r) ≡ over s (scanned judge candidate p window k r)
    unfolding scanned leave
    scanned-nowhere q = sym (over_bind s (leave p window k r) (scan candidate (k - 1) (suc p) window) ∙ rw (← q))

    -- its own end e
    module _ (e : ℕ) where
      pub own-passed : {m : ℕ} → passed m ≡ tried e → moved e (gap p e r 4 m) ≡ over s (own_end judge candidate p window k r e)
      unfolding own_end resume over
      own-passed q = sym (over_bind s (resume judge candidate p window k r e) (aligned judge (asked k) 0 e) ∙ rw (← q))

      pub own-failed : failed ≡ tried e → over s (scanned judge candidate p window k r) ≡ over s (own_end judge candidate p window k r e)
      unfolding own_end resume
      own-failed q = sym (over_bind s (resume judge candidate p window k r e) (aligned judge (asked k) 0 e) ∙ rw (← q))

  module _ (w : Walk) where
    pub call_beyond : length s < w.position → record { walk = w; answer = refused 8 0 0 0 } ≡ call w
    unfolding step over
    call_beyond l = simp (lt-leb w.position (length s) l)

    module _ (l : w.position ≤ length s) where
      -- a finished walk stays as it is, and answers the end
      pub call_finished : w.finished ≡ true → stopped w.position (end w.position) ≡ call w
      unfolding step over
      call_finished f = simp (le-leb w.position (length s) l, f)

      module _ (f : w.finished ≡ false) where
        pub call-end : length s ≡ w.position → stopped w.position (end w.position) ≡ call w
        unfolding step going over
        call-end e = simp (le-leb w.position (length s) l, f, lt-leb (suc w.position) (length s) (omega arith))

        module _ (n : length s ≡ w.position → ⊥) where
          call-judged : {j : Judged} → j ≡ over s (judge w.position) → over s (judged judge candidate w.position window k j) ≡ call w
          unfolding step going over
          call-judged q =
              let m : w.position < length s = omega arith in
              let b = over_bind s (judged judge candidate w.position window k) (judge w.position) in
              simp (le-leb w.position (length s) l, f, le-leb (suc w.position) (length s) m, b, ← q)

          pub call-fit : (g : Framing) → fit g ≡ over s (judge w.position) → moved g.end (handed w.position g) ≡ call w
          unfolding judged over
          call-fit g q = call-judged q

          pub call-off : (r e : ℕ) → off r e ≡ over s (judge w.position)
              → over s (own_end judge candidate w.position window k r e) ≡ call w
          unfolding judged
          call-off r e q = call-judged q

          pub call-cut : (r : ℕ) → cut r ≡ over s (judge w.position) → over s (scanned judge candidate w.position window k r) ≡ call w
          unfolding judged
          call-cut r q = call-judged q

  -- why a scan is asked at p, with the refusal r of what stands there
  pub data Why (p r : ℕ) : Type 0 where
    unframed : over s (judge p) ≡ cut r → Why p r
    untried : (e : ℕ) → over s (judge p) ≡ off r e → tried e ≡ failed → Why p r

  -- what a call answers at p, and why
  pub data Call (p : ℕ) : Stepped → Type 0 where
    ends : p ≡ length s → Call p (stopped p (end p))
    fits : (f : Framing) → over s (judge p) ≡ fit f → Call p (moved f.end (handed p f))
    own : (r e m : ℕ) → over s (judge p) ≡ off r e → tried e ≡ passed m → Call p (moved e (gap p e r 4 m))
    takes : (r o v : ℕ) → p < length s → Why p r → search p ≡ found o v → Call p (moved o (gap p o r v (asked k)))
    none : (r : ℕ) → p < length s → Why p r → search p ≡ nowhere → 1 ≤ window → length s < p + (window + 6) → Call p (to_end s p r)
    full : (r : ℕ) → p < length s → Why p r → search p ≡ nowhere → (1 ≤ window → p + (window + 6) ≤ length s) → Call p (shut s p r window)

  module _ (p : ℕ) (l : p < length s) where
    by_unfound : (r : ℕ) → Why p r → search p ≡ nowhere → Call p (over s (unfound p window r))
    by_unfound r y q = by_window (eqb window 0) refl
      where
        by_left : (window ≡ 0 → ⊥) → (t : Bool) → leb (p + (window + 6)) (length s) ≡ t → Call p (over s (unfound p window r))
        by_left z true t = let a = leb-true _ _ t in rw (← unfound_window s p r window z a) (full r l y q (λ h. a))
        by_left z false t = let a = leb-false _ _ t in rw (← unfound-gap s p r window z a) (none r l y q (omega arith) a)

        by_window : (t : Bool) → eqb window 0 ≡ t → Call p (over s (unfound p window r))
        by_window true t =
            let z : window ≡ 0 = eqb-true _ _ t in
            rw (← unfound-none s p r window z) (full r l y q (λ h. absurd (omega arith)))
        by_window false t = by_left (eqb-false _ _ t) (leb (p + (window + 6)) (length s)) refl

    by_scan : (r : ℕ) → Why p r → Call p (over s (scanned judge candidate p window k r))
    by_scan r y = by_found (search p) refl
      where
        by_found : (f : Found) → search p ≡ f → Call p (over s (scanned judge candidate p window k r))
        by_found (found o v) q = rw (← scanned-found p r (sym q)) (takes r o v l y q)
        by_found nowhere q = rw (← scanned-nowhere p r (sym q)) (by_unfound r y q)

    by_judged : (j : Judged) → over s (judge p) ≡ j → Call p (call (at p))
    by_judged (fit f) q = rw (← call-fit (at p) (omega arith) refl (λ z. omega arith) f (sym q)) (fits f q)
    by_judged (cut r) q = rw (← call-cut (at p) (omega arith) refl (λ z. omega arith) r (sym q)) (by_scan r (unframed q))
    by_judged (off r e) q = rw (← call-off (at p) (omega arith) refl (λ z. omega arith) r e (sym q)) (by_tried (tried e) refl)
      where
        by_tried : (t : Tried) → tried e ≡ t → Call p (over s (own_end judge candidate p window k r e))
        by_tried (passed m) u = rw (← own-passed p r e (sym u)) (own r e m q u)
        by_tried failed u = rw (← own-failed p r e (sym u)) (by_scan r (untried e q u))

  pub called : (p : ℕ) → p ≤ length s → Call p (call (at p))
  called p l = by_test (leb (suc p) (length s)) refl
    where
      by_test : (t : Bool) → leb (suc p) (length s) ≡ t → Call p (call (at p))
      by_test true t = by_judged p (leb-true _ _ t) (over s (judge p)) refl
      by_test false t =
          let a : length s < suc p = leb-false _ _ t in
          rw (← call-end (at p) l refl (omega arith)) (ends (omega arith))
