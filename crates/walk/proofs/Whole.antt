-- What a whole walk promises, for every judgement that is sound.
use Prim.Native.Nat.{ℕ, zero, suc, ◌+◌, ◌-◌, ◌*◌, ◌/◌, ◌<◌, ◌≤◌}
use mathlib.Core.Path.{◌≡◌, refl, sym, ◌∙◌, ap}
use mathlib.Core.Bool.{Bool, true, false}
use mathlib.Core.List.{List, [], ◌∷◌}
use native.Mathlib.Omega.{arith}
use lib.ListN.{length}
use Rattle.rules.specs.Ask.{Ask, over}
use Rattle.header.specs.Frame.{Framing}
use Rattle.walk.specs.Judged.{Judged, fit, off, Candidate}
use Rattle.walk.specs.Step.{Answer, handed, gap, end, refused, Stepped, at, fresh_walk, finished_at, stopped, asked, nowhere, scan}
use Rattle.walk.specs.Promises.{up_to, answers, Run, heard, Covers, Passed, Records, Follows, Confirmed, NoGap, Apart}
use Rattle.walk.specs.Promises.{RunTo, Confirms, Off, Scans, unconfirmed}
use Rattle.walk.specs.Promises.{unframed as unframed-at, RowAt, Evident, NoRow, own as own-end, least, none as none_left}
use Rattle.walk.specs.Promises.{Sought, Promised}
use Rattle.walk.specs.Promises.{Last, over as over_last, shut}
use Rattle.walk.specs.declared.Walk.{Walk}
use Rattle.walk.proofs.Sound.{Sound}
use Rattle.walk.proofs.Rows.{row_at, at_row, no_row, scan-found, scan-nowhere}
use Rattle.walk.proofs.Tries.{tried_confirms, tried_nothing}
use Rattle.walk.proofs.Calls.{call, Why, unframed, untried, Call, ends, fits, own, takes, none, full, called}
use Rattle.walk.proofs.Calls.{call-end, call-fit, call_finished}

module _ (judge : ℕ → Ask Judged) (candidate : ℕ → Ask Candidate) (sound : Sound judge candidate) (s : List ℕ) where
  -- a row of candidates is a run of records that pass
  row-runs : (c p : ℕ) → RowAt candidate s c p → (e : ℕ) × RunTo judge s c p e
  row-runs zero p r = (p, refl)
  row-runs (suc c) p r =
      let j = sound.carried s p r.0 r.1 r.2 in
      let t = row-runs c r.1 r.3 in
      (t.0, (j.0, j.1, rw j.2 t.1))

  module _ (window k : ℕ) where
    -- the answers of m calls from p on
    abbrev from : ℕ → ℕ → List Answer
    from m p = answers (call judge candidate s window k) m (at p)

    first-fit : (m p : ℕ) (f : Framing) → p < length s → over s (judge p) ≡ fit f → from (suc m) p ≡ handed p f ∷ from m f.end
    unfolding answers up_to
    first-fit m p f l q = rw (← call-fit judge candidate s window k (at p) (omega arith) refl (λ z. omega arith) f (sym q))

    first-end : (m p : ℕ) → p ≡ length s → from (suc m) p ≡ end p ∷ []
    unfolding answers up_to
    first-end m p e = rw (← call-end judge candidate s window k (at p) (omega arith) refl (sym e))

    -- what the answers from p on promise
    record Good (p : ℕ) (l : List Answer) : Type 0 where
      covers : Covers (length s) p l
      passed : Passed judge s l
      confirmed : Confirmed (length s) l
      sought : Sought judge candidate s window k l

    records : (c m p q : ℕ) → RunTo judge s c p q → Covers (length s) p (from m p) → Records c (from m p)
    unfolding answers
    records zero m p q f v = tt
    records (suc c) zero p q f v = v
    records (suc c) (suc m) p q f v =
        let b = sound.fits s p f.0 f.1 in
        let e = first-fit m p f.0 (omega arith) f.1 in
        rw e (records c m f.0.end q f.2 (rw e at v).3)

    follows : (c m p q : ℕ) → RunTo judge s c p q → (c ≡ 0 → p ≡ length s) → Covers (length s) p (from m p)
        → Follows (length s) c (from m p)
    unfolding answers
    follows (suc c) m p q f z v = records (suc c) m p q f v
    follows zero zero p q f z v = absurd v
    follows zero (suc m) p q f z v = first-end m p (z refl) ∙ ap (λ (x : ℕ). end x ∷ []) (z refl)

    -- a record or the end comes next
    data Next (p : ℕ) : Type 0 where
      ending : p ≡ length s → Next p
      fitting : (f : Framing) → over s (judge p) ≡ fit f → Next p

    next_of : (c p q : ℕ) → RunTo judge s c p q → (c ≡ 0 → p ≡ length s) → Next p
    next_of zero p q f z = ending (z refl)
    next_of (suc c) p q f z = fitting f.0 f.1

    -- m calls are enough: two for each 12 octets that are left, and two; one less where a record or the end comes next
    record Enough (m : ℕ) : Type 0 where
      any : (p : ℕ) → p ≤ length s → 2 * ((length s - p) / 12) + 2 ≤ m → Good p (from m p)
      next : (p : ℕ) → p ≤ length s → Next p → 2 * ((length s - p) / 12) + 1 ≤ m → Good p (from m p)

    -- after a gap from p to e that c records follow
    after : (m p e c q : ℕ) → Enough m → p < e → e ≤ length s → RunTo judge s c e q → (c ≡ 0 → e ≡ length s)
        → 2 * ((length s - p) / 12) + 2 ≤ suc m → Follows (length s) c (from m e) × Good e (from m e)
    after m p e c q en l u f z b =
        let g = en.next e u (next_of c e q f z) (omega arith) in
        (follows c m e q f z g.covers, g)

    offs : (p r e : ℕ) → over s (judge p) ≡ off r e → Off judge s p r e
    offs p r e q = let n = sound.off-number s p r e q in record { judged = q; low = n.0; high = n.1 }

    -- why a scan is asked
    scans : (p r : ℕ) → Why judge candidate s window k p r → Scans judge s k p r
    scans p r (unframed q) = let n = sound.cut-number s p r q in unframed-at q n.0 n.1
    scans p r (untried e q t) = unconfirmed e (offs p r e q) (tried_nothing judge candidate sound s k e (sound.offs s p r e q).1 t)

    turned_down : (p : ℕ) → over s (scan candidate (k - 1) (suc p) window) ≡ nowhere → NoRow candidate s window (asked k) p
    turned_down p q o a c = no_row candidate s (k - 1) o (scan-nowhere candidate s (k - 1) window (suc p) q o a (omega arith))

    by_call : (m p : ℕ) → Enough m → p ≤ length s → 2 * ((length s - p) / 12) + 2 ≤ suc m → (x : Stepped)
        → Call judge candidate s window k p x → Good p (up_to x.answer (answers (call judge candidate s window k) m x.walk))
    unfolding up_to
    by_call m p en l b x (ends q) = record { covers = (refl, q, refl); passed = tt; confirmed = tt; sought = tt }
    by_call m p en l b x (fits f q) =
        let g = sound.fits s p f q in
        let n = en.any f.end g.1 (omega arith) in
        record { covers = (refl, omega arith, g.1, n.covers); passed = (q, n.passed); confirmed = n.confirmed; sought = n.sought }
    by_call m p en l b x (own r e c q t) =
        let g = sound.offs s p r e q in
        let y = tried_confirms judge candidate sound s k e c g.1 t in
        let a = after m p e c y.0 en (omega arith) g.1 y.1 (λ z. ends_there e c y z) b in
        record {
          covers = (refl, omega arith, g.1, a.1.covers);
          passed = a.1.passed;
          confirmed = (a.0, a.1.confirmed);
          sought = (own-end (offs p r e q) y, a.1.sought);
        }
      where
        -- a try that confirms no record is at the end
        ends_there : (e c : ℕ) → Confirms judge s k e c → c ≡ 0 → e ≡ length s
        ends_there e zero y z = y.1 ∙ y.3 (omega arith)
        ends_there e (suc c) y z = absurd (omega arith)
    by_call m p en l b x (takes r o v u i q) =
        let y = scan-found candidate s (k - 1) window (suc p) o v q in
        let w = row_at candidate s (k - 1) o v y.here in
        let f = row-runs (asked k) o w in
        let g = sound.fits s o f.1.0 f.1.1 in
        let lo : p < o = y.low in
        let to : o ≤ length s = omega arith in
        let h : o < suc p + window = y.high in
        let ev : v ≡ w.0 = let n = at_row candidate s (k - 1) o w in let z = y.here in cc in
        let d = sound.evidence s o w.0 w.1 w.2 in
        let hi : o ≤ p + window = omega arith in
        let by : Evident candidate s v o = rw ev (w.1, w.2, d.0, d.1) in
        let a = after m p o (asked k) f.0 en lo to f.1 (λ z. absurd (omega arith)) b in
        record {
          covers = (refl, lo, to, a.1.covers);
          passed = a.1.passed;
          confirmed = (a.0, a.1.confirmed);
          sought = (least (scans p r i) lo hi by w (λ x c d. no_row candidate s (k - 1) x (y.before x c d)), a.1.sought);
        }
    by_call m p en l b x (none r u i q w t) =
        let a = after m p (length s) 0 (length s) en u (omega arith) refl (λ z. refl) b in
        record {
          covers = (refl, u, omega arith, a.1.covers);
          passed = a.1.passed;
          confirmed = (a.0, a.1.confirmed);
          sought = (none_left (scans p r i) (turned_down p q) w t, a.1.sought);
        }
    by_call m p en l b x (full r u i q t) =
        record {
          covers = (refl, refl, u, refl);
          passed = tt;
          confirmed = tt;
          sought = (refl, record { scans = scans p r i; nowhere = turned_down p q; far = t }, tt);
        }

    by_next : (m p : ℕ) → Enough m → 2 * ((length s - p) / 12) + 1 ≤ suc m → Next p → Good p (from (suc m) p)
    by_next m p en b (ending q) = rw (first-end m p q) (record { covers = (refl, q, refl); passed = tt; confirmed = tt; sought = tt })
    by_next m p en b (fitting f q) =
        let g = sound.fits s p f q in
        let n = en.any f.end g.1 (omega arith) in
        rw (first-fit m p f (omega arith) q)
        (record { covers = (refl, omega arith, g.1, n.covers); passed = (q, n.passed); confirmed = n.confirmed; sought = n.sought })

    enough : (m : ℕ) → Enough m
    unfolding answers
    enough zero = record { any = λ p l b. absurd (omega arith); next = λ p l x b. absurd (omega arith) }
    enough (suc m) =
        record {
          any = λ p l b. by_call m p (enough m) l b _ (called judge candidate s window k p l);
          next = λ p l x b. by_next m p (enough m) b x;
        }

    -- a call leaves a walk in its stream
    by_within : (p : ℕ) (x : Stepped) → p ≤ length s → Call judge candidate s window k p x → x.walk.position ≤ length s
    by_within p x l (ends q) = l
    by_within p x l (fits f q) = (sound.fits s p f q).1
    by_within p x l (own r e m q t) = (sound.offs s p r e q).1
    by_within p x l (takes r o v u i q) =
        let y = scan-found candidate s (k - 1) window (suc p) o v q in
        let w = row_at candidate s (k - 1) o v y.here in
        let f = row-runs (asked k) o w in
        let g = sound.fits s o f.1.0 f.1.1 in
        omega arith
    by_within p x l (none r u i q w t) = omega arith
    by_within p x l (full r u i q t) = l

    pub call-within : (w : Walk) → w.position ≤ length s → (call judge candidate s window k w).walk.position ≤ length s
    call-within w l = by_mark w.finished refl
      where
        by_mark : (f : Bool) → w.finished ≡ f → (call judge candidate s window k w).walk.position ≤ length s
        by_mark true f =
            rw (← call_finished judge candidate s window k w l f) l
        by_mark false f =
            let e : w ≡ at w.position = ap {B = Walk} (λ (b : Bool). record { position = w.position; finished = b }) f in
            rw e (by_within w.position _ l (called judge candidate s window k w.position l))

-- two gaps never touch where each is followed by what it reports
no_gap : (n c : ℕ) (l : List Answer) → Follows n c l → NoGap l
no_gap n c [] h = tt
no_gap n c (handed a f ∷ l) h = tt
no_gap n zero (gap a e r v d ∷ l) h = cc
no_gap n (suc c) (gap a e r v d ∷ l) h = h
no_gap n c (end a ∷ l) h = tt
no_gap n c (refused x a w r ∷ l) h = tt

pub apart : (n : ℕ) (l : List Answer) → Confirmed n l → Apart l
apart n [] h = tt
apart n (handed a f ∷ l) h = apart n l h
apart n (gap a e r v c ∷ l) h = (no_gap n c l h.0, apart n l h.1)
apart n (end a ∷ l) h = apart n l h
apart n (refused x a w r ∷ l) h = apart n l h

module _ (judge : ℕ → Ask Judged) (candidate : ℕ → Ask Candidate) where
  -- THEOREM. The first 2 * (n / 12) + 2 calls of a fresh walk over any n octets have among them the last answer, and the answers
  -- of so many calls, or of more, promise all that `Promised` asks.
  pub answers_promise : Sound judge candidate → (s : List ℕ) (window k m : ℕ) → 2 * (length s / 12) + 2 ≤ m
      → Promised judge candidate s window k (answers (call judge candidate s window k) m fresh_walk)
  answers_promise sound s window k m b =
      let g = (enough judge candidate sound s window k m).any 0 (omega arith) (omega arith) in
      let l : List Answer = answers (call judge candidate s window k) m fresh_walk in
      record {
        covers = g.covers;
        passed = g.passed;
        confirmed = g.confirmed;
        apart = apart (length s) l g.confirmed;
        sought = g.sought;
      }

  -- the answers of a run are those of as many calls
  heard-answers : (c : Walk → Stepped) (l : List Stepped) (w : Walk) → Run c w l → heard l ≡ answers c (length l) w
  unfolding answers heard
  heard-answers c [] w r = refl
  heard-answers c (x ∷ l) w r = rw (heard-answers c l x.walk r.1, r.0)

  -- THEOREM. Any run of so many calls or more, from a fresh walk on, promises the same.
  pub run_promises : Sound judge candidate → (s : List ℕ) (window k : ℕ) (l : List Stepped) → 2 * (length s / 12) + 2 ≤ length l
      → Run (call judge candidate s window k) fresh_walk l → Promised judge candidate s window k (heard l)
  run_promises sound s window k l b r =
      rw (heard-answers (call judge candidate s window k) l fresh_walk r) (answers_promise sound s window k (length l) b)

  module _ (s : List ℕ) (window k : ℕ) where
    by_last : (p a : ℕ) (x : Stepped) → Call judge candidate s window k p x → p ≤ length s → Last a x.answer
        → (x.walk ≡ finished_at a) × (call judge candidate s window k (finished_at a) ≡ stopped a (end a))
    by_last p a x (ends q) l over_last = (refl, sym (call_finished judge candidate s window k (finished_at p) l refl))
    by_last p a _ (fits f _) l x7 = elim x7 [ ]
    by_last p a _ (own r e m _ _) l x10 = elim x10 [ ]
    by_last p a _ (takes r o v _ _ _) l x13 = elim x13 [ ]
    by_last p a _ (none r _ _ _ _ _) l x18 = elim x18 [ ]
    by_last p a x (full r u i q t) l shut = (refl, sym (call_finished judge candidate s window k (finished_at p) l refl))

    -- THEOREM. Where a call gives the last answer, the walk is finished in its place, and every call after it answers the end
    -- with the same position and leaves the walk as it is.
    pub last_stays : (p a : ℕ) → p ≤ length s → Last a (call judge candidate s window k (at p)).answer
        → ((call judge candidate s window k (at p)).walk ≡ finished_at a)
        × (call judge candidate s window k (finished_at a) ≡ stopped a (end a))
    last_stays p a l h = by_last p a _ (called judge candidate s window k p l) l h
