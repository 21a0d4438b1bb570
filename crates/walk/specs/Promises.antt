-- What the answers of a whole walk promise, for any stream, window and asked number. Nothing is assumed but that the
-- walk is fresh.
use Rattle.std.specs.Prelude.{ℕ, zero, suc, ◌+◌, ◌<◌, ◌≤◌, ◌≡◌, List, [], ◌∷◌, length}
use Rattle.rules.specs.Ask as ask
use Rattle.rules.specs.Ask.{Ask}
use Rattle.header.specs.Frame.{Framing}
use Rattle.walk.specs.Judged.{Judged, fit, off, cut, Candidate, stands}
use Rattle.walk.specs.Step.{Answer, handed, gap, end, refused, Stepped, asked}
use Rattle.walk.specs.declared.Walk.{Walk}

-- an answer and those after it; the end and a refusal are last
unfoldable pub up_to : Answer → List Answer → List Answer
up_to (handed a f) l = handed a f ∷ l
up_to (gap a e r v c) l = gap a e r v c ∷ l
up_to (end a) l = end a ∷ []
up_to (refused n a w r) l = refused n a w r ∷ []

-- the answers of at most m calls from the walk w on, up to the last answer
unfoldable pub answers : (Walk → Stepped) → ℕ → Walk → List Answer
answers call zero w = []
answers call (suc m) w = up_to (call w).answer (answers call m (call w).walk)

-- a run of calls over one stream, from the walk w on: what each left and answered, each made on the walk that the one before left
abbrev pub Run : (Walk → Stepped) → Walk → List Stepped → Type 0
Run call w [] = Unit
Run call w (x ∷ l) = (x ≡ call w) × Run call x.walk l

-- the answers of a run, up to the last answer
unfoldable pub heard : List Stepped → List Answer
heard [] = []
heard (x ∷ l) = up_to x.answer (heard l)

-- the last answers, where the walk stands at a: the end, and refusal 11
pub data Last (a : ℕ) : Answer → Type 0 where
  over : Last a (end a)
  shut : {w r : ℕ} → Last a (refused 11 a w r)

-- COVERING. The answers from p on cover a stream of n octets once and in order: each starts where the one before ended,
-- none is empty, and the last is the end at n, or refusal 11 where it starts.
abbrev pub Covers : ℕ → ℕ → List Answer → Type 0
Covers n p [] = ⊥
Covers n p (handed a f ∷ l) = (a ≡ p) × (p < f.end) × (f.end ≤ n) × Covers n f.end l
Covers n p (gap a e r v c ∷ l) = (a ≡ p) × (p < e) × (e ≤ n) × Covers n e l
Covers n p (end a ∷ l) = (a ≡ p) × (p ≡ n) × (l ≡ [])
Covers n p (refused x a w r ∷ l) = (x ≡ 11) × (a ≡ p) × (p < n) × (l ≡ [])

-- c records come first
abbrev pub Records : ℕ → List Answer → Type 0
Records zero l = Unit
Records (suc c) [] = ⊥
Records (suc c) (handed a f ∷ l) = Records c l
Records (suc c) (gap a e r v d ∷ l) = ⊥
Records (suc c) (end a ∷ l) = ⊥
Records (suc c) (refused x a w r ∷ l) = ⊥

-- c records come first, or where c is 0 the end at n
abbrev pub Follows : ℕ → ℕ → List Answer → Type 0
Follows n zero l = l ≡ end n ∷ []
Follows n (suc c) l = Records (suc c) l

-- CONFIRMED. Each gap that reports c confirmed records is followed by c records, or by the end where c is 0.
abbrev pub Confirmed : ℕ → List Answer → Type 0
Confirmed n [] = Unit
Confirmed n (handed a f ∷ l) = Confirmed n l
Confirmed n (gap a e r v c ∷ l) = Follows n c l × Confirmed n l
Confirmed n (end a ∷ l) = Confirmed n l
Confirmed n (refused x a w r ∷ l) = Confirmed n l

-- no gap comes first
abbrev pub NoGap : List Answer → Type 0
NoGap [] = Unit
NoGap (handed a f ∷ l) = Unit
NoGap (gap a e r v c ∷ l) = ⊥
NoGap (end a ∷ l) = Unit
NoGap (refused x a w r ∷ l) = Unit

-- APART. Two gaps never touch.
abbrev pub Apart : List Answer → Type 0
Apart [] = Unit
Apart (handed a f ∷ l) = Apart l
Apart (gap a e r v c ∷ l) = NoGap l × Apart l
Apart (end a ∷ l) = Apart l
Apart (refused x a w r ∷ l) = Apart l

module _ (judge : ℕ → Ask Judged) (s : List ℕ) where
  -- PASSED. Each record that is handed out is the one that stands there and passes all checks.
  abbrev pub Passed : List Answer → Type 0
  Passed [] = Unit
  Passed (handed a f ∷ l) = (ask.over s (judge a) ≡ fit f) × Passed l
  Passed (gap a e r v c ∷ l) = Passed l
  Passed (end a ∷ l) = Passed l
  Passed (refused x a w r ∷ l) = Passed l

  -- c records that pass stand in a row from p to e
  abbrev pub RunTo : ℕ → ℕ → ℕ → Type 0
  RunTo zero p e = p ≡ e
  RunTo (suc c) p e = (f : Framing) × (ask.over s (judge p) ≡ fit f) × RunTo c f.end e

  -- the try at p confirms c records: as many as are asked for, or fewer where the stream ends exactly after them
  abbrev pub Confirms : ℕ → ℕ → ℕ → Type 0
  Confirms k p c = (e : ℕ) × RunTo c p e × (c ≤ asked k) × (c < asked k → e ≡ length s)

  -- a record is framed at p, ends at e, and is refused with r: 5, 6 or 7
  pub record Off (p r e : ℕ) : Type 0 where
    pub judged : ask.over s (judge p) ≡ off r e
    pub low : 5 ≤ r
    pub high : r ≤ 7

  -- why the octets after p are scanned, with the refusal r of what stands there: no record is framed (1 to 4), or one is
  -- refused and the try at its own end fails
  pub data Scans (k p r : ℕ) : Type 0 where
    unframed : ask.over s (judge p) ≡ cut r → 1 ≤ r → r ≤ 4 → Scans k p r
    unconfirmed : (e : ℕ) → Off p r e → ((c : ℕ) → ¬ Confirms k e c) → Scans k p r

module _ (candidate : ℕ → Ask Candidate) (s : List ℕ) where
  -- c candidates stand in a row from p on
  abbrev pub RowAt : ℕ → ℕ → Type 0
  RowAt zero p = Unit
  RowAt (suc c) p = (v : ℕ) × (e : ℕ) × (ask.over s (candidate p) ≡ stands v e) × RowAt c e

  -- the candidate at p has the evidence v: 2 or 3
  abbrev pub Evident : ℕ → ℕ → Type 0
  Evident v p = (e : ℕ) × (ask.over s (candidate p) ≡ stands v e) × (2 ≤ v) × (v ≤ 3)

  -- no such row starts at a distance from 1 to the window after p
  abbrev pub NoRow : ℕ → ℕ → ℕ → Type 0
  NoRow window c p = (o : ℕ) → p < o → o ≤ p + window → ¬ RowAt c o

module _ (judge : ℕ → Ask Judged) (candidate : ℕ → Ask Candidate) (s : List ℕ) where
  -- how the gap from p ends at e, with the refusal r, the evidence v and c confirmed records: at the own end of a record that is
  -- framed and refused, where the try there confirms c; after a scan at the least offset in the window where the asked run
  -- stands; or after a scan at the end of the stream, where no such run stands and less than window + 6 octets are left
  pub data Ends (window k p : ℕ) : ℕ → ℕ → ℕ → ℕ → Type 0 where
    own : {e r c : ℕ} → Off judge s p r e → Confirms judge s k e c → Ends window k p e r 4 c
    least : {e r v : ℕ} → Scans judge s k p r → p < e → e ≤ p + window → Evident candidate s v e → RowAt candidate s (asked k) e
        → ((o : ℕ) → p < o → o < e → ¬ RowAt candidate s (asked k) o) → Ends window k p e r v (asked k)
    none : {r : ℕ} → Scans judge s k p r → NoRow candidate s window (asked k) p → 1 ≤ window → length s < p + (window + 6)
        → Ends window k p (length s) r 5 0

  -- refusal 11 at p, with the number r of the record there: no run stands in the window, and the gap to the end is not taken
  pub record Shut (window k p r : ℕ) : Type 0 where
    pub scans : Scans judge s k p r
    pub nowhere : NoRow candidate s window (asked k) p
    pub far : 1 ≤ window → p + (window + 6) ≤ length s

  -- SOUGHT. Each gap ends so, and refusal 11 comes so, with its window.
  abbrev pub Sought : ℕ → ℕ → List Answer → Type 0
  Sought window k [] = Unit
  Sought window k (handed a f ∷ l) = Sought window k l
  Sought window k (gap a e r v c ∷ l) = Ends window k a e r v c × Sought window k l
  Sought window k (end a ∷ l) = Sought window k l
  Sought window k (refused x a w r ∷ l) = (w ≡ window) × Shut window k a r × Sought window k l

-- PROMISED. All of these, of the answers l to a fresh walk over a stream s.
pub record Promised (judge : ℕ → Ask Judged) (candidate : ℕ → Ask Candidate) (s : List ℕ) (window k : ℕ) (l : List Answer)
    : Type 0 where
  pub covers : Covers (length s) 0 l
  pub passed : Passed judge s l
  pub confirmed : Confirmed (length s) l
  pub apart : Apart l
  pub sought : Sought judge candidate s window k l
