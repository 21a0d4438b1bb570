-- There and back. A body that is begun and given any run of accepted entries reads back as exactly those entries, with as many declared
-- as are there. A body that reads with every declared entry and nothing left over is built again, octet for octet, up to the bits
-- after the prefix. And entries that are pushed where a builder stands do what entries that are added do.
use Prim.Native.Nat.{ℕ, zero, suc, ◌+◌, ◌-◌, ◌<◌, ◌≤◌}
use mathlib.Core.Path.{◌≡◌, refl, sym, ◌∙◌, ap}
use mathlib.Core.Bool.{Bool, true, false, cond}
use mathlib.Core.List.{List, [], ◌++◌, append-nil}
use native.Mathlib.Nat.{sub-zero}
use native.Mathlib.Omega.{arith}
use lib.ListN.{length, take, drop, length-drop, take-append-drop}
use lib.Seq.{take-append_seam, length-take-le, drop-drop}
use lib.Dec.{leb, ltb, eqb}
use borrow.Author.Tests.{leb-true, ltb-false, le-ltb, le-leb, eq-eqb, eqb-true}
use Rattle.answer.specs.Writing.{Writing, refuse, at_front}
use Rattle.octets.specs.Octets.{be_at, part, Octets}
use Rattle.rib_head.specs.Layout.{carried, most_bits, path_size, prefix_size}
use Rattle.rib_head.specs.Prefix.{cleared}
use Rattle.rib_read.specs.Rib.{prefix_at}
use Rattle.rib_head.specs.Head.{bits_of, count_at, declared, entries_at, check_rib}
use Rattle.rib_entries.specs.Entry.{attributes_at, entry_end, entry_here, passed, read_count}
use Rattle.rib_read.specs.Rib.{Reading, rib_of}
use Rattle.rib_head.proofs.Prefixes.{length-cleared}
use Rattle.rib_head.proofs.Heads.{met-carried, met_most}
use Rattle.rib_entries.proofs.Steps.{count-le, entry-met}
use Rattle.whole.proofs.HandedOut.{fits_below}
use Rattle.whole.specs.Run.{Given, entries_octets}
use Rattle.rib_begin.specs.Layout.{head_octets}
use Rattle.rib_begin.specs.Begin.{begin_rib}
use Rattle.rib_add.specs.Add.{open_of, length_only}
use Rattle.whole.specs.Run.{adds, opened, pushes, given_of, read_back, tidied}
use Rattle.octets.proofs.Parts.{length_part}
use Rattle.rib_begin.proofs.Sizes.{length-head}
use Rattle.rib_add.proofs.Opened.{Whole, whole-opened, open_whole}
use Rattle.whole.proofs.Seams.{Front, head_of, given_at, givens_at, givens_built, bits_at, entries-at, sequence-at, prefix-at}
use Rattle.whole.proofs.Seams.{cleared_again}
use Rattle.whole.proofs.Built.{body, state, body-split, length-body, Sound, Fitting, check_built, declared_built, passed_all}
use Rattle.whole.proofs.Runs.{AllTyped, typed_kept, Ran, Run, adds_from, run, pushes_fitting}
use Rattle.whole.proofs.Rebuilt.{within, length_givens, gs, length-entries, fitting_all, body_own, body-tidied}

-- an entry by its number is the entry where the ones before it end
module _ (s : List ℕ) (t : ℕ) (met : check_rib s t ≡ 0) where
  given_of_lem : (i : ℕ) → i < read_count s t → given_of s t i ≡ given_at (path_size t) s (passed (path_size t) s (entries_at s) i).at
  unfolding given_of given_at entry_here entry_end attributes_at read_count
  given_of_lem i h =
      let p : ℕ = path_size t in
      let at : ℕ = (passed p s (entries_at s) i).at in
      let l : i < declared s = omega (arith, count-le s t) in
      let m : at + (8 + p) + be_at s (at + (6 + p)) 2 - (at + (8 + p)) ≡ be_at s (at + (6 + p)) 2 = omega arith in
      rw (← entry-met s t met i l, (fits_below p s (entries_at s) (declared s) i h).0, m)

  pub read_back_lem : (n i : ℕ) → i + n ≤ read_count s t
      → read_back s t i n ≡ givens_at (path_size t) s (passed (path_size t) s (entries_at s) i).at n
  unfolding read_back givens_at read_count
  read_back_lem zero i h = refl
  read_back_lem (suc n) i h =
      rw (
        given_of_lem i (omega arith),
        read_back_lem n (suc i) (omega arith),
        (fits_below (path_size t) s (entries_at s) (declared s) i (omega arith)).1,
      )

-- the head that a prefix is written with
abbrev pub front_of : ℕ → ℕ → List ℕ → Front
front_of sequence bits prefix = record { sequence = sequence; bits = bits; octets = cleared bits prefix (prefix_size bits) }

-- a body that is begun
module _ (s : List ℕ) (t sequence bits : ℕ) (prefix : List ℕ) where
  pub record Begun : Type 0 where
    pub carries : carried t ≡ true
    pub few : bits ≤ most_bits t
    pub room : 7 + prefix_size bits ≤ length s

  pub sound_begun : Begun → Sound t (front_of sequence bits prefix)
  sound_begun a = record { carries = a.carries; few = a.few; full = length-cleared bits prefix (prefix_size bits) }

  pub begun : Begun
      → begin_rib s t sequence bits prefix ≡ length_only (state t (front_of sequence bits prefix) [] (drop (7 + prefix_size bits) s))
  unfolding begin_rib at_front state body entries_octets head_octets
  begun a =
      let x : List ℕ = head_octets sequence bits prefix 0 in
      let l : length x ≡ 7 + prefix_size bits = length-head sequence bits prefix 0 in
      rw (a.carries, le-ltb (most_bits t) bits a.few, append-nil x, l, le-leb (7 + prefix_size bits) (length s) a.room)

  pub begin_accepted : (begin_rib s t sequence bits prefix).number ≡ 0 → Begun
  unfolding begin_rib at_front
  begin_accepted z = by_tests (carried t) refl (ltb (most_bits t) bits) refl (leb (length head) (length s)) refl z
    where
      head : List ℕ
      head = head_octets sequence bits prefix 0

      by_tests : (a : Bool) → carried t ≡ a → (b : Bool) → ltb (most_bits t) bits ≡ b → (c : Bool) → leb (length head) (length s) ≡ c
          → (cond a (cond b (refuse 10 s) (cond c (
          record {
            number = 0;
            octets = length head;
            output = head ++ drop (length head) s;
          }) (refuse 9 s))) (refuse 6 s)).number ≡ 0
          → Begun
      by_tests true f false b true c z =
          let l = length-head sequence bits prefix 0 in
          let h = leb-true (length head) (length s) c in
          record { carries = f; few = ltb-false (most_bits t) bits b; room = omega arith }
      by_tests true f true b c e z = absurd (omega arith)
      by_tests true f false b false c z = absurd (omega arith)
      by_tests false f b e c g z = absurd (omega arith)

-- the body s reads as these values, and its entries are gs
pub record ReadsBack (s : List ℕ) (t sequence bits : ℕ) (prefix : List ℕ) (gs : List Given) : Type 0 where
  pub rib : rib_of s t
      ≡ record {
        number = 0;
        sequence = sequence;
        bits = bits;
        prefix = cleared bits prefix 16;
        declared = length gs;
        count = length gs;
        entries = 7 + prefix_size bits;
      }
  pub entries : read_back s t 0 (length gs) ≡ gs

-- a body put together reads back
module _ (t sequence bits : ℕ) (prefix : List ℕ) (w : Sound t (front_of sequence bits prefix)) (q : sequence < 4294967296)
    (o : Octets prefix)
    (gs : List Given) (k : Fitting t gs) where
  read_count_lem : read_count (body t (front_of sequence bits prefix) gs) t ≡ length gs
  unfolding read_count
  read_count_lem = let h : Front = front_of sequence bits prefix in rw (declared_built t h w gs k, passed_all t h w gs k, sub-zero)

  pub reads_built : ReadsBack (body t (front_of sequence bits prefix) gs) t sequence bits prefix gs
  unfolding rib_of passed head_octets
  reads_built =
      let h : Front = front_of sequence bits prefix in
      let s : List ℕ = body t h gs in
      let r : List ℕ = entries_octets (path_size t) gs in
      let e : s ≡ head_of h (length gs) ++ r = body-split t h gs in
      let c : check_rib s t ≡ 0 = check_built t h w gs k in
      let y : entries_at s ≡ length (head_of h (length gs)) = entries-at h (length gs) r w.full s e in
      record {
        rib =
            rw (
              eq-eqb (check_rib s t) 0 c,
              bits_at h (length gs) r w.full s e,
              sequence-at h (length gs) r w.full s e q,
              prefix-at h (length gs) r w.full s e,
              cleared_again bits prefix o,
              declared_built t h w gs k,
              read_count_lem,
              y,
              length-head sequence bits prefix (length gs),
            );
        entries =
            read_back_lem s t c (length gs) 0 (omega (arith, read_count_lem))
            ∙ rw y (givens_built (path_size t) gs (head_of h (length gs)) [] k.kept s (e ∙ sym (append-nil (head_of h (length gs) ++ r))));
      }

-- what is begun and then given the accepted entries gs
module _ (s : List ℕ) (t sequence bits : ℕ) (prefix : List ℕ) (gs : List Given) (y : AllTyped gs)
    (w : Writing) (e : w ≡ adds t (begin_rib s t sequence bits prefix) gs) (z : w.number ≡ 0) where
  -- leaves the body with its head and all of them
  record Left : Type 0 where
    sound : Sound t (front_of sequence bits prefix)
    fitting : Fitting t gs
    rest : List ℕ
    all : w ≡ length_only (state t (front_of sequence bits prefix) gs rest)

  left : Left
  left =
      let a : Begun s t sequence bits prefix =
      begin_accepted s t sequence bits prefix (adds_from t gs (begin_rib s t sequence bits prefix) (rw e at z)) in
      let h : Front = front_of sequence bits prefix in
      let sound : Sound t h = sound_begun s t sequence bits prefix a in
      let r : List ℕ = drop (7 + prefix_size bits) s in
      let none : Fitting t [] = record { kept = tt; count = omega arith } in
      let x : Run t h sound [] gs r = run t h sound gs [] r none y in
      let u : w ≡ length_only (pushes t (state t h [] r) gs) = rw (begun s t sequence bits prefix a) at e ∙ x.same in
      let v : Ran t h sound gs (pushes t (state t h [] r) gs) = x.ran (rw u at z) in
      record { sound = sound; fitting = v.fitting; rest = v.rest; all = u ∙ ap length_only v.all }

  pub length_of_build : length (take w.octets w.output) ≡ w.octets
  unfolding state
  length_of_build = rw (left.all, take-append_seam (body t (front_of sequence bits prefix) gs) left.rest)

  -- reads back as begun, with the entries gs
  pub read_of_build : sequence < 4294967296 → Octets prefix → ReadsBack (take w.octets w.output) t sequence bits prefix gs
  unfolding state
  read_of_build q o =
      rw (left.all, take-append_seam (body t (front_of sequence bits prefix) gs) left.rest)
      (reads_built t sequence bits prefix left.sound q o gs left.fitting)

-- a body that reads passes its check
pub read_checked : {s : List ℕ} {t sequence bits : ℕ} {prefix : List ℕ} {gs : List Given} → ReadsBack s t sequence bits prefix gs
    → check_rib s t ≡ 0
unfolding rib_of
read_checked {s} {t} b = by_test (eqb (check_rib s t) 0) refl
  where
    number_read : (rib_of s t).number ≡ 0
    number_read = ap (λ (r : Reading). r.number) b.rib

    by_test : (q : Bool) → eqb (check_rib s t) 0 ≡ q → check_rib s t ≡ 0
    by_test true e = eqb-true _ _ e
    by_test false e = rw e at number_read

-- a body with every declared entry and nothing after them is built again from what is read of it
module _ (s out : List ℕ) (t : ℕ) (o : Octets s) (z : (open_of s t).number ≡ 0) (b : length s ≤ length out) where
  whole : Whole s t
  whole = whole-opened s t z

  read_all : read_count s t ≡ declared s
  unfolding read_count
  read_all = let e = whole.left in omega arith

  begins : Begun out t (be_at s 0 4) (bits_of s) (prefix_at (bits_of s) s)
  begins =
      let m = within s t o whole in
      record { carries = met-carried s t whole.check; few = met_most s t whole.check; room = omega arith }

  -- the run of its entries
  built_again : adds t (begin_rib out t (be_at s 0 4) (bits_of s) (prefix_at (bits_of s) s)) (gs s t o whole)
      ≡ record { number = 0; octets = length s; output = tidied s ++ drop (length s) out }
  unfolding state
  built_again =
      let h : Front = front_of (be_at s 0 4) (bits_of s) (prefix_at (bits_of s) s) in
      let l : List Given = gs s t o whole in
      let n : ℕ = 7 + prefix_size (bits_of s) in
      let r : List ℕ = drop n out in
      let sound : Sound t h = sound_begun out t (be_at s 0 4) (bits_of s) (prefix_at (bits_of s) s) begins in
      let none : Fitting t [] = record { kept = tt; count = omega arith } in
      let k : Fitting t l = fitting_all s t o whole in
      let m = within s t o whole in
      let i = length-entries s t o whole in
      let j : length r ≡ length out - n = length-drop n out in
      let e : n + length (entries_octets (path_size t) l) ≡ length s = omega arith in
      let c = k.count in
      let f : length (body t h l) ≡ length s = length-body t h sound.full l ∙ e in
      rw (begun out t (be_at s 0 4) (bits_of s) (prefix_at (bits_of s) s) begins)
      ((run t h sound l [] r none (typed_kept t l k.kept)).same
      ∙ ap length_only (pushes_fitting t h sound l [] r tt k.kept (omega arith) (omega arith))
      ∙ rw (drop-drop (length (entries_octets (path_size t) l)) n out, e, f, body-tidied s t o whole))

  pub build_of_read :
      adds t (begin_rib out t (rib_of s t).sequence (rib_of s t).bits (rib_of s t).prefix) (read_back s t 0 (rib_of s t).count)
      ≡ record { number = 0; octets = length s; output = tidied s ++ drop (length s) out }
  unfolding rib_of passed gs
  build_of_read =
      let back : read_back s t 0 (declared s) ≡ gs s t o whole = read_back_lem s t whole.check (declared s) 0 (omega (arith, read_all)) in
      rw (eq-eqb (check_rib s t) 0 whole.check, read_all, back) built_again

-- pushing entries where the builder of an opened body stands is adding them to the body
module _ (s : List ℕ) (len t : ℕ) (b : len ≤ length s) (o : Octets (take len s)) (z : (open_of (take len s) t).number ≡ 0) where
  pub pushes_of_adds : (xs : List Given) → AllTyped xs
      → adds t (record { number = 0; octets = len; output = s }) xs ≡ length_only (pushes t (opened (open_of (take len s) t) s) xs)
  unfolding state count_at gs
  pushes_of_adds xs y =
      let r : List ℕ = take len s in
      let h : Front = record { sequence = be_at r 0 4; bits = bits_of r; octets = part r 5 (prefix_size (bits_of r)) } in
      let w : Whole r t = whole-opened r t z in
      let m = within r t o w in
      let e : body t h (gs r t o w) ≡ take len s = body_own r t o w in
      let l : length (take len s) ≡ len = length-take-le len s b in
      let f : length (part r 5 (prefix_size (bits_of r))) ≡ prefix_size (bits_of r) =
      length_part r 5 (prefix_size (bits_of r)) (omega arith) in
      let sound : Sound t h = record { carries = met-carried r t w.check; few = met_most r t w.check; full = f } in
      let n : length (gs r t o w) ≡ declared r = length_givens (path_size t) r o (declared r) (entries_at r) in
      let x = (run t h sound xs (gs r t o w) (drop len s) (fitting_all r t o w) y).same in
      rw (open_whole r t w, l) (rw (e, n, l, take-append-drop len s) at x)
