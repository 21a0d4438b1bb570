-- What every header has, and what the frame's definition is in each of its cases.
use Prim.Native.Nat.{ℕ, ◌+◌, ◌-◌, ◌<◌, ◌≤◌}
use mathlib.Core.Path.{◌≡◌, refl, sym, ◌∙◌, ap}
use mathlib.Core.Bool.{Bool, true, false}
use mathlib.Core.List.{List}
use native.Mathlib.Omega.{arith}
use lib.ListN.{length, drop, length-drop}
use lib.Dec.{ltb, eqb}
use borrow.Author.Tests.{lt-ltb, le-ltb, ltb-true, ltb-false, le-leb, lt-leb, eq-eqb, ne_eqb, eqb-false}
use Rattle.rules.specs.Ask.{over}
use Rattle.rules.proofs.Asked.{over_bind}
use Rattle.rules.proofs.Meets.{Meets, meets_cond, meets_bind, meets_over}
use Rattle.header.specs.Kind.{known, timed, size}
use Rattle.header.specs.Read.{Heading, refused, accepted, header, header_at}
use Rattle.header.specs.Frame.{Framing, unframed, framed, frame, frame_of, frame_at}
use Rattle.header.proofs.KnownTypes.{size-timed, size_plain}

-- a header that is read is there whole, its type is known, and its wire length counts all octets after the first twelve; only
-- refusal 1 is for want of octets
pub record HeaderOk (b : Bool) (m : ℕ) (h : Heading) : Type 0 where
  pub whole : h.number ≡ 0 → size h.kind ≤ m
  pub counted : h.number ≡ 0 → size h.kind + h.stored ≡ 12 + h.wire
  pub known_type : h.number ≡ 0 → known h.kind ≡ true
  pub most : h.number ≤ 3
  pub all_there : (h.number ≡ 1 → ⊥) → b ≡ false

module _ {b : Bool} {m : ℕ} where
  header_refused : (n : ℕ) → 1 ≤ n → n ≤ 3 → ((n ≡ 1 → ⊥) → b ≡ false) → HeaderOk b m (refused n)
  header_refused n l h there =
      record {
        whole = λ z. absurd (omega arith);
        counted = λ z. absurd (omega arith);
        known_type = λ z. absurd (omega arith);
        most = h;
        all_there = there;
      }

header_read : (m : ℕ) (h : Heading) → h.number ≡ 0 → size h.kind ≤ m → size h.kind + h.stored ≡ 12 + h.wire
    → known h.kind ≡ true → HeaderOk false m h
header_read m h z l w k = record { whole = λ y. l; counted = λ y. w; known_type = λ y. k; most = omega arith; all_there = λ y. refl }

pub header_ok : Meets HeaderOk false 0 header
unfolding header
header_ok = (
  (
    omega arith,
    λ t. (
      omega arith,
      λ k. (
        omega arith,
        λ u. (
          omega arith,
          λ w.
              meets_cond HeaderOk (known k) false 12 _ _
              (λ e. meets_cond HeaderOk (timed k) false 12 _ _
              (λ i. meets_cond HeaderOk (ltb w 4) false 12 _ _
              (λ l. header_refused 3 (omega arith) (omega arith) (λ z. refl))
              (λ l. (
                (
                  omega arith,
                  λ us.
                      let y = size-timed k i in
                      let g = ltb-false w 4 l in
                      header_read 16 _ refl (omega arith) (omega arith) e,
                ),
                λ n d. header_refused 1 (omega arith) (omega arith) (λ z. absurd (z refl)),
              )))
              (λ i. let y = size_plain k i in header_read 12 _ refl (omega arith) (omega arith) e))
              (λ e. header_refused 2 (omega arith) (omega arith) (λ z. refl)),
        ),
      ),
    ),
  ),
  λ n d. header_refused 1 (omega arith) (omega arith) (λ z. absurd (z refl)),
)

-- a record that is framed at an offset lies there whole, its type is known, and its end is where the wire length says, with
-- microseconds or without; only refusals 1 and 4 are for want of octets
pub record FrameOk (at : ℕ) (b : Bool) (m : ℕ) (f : Framing) : Type 0 where
  pub known_type : f.head.number ≡ 0 → known f.head.kind ≡ true
  pub most : f.head.number ≤ 4
  pub body : f.head.number ≡ 0 → f.body ≡ at + size f.head.kind
  pub end : f.head.number ≡ 0 → f.end ≡ at + (size f.head.kind + f.head.stored)
  pub own-end : f.head.number ≡ 0 → f.end ≡ at + (12 + f.head.wire)
  pub room : f.head.number ≡ 0 → size f.head.kind + f.head.stored ≤ m
  pub all_there : (f.head.number ≡ 1 → ⊥) → (f.head.number ≡ 4 → ⊥) → b ≡ false

frame-none : (at : ℕ) (b : Bool) (m n : ℕ) → 1 ≤ n → n ≤ 4 → ((n ≡ 1 → ⊥) → (n ≡ 4 → ⊥) → b ≡ false) → FrameOk at b m (unframed n)
frame-none at b m n l h there =
    record {
      known_type = λ z. absurd (omega arith);
      most = h;
      body = λ z. absurd (omega arith);
      end = λ z. absurd (omega arith);
      own-end = λ z. absurd (omega arith);
      room = λ z. absurd (omega arith);
      all_there = there;
    }

framed_ok : (at : ℕ) (b : Bool) (m : ℕ) (h : Heading) → HeaderOk b m h → Meets (FrameOk at) b m (framed at h)
unfolding framed
framed_ok at b m h o =
    let u = o.most in
    meets_cond (FrameOk at) (eqb h.number 0) b m _ _
    (λ e. (
      record {
        known_type = o.known_type;
        most = omega arith;
        body = λ y. refl;
        end = λ y. refl;
        own-end = λ y. ap (λ (n : ℕ). at + n) (o.counted y);
        room = λ y. omega arith;
        all_there = λ x y. o.all_there x;
      },
      λ n d. frame-none at true n 4 (omega arith) (omega arith) (λ x y. absurd (y refl)),
    ))
    (λ e. let z = eqb-false h.number 0 e in frame-none at b m h.number (omega arith) (omega arith) (λ x y. o.all_there x))

pub frame_ok : (at : ℕ) → Meets (FrameOk at) false 0 (frame at)
unfolding frame
frame_ok at = meets_bind (FrameOk at) HeaderOk (framed at) (framed_ok at) false 0 header header_ok

module _ (s : List ℕ) (at : ℕ) where
  -- the frame of a header h, by what is left
  module _ (h : Heading) where
    pub of_beyond : length s < at → unframed 8 ≡ frame_of s at h
    unfolding frame_of
    of_beyond l = simp (lt-ltb _ _ l)

    module _ (l : at ≤ length s) where
      pub of_within : over (drop at s) (framed at h) ≡ frame_of s at h
      unfolding frame_of
      of_within = simp (le-ltb _ _ l)

      module _ (e : h.number ≡ 0) {z : ℕ} (i : z ≡ size h.kind) where
        pub of_cut : length s - at < z + h.stored → unframed 4 ≡ frame_of s at h
        unfolding framed over
        of_cut m =
            let g : length (drop at s) < size h.kind + h.stored = rw length-drop (omega arith) in
            rw (← of_within, eq-eqb h.number 0 e, lt-leb _ _ g)

        pub of_whole : z + h.stored ≤ length s - at → record { head = h; body = at + z; end = at + (z + h.stored) } ≡ frame_of s at h
        unfolding framed over
        of_whole m =
            let g : size h.kind + h.stored ≤ length (drop at s) = rw length-drop (omega arith) in
            rw (← of_within, eq-eqb h.number 0 e, le-leb _ _ g, i)

  -- the frame by the header that was read
  frame_of_lem : at ≤ length s → frame_of s at (header_at s at) ≡ frame_at s at
  unfolding frame_at frame header_at
  frame_of_lem l = rw (← of_within (header_at s at) l) (simp (le-ltb _ _ l) (sym (over_bind (drop at s) (framed at) header)))

  -- an offset is beyond the stream or not
  by_place : {A : Type 0} → (length s < at → A) → (at ≤ length s → A) → A
  by_place {A} f g = by_test (ltb (length s) at) refl
    where
      by_test : (t : Bool) → ltb (length s) at ≡ t → A
      by_test true e = f (ltb-true _ _ e)
      by_test false e = g (ltb-false _ _ e)

  module _ (n : ℕ) (z : n ≡ 0 → ⊥) (e : refused n ≡ header_at s at) where
    refused_beyond : length s < at → unframed n ≡ frame_at s at
    unfolding frame_at header_at
    refused_beyond l =
        let q : refused n ≡ refused 8 = e ∙ simp (lt-ltb _ _ l) in
        simp (lt-ltb _ _ l) (ap (λ (h : Heading). unframed h.number) q)

    refused-within : at ≤ length s → unframed n ≡ frame_at s at
    unfolding framed over
    refused-within l = rw (← frame_of_lem l, ← e, ← of_within (refused n) l, ne_eqb n 0 z)

    pub frame_refused : unframed n ≡ frame_at s at
    frame_refused = by_place refused_beyond refused-within

  -- a header that was read at the offset
  module _ {t k u w stored us : ℕ} (e : accepted t k u w stored us ≡ header_at s at) where
    not_beyond : length s < at → ⊥
    unfolding header_at
    not_beyond l =
        let q : accepted t k u w stored us ≡ refused 8 = e ∙ simp (lt-ltb _ _ l) in
        let z : ◌≡◌ {A = ℕ} 0 8 = ap (λ (h : Heading). h.number) q in
        omega arith

    pub read_within : at ≤ length s
    read_within = by_place (λ l. absurd (not_beyond l)) (λ l. l)

    pub frame_read : frame_of s at (accepted t k u w stored us) ≡ frame_at s at
    frame_read = rw (← frame_of_lem read_within, ← e)

  -- a record that was framed at the offset
  module _ (f : Framing) (e : f ≡ frame_at s at) (z : f.head.number ≡ 0) where
    unframed-not : length s < at → ⊥
    unfolding frame_at
    unframed-not l =
        let q : f ≡ unframed 8 = e ∙ simp (lt-ltb _ _ l) in
        let y : f.head.number ≡ 8 = ap (λ (x : Framing). x.head.number) q in
        omega arith

    pub framed-within : at ≤ length s
    framed-within = by_place (λ l. absurd (unframed-not l)) (λ l. l)

    -- it is the frame of what is left from the offset on
    pub framed-left : f ≡ over (drop at s) (frame at)
    unfolding frame_at
    framed-left = e ∙ simp (le-ltb _ _ framed-within)

    -- where its body starts and ends
    pub record Placed : Type 0 where
      pub body : f.body ≡ at + size f.head.kind
      pub end : f.end ≡ at + (size f.head.kind + f.head.stored)
      pub own-end : f.end ≡ at + (12 + f.head.wire)
      pub room : f.end ≤ length s

    pub framed-placed : Placed
    framed-placed =
        let o = meets_over (FrameOk at) (drop at s) false 0 (frame at) (omega arith) (frame_ok at) in
        let h : FrameOk at o.met o.bytes f = rw framed-left o.holds in
        let w = o.within in
        let d = length-drop at s in
        let l = framed-within in
        let r = h.room z in
        let i = h.end z in
        record { body = h.body z; end = i; own-end = h.own-end z; room = omega arith }
