-- What a header's octets are, what stores leave of them, and what an accepted call has shown.
use Prim.Native.Nat.{ℕ, ◌+◌}
use mathlib.Core.Path.{◌≡◌, refl, ◌∙◌, ap}
use mathlib.Core.Bool.{Bool, true, false, cond}
use mathlib.Core.List.{List, [], ◌++◌, append-nil}
use lib.ListN.{length, drop, length-append}
use lib.Dec.{leb}
use native.Mathlib.Omega.{arith}
use Rattle.answer.specs.Writing.{at_front}
use Rattle.answer.proofs.Writers.{front_full, front_stored}
use Rattle.octets.specs.Octets.{bytes_of, patch}
use Rattle.octets.proofs.Numbers.{length_bytes}
use Rattle.octets.proofs.Stores.{stores}
use Rattle.header.specs.Kind.{known, timed, size}
use Rattle.header.specs.Write.{wire_of, common_octets, header_octets, unfit, write_header}
use Rattle.header.specs.declared.CommonHeader.{CommonHeader}
use Rattle.header.specs.declared.WireLength.{WireLength}
use Rattle.header.proofs.KnownTypes.{size-timed, size_plain}

module _ (h : CommonHeader) (w : WireLength) where
  pub length-common : length (common_octets h w) ≡ 12
  unfolding common_octets bytes_of
  length-common = refl

  -- the four stores of the common fields
  pub common_stored : (s : List ℕ) {a b c d : List ℕ} → a ≡ patch s 0 (bytes_of 4 h.timestamp) → b ≡ patch a 4 (bytes_of 2 h.kind)
      → c ≡ patch b 6 (bytes_of 2 h.subtype) → d ≡ patch c 8 (bytes_of 4 w.0) → d ≡ patch s 0 (common_octets h w)
  unfolding common_octets
  common_stored s p q r t =
      let time = bytes_of 4 h.timestamp in
      let kind = bytes_of 2 h.kind in
      let sub = bytes_of 2 h.subtype in
      let four : length time ≡ 4 = length_bytes 4 h.timestamp in
      let six : length (time ++ kind) ≡ 6 = length-append time kind ∙ simp (four, length_bytes 2 h.kind) in
      let eight : length (time ++ kind ++ sub) ≡ 8 = length-append (time ++ kind) sub ∙ simp (six, length_bytes 2 h.subtype) in
      stores s 0 8 (time ++ kind ++ sub) (bytes_of 4 w.0) eight
      (stores s 0 6 (time ++ kind) sub six (stores s 0 4 time kind four p q) r) t

module _ (h : CommonHeader) where
  pub length-header : length (header_octets h) ≡ size h.kind
  unfolding header_octets
  length-header = length-append (common_octets h (wire_of h)) _ ∙ by_test (timed h.kind) refl
    where
      by_test : (t : Bool) → timed h.kind ≡ t
          → length (common_octets h (wire_of h)) + length (cond t (bytes_of 4 h.micros) []) ≡ size h.kind
      by_test true e = simp (length-common h (wire_of h), length_bytes 4 h.micros, size-timed h.kind e)
      by_test false e = simp (length-common h (wire_of h), size_plain h.kind e)

  pub timed-octets : timed h.kind ≡ true → common_octets h (record { 0 = h.length.0 + 4 }) ++ bytes_of 4 h.micros ≡ header_octets h
  unfolding header_octets wire_of
  timed-octets i = simp i

  pub plain_octets : timed h.kind ≡ false → common_octets h (record { 0 = h.length.0 }) ≡ header_octets h
  unfolding header_octets wire_of
  plain_octets i = simp (i, append-nil)

  -- t is the output after the common fields, and u after the microseconds
  pub timed_stored : timed h.kind ≡ true → (s : List ℕ) {t u : List ℕ} → t ≡ patch s 0 (common_octets h (record { 0 = h.length.0 + 4 }))
      → u ≡ patch t 12 (bytes_of 4 h.micros) → u ≡ patch s 0 (header_octets h)
  timed_stored i s p q =
      let w : WireLength = record { 0 = h.length.0 + 4 } in
      stores s 0 12 (common_octets h w) (bytes_of 4 h.micros) (length-common h w) p q ∙ ap (patch s 0) (timed-octets i)

  -- what an accepted call has shown, and leaves
  pub record Accepted (s : List ℕ) : Type 0 where
    pub known_type : known h.kind ≡ true
    pub fits : unfit h ≡ false
    pub all : write_header s h
        ≡ record { number = 0; octets = length (header_octets h); output = header_octets h ++ drop (length (header_octets h)) s }

  pub write_accepted : (s : List ℕ) → (write_header s h).number ≡ 0 → Accepted s
  unfolding write_header at_front
  write_accepted s z = by_tests (known h.kind) (unfit h) (leb (length (header_octets h)) (length s)) refl refl refl z
    where
      by_tests : (a b c : Bool) → known h.kind ≡ a → unfit h ≡ b → leb (length (header_octets h)) (length s) ≡ c
          → (write_header s h).number ≡ 0 → Accepted s
      by_tests false b c n f l z = absurd (let y : ◌≡◌ {A = ℕ} 2 0 = rw n at z in omega arith)
      by_tests true true c n f l z = absurd (let y : ◌≡◌ {A = ℕ} 10 0 = rw (n, f) at z in omega arith)
      by_tests true false false n f l z = absurd (let y : ◌≡◌ {A = ℕ} 9 0 = rw (n, f, l) at z in omega arith)
      by_tests true false true n f l z = record { known_type = n; fits = f; all = rw (n, f, l) }

-- what the check asks of the writer, for both sizes
pub ruleset front = (front_full, front_stored, length-header, timed_stored, plain_octets, size-timed, size_plain)
