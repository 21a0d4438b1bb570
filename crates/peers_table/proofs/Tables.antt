-- The body's check: where the peers end, and what the check answers in each case.
use Prim.Native.Nat.{ℕ, zero, suc, ◌+◌, ◌-◌, ◌<◌, ◌≤◌}
use mathlib.Core.Path.{◌≡◌, refl, sym, ◌∙◌, ap}
use mathlib.Core.List.{List}
use mathlib.Core.Bool.{Bool, true, false}
use native.Mathlib.Nat.{zero-add, suc-add}
use native.Mathlib.Numerals.{add-one}
use native.Mathlib.Omega.{arith}
use borrow.Author.Tests.{le-leb, lt-leb, leb-true}
use lib.Dec.{leb}
use lib.ListN.{length, get_or}
use Rattle.octets.specs.Octets.{be_at}
use Rattle.peers_entry.specs.Peer.{peer_size}
use Rattle.peers_table.specs.Table.{refused, end_at, name_length, peer_count, first_peer, last_end, check_peers}

-- ---- where peers end
module _ (s : List ℕ) (at : ℕ) where
  pub end_none : at ≡ end_at s at 0
  unfolding end_at
  end_none = refl

  pub end_more : (n : ℕ) → end_at s at n + peer_size (get_or s (end_at s at n) 0) ≡ end_at s at (n + 1)
  unfolding end_at
  end_more n = rw add-one

  pub end_turn : {p z : ℕ} (n : ℕ) → p ≡ end_at s at n → z ≡ peer_size (get_or s p 0) → p + z ≡ end_at s at (n + 1)
  end_turn n e f = rw (f, e) (end_more n)

  -- one more peer ends no earlier, nor do k more
  end_on : (n k : ℕ) → end_at s at n ≤ end_at s at (k + n)
  unfolding end_at
  end_on n zero = rw zero-add (omega arith)
  end_on n (suc k) = let h : end_at s at n ≤ end_at s at (k + n) = end_on n k in rw suc-add (omega arith)

  pub end-le : (n m : ℕ) → n ≤ m → end_at s at n ≤ end_at s at m
  end-le n m h = let e : m - n + n ≡ m = omega arith in rw e at (end_on n (m - n))

-- ---- the check
module _ (s : List ℕ) where
  name_is : name_length s ≡ be_at s 4 2
  unfolding name_length
  name_is = refl

  first_is : first_peer s ≡ 8 + name_length s
  unfolding first_peer
  first_is = refl

  last_is : last_end s ≡ end_at s (first_peer s) (peer_count s)
  unfolding last_end
  last_is = refl

  pub count_at_lem : {l c : ℕ} → l ≡ be_at s 4 2 → c ≡ be_at s (6 + l) 2 → c ≡ peer_count s
  unfolding peer_count name_length
  count_at_lem l e = e ∙ rw l

  pub first-at : {l : ℕ} → l ≡ be_at s 4 2 → 8 + l ≡ first_peer s
  unfolding first_peer name_length
  first-at l = rw l

  -- n peers end no later than all that are declared
  within : (n : ℕ) → n ≤ peer_count s → end_at s (first_peer s) n ≤ last_end s
  within n h = rw last_is (end-le s (first_peer s) n (peer_count s) h)

  head-within : first_peer s ≤ last_end s
  head-within = let h : end_at s (first_peer s) 0 ≤ last_end s = within 0 (omega arith) in omega (arith, end_none s (first_peer s))

  over : length s < last_end s → refused 7 ≡ check_peers s
  unfolding check_peers
  over h = simp (lt-leb _ _ h)

  pub short_head : length s < 8 → refused 7 ≡ check_peers s
  short_head h = over (omega (arith, head-within, first_is))

  pub short_name : {l : ℕ} → l ≡ be_at s 4 2 → 8 ≤ length s → length s - 8 < l → refused 7 ≡ check_peers s
  short_name l h k = over (omega (arith, head-within, first_is, name_is))

  pub short_peer : {p z i n : ℕ} → n ≡ peer_count s → i < n → p ≡ end_at s (first_peer s) i → z ≡ peer_size (get_or s p 0) → p ≤ length s
      → length s - p < z → refused 7 ≡ check_peers s
  short_peer {p} {z} {i} {n} c h e f l k =
      let t : p + z ≡ end_at s (first_peer s) (i + 1) = end_turn s (first_peer s) i e f in
      let w : end_at s (first_peer s) (i + 1) ≤ last_end s = within (i + 1) (omega arith) in
      over (omega arith)

  pub held : {c l n f e i : ℕ} → c ≡ be_at s 0 4 → l ≡ be_at s 4 2 → n ≡ peer_count s → f ≡ first_peer s → e ≡ end_at s (first_peer s) i
      → i ≤ n
      → n ≤ i → e ≤ length s
      → record { number = 0; collector = c; name = 6; length = l; count = n; first = f; end = e } ≡ check_peers s
  unfolding check_peers name_length
  held {c} {l} {n} {f} {e} {i} hc hl hn hf he u v h =
      let ends : e ≡ last_end s = he ∙ ap (end_at s (first_peer s)) (let z : i ≡ n = omega arith in z ∙ hn) ∙ sym last_is in
      let fits : last_end s ≤ length s = omega arith in
      rw (hc, hl, hn, hf, ends) (simp (le-leb _ _ fits))

-- ---- a body that passed: each declared peer ends inside it
module _ (s : List ℕ) (i : ℕ) where
  pub held-within : i < (check_peers s).count → end_at s (check_peers s).first (i + 1) ≤ length s
  unfolding check_peers
  held-within = case (leb (last_end s) (length s)) refl
    where
      case : (t : Bool) → leb (last_end s) (length s) ≡ t → i < (check_peers s).count → end_at s (check_peers s).first (i + 1) ≤ length s
      case true e = simp e (λ h. let w : end_at s (first_peer s) (i + 1) ≤ last_end s = within s (i + 1) (omega arith) in
          omega (arith, leb-true (last_end s) (length s) e))
      case false e = simp e (λ h. absurd (omega arith))
