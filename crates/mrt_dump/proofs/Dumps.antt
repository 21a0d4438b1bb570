-- What an exported read of a TABLE_DUMP body is in each of its cases.
use Prim.Native.Nat.{ℕ, ◌<◌, ◌≤◌}
use mathlib.Core.Path.{◌≡◌, refl, sym, ◌∙◌, ap}
use mathlib.Core.Bool.{Bool, true, false}
use mathlib.Core.List.{List}
use lib.ListN.{length}
use lib.Dec.{eqb}
use borrow.Author.Tests.{le-leb, lt-leb}
use Rattle.std.specs.Prelude.{Ok, Err}
use Rattle.answer.specs.Refusal.{number_of}
use Rattle.answer.specs.declared.Refusal.{Refusal}
use Rattle.answer.proofs.Refusals.{number_refusal}
use Rattle.octets.specs.Octets.{patch}
use Rattle.octets_address.specs.Address.{size_of, address_size, put_address}
use Rattle.octets_address.proofs.Addresses.{address_le, length_address, put_sixteen}
use Rattle.dump_layout.specs.Layout.{dump_at}
use Rattle.dump_layout.specs.Check.{check_dump}
use Rattle.dump_read.specs.Read.{Reading, reading, dump_of}
use Rattle.dump_read.specs.declared.DumpRead.{DumpRead}
use Rattle.mrt_dump.specs.Bodies.{dump_values, dump_out}

-- addresses that are read have 16 octets
module _ (s : List ℕ) (u : ℕ) where
  both : (length (dump_of s u).dump.prefix ≡ 16) × (length (dump_of s u).dump.peer ≡ 16)
  unfolding dump_of dump_at
  both = by_check (eqb (check_dump s u) 0) refl
    where
      by_check : (b : Bool) → eqb (check_dump s u) 0 ≡ b → (length (dump_of s u).dump.prefix ≡ 16) × (length (dump_of s u).dump.peer ≡ 16)
      by_check true h = simp h (length_address s _ (address_size u) (address_le u), length_address s _ (address_size u) (address_le u))
      by_check false h = simp h (refl, refl)

  pub length_read_prefix : (r : DumpRead) → reading (Ok r) ≡ dump_of s u → 16 ≡ length r.dump.prefix
  length_read_prefix r e = sym (ap (λ (x : Reading). length x.dump.prefix) e ∙ both.0)

  pub length_read_peer : (r : DumpRead) → reading (Ok r) ≡ dump_of s u → 16 ≡ length r.dump.peer
  length_read_peer r e = sym (ap (λ (x : Reading). length x.dump.peer) e ∙ both.1)

-- a body that is read as x
module _ (out prefix peer : List ℕ) {x : Reading} where
  pub dump-refused : (q : Refusal) {n : ℕ} → reading (Err q) ≡ x → n ≡ number_of q → (out, (prefix, (peer, n))) ≡ dump_out out prefix peer x
  unfolding dump_out
  dump-refused q {n} e returned = rw (← e) (simp (number_refusal q, returned))

  module _ (r : DumpRead) (e : reading (Ok r) ≡ x) where
    -- too few places
    pub dump_full : length out < 8 → (out, (prefix, (peer, 9))) ≡ dump_out out prefix peer x
    unfolding dump_out
    dump_full h = rw (← e) (simp (lt-leb _ _ h))

    module _ (l : 8 ≤ length out) where
      -- too little room for the prefix
      pub dump_cramped : length prefix < 16 → (out, (prefix, (peer, 9))) ≡ dump_out out prefix peer x
      unfolding dump_out
      dump_cramped h = rw (← e) (simp (le-leb _ _ l, lt-leb _ _ h))

      module _ (m : 16 ≤ length prefix) where
        -- too little room for the peer's address
        pub dump_narrow : length peer < 16 → (out, (prefix, (peer, 9))) ≡ dump_out out prefix peer x
        unfolding dump_out
        dump_narrow h = rw (← e) (simp (le-leb _ _ l, le-leb _ _ m, lt-leb _ _ h))

        pub dump-stored : 16 ≤ length peer → 16 ≡ length r.dump.prefix → 16 ≡ length r.dump.peer → {t u v : List ℕ}
            → t ≡ patch out 0 (dump_values (reading (Ok r))) → u ≡ put_address prefix 0 r.dump.prefix (size_of true)
            → v ≡ put_address peer 0 r.dump.peer (size_of true) → (t, (u, (v, 0))) ≡ dump_out out prefix peer x
        unfolding dump_out
        dump-stored h i j p q w =
            let f = q ∙ put_sixteen prefix r.dump.prefix m i in
            let g = w ∙ put_sixteen peer r.dump.peer h j in
            rw (← e) (simp (le-leb _ _ l, le-leb _ _ m, le-leb _ _ h, p, f, g))
