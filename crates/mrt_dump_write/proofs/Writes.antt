-- What a body written across the boundary is in each of its cases.
use Prim.Native.Nat.{ℕ, ◌<◌, ◌≤◌}
use mathlib.Core.Path.{◌≡◌, ◌∙◌}
use mathlib.Core.List.{List}
use lib.ListN.{length}
use borrow.Author.Tests.{le-leb, lt-leb}
use Rattle.answer.specs.Writing.{Writing, refuse}
use Rattle.dump_write.specs.Write.{write_dump}
use Rattle.mrt_lent.specs.Export.{sixteen_of}
use Rattle.mrt_dump_write.specs.Write.{write_from}

module _ (s : List ℕ) (u view sequence : ℕ) (prefix : List ℕ) (bits status originated : ℕ) (peer : List ℕ) (asn : ℕ)
    (attributes : List ℕ) where
  -- too short a prefix
  pub write_short : length prefix < 16 → refuse 8 s ≡ write_from s u view sequence prefix bits status originated peer asn attributes
  unfolding write_from
  write_short h = simp (lt-leb _ _ h)

  module _ (l : 16 ≤ length prefix) where
    -- too short an address
    pub write_narrow : length peer < 16 → refuse 8 s ≡ write_from s u view sequence prefix bits status originated peer asn attributes
    unfolding write_from
    write_narrow h = simp (le-leb _ _ l, lt-leb _ _ h)

    -- what is written with the octets p and q of the two
    pub write_whole : 16 ≤ length peer → {p q : List ℕ} {w : Writing} → p ≡ sixteen_of prefix → q ≡ sixteen_of peer
        →
        w ≡ write_dump s u
        (record {
          view = view;
          sequence = sequence;
          prefix = p;
          bits = bits;
          status = status;
          originated = originated;
          peer = q;
          asn = asn;
        })
        attributes
        → w ≡ write_from s u view sequence prefix bits status originated peer asn attributes
    unfolding write_from
    write_whole h e f w = w ∙ rw (e, f, le-leb 16 (length prefix) l, le-leb 16 (length peer) h)
