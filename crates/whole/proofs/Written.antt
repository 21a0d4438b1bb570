-- A header and a body that the calls wrote are one record: the body passes its check, the record is judged fit, and its body reads back.
use Prim.Native.Nat.{ℕ, ◌+◌, ◌-◌, ◌^◌, ◌<◌, ◌≤◌}
use mathlib.Core.Path.{◌≡◌, refl, sym, ◌∙◌, ap}
use mathlib.Core.Bool.{true, true≢false}
use mathlib.Core.List.{List, [], ◌∷◌, ◌++◌, append_assoc, append-nil}
use native.Mathlib.Omega.{arith}
use lib.ListN.{length, take, drop, length-append, take-append-drop}
use lib.Seq.{take-append_seam, take_at, length-take-le}
use Rattle.answer.specs.Writing.{Writing}
use Rattle.octets.specs.Octets.{part, Octets}
use Rattle.rules.specs.Ask.{over}
use Rattle.header.specs.Write.{header_octets, write_header}
use Rattle.header.specs.Back.{InWidth}
use Rattle.header.specs.declared.CommonHeader.{CommonHeader}
use Rattle.header.proofs.Writing.{write_accepted}
use Rattle.peers_entry.specs.declared.Peer.{Peer}
use Rattle.peers_table.specs.Table.{Heading}
use Rattle.peers_write.specs.Write.{write_peers}
use Rattle.rib_head.specs.Layout.{ipv4, ipv6, carried}
use Rattle.rib_head.specs.Head.{check_rib}
use Rattle.rib_head.proofs.Heads.{met-carried}
use Rattle.rib_begin.specs.Begin.{begin_rib}
use Rattle.whole.specs.Run.{Given, adds}
use Rattle.whole.proofs.Runs.{AllTyped}
use Rattle.whole.proofs.PeerTables as tables
use Rattle.whole.proofs.PeerTables.{Fitting, load_checked, right_of_write, length_of_write, read_of_body}
use Rattle.whole.proofs.RibBodies as ribs
use Rattle.whole.proofs.RibBodies.{length_of_build, read_of_build, read_checked}
use Rattle.dump_layout.specs.declared.Dump.{Dump}
use Rattle.dump_write.specs.Write.{write_dump}
use Rattle.whole.proofs.TableDumps as dumps
use Rattle.walk.specs.Judged.{fit}
use Rattle.walk_judge.specs.Body.{check}
use Rattle.walk_judge.specs.Record.{judge_at}
use Rattle.walk_judge.proofs.Bodies.{dump-rib, dump-peers, check-dump, check-dump_v2}
use Rattle.whole.specs.Stream.{Whole, Proper, AllProper, record_octets, stream, headed, placed}
use Rattle.whole.proofs.Records.{body_there, judged_there}

-- the body that a writer wrote
abbrev pub wrote_body : Writing → List ℕ
wrote_body w = take w.octets w.output

-- ---- any body
-- the record r stands at p of the stream s: it is judged fit there, and its body reads as it should
pub record Stands (s : List ℕ) (p : ℕ) (r : Whole) (Reads : List ℕ → Type 0) : Type 0 where
  pub proper : Proper r
  pub judged : over s (judge_at p) ≡ fit (placed p r)
  pub reads : Reads (part s (placed p r).body ((placed p r).end - (placed p r).body))

-- records, and one more at the end
stream_snoc : (rs : List Whole) (r : Whole) → stream (rs ++ (r ∷ [])) ≡ stream rs ++ record_octets r
unfolding stream
stream_snoc [] r = append-nil (record_octets r)
stream_snoc (x ∷ rs) r = rw (stream_snoc rs r) (sym (append_assoc (record_octets x) (stream rs) (record_octets r)))

proper_snoc : (rs : List Whole) (r : Whole) → AllProper rs → Proper r → AllProper (rs ++ (r ∷ []))
proper_snoc [] r ok p = (p, tt)
proper_snoc (x ∷ rs) r ok p = (ok.0, proper_snoc rs r ok.1 p)

-- the first octets of an output, as many as are used, are these records one after another
pub record Holds (rs : List Whole) (used : ℕ) (output : List ℕ) : Type 0 where
  pub proper : AllProper rs
  pub within : used ≤ length output
  pub front : take used output ≡ stream rs

pub holds_none : (output : List ℕ) → Holds [] 0 output
unfolding stream
holds_none output = record { proper = tt; within = omega arith; front = refl }

-- the header is accepted and stores the length of the body that was written, which passes its check. Each writer may have been given any
-- output: the body's may be what is left of the header's own.
pub record Matches (o : List ℕ) (h : CommonHeader) (b : Writing) : Type 0 where
  pub widths : InWidth h
  pub accepted : (write_header o h).number ≡ 0
  pub stored : h.length.0 ≡ b.octets
  pub full : length (wrote_body b) ≡ b.octets
  pub passes : check h.kind h.subtype b.octets (wrote_body b) ≡ 0

module _ (o : List ℕ) (h : CommonHeader) (b : Writing) (fits : Matches o h b) where
  abbrev whole : Whole
  whole = record { header = h; body = wrote_body b }

  proper_written : Proper whole
  proper_written =
      let a = write_accepted h o fits.accepted in
      record {
        widths = fits.widths;
        known_type = a.known_type;
        fits = a.fits;
        long = fits.full ∙ sym fits.stored;
        passes = rw fits.stored fits.passes;
      }

  octets_written : headed (write_header o h) b ≡ record_octets whole ++ drop b.octets b.output
  octets_written =
      rw ((write_accepted h o fits.accepted).all, take-append_seam (header_octets h) (drop (length (header_octets h)) o))
      (sym (append_assoc (header_octets h) (wrote_body b) (drop b.octets b.output)
      ∙ ap (λ (x : List ℕ). header_octets h ++ x) (take-append-drop b.octets b.output)))

  -- THEOREM. A header and a body that passes, written one after the other, are one record wherever they stand.
  pub stands_written : {Reads : List ℕ → Type 0} → Reads (wrote_body b) → (pre : List ℕ)
      → Stands (pre ++ headed (write_header o h) b) (length pre) whole Reads
  stands_written reads pre =
      let rest : List ℕ = drop b.octets b.output in
      let s : List ℕ = pre ++ headed (write_header o h) b in
      let e : s ≡ pre ++ record_octets whole ++ rest = rw octets_written (sym (append_assoc pre (record_octets whole) rest)) in
      record {
        proper = proper_written;
        judged = judged_there pre whole rest s e proper_written;
        reads = rw (body_there pre whole rest s e) reads;
      }

  -- THEOREM. Written after records that fill the front of an output, they are one record more.
  pub holds_written : (rs : List Whole) (used : ℕ) (output : List ℕ) → Holds rs used output
      → Holds (rs ++ (whole ∷ [])) (used + ((write_header o h).octets + b.octets)) (take used output ++ headed (write_header o h) b)
  holds_written rs used output k =
      let f : List ℕ = take used output in
      let r : List ℕ = record_octets whole in
      let rest : List ℕ = drop b.octets b.output in
      let n : ℕ = used + ((write_header o h).octets + b.octets) in
      let e : f ++ headed (write_header o h) b ≡ f ++ r ++ rest = rw octets_written (sym (append_assoc f r rest)) in
      let u : length f ≡ used = length-take-le used output k.within in
      let v : (write_header o h).octets ≡ length (header_octets h) =
      ap (λ (x : Writing). x.octets) (write_accepted h o fits.accepted).all in
      let w : length (wrote_body b) ≡ b.octets = fits.full in
      let i : length r ≡ length (header_octets h) + length (wrote_body b) = length-append (header_octets h) (wrote_body b) in
      let l : length (f ++ r) ≡ n = length-append f r ∙ omega arith in
      let m : length (f ++ r ++ rest) ≡ length (f ++ r) + length rest = length-append (f ++ r) rest in
      record {
        proper = proper_snoc rs whole k.proper proper_written;
        within = rw e (omega arith);
        front = ap (take n) e ∙ take_at (f ++ r) rest n l ∙ ap (λ (x : List ℕ). x ++ r) k.front ∙ sym (stream_snoc rs whole);
      }

-- ---- a peer table
module _ (out : List ℕ) (collector : ℕ) (view : List ℕ) (l : List Peer) (count : ℕ) where
  abbrev table : Writing
  table = write_peers out collector view l count

  -- how the body b reads, with slots enough
  abbrev pub TableReads : List ℕ → Type 0
  TableReads b = (m : List Peer) → count ≤ length m → tables.ReadsBack out collector view l count b m

  module _ (z : table.number ≡ 0) (c : collector < 256 ^ 4) (fitting : Fitting l count) where
    table_reads : TableReads (wrote_body table)
    table_reads m h = rw append-nil at (read_of_body out collector view l count z c fitting [] m h)

    -- THEOREM. A table that was written passes the check of type 13, subtype 1.
    pub table_passes : (n : ℕ) → check 13 1 n (wrote_body table) ≡ 0
    table_passes n =
        let b : List ℕ = wrote_body table in
        let r = table_reads l (right_of_write out collector view l count z).0 in
        sym (check-dump_v2 1 b 13 n refl) ∙ sym (dump-peers 1 b refl) ∙ load_checked b l (ap (λ (x : Heading). x.number) r.head)

    -- THEOREM. With its header it is one record, and its body reads back as it was written.
    module _ (o : List ℕ) (h : CommonHeader) (i : InWidth h) (x : (write_header o h).number ≡ 0) (k : h.kind ≡ 13) (u : h.subtype ≡ 1)
        (e : h.length.0 ≡ table.octets) where
      pub table_matches : Matches o h table
      table_matches =
          record {
            widths = i;
            accepted = x;
            stored = e;
            full = length_of_write out collector view l count z;
            passes = rw (k, u) (table_passes table.octets);
          }

      pub table_stands : (pre : List ℕ)
          → Stands (pre ++ headed (write_header o h) table) (length pre) (record { header = h; body = wrote_body table }) TableReads
      table_stands = stands_written o h table table_matches table_reads

-- ---- a RIB body
-- the subtype of the peer table is no RIB's
not-one : (t : ℕ) → carried t ≡ true → t ≡ 1 → ⊥
unfolding carried ipv4 ipv6
not-one t c e = true≢false (sym (rw e at c))

module _ (out : List ℕ) (t sequence bits : ℕ) (prefix : List ℕ) (gs : List Given) where
  abbrev rib : Writing
  rib = adds t (begin_rib out t sequence bits prefix) gs

  -- how the body b reads
  abbrev pub RibReads : List ℕ → Type 0
  RibReads b = ribs.ReadsBack b t sequence bits prefix gs

  module _ (z : rib.number ≡ 0) (y : AllTyped gs) (q : sequence < 4294967296) (p : Octets prefix) where
    rib_reads : RibReads (wrote_body rib)
    rib_reads = read_of_build out t sequence bits prefix gs y rib refl z q p

    -- THEOREM. A body that is begun and given accepted entries passes the check of type 13 and its subtype.
    pub rib-passes : (n : ℕ) → check 13 t n (wrote_body rib) ≡ 0
    rib-passes n =
        let b : List ℕ = wrote_body rib in
        let c : check_rib b t ≡ 0 = read_checked rib_reads in
        sym (check-dump_v2 t b 13 n refl) ∙ sym (dump-rib t b (not-one t (met-carried b t c))) ∙ c

    -- THEOREM. With its header it is one record, and its body reads back as it was begun, with exactly those entries.
    module _ (o : List ℕ) (h : CommonHeader) (i : InWidth h) (x : (write_header o h).number ≡ 0) (k : h.kind ≡ 13) (u : h.subtype ≡ t)
        (e : h.length.0 ≡ rib.octets) where
      pub rib_matches : Matches o h rib
      rib_matches =
          record {
            widths = i;
            accepted = x;
            stored = e;
            full = length_of_build out t sequence bits prefix gs y rib refl z;
            passes = rw (k, u) (rib-passes rib.octets);
          }

      pub rib-stands : (pre : List ℕ)
          → Stands (pre ++ headed (write_header o h) rib) (length pre) (record { header = h; body = wrote_body rib }) RibReads
      rib-stands = stands_written o h rib rib_matches rib_reads

-- ---- a TABLE_DUMP body
module _ (out : List ℕ) (t : ℕ) (d : Dump) (attributes : List ℕ) where
  abbrev dump : Writing
  dump = write_dump out t d attributes

  -- how the body b reads
  abbrev pub DumpReads : List ℕ → Type 0
  DumpReads b = dumps.ReadsBack out t d attributes b

  module _ (z : dump.number ≡ 0) (v : d.view < 256 ^ 2) (q : d.sequence < 256 ^ 2) (w : d.originated < 256 ^ 4) where
    -- THEOREM. A body that was written passes the check of type 12 and its subtype.
    pub dump-passes : (n : ℕ) → check 12 t n (wrote_body dump) ≡ 0
    dump-passes n = sym (check-dump t (wrote_body dump) 12 n refl) ∙ dumps.passes_of_write out t d attributes z

    -- THEOREM. With its header it is one record, and its body reads back as it was written.
    module _ (o : List ℕ) (h : CommonHeader) (i : InWidth h) (x : (write_header o h).number ≡ 0) (k : h.kind ≡ 12) (u : h.subtype ≡ t)
        (e : h.length.0 ≡ dump.octets) where
      pub dump_matches : Matches o h dump
      dump_matches =
          record {
            widths = i;
            accepted = x;
            stored = e;
            full = dumps.length_of_write out t d attributes z;
            passes = rw (k, u) (dump-passes dump.octets);
          }

      pub dump-stands : (pre : List ℕ)
          → Stands (pre ++ headed (write_header o h) dump) (length pre) (record { header = h; body = wrote_body dump }) DumpReads
      dump-stands = stands_written o h dump dump_matches (dumps.read_of_write out t d attributes z v q w)
