-- A RIB body begun across the boundary (01, RIB bodies). A prefix is lent as 16 octets: fewer are 8, before every other refusal.
use Rattle.std.specs.Prelude.{ℕ, List, cond, length, leb}
use Rattle.answer.specs.Writing.{Writing, refuse}
use Rattle.rib_begin.specs.Begin.{begin_rib}
use Rattle.mrt_lent.specs.Export.{sixteen_of}

-- a body begun with a prefix that is lent
unfoldable pub begin_from : List ℕ → ℕ → ℕ → ℕ → List ℕ → Writing
begin_from s t sequence bits prefix =
    cond (leb 16 (length prefix)) (begin_rib s t sequence bits (sixteen_of prefix)) (refuse 8 s)
