use Rattle.std.specs.Prelude.{Err}
use Rattle.answer.specs.declared.Refusal.TheVariants.{Beyond}
use Rattle.mrt_lent.proofs.Writing.{returns_written}
use Rattle.mrt_dump_write.proofs.Writes.{write_short, write_narrow, write_whole}
use Rattle.mrt_dump_write.proofs.mrt_write_table_dump.Goals as goal
use Rattle.mrt_dump_write.proofs.mrt_write_table_dump.Goals.{then-prefix-lt16-via-then-prefix-lt16}
use Rattle.mrt_dump_write.proofs.mrt_write_table_dump.Goals.{then-prefix-lt16-via-else-prefix-lt16+then-peer-lt16}

pub returns-then-prefix-lt16 : goal.returns-then-prefix-lt16
returns-then-prefix-lt16 c = record {
  answer =
      returns_written (Err Beyond) c.wrote_of.ensures
      (elim c.then-prefix-lt16.branch [
        | then-prefix-lt16-via-then-prefix-lt16 w ↦ write_short _ _ _ _ _ _ _ _ _ _ _ w.if-prefix-lt16.true
        | then-prefix-lt16-via-else-prefix-lt16+then-peer-lt16 w ↦
            write_narrow _ _ _ _ _ _ _ _ _ _ _ w.if-prefix-lt16.false w.if-peer-lt16.true
      ]);
}

pub returns : goal.returns
returns c = record {
  answer =
      returns_written c.write_dump.result c.wrote_of-2.ensures
      (write_whole _ _ _ _ _ _ _ _ _ _ _ c.if-prefix-lt16.false c.if-peer-lt16.false
      c.sixteen.ensures c.sixteen-2.ensures c.write_dump.ensures.answer);
}
