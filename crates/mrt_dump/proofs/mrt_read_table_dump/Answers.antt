use Rattle.mrt_dump.proofs.Dumps.{length_read_prefix, length_read_peer}
use Rattle.mrt_dump.proofs.Dumps.{dump-refused, dump_full, dump_cramped, dump_narrow, dump-stored}
use Rattle.mrt_dump.proofs.mrt_read_table_dump.Goals as goal
use Rattle.mrt_dump.proofs.mrt_read_table_dump.Goals.{then-out-lt8-via-then-out-lt8, then-out-lt8-via-else-out-lt8+then-prefix-lt16}
use Rattle.mrt_dump.proofs.mrt_read_table_dump.Goals.{then-out-lt8-via-else-out-lt8+else-prefix-lt16+then-peer-lt16}

pub returns-in-Err : goal.returns-in-Err
returns-in-Err c = record { answer = dump-refused _ _ _ c.in-Err.why c.in-Err.ensures.answer c.refusal.ensures }

pub returns-then-out-lt8 : goal.returns-then-out-lt8
returns-then-out-lt8 c =
    let read = c.in-Ok.ensures.answer in
    rw c.refusal-then-out-lt8.ensures (record {
      answer =
          elim c.then-out-lt8.branch [
            | then-out-lt8-via-then-out-lt8 w ↦ dump_full _ _ _ _ read w.if-out-lt8.true
            | then-out-lt8-via-else-out-lt8+then-prefix-lt16 w ↦ dump_cramped _ _ _ _ read w.if-out-lt8.false w.if-prefix-lt16.true
            | then-out-lt8-via-else-out-lt8+else-prefix-lt16+then-peer-lt16 w ↦
                dump_narrow _ _ _ _ read w.if-out-lt8.false w.if-prefix-lt16.false w.if-peer-lt16.true
          ];
    })

pub returns-else-peer-lt16 : goal.returns-else-peer-lt16
returns-else-peer-lt16 c = record {
  answer =
      let read = c.in-Ok.ensures.answer in
      let i = length_read_prefix _ _ c.in-Ok.r read in
      let j = length_read_peer _ _ c.in-Ok.r read in
      dump-stored _ _ _ _ read c.if-out-lt8.false c.if-prefix-lt16.false c.if-peer-lt16.false i j
      c.put_values.ensures c.put_address.ensures.answer c.put_address-in-Ok.ensures.answer;
}
