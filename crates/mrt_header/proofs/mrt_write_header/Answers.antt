use Rattle.mrt_lent.proofs.Writing.{returns_written}
use Rattle.mrt_header.proofs.mrt_write_header.Goals as goal

pub returns : goal.returns
returns c = record { answer = returns_written c.write_header.result c.wrote_of.ensures c.write_header.ensures.answer }
