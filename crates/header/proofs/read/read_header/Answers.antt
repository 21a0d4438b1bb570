use Rattle.header.proofs.Reading.{header_beyond, header-within}
use Rattle.header.proofs.read.read_header.Goals as goal

pub returns-then-s-at : goal.returns-then-s-at
returns-then-s-at c = record { answer = header_beyond _ _ c.if-s-at.true }

pub returns : goal.returns
returns c = record { answer = header-within _ _ c.if-s-at.false c.read_front.ensures.answer }
