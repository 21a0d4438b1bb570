use mathlib.Core.Path.{sym, ◌∙◌}
use Rattle.header.proofs.Reading.{fields, header_short, header_unknown, header_plain, header_tiny, header-cut, header-timed}
use Rattle.header.proofs.read.read_front.Goals as goal

pub returns-then-n-lt12 : goal.returns-then-n-lt12
returns-then-n-lt12 c = record { answer = header_short _ c.if-n-lt12.true }

pub returns-then-not-is_known : goal.returns-then-not-is_known
returns-then-not-is_known c = record {
  answer =
      header_unknown
      (fields c.if-n-lt12.false c.be32-timestamp.ensures c.be16-kind.ensures c.be16-subtype.ensures c.be32.ensures)
      (sym c.is_known.ensures.answer ∙ c.if-not-is_known.true);
}

pub returns-then-wire-lt4 : goal.returns-then-wire-lt4
returns-then-wire-lt4 c = record {
  answer =
      header_tiny
      (fields c.if-n-lt12.false c.be32-timestamp.ensures c.be16-kind.ensures c.be16-subtype.ensures c.be32.ensures)
      (sym c.is_known.ensures.answer ∙ c.if-not-is_known.false)
      (sym c.is_timed.ensures ∙ c.if-is_timed.true)
      c.if-wire-lt4.true;
}

pub returns-then-n-lt16 : goal.returns-then-n-lt16
returns-then-n-lt16 c = record {
  answer =
      header-cut
      (fields c.if-n-lt12.false c.be32-timestamp.ensures c.be16-kind.ensures c.be16-subtype.ensures c.be32.ensures)
      (sym c.is_known.ensures.answer ∙ c.if-not-is_known.false)
      (sym c.is_timed.ensures ∙ c.if-is_timed.true)
      c.if-wire-lt4.false
      c.if-n-lt16.true;
}

pub returns-else-n-lt16 : goal.returns-else-n-lt16
returns-else-n-lt16 c = record {
  answer =
      header-timed
      (fields c.if-n-lt12.false c.be32-timestamp.ensures c.be16-kind.ensures c.be16-subtype.ensures c.be32.ensures)
      (sym c.is_known.ensures.answer ∙ c.if-not-is_known.false)
      (sym c.is_timed.ensures ∙ c.if-is_timed.true)
      c.if-wire-lt4.false
      c.if-n-lt16.false
      c.be32-micros.ensures;
}

pub returns-else-is_timed : goal.returns-else-is_timed
returns-else-is_timed c = record {
  answer =
      header_plain
      (fields c.if-n-lt12.false c.be32-timestamp.ensures c.be16-kind.ensures c.be16-subtype.ensures c.be32.ensures)
      (sym c.is_known.ensures.answer ∙ c.if-not-is_known.false)
      (sym c.is_timed.ensures ∙ c.if-is_timed.false);
}
