use Rattle.std.proofs.Common.{◌∙◌, sym, arith}
use Rattle.listing_lines.proofs.Texts.{wrote-le, length-fields-le}
use Rattle.listing_lines.proofs.Lines.{text_le, text_over, text_next, text_last, list_long, list_short}
use Rattle.listing_lines.proofs.Bodies.{answer_lies, walk_lies}
use Rattle.listing_lines.proofs.digits.Text.put_listing.Goals as goal

pub returns-then-n-gt65536-clause-text : goal.returns-then-n-gt65536-clause-text
returns-then-n-gt65536-clause-text c = list_long _ _ _ c.if-n-gt65536.true c.put_line.ensures.text

pub count_answer-row-requires : goal.count_answer-row-requires
count_answer-row-requires c = answer_lies _ _ c.loop.invariant.inside _ _ c.step-turn.ensures.answer

pub put_answer-requires : goal.put_answer-requires
put_answer-requires c = omega (arith, wrote-le _ _ _ 65 (length-fields-le _ _) c.put_line-2.ensures.text)

pub returns-then-is_last-clause-text : goal.returns-then-is_last-clause-text
returns-then-is_last-clause-text c =
    list_short _ _ _ _ _ c.if-n-gt65536.false c.fresh-w.ensures.answer c.fresh-counters.ensures.answer c.put_line-2.ensures.text
    (text_last _ _ _ _ _ _ _ _ _ c.step-turn.ensures.answer _ _ c.count_answer-row.ensures c.loop-test.true c.put_answer.ensures.text
    (sym c.is_last.ensures ∙ c.if-is_last.true)
    ∙ c.loop.invariant.text)

pub loop-preserved : goal.loop-preserved
loop-preserved c = record {
  same = c.put_answer.ensures.same ∙ c.loop.invariant.same;
  end =
      omega (
        arith,
        text_le _ _ _ _ _ _ _ _ _ c.step-turn.ensures.answer _ _ c.count_answer-row.ensures c.loop-test.true c.put_answer.ensures.text,
      );
  inside = walk_lies _ _ c.loop.invariant.inside _ _ c.step-turn.ensures.answer;
  text =
      text_next _ _ _ _ _ _ _ _ _ c.step-turn.ensures.answer _ _ c.count_answer-row.ensures c.loop-test.true c.put_answer.ensures.text
      (sym c.is_last.ensures ∙ c.if-is_last.false)
      ∙ c.loop.invariant.text;
}

pub returns-clause-text : goal.returns-clause-text
returns-clause-text c =
    list_short _ _ _ _ _ c.if-n-gt65536.false c.fresh-w.ensures.answer c.fresh-counters.ensures.answer c.put_line-2.ensures.text
    (text_over _ _ _ _ _ _ _ c.loop-test.false ∙ c.loop.invariant.text)
