use Rattle.std.proofs.Common.{◌∙◌, arith}
use Rattle.listing_lines.proofs.Texts.{wrote-end, wrote-le, length-field-le, rest-next, rest-done, fields-done}
use Rattle.listing_lines.proofs.digits.Text.put_line.Goals as goal

pub put_field-requires : goal.put_field-requires
put_field-requires c = omega (arith, wrote-end _ _ _ c.put_octet.ensures.text)

pub loop-v-preserved : goal.loop-v-preserved
loop-v-preserved c = record {
  same = c.put_field.ensures.same ∙ c.loop-v.invariant.same;
  end = omega (arith, wrote-le _ _ _ 21 (length-field-le _) c.put_field.ensures.text);
  text = rest-next _ _ _ _ c.loop-v-test.true c.put_field.ensures.text ∙ c.loop-v.invariant.text;
}

pub put_octet-requires-2 : goal.put_octet-requires-2
put_octet-requires-2 c = omega (arith, wrote-end _ _ _ c.put_octet.ensures.text)

pub returns-clause-text : goal.returns-clause-text
returns-clause-text c =
    rest-done _ _ _ _ c.loop-v-test.false c.put_octet-2.ensures.text
    ∙ c.loop-v.invariant.text
    ∙ fields-done _ _ _ _ c.put_octet.ensures.text
