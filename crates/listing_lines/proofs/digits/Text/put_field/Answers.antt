use Rattle.std.proofs.Common.{arith}
use Rattle.listing_lines.proofs.Texts.{field-done, wrote-end}
use Rattle.listing_lines.proofs.digits.Text.put_field.Goals as goal

pub put_decimal-requires : goal.put_decimal-requires
put_decimal-requires c = omega (arith, wrote-end _ _ _ c.put_octet.ensures.text)

pub returns-clause-text : goal.returns-clause-text
returns-clause-text c = field-done _ _ _ c.put_octet.ensures.text c.put_decimal.ensures.text
