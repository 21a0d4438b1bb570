use Rattle.std.proofs.Common.{arith, rules}
use Rattle.listing_lines.proofs.Texts.{decimal-first, decimal-next, decimal_before_lt}
use Rattle.listing_lines.proofs.digits.Text.+put_decimal.Goals as goal

pub returns-then-v-lt10-clause-text : goal.returns-then-v-lt10-clause-text
returns-then-v-lt10-clause-text t c = decimal-first _ _ _ c.if-v-lt10.true c.put_octet.ensures.text

pub put_octet-requires-2 : goal.put_octet-requires-2
put_octet-requires-2 t c = omega (arith, decimal_before_lt _ _ _ c.if-v-lt10.false (search rules) c.put_decimal.ensures.text)

pub returns-clause-text : goal.returns-clause-text
returns-clause-text t c = decimal-next _ _ _ c.if-v-lt10.false (search rules) c.put_decimal.ensures.text c.put_octet-2.ensures.text
