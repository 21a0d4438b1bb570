use Rattle.listing_lines.proofs.Texts.{wrote_octet}
use Rattle.listing_lines.proofs.digits.Text.put_octet.Goals as goal

pub returns-clause-text : goal.returns-clause-text
returns-clause-text c = wrote_octet _ _ _ c.put_octet.ensures
