use Rattle.std.proofs.Common.{sym}
use Rattle.listing_lines.specs.Listing.{missing_line}
use Rattle.listing_lines.proofs.Texts.{wrote_none}
use Rattle.listing_lines.proofs.digits.Text.put_missing.Goals as goal

pub returns-in-Nothing-clause-text : goal.returns-in-Nothing-clause-text
unfolding missing_line
returns-in-Nothing-clause-text c = rw c.in-Nothing.is (sym (wrote_none _ _))

pub returns-in-Repeat-clause-text : goal.returns-in-Repeat-clause-text
unfolding missing_line
returns-in-Repeat-clause-text c = rw c.in-Repeat.is c.put_line.ensures.text

pub returns-in-Rows-clause-text : goal.returns-in-Rows-clause-text
unfolding missing_line
returns-in-Rows-clause-text c = rw c.in-Rows.is c.put_line-in-Rows.ensures.text
