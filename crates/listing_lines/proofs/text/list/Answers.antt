use Rattle.std.proofs.Common.{◌∙◌, rules}
use Rattle.listing_lines.proofs.Lines.{list_front}
use Rattle.listing_lines.proofs.text.list.Goals as goal

pub returns : goal.returns
returns c = record { answer = search rules ∙ list_front _ _ }
