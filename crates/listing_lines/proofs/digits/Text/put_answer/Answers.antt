use Rattle.std.proofs.Common.{inl, inr, sym, ◌∙◌, arith}
use Rattle.listing_lines.specs.Listing.{lines}
use Rattle.listing_lines.proofs.Texts.{wrote_none, wrote_run, wrote-le, length-fields-le}
use Rattle.listing_lines.proofs.digits.Text.put_answer.Goals as goal

pub put_missing-requires : goal.put_missing-requires
put_missing-requires c = omega (arith, wrote-le _ _ _ 86 (length-fields-le _ _) c.put_line.ensures.text)

pub returns-in-Record-clause-text : goal.returns-in-Record-clause-text
unfolding lines
returns-in-Record-clause-text c = rw c.in-Record.is (c.put_missing.ensures.text ∙ wrote_run _ _ _ _ c.put_line.ensures.text)

pub returns-in-Gap-clause-text : goal.returns-in-Gap-clause-text
unfolding lines
returns-in-Gap-clause-text c = rw (c.in-Gap.is, ← c.from.ensures, ← c.from-in-Gap.ensures) c.put_line-in-Gap.ensures.text

pub returns-in-End-clause-text : goal.returns-in-End-clause-text
unfolding lines
returns-in-End-clause-text c = rw c.in-End.is c.put_line-in-End.ensures.text

pub returns-in-Window-clause-text : goal.returns-in-Window-clause-text
unfolding lines
returns-in-Window-clause-text c =
    elim c.in-Window.is [ inl (_, _, _, e) ↦ rw e (sym (wrote_none _ _)) | inr (_, e) ↦ rw e (sym (wrote_none _ _)) ]
