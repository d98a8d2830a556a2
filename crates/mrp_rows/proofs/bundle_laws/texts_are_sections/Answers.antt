use Rattle.mrp_rows.proofs.TextLaws.{texts-of-sections}
use Rattle.mrp_rows.proofs.bundle_laws.texts_are_sections.Goals as goal

pub returns : goal.returns
returns c = texts-of-sections
