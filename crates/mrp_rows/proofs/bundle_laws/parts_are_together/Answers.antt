use Rattle.mrp_rows.proofs.SectionLaws.{parts-together}
use Rattle.mrp_rows.proofs.bundle_laws.parts_are_together.Goals as goal

pub returns : goal.returns
returns c = parts-together
