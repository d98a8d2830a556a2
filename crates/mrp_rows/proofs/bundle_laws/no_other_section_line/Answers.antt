use Rattle.mrp_rows.proofs.SectionLaws.{no-other}
use Rattle.mrp_rows.proofs.bundle_laws.no_other_section_line.Goals as goal

pub returns : goal.returns
returns c = no-other
