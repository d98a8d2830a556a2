use Rattle.mrp_rows.proofs.SectionLaws.{one-mark}
use Rattle.mrp_rows.proofs.bundle_laws.one_mark_is_dropped.Goals as goal

pub returns : goal.returns
returns c = one-mark
