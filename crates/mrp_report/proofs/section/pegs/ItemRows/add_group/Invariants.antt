use Rattle.std.proofs.Common.{◌≡◌}
use Rattle.mrp_report.specs.section.PegGroups.{whole_text}
use Rattle.mrp_report.proofs.lemmas.section.ListTexts.{so_far}
use Rattle.mrp_report.proofs.section.pegs.ItemRows.add_group.Given as goal

abbrev pub invariant-loop-requirement : goal.invariant-loop-requirement
invariant-loop-requirement l = l.page ≡ so_far l.fn.page (whole_text l.self.readings.now.names.tables.now l.self.name.now l.self.orders.now l.group) l.needs l.requirement-index
