use Rattle.std.proofs.Common.{◌∙◌, sym}
use Rattle.mrp_survey.proofs.Steps.{first-added}
use Rattle.mrp_survey.proofs.likes.add_first.Goals as goal

pub returns-in_ok-insert : goal.returns-in_ok-insert
returns-in_ok-insert c = first-added c.args.firsts.now.entries c.insert.new.self.entries c.lowered-key.result c.args.name c.lowered-key.ensures (sym c.contains_key.ensures ∙ c.if-not-contains_key.true) c.in_ok-insert.ensures.entries
