use Rattle.std.proofs.Common.{◌∙◌, sym}
use Rattle.mrp_survey.proofs.Steps.{name-added}
use Rattle.mrp_survey.proofs.known.Known.add.Goals as goal

pub returns-in_ok-insert : goal.returns-in_ok-insert
returns-in_ok-insert c =
    name-added c.args.self.now c.insert.new.self.entries c.args.name c.args.class (sym c.has.ensures ∙ c.if-not-has.true) (rw c.self.view_is at c.in_ok-insert.ensures.entries)
