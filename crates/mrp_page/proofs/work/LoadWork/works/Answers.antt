use Rattle.std.proofs.Common.{◌≡◌, rules}
use Rattle.std.specs.Option.{option_copied}
use Rattle.mrp_page.specs.Work.{works_of}
use Rattle.mrp_page.proofs.Worked.{lent-within}
use Rattle.mrp_page.proofs.work.LoadWork.works.Goals as goal

pub returns-clause-within : goal.returns-clause-within
returns-clause-within c =
    let found : option_copied c.at.result ≡ works_of c.args.self.now c.args.load.now = search rules in
    lent-within c.args.self.now c.args.load.now c.at.result found
