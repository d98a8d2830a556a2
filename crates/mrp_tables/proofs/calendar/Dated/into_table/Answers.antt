use Rattle.std.proofs.Common.{◌≡◌, ◌+◌, length, Some, Ok}
use Rattle.mrp_tables.proofs.Entries.{calendar_made}
use Rattle.mrp_tables.proofs.calendar.Dated.into_table.Goals as goal

pub returns-clause-made : goal.returns-clause-made
returns-clause-made c =
    let kept = c.self.inside in
    let start : kept.start ≡ Some c.in-Some.start = cc in
    let weeks : kept.weeks ≡ Some c.in-Some-weeks.weeks = cc in
    let workdays : kept.workdays ≡ Some c.in-Some-workdays.workdays = cc in
    let given : c.new.result ≡ Ok c.in-Ok.calendar = cc in
    calendar_made kept.start kept.weeks kept.workdays kept.holidays.items c.in-Some.start c.in-Some-weeks.weeks c.in-Some-workdays.workdays
    start weeks workdays c.self.invariant c.args.self c.self.view_is c.args.version (c.args.before + length c.args.self + 1) c.new.result c.in-Ok.calendar (rw c.as_slice.ensures.value at c.new.ensures) given
