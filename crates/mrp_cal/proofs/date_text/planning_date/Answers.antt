use Rattle.std.proofs.Common.{◌≡◌, pos, arith, w8, w16, to_z}
use Rattle.std.proofs.lemmas.Bool.{le-leb}
use Rattle.std.proofs.lemmas.Int.{to_z_pos}
use Rattle.mrp_cal.proofs.CivilDates.{civil_date_is}
use Rattle.mrp_cal.proofs.date_text.planning_date.Goals as goal

pub returns : goal.returns
returns c =
    let year : to_z w16 c.args.year ≡ pos c.args.year = to_z_pos w16 c.args.year (omega arith) in
    let month : to_z w8 c.args.month ≡ pos c.args.month = to_z_pos w8 c.args.month (omega arith) in
    let day : to_z w8 c.args.day ≡ pos c.args.day = to_z_pos w8 c.args.day (omega arith) in
    let some = rw (year, month, day) at c.civil_date.ensures.some in
    let value = rw (year, month, day) at c.civil_date.ensures.value in
    rw (le-leb 1900 c.args.year (omega arith), le-leb c.args.year 2999 (omega arith)) (civil_date_is c.civil_date.result (pos c.args.year) c.args.month c.args.day some value)
