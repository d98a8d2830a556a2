use Rattle.std.proofs.Common.{◌≤◌, Err, List, Ok, ℕ, arith, length, subst, sym}
use Rattle.mrp_rows.specs.declared.streams.TheConstants.{GREATEST_BUNDLE}
use Rattle.mrp_main.proofs.DayEnds.{unread-ends}
use Rattle.mrp_main.proofs.day.make_day_of_folder.Goals as goal

pub make_day_of_bundle-requires-clause-bundle : goal.make_day_of_bundle-requires-clause-bundle
make_day_of_bundle-requires-clause-bundle g c κs within =
    let (parts, are, is) = c.in-Ok.ensures in
    let few : length c.in-Ok.bundle.items ≤ GREATEST_BUNDLE = subst (λ (bytes : List ℕ). length bytes ≤ GREATEST_BUNDLE) (sym is) are.fits in
    omega (arith, few, c.in-Ok.bundle.ok.0)

pub returns-in-Ok : goal.returns-in-Ok
returns-in-Ok g c = record { read = Ok c.in-Ok.bundle.items; is_read = c.in-Ok.ensures; ends = c.make_day_of_bundle.ensures }

pub returns-in-Err : goal.returns-in-Err
returns-in-Err g c = record {
  read = Err c.in-Err.fault;
  is_read = c.in-Err.ensures;
  ends = unread-ends c.args.command g.W.Write.contents c.args.output.now c.in-Err.fault c.of_read.result c.of_read.ensures;
}
