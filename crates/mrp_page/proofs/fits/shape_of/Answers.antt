use Rattle.std.proofs.Common.{refl}
use Rattle.mrp_page.proofs.fits.shape_of.Goals as goal

pub returns : goal.returns
returns c =
    rw (
      c.known_if.ensures,
      c.weeks_of.ensures,
      c.known_if-2.ensures,
      c.known_if-3.ensures,
      c.known_if-4.ensures,
      c.are_all-ordered.ensures,
      c.are_all-pegged.ensures,
      c.count_with.ensures,
      c.numbers_of-receipts.ensures,
      c.numbers_of-services.ensures,
      c.rows_in-orders.ensures,
      c.rows_in-pegs.ensures,
      c.report-report.ensures,
      c.counts-counts.ensures,
    ) refl
