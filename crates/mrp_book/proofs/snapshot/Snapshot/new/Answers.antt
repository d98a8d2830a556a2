use Rattle.std.specs.Prelude.{sum_by}
use Rattle.std.proofs.Common.{◌≤◌, List, refl, subst}
use Rattle.mrp_qty.specs.Quantity.{greatest_quantity}
use Rattle.mrp_book.specs.declared.booking.Booking.{Booking}
use Rattle.mrp_book.proofs.Demands.{little_together}
use Rattle.mrp_book.proofs.snapshot.Snapshot.new.Goals as goal

pub of_standing-requires : goal.of_standing-requires
of_standing-requires c =
    let little = c.if-not-is_little.ensures in
    little_together c.args.weeks c.args.standing.items (subst (λ (bs : List Booking). sum_by (λ (b : Booking). b.line.quantity) bs ≤ greatest_quantity) c.deref.ensures.value (little.0 refl))
