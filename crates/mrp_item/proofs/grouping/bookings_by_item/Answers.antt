use Rattle.std.proofs.Common.{◌∙◌, ◌<◌, List, ap, sym, subst}
use Rattle.std.specs.Prelude.{All}
use Rattle.std.proofs.lemmas.List.Elements.{All-map}
use Rattle.mrp_item.specs.declared.due.Due.{Due}
use Rattle.mrp_bill.specs.declared.groups.Numbered.{Numbered}
use Rattle.mrp_item.specs.Dues.{booking_dues}
use Rattle.mrp_item.specs.Numbered.{of_booking}
use Rattle.mrp_bill.specs.Grouped.{values_of}
use Rattle.mrp_bill.proofs.GroupParts.{told-of, values_of-all}
use Rattle.mrp_item.proofs.grouping.bookings_by_item.Goals as goal

pub of-requires : goal.of-requires
of-requires c =
    let is = c.deref.ensures.value ∙ c.in_ok-dues.ensures in
    subst (λ (dues : List (Numbered Due)). All (λ d. d.number < c.args.count) dues) (sym is)
    (All-map (λ (d : Numbered Due). d.number < c.args.count) of_booking c.args.standing c.requires)

pub returns-clause-lists : goal.returns-clause-lists
returns-clause-lists c =
    let is = c.deref.ensures.value ∙ c.in_ok-dues.ensures in
    told-of c.of.result c.args.count (values_of c.deref.result.now) (booking_dues c.args.standing) c.of.ensures.groups
    (λ i. ap (λ (dues : List (Numbered Due)). values_of dues i) is ∙ values_of-all of_booking c.args.standing i)
