use Rattle.std.proofs.Common.{◌≡◌, ◌∙◌, sym, subst}
use Rattle.mrp_master.specs.Supply.{Supply, supply_of}
use Rattle.mrp_book.specs.declared.reply.Reply.TheVariants.{Taken}
use Rattle.mrp_book.specs.Booked.{AreBooked}
use Rattle.mrp_book.specs.History.{IsLegal, next_number}
use Rattle.mrp_book.specs.Snapshot.{Snapshot}
use Rattle.mrp_book.specs.Standing.{standing}
use Rattle.mrp_book.proofs.SnapshotBookings.{standing-booked}
use Rattle.sample_shops.proofs.books.snapshot_of.Goals as goal

pub returns-in-Taken : goal.returns-in-Taken
returns-in-Taken c =
    let s = supply_of c.args.shop.now.tables in
    let book = c.in_ok-book.book in
    let supply : book.supply ≡ s = c.in_ok-book.ensures in
    let legal : IsLegal s book.entries = subst (λ (x : Supply). IsLegal x book.entries) supply (subst (IsLegal book.supply) c.entries-legal.ensures.entries c.entries-legal.ensures.legal) in
    let snapshot : Snapshot = record { front = next_number book.entries; weeks = book.supply.weeks; standing = standing book.entries } in
    let taken : Taken c.in-Taken.snapshot ≡ Taken snapshot = sym c.in-Taken.is ∙ c.in_ok-reply.ensures.reply in
    let same : c.in-Taken.snapshot ≡ snapshot = cc in
    subst (λ (x : Snapshot). AreBooked s x.standing) (sym same) (standing-booked s book.entries legal)
