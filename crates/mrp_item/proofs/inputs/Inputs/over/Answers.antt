use Rattle.std.proofs.Common.{◌≡◌, ◌∙◌, ◌<◌, List, length, map, get_or, ap, sym, subst, arith}
use Rattle.std.specs.Prelude.{All}
use Rattle.std.proofs.lemmas.List.{length-map}
use Rattle.mrp_tables.specs.Items.{is_master}
use Rattle.mrp_tables.specs.Tables.{Tables}
use Rattle.mrp_tables.specs.declared.item.Item.{Item}
use Rattle.mrp_master.specs.Lines.{IsLine}
use Rattle.mrp_master.specs.Supply.{supply_of}
use Rattle.mrp_book.specs.declared.booking.Booking.{Booking}
use Rattle.mrp_book.proofs.AllRows.{master_inside}
use Rattle.mrp_item.specs.Dues.{booking_dues}
use Rattle.mrp_item.specs.Inputs.{inputs_of}
use Rattle.mrp_item.proofs.ShopLemmas.{has_parents, is_ranked}
use Rattle.mrp_item.proofs.inputs.Inputs.over.Goals as goal

pub bookings_by_item-requires : goal.bookings_by_item-requires
bookings_by_item-requires c = λ k d h.
    let rows = c.args.rows.value in
    let shop = c.deref-2.ensures ∙ c.shop.ensures ∙ c.deref.ensures in
    let tables : c.tables-tables.result.now ≡ rows.tables = c.tables-tables.ensures.value ∙ ap (λ x. x.tables) shop in
    let items : c.items-count.result.now ≡ rows.tables.items = c.items-count.ensures.rows ∙ ap (λ (t : Tables). t.items) tables in
    let lines : All (λ (b : Booking). IsLine (supply_of rows.tables) b.line) c.standing.result = subst (λ (bookings : List Booking). All (λ (b : Booking). IsLine (supply_of rows.tables) b.line) bookings) (sym c.standing.ensures) c.requires.lines in
    let item = (get_or c.standing.result k d).line.item in
    let inside : item < length (map (λ (i : Item). is_master i.class) rows.tables.items) = master_inside (supply_of rows.tables) item (lines k d h).item in
    omega (arith, inside, length-map rows.tables.items (λ (i : Item). is_master i.class), ap (length {A = Item}) items)

pub invariant_of-inputs : goal.invariant_of-inputs
invariant_of-inputs c =
    let rows = c.args.rows.value in
    let s = inputs_of rows.tables c.args.snapshot in
    let shop = c.deref-2.ensures ∙ c.shop.ensures ∙ c.deref.ensures in
    let tables : c.tables-tables.result.now ≡ rows.tables = c.tables-tables.ensures.value ∙ ap (λ x. x.tables) shop in
    let count : length c.items-count.result.now ≡ length rows.tables.items = ap length (c.items-count.ensures.rows ∙ ap (λ (t : Tables). t.items) tables) in
    record {
      bookings_size = c.in_ok-bookings.ensures.size ∙ count;
      bookings = λ i h. c.in_ok-bookings.ensures.lists i (omega arith) ∙ ap (λ bookings. booking_dues bookings i) c.standing.ensures;
      ranked = is_ranked s rows (λ i. rows.tables) (rw shop at c.tables-tables.ensures.accepted);
      parents = has_parents s (let lines : c.bills-within.result.now ≡ s.tables.bills = c.bills-within.ensures.rows ∙ ap (λ (t : Tables). t.bills) tables in rw (lines, tables) at c.bills-within.ensures.within);
      booked = c.requires;
    }
