use Rattle.std.proofs.Common.{◌≡◌, ◌∙◌, List, subst, sym, true, false}
use Rattle.std.specs.List.{AllZip}
use Rattle.csv.specs.Records.{fields_of}
use Rattle.mrp_book.specs.declared.booking.Booking.{Booking}
use Rattle.mrp_carry.specs.Carried.{carried, is_due_from}
use Rattle.mrp_carry.specs.Rows.{IsRecordOf, Writes}
use Rattle.mrp_carry.proofs.RowsWritten.{carried-more, carried-same, writes-more}
use Rattle.mrp_carry.proofs.text.write_records.Goals as goal
use Rattle.mrp_carry.proofs.text.write_records.Goals.{then-is_due_from+in_ok-make_record+in_ok-write_row, else-is_due_from}

pub loop-booking-preserved : goal.loop-booking-preserved
loop-booking-preserved g c =
    let contents = g.W.Write.contents in
    let start = c.args.start in
    let all = c.args.bookings.now in
    let k = c.loop-booking.booking-index in
    let b = c.booking-item.result in
    let Is = IsRecordOf c.args.shop.now.tables in
    elim c.if-is_due_from.branch [
      | then-is_due_from+in_ok-make_record+in_ok-write_row w ↦
          let due : is_due_from start b ≡ true = sym c.is_due_from.ensures ∙ w.if-is_due_from.true in
          rw w.rows-is (
            w.in_ok-write_row.ensures.between,
            subst (λ (bs : List Booking). Writes contents c.args.rows.now w.write_row.new.rows (AllZip Is bs)) (sym (carried-more start k all b c.loop-booking-test.true c.booking-item.is due))
                (writes-more contents c.args.rows.now c.loop-booking.rows w.write_row.new.rows Is (carried start _) b (fields_of w.make_record.new.cells)
                c.loop-booking.invariant.1 w.in_ok-make_record.ensures w.in_ok-write_row.ensures.text),
          )
      | else-is_due_from w ↦
          let before : is_due_from start b ≡ false = sym c.is_due_from.ensures ∙ w.if-is_due_from.false in
          rw w.rows-is (
            c.loop-booking.invariant.0,
            subst (λ (bs : List Booking). Writes contents c.args.rows.now c.loop-booking.rows (AllZip Is bs)) (sym (carried-same start k all b c.loop-booking-test.true c.booking-item.is before))
                c.loop-booking.invariant.1,
          )
    ]
