use Rattle.std.proofs.Common.{◌≡◌, ◌∙◌, ℕ, ◌+◌, List, Option, Some, length, take, subst, sym, true, false, refl, arith, ap}
use Rattle.std.specs.List.{AllZip}
use Rattle.std.proofs.lemmas.List.{length_push}
use Rattle.csv.specs.Records.{fields_of}
use Rattle.mrp_book.specs.declared.booking.Booking.{Booking}
use Rattle.mrp_carry.specs.Carried.{carried, is_due_from, renumbered}
use Rattle.mrp_carry.specs.Rows.{IsRowOf, Writes}
use Rattle.mrp_carry.proofs.RowsWritten.{carried-few, carried-more, carried-same, number_behind, renumbered-more, renumbered-none, writes-more, writes-none}
use Rattle.mrp_carry.proofs.text.write_list.Goals as goal
use Rattle.mrp_carry.proofs.text.write_list.Goals.{then-is_due_from, else-is_due_from}

pub loop-booking-init : goal.loop-booking-init
loop-booking-init g c =
    let Is = IsRowOf c.args.shop.now.tables in (
      refl,
      c.requires.between,
      subst (λ (rs : List (Booking × Option ℕ)). Writes g.W.Write.contents c.args.rows.now c.args.rows.now (AllZip Is rs)) (sym (renumbered-none c.args.start 1)) (writes-none g.W.Write.contents c.args.rows.now Is),
    )

pub overflow_add-given : goal.overflow_add-given
overflow_add-given g c = omega (arith, c.loop-booking.invariant.0, carried-few c.args.start c.loop-booking.booking-index c.args.bookings.now, c.loop-booking-test.true)

pub loop-booking-preserved : goal.loop-booking-preserved
loop-booking-preserved g c =
    let contents = g.W.Write.contents in
    let start = c.args.start in
    let all = c.args.bookings.now in
    let k = c.loop-booking.booking-index in
    let b = c.booking-item.result in
    let before = take k all in
    let Is = IsRowOf c.args.shop.now.tables in
    let cells = fields_of c.make_row.new.cells in
    let number : c.if-is_due_from.new ≡ number_behind start 1 before b × (c.if-is_due_from.given ≡ length (carried start (take (k + 1) all))) = elim c.if-is_due_from.branch [
      | then-is_due_from w ↦
          let due : is_due_from start b ≡ true = sym c.is_due_from.ensures ∙ w.if-is_due_from.true in
          let count = ap (length {A = Booking}) (carried-more start k all b c.loop-booking-test.true c.booking-item.is due) ∙ length_push (carried start before) b in
          let one : c.loop-booking.given + 1 ≡ 1 + length (carried start before) = omega (arith, c.loop-booking.invariant.0) in
          (w.new-is ∙ ap (λ (n : ℕ). Some n) one ∙ sym (rw due refl), omega (arith, w.given-is, c.loop-booking.invariant.0, count))
      | else-is_due_from w ↦
          let early : is_due_from start b ≡ false = sym c.is_due_from.ensures ∙ w.if-is_due_from.false in
          (w.new-is ∙ sym (rw early refl), w.given-is ∙ c.loop-booking.invariant.0 ∙ sym (ap (length {A = Booking}) (carried-same start k all b c.loop-booking-test.true c.booking-item.is early)))
    ] in (
      number.1,
      c.in_ok-write_row.ensures.between,
      subst (λ (rs : List (Booking × Option ℕ)). Writes contents c.args.rows.now c.write_row.new.rows (AllZip Is rs)) (sym (renumbered-more start k all b c.loop-booking-test.true c.booking-item.is))
          (writes-more contents c.args.rows.now c.loop-booking.rows c.write_row.new.rows Is (renumbered start 1 before) (b, number_behind start 1 before b) cells c.loop-booking.invariant.2
          (subst (λ (n : Option ℕ). Is (b, n) cells) number.0 c.in_ok-make_row.ensures) c.in_ok-write_row.ensures.text),
    )
