use Rattle.std.proofs.Common.{◌≡◌, ◌∙◌, ◌-◌, false, [], ap, sym, arith}
use Rattle.std.proofs.lemmas.List.{get_or_read}
use Rattle.mrp_day.specs.declared.section.Section.TheVariants as s
use Rattle.mrp_page.specs.Numbering.{booking_place, is_same_booking, row_at}
use Rattle.mrp_page.specs.Row.{RowView}
use Rattle.mrp_page.proofs.RiskRows.{begins-booking}
use Rattle.mrp_page.proofs.numbering.booking_at.Goals as goal
use Rattle.mrp_page.proofs.numbering.booking_at.Goals.{then-place-eq0, else-place-eq0}

pub returns-else-is_same_booking : goal.returns-else-is_same_booking
returns-else-is_same_booking c =
    let pegs = c.args.pegs.now in
    let place = c.args.place in
    elim c.if-place-eq0.branch [
      | then-place-eq0 w ↦ let none : c.args.place ≡ 0 = w.if-place-eq0.true in none ∙ sym (ap (booking_place pegs) none)
      | else-place-eq0 w ↦
          let first : w.index-pegs-place.result ≡ row_at c.args.pegs.now (c.args.place - 1) = get_or_read pegs (place - 1) w.index-pegs-place.result (omega (arith, c.requires.place)) w.index-pegs-place.is (record { section = s.Run; cells = [] }) in
          let second : w.index-pegs-place-else-place-eq0.result ≡ row_at c.args.pegs.now c.args.place = get_or_read pegs place w.index-pegs-place-else-place-eq0.result c.requires.place w.index-pegs-place-else-place-eq0.is (record { section = s.Run; cells = [] }) in
          let apart : is_same_booking (row_at c.args.pegs.now (c.args.place - 1)) (row_at c.args.pegs.now c.args.place) ≡ false =
          ap (λ (row : RowView). is_same_booking row (row_at pegs place)) (sym first) ∙ ap (is_same_booking w.index-pegs-place.result) (sym second)
          ∙ sym w.is_same_booking.ensures ∙ sym w.value-is ∙ c.if-is_same_booking.false in
          begins-booking pegs place w.if-place-eq0.false apart
    ]
