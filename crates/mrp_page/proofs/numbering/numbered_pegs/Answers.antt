use Rattle.std.proofs.Common.{◌≡◌, ◌∙◌, ◌+◌, ◌-◌, ◌<◌, ◌∷◌, ◌++◌, [], List, ap, arith, length, map, sym}
use Rattle.std.specs.List.{range_with_len}
use Rattle.std.proofs.lemmas.List.{get_or_read}
use Rattle.std.proofs.lemmas.List.FromFn.{map-range_with_len_more}
use Rattle.mrp_day.specs.declared.section.Section.TheVariants as s
use Rattle.mrp_page.specs.Numbering.{booking_place, numbered_peg, peg_of, row_at}
use Rattle.mrp_page.specs.Row.{RowView}
use Rattle.mrp_risk.specs.declared.peg.Peg.{Peg}
use Rattle.mrp_page.proofs.numbering.numbered_pegs.Goals as goal

pub loop-place-preserved : goal.loop-place-preserved
loop-place-preserved c =
    let orders = c.args.orders.now in
    let pegs = c.args.pegs.now in
    let k = c.loop-place.place in
    let inside : c.loop-place.place < length c.args.pegs.now = omega arith in
    let read : c.index-pegs-place.result ≡ row_at c.args.pegs.now c.loop-place.place = get_or_read pegs k c.index-pegs-place.result inside c.index-pegs-place.is (record { section = s.Run; cells = [] }) in
    let first = map (numbered_peg orders pegs) (range_with_len 0 k) in
    let last : k ≡ k + 1 - 1 = omega arith in
    record {
      found = c.in_ok-push.ensures.items
          ∙ ap (λ (found : List Peg). found ++ c.peg_of.result ∷ []) c.loop-place.invariant.found
          ∙ ap (λ (peg : Peg). first ++ peg ∷ []) (c.peg_of.ensures ∙ ap (λ (row : RowView). peg_of orders row c.booking_at-booking.result) read ∙ ap (peg_of orders (row_at pegs k)) c.booking_at-booking.ensures)
          ∙ sym (map-range_with_len_more (numbered_peg orders pegs) 0 k k (omega arith));
      booking = c.booking_at-booking.ensures ∙ ap (booking_place pegs) last;
    }
