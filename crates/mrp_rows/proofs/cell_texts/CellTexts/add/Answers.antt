use Rattle.std.proofs.Common.{arith, refl}
use Rattle.std.proofs.lemmas.List.{drop-append-le, length-append}
use Rattle.mrp_rows.proofs.HeldCells.{all-more, within-more}
use Rattle.mrp_rows.proofs.cell_texts.CellTexts.add.Goals as goal

pub returns : goal.returns
returns c =
    let bytes = c.self.inside.bytes.items in
    let same = all-more bytes c.args.piece.now c.self.inside.places.items c.self.invariant.within in
    let more = drop-append-le c.self.inside.begun bytes c.args.piece.now c.self.invariant.start in
    rw (← c.self.view_is, c.in_ok-extend_from_slice.ensures.items, same, more) refl

pub invariant_of-self-2 : goal.invariant_of-self-2
invariant_of-self-2 c =
    let grown = length-append c.self.inside.bytes.items c.args.piece.now in
    rw c.in_ok-extend_from_slice.ensures.items (record {
      within = within-more _ _ c.self.inside.places.items (omega arith) c.self.invariant.within;
      start = omega (arith, c.self.invariant.start);
    })
