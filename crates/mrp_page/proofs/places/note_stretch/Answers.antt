use Rattle.std.proofs.Common.{◌∙◌, sym}
use Rattle.mrp_page.proofs.FirstRows.{stretch-added, stretch-known}
use Rattle.mrp_page.proofs.places.note_stretch.Goals as goal

pub returns-then-contains_key : goal.returns-then-contains_key
returns-then-contains_key c = λ has.
    stretch-known c.args.rows.now c.args.place c.index-rows-place.result c.index-rows-place.result c.requires c.index-rows-place.is c.name-name.result.now c.name-name.ensures c.args.stretches.now has (sym c.contains_key.ensures ∙ c.if-contains_key.true)

pub returns : goal.returns
returns c = λ has.
    stretch-added c.args.rows.now c.args.place c.index-rows-place.result c.index-rows-place.result c.requires c.index-rows-place.is c.name-name.result.now c.name-name.ensures c.args.stretches.now c.add_stretch.new.stretches c.stretch_at-stretch.result has
    (sym c.contains_key.ensures ∙ c.if-contains_key.false) c.stretch_at-stretch.ensures c.in_ok-add_stretch.ensures
