use Rattle.std.proofs.Common.{◌∙◌, List, ap, arith, length, sym}
use Rattle.std.specs.Map.{lookup}
use Rattle.std.specs.List.{position}
use Rattle.std.specs.Option.{option_map}
use Rattle.std.specs.Str.{bytes_eq}
use Rattle.std.proofs.lemmas.List.{take_all}
use Rattle.mrp_page.specs.Places.{stretch_at}
use Rattle.mrp_page.specs.Row.{RowView, is_of}
use Rattle.mrp_page.proofs.places.stretches_of.Goals as goal

pub loop-place-init : goal.loop-place-init
loop-place-init c = λ name. ap (λ es. lookup (λ k. bytes_eq name k.now) es) c.new-stretches.ensures.empty

pub loop-place-preserved : goal.loop-place-preserved
loop-place-preserved c = c.in_ok-note_stretch.ensures c.loop-place.invariant

pub returns : goal.returns
returns c = λ name.
    let rows = c.args.rows.now in
    c.loop-place.invariant name
    ∙ ap (λ (rs : List RowView). option_map (stretch_at rows name) (position (is_of name) rs)) (take_all c.loop-place.place rows c.loop-place-test.false ∙ sym (take_all (length rows) rows (omega arith)))
