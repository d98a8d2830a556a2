use Rattle.std.proofs.Common.{◌∙◌, Bor, List, ap, arith}
use Rattle.std.specs.List.{flat_map}
use Rattle.std.specs.Option.{option_to_list}
use Rattle.std.proofs.lemmas.List.{take_all}
use Rattle.mrp_page.specs.Row.{RowView}
use Rattle.mrp_page.specs.Work.{place_of_load}
use Rattle.mrp_page.proofs.Pieces.{flat_map-map}
use Rattle.mrp_page.proofs.work.places_of_loads.Goals as goal

pub returns : goal.returns
returns c =
    c.loop-load.invariant
    ∙ ap (λ (rows : List (Bor RowView)). flat_map (λ (r : Bor RowView). option_to_list (place_of_load c.args.tables.now r.now)) rows) (take_all c.loop-load.load-index c.args.loads.now (omega (arith, c.loop-load-test.false)))
    ∙ flat_map-map (λ (r : RowView). option_to_list (place_of_load c.args.tables.now r)) (λ (r : Bor RowView). r.now) c.args.loads.now
