use Rattle.std.proofs.Common.{◌∙◌}
use Rattle.mrp_page.specs.Row.{is_of}
use Rattle.mrp_page.proofs.RowLists.{any-map}
use Rattle.mrp_page.proofs.draw.has_item.Goals as goal

pub returns : goal.returns
returns c = c.is_one_of.ensures ∙ any-map (is_of c.args.name.now) (λ r. r.now) c.args.shown.now
