use Rattle.std.proofs.Common.{◌≡◌}
use Rattle.std.specs.Option.{option_copied}
use Rattle.mrp_page.specs.Template.{drawn_of, part_html}
use Rattle.mrp_page.proofs.Pieces.{so_far}
use Rattle.mrp_page.proofs.template.put_dated.Given as goal

abbrev pub invariant-loop-part : goal.invariant-loop-part
invariant-loop-part l = l.page ≡ so_far l.fn.page (λ part. part_html (option_copied l.tables) l.row (drawn_of part)) l.parts l.part-index
