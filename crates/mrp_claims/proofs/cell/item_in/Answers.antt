use Rattle.std.proofs.Common.{◌∙◌, sym, subst, List}
use Rattle.std.specs.Prelude.{All}
use Rattle.mrp_tables.specs.declared.item.Item.{Item}
use Rattle.mrp_tables.specs.Facts.{AllDiffer, IsItem}
use Rattle.mrp_tables.specs.Items.{names_of}
use Rattle.mrp_claims.proofs.Names.{finds, no-name}
use Rattle.mrp_claims.proofs.cell.item_in.Goals as goal

pub returns-in_err-name : goal.returns-in_err-name
returns-in_err-name c =
    let all = subst (λ (items : List Item). All IsItem items) c.items-named.ensures.rows c.items-named.ensures.within in
    rw c.from_residual.ensures (no-name c.args.tables.now c.args.cell.now all (sym c.new.ensures ∙ c.in_err-name.was))

pub returns : goal.returns
returns c =
    let differ = subst (λ (items : List Item). AllDiffer (names_of items)) c.items-named.ensures.rows c.items-named.ensures.names in
    finds c.args.tables.now c.args.cell.now c.in_ok-name.name c.find.result differ (sym c.new.ensures ∙ c.in_ok-name.was) c.find.ensures.place
