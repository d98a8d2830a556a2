use Rattle.std.proofs.Common.{sym}
use Rattle.mrp_tables.specs.Versions.{most_lead}
use Rattle.mrp_tables.proofs.RecordsRead.{item_lead}
use Rattle.mrp_tables.proofs.Stocked.{leads_kept}
use Rattle.mrp_tables.proofs.items.ItemRowsTableRows.add.Goals as goal

pub invariant_of-self : goal.invariant_of-self
invariant_of-self c =
    leads_kept (most_lead c.self.inside.version) c.self.inside.items c.add.new.self c.in_ok-item.item c.args.row.now c.add.result
    c.self.invariant (item_lead c.self.inside.version c.args.row.now c.in_ok-item.item (sym c.in_ok-item.ensures.cells)) c.add.ensures
