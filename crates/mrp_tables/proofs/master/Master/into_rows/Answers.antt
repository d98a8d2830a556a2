use Rattle.std.proofs.Common.{sym, subst, List, length, ◌≤◌}
use Rattle.std.specs.Prelude.{All}
use Rattle.mrp_tables.specs.declared.rows.MasterRow.{MasterRow}
use Rattle.mrp_tables.specs.Facts.{IsMasterRow}
use Rattle.mrp_tables.specs.Gathered.{GatheredMaster}
use Rattle.mrp_tables.proofs.Kept.{kept, kept-count}
use Rattle.mrp_tables.proofs.master.Master.into_rows.Goals as goal

pub returns-clause-within : goal.returns-clause-within
returns-clause-within c =
    let inside = c.self.inside in
    let Of : List MasterRow → Type 0 = λ rows. All (IsMasterRow inside.calendar.now.weeks inside.items.now) rows in
    let counted = subst Of (sym c.that_count.ensures) (kept inside.calendar.now.weeks inside.items.now inside.rows.items c.self.invariant) in
    let Seen : GatheredMaster → Type 0 = λ seen. All (IsMasterRow seen.calendar.weeks seen.items) c.that_count.result.items in
    subst Seen c.self.view_is counted

pub returns-clause-count : goal.returns-clause-count
returns-clause-count c =
    let fewer = rw (← c.that_count.ensures) at (kept-count c.self.inside.rows.items) in
    let Seen : GatheredMaster → Type 0 = λ seen. length c.that_count.result.items ≤ length seen.rows in
    subst Seen c.self.view_is fewer
