use Rattle.std.proofs.Common.{sym, map}
use Rattle.std.proofs.lemmas.List.{length-map}
use Rattle.mrp_rows.specs.Columns.{Layout}
use Rattle.mrp_rows.proofs.FirstRecords.{other-count}
use Rattle.mrp_rows.proofs.cursor.Cursor.next.Goals as goal

pub returns-else-cut-self : goal.returns-else-cut-self
returns-else-cut-self c =
    let h = rw c.in-Ok-Some.field-0-is at c.in-Ok-Some.ensures in
    let own : Layout = record { table = c.self.inside.table; columns = map (λ name. name.now) c.self.inside.columns.now } in
    other-count own c.self.inside.number c.saturating_add-self-inside.result c.self.inside.text.now _ _ _ _ _ c.args.self.now c.refuse.new.self c.refuse.result h
    (sym (length-map c.self.inside.columns.now (λ name. name.now))) c.if-cut-self.false (rw c.if-self.false at c.self.view_is) c.refuse.ensures.result c.refuse.ensures.over c.saturating_add-self-inside.ensures
