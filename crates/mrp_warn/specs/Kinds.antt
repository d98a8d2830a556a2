-- The kinds of warnings: their order, and the table and column that each is about (profile).
use Rattle.std.specs.Prelude.{ℕ, List, [], ◌∷◌, codes}
use Rattle.mrp_rows.specs.declared.fault.Table.{Table}
use Rattle.mrp_rows.specs.declared.fault.Table.TheVariants as t
use Rattle.mrp_warn.specs.declared.kind.Kind.{Kind}
use Rattle.mrp_warn.specs.declared.kind.Kind.TheVariants.{ClosedWeek, Scrap, Size, Least, Step, Lead, Twin, Unused, Unstocked, Unplanned, Minutes, Idle, Doubled, Per, Run, Denied, Unplaced}

-- in the order in which they are told
abbrev pub kinds : List Kind
kinds =
    ClosedWeek ∷ Scrap ∷ Size ∷ Least ∷ Step ∷ Lead ∷ Twin ∷ Unused ∷ Unstocked ∷ Unplanned ∷ Minutes ∷ Idle ∷ Doubled ∷ Per ∷ Run ∷ Denied ∷ Unplaced ∷ []

abbrev pub table_of : Kind → Table
table_of ClosedWeek = t.Calendar
table_of Scrap = t.Items
table_of Size = t.Items
table_of Least = t.Items
table_of Step = t.Items
table_of Lead = t.Items
table_of Twin = t.Items
table_of Unused = t.Items
table_of Unstocked = t.Items
table_of Unplanned = t.Items
table_of Minutes = t.Centres
table_of Idle = t.Centres
table_of Doubled = t.Bills
table_of Per = t.Bills
table_of Run = t.Routings
table_of Denied = t.Script
table_of Unplaced = t.Script

abbrev pub column_of : Kind → List ℕ
column_of ClosedWeek = codes "workdays"
column_of Scrap = codes "scrap"
column_of Size = codes "size"
column_of Least = codes "least"
column_of Step = codes "step"
column_of Lead = codes "lead"
column_of Twin = codes "item"
column_of Unused = codes "item"
column_of Unstocked = codes "item"
column_of Unplanned = codes "item"
column_of Minutes = codes "minutes"
column_of Idle = codes "centre"
column_of Doubled = codes "component"
column_of Per = codes "per"
column_of Run = codes "run"
column_of Denied = codes "call"
column_of Unplaced = codes "call"
