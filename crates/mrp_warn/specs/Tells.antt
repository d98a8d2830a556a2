-- The warnings of each kind: those records that have its condition, in order (profile).
use Rattle.std.specs.Prelude.{◌≡◌, List}
use Rattle.std.specs.List.{AllZip}
use Rattle.mrp_tables.specs.Versions.{lead_unit}
use Rattle.mrp_warn.specs.declared.kind.Kind.{Kind}
use Rattle.mrp_warn.specs.declared.kind.Kind.TheVariants.{ClosedWeek, Scrap, Size, Least, Step, Lead, Twin, Unused, Unstocked, Unplanned, Minutes, Idle, Doubled, Per, Run, Denied, Unplaced}
use Rattle.mrp_warn.specs.declared.oddity.Warning.{Warning}
use Rattle.mrp_warn.specs.declared.telling.Group.{Group}
use Rattle.mrp_warn.specs.Bills.{doubled_warnings, per_warnings}
use Rattle.mrp_warn.specs.Calendar.{AreOfWeeks, closed_weeks}
use Rattle.mrp_warn.specs.Calls.{denied_warnings, unplaced_warnings}
use Rattle.mrp_warn.specs.Centres.{idle_warnings, minutes_warnings}
use Rattle.mrp_warn.specs.Inspection.{Inspected}
use Rattle.mrp_warn.specs.Items.{lead_warnings, least_warnings, plan_warnings, scrap_warnings, size_warnings, step_warnings, stock_warnings, twin_warnings, unused_warnings}
use Rattle.mrp_warn.specs.Kinds.{kinds}
use Rattle.mrp_warn.specs.Runs.{run_warnings}

-- these are the warnings of a kind
abbrev pub Tells : Inspected → Kind → List Warning → Type 0
Tells i ClosedWeek ws = AreOfWeeks i.tables.calendar i.workdays (closed_weeks i.tables.calendar i.tables.calendar.weeks) ws
Tells i Scrap ws = ws ≡ scrap_warnings i.tables.items
Tells i Size ws = ws ≡ size_warnings i.tables.items i.sizes
Tells i Least ws = ws ≡ least_warnings i.tables.items
Tells i Step ws = ws ≡ step_warnings i.tables.items
Tells i Lead ws = ws ≡ lead_warnings (lead_unit i.tables.version) i.tables.calendar i.tables.items
Tells i Twin ws = ws ≡ twin_warnings i.tables.items
Tells i Unused ws = ws ≡ unused_warnings i.tables
Tells i Unstocked ws = ws ≡ stock_warnings i.tables
Tells i Unplanned ws = ws ≡ plan_warnings i.tables
Tells i Minutes ws = ws ≡ minutes_warnings i.tables.centres i.tables.routings
Tells i Idle ws = ws ≡ idle_warnings i.tables.centres i.tables.routings
Tells i Doubled ws = ws ≡ doubled_warnings i.tables.items i.tables.bills
Tells i Per ws = ws ≡ per_warnings i.tables.items i.tables.bills
Tells i Run ws = ws ≡ run_warnings i.tables.routings
Tells i Denied ws = ws ≡ denied_warnings i.history
Tells i Unplaced ws = ws ≡ unplaced_warnings i.history

-- a kind with its warnings
pub record IsGroup (i : Inspected) (kind : Kind) (group : Group) : Type 0 where
  pub kind_is : group.kind ≡ kind
  pub tells : Tells i kind group.warnings.items

-- some kinds with their warnings, in order
abbrev pub AreGroups : Inspected → List Kind → List Group → Type 0
AreGroups i some groups = AllZip (IsGroup i) some groups

-- all kinds
abbrev pub AreWarnings : Inspected → List Group → Type 0
AreWarnings i groups = AreGroups i kinds groups
