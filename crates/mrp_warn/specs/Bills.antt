-- What is odd about bill lines (profile).
use Rattle.std.specs.Prelude.{ℕ, ◌&&◌, Bool, nat_eq, nat_lt, if◌then◌else◌, List, map, Option, Some, None}
use Rattle.std.specs.List.{zip}
use Rattle.mrp_tables.specs.declared.item.Item.{Item}
use Rattle.mrp_tables.specs.declared.rows.BillLine.{BillLine}
use Rattle.mrp_warn.specs.declared.limits.TheConstants as limits
use Rattle.mrp_warn.specs.declared.oddity.Oddity.{Oddity}
use Rattle.mrp_warn.specs.declared.oddity.Oddity.TheVariants.{Doubled, LargePer}
use Rattle.mrp_warn.specs.declared.oddity.Warning.{Warning}
use Rattle.mrp_warn.specs.Names.{name_at}
use Rattle.mrp_warn.specs.Rows.{earlier, told}

-- what a bill line is of: its parent and its component
abbrev pub pair_of : BillLine → ℕ × ℕ
pair_of l = (l.parent, l.component)

abbrev pub same_pair : ℕ × ℕ → ℕ × ℕ → Bool
same_pair a b = nat_eq a.0 b.0 && nat_eq a.1 b.1

abbrev pub doubled_by : ℕ → Option (List ℕ) → Option (List ℕ) → Option Oddity
doubled_by first (Some component) (Some parent) = Some (Doubled component parent first)
doubled_by first None parent = None
doubled_by first (Some component) None = None

-- an earlier line has the same parent and component, the first such
abbrev pub odd_pair : List Item → BillLine → Option ℕ → Option Oddity
odd_pair items l None = None
odd_pair items l (Some first) = doubled_by first (name_at items l.component) (name_at items l.parent)

abbrev pub doubled_warnings : List Item → List BillLine → List Warning
doubled_warnings items bills = told (λ _ r. odd_pair items r.0 r.1) (zip bills (earlier same_pair (map pair_of bills)))

abbrev pub large_by : ℕ → Option (List ℕ) → Option (List ℕ) → Option Oddity
large_by per (Some component) (Some parent) = Some (LargePer per component parent)
large_by per None parent = None
large_by per (Some component) None = None

-- more than 10,000 pieces in one
abbrev pub odd_per : List Item → BillLine → Option Oddity
odd_per items l = if nat_lt limits.LIKELY_PER l.per then large_by l.per (name_at items l.component) (name_at items l.parent) else None

abbrev pub per_warnings : List Item → List BillLine → List Warning
per_warnings items bills = told (λ _ l. odd_per items l) bills
