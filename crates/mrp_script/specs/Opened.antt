-- The shop of a bundle, or why it is refused (profile).
use Rattle.std.specs.Prelude.{ℕ, ◌≡◌, ◌≢◌, ◌<◌, ◌+◌, ◌⊎◌, List, Result, Ok, Err, ⊤, length, slice_index}
use Rattle.mrp_rows.specs.declared.fault.Fault.{Fault}
use Rattle.mrp_rows.specs.declared.fault.Table.TheVariants as t
use Rattle.mrp_rows.specs.declared.faults.TheConstants as faults
use Rattle.mrp_tables.specs.declared.limits.TheConstants.{MOST_ITEMS}
use Rattle.mrp_tables.specs.Tables.{Tables, tables_of}
use Rattle.mrp_bill.specs.Bill.{IsFirstLoop, NeedsItself}
use Rattle.mrp_bill.specs.Shop.{Shop}
use Rattle.mrp_bill.specs.declared.fault.BillFault.{BillFault}
use Rattle.mrp_bill.specs.declared.fault.BillFault.TheVariants as bill
use Rattle.mrp_script.specs.declared.fault.OpenFault.{OpenFault}
use Rattle.mrp_script.specs.declared.fault.OpenFault.TheVariants.{Refused, NoMemory}

-- an item that needs itself
abbrev pub loop_fault : ℕ → Fault
loop_fault item = record { code = faults.LOOP; table = t.Items; row = item + 1 }

-- a bundle of these tables, in which no item needs itself
pub record IsAccepted (bundle : List ℕ) (tables : Tables) : Type 0 where
  pub tables_are : tables_of bundle ≡ Ok tables
  pub no_loop : (i : ℕ) → NeedsItself tables.bills i → ⊥

-- a bundle whose tables are right except for a loop in the bill that begins at this item
pub record IsLoop (bundle : List ℕ) (tables : Tables) (item : ℕ) : Type 0 where
  pub tables_are : tables_of bundle ≡ Ok tables
  pub loop : IsFirstLoop tables.bills item

-- a bundle with this first fault, a loop in the bill last
abbrev pub IsRefused : List ℕ → Fault → Type 0
IsRefused bundle f = (tables_of bundle ≡ Err f) ⊎ ((tables : Tables) × (item : ℕ) × IsLoop bundle tables item × (f ≡ loop_fault item))

-- why the shop of a bill that is refused is not opened
abbrev pub bill_fault : BillFault → OpenFault
bill_fault (bill.Loop path) = Refused (loop_fault (slice_index path.items 0))
bill_fault bill.NoMemory = NoMemory

-- a fault keeps the shop from being opened; NO_MEMORY becomes out of memory
abbrev pub Closes : Fault → OpenFault → Type 0
Closes f (Refused given) = (given ≡ f) × (f.code ≢ faults.NO_MEMORY)
Closes f NoMemory = f.code ≡ faults.NO_MEMORY

-- the path of a loop begins at an item of a table
abbrev pub BeginsWithin : BillFault → Type 0
BeginsWithin (bill.Loop path) = (0 < length path.items) × (slice_index path.items 0 < MOST_ITEMS)
BeginsWithin bill.NoMemory = ⊤

-- the shop of tables in which no item needs itself, or the loop; or out of memory
abbrev pub OpensTables : Tables → Result Shop OpenFault → Type 0
OpensTables tables (Ok shop) = (shop.tables ≡ tables) × ((i : ℕ) → NeedsItself tables.bills i → ⊥)
OpensTables tables (Err (Refused f)) = (item : ℕ) × IsFirstLoop tables.bills item × (f ≡ loop_fault item)
OpensTables tables (Err NoMemory) = ⊤

-- the shop of an accepted bundle, or why the bundle is refused; or out of memory
abbrev pub Opens : List ℕ → Result Shop OpenFault → Type 0
Opens bundle (Ok shop) = IsAccepted bundle shop.tables
Opens bundle (Err (Refused f)) = IsRefused bundle f × (f.code ≢ faults.NO_MEMORY)
Opens bundle (Err NoMemory) = ⊤
