-- The tables of the three parts in which a bundle's tables are read.
use Rattle.std.proofs.Common.{◌≡◌, ℕ, List, Result, Ok, refl}
use Rattle.mrp_qty.specs.Reading.{◌>>=◌}
use Rattle.mrp_rows.specs.declared.fault.Fault.{Fault}
use Rattle.mrp_rows.specs.declared.fault.Table.TheVariants as t
use Rattle.mrp_tables.specs.declared.first_tables.FirstTables.{FirstTables}
use Rattle.mrp_tables.specs.declared.stock_to_routings.StockToRoutings.{StockToRoutings}
use Rattle.mrp_tables.specs.declared.master_and_script.MasterAndScript.{MasterAndScript}
use Rattle.mrp_tables.specs.Laws.{AreWholeBefore, whole}
use Rattle.mrp_tables.specs.Parts.{AreFirst, AreMasterAndScript, AreStockToRoutings, tables_from}
use Rattle.mrp_tables.specs.Readers.{table_in}
use Rattle.mrp_tables.specs.Tables.{tables_in}
use Rattle.mrp_tables.proofs.TableLaws.{whole_and}

-- the first tables are read whole, and what follows them
pub behind_first : {texts : List (List ℕ)} {first : FirstTables} {rest : Result (Unit {0}) Fault} → AreFirst texts first → rest ≡ Ok tt
    → (whole (table_in texts t.Calendar) >>= λ u. whole (table_in texts t.Items) >>= λ v. whole (table_in texts t.Centres) >>= λ w. rest) ≡ Ok tt
behind_first first given = whole_and first.calendar (whole_and first.items (whole_and first.centres given))

-- all tables before the master schedule are read whole
pub before_master : (texts : List (List ℕ)) (first : FirstTables) (rows : StockToRoutings) → AreFirst texts first → AreStockToRoutings texts rows → AreWholeBefore texts t.Master
before_master texts first rows are read = behind_first are (whole_and read.stock (whole_and read.receipts (whole_and read.bills (whole_and read.routings refl))))

-- what follows a table that is read
read_then : {X Y : Type 0} (x : Result X Fault) (next : X → Result Y Fault) (a : X) (r : Result Y Fault) → x ≡ Ok a → next a ≡ r → (x >>= next) ≡ r
read_then x next a r is follows = rw is follows

-- the three parts are the bundle's tables
pub all_tables : (texts : List (List ℕ)) (first : FirstTables) (rows : StockToRoutings) (last : MasterAndScript)
    → AreFirst texts first → AreStockToRoutings texts rows → AreMasterAndScript texts last → tables_in texts ≡ Ok (tables_from first rows last)
unfolding tables_in
all_tables texts first rows last are read ends =
    read_then (table_in texts t.Calendar) _ _ _ are.calendar
    (read_then (table_in texts t.Items) _ _ _ are.items
    (read_then (table_in texts t.Centres) _ _ _ are.centres
    (read_then (table_in texts t.Stock) _ _ _ read.stock
    (read_then (table_in texts t.Receipts) _ _ _ read.receipts
    (read_then (table_in texts t.Bills) _ _ _ read.bills
    (read_then (table_in texts t.Routings) _ _ _ read.routings
    (read_then (table_in texts t.Master) _ _ _ ends.master
    (read_then (table_in texts t.Script) _ _ _ ends.script refl))))))))
