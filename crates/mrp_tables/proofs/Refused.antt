-- A fault of a table that is read after others: that of its reading, or out of memory.
use Rattle.std.proofs.Common.{◌≡◌, ◌⊎◌, ℕ, List, [], Err, inl, inr, sym, ap, subst}
use Rattle.mrp_rows.specs.Bundle.{text_in}
use Rattle.mrp_rows.specs.Columns.{Layout}
use Rattle.mrp_rows.specs.declared.fault.Fault.{Fault}
use Rattle.mrp_rows.specs.declared.faults.TheConstants as faults
use Rattle.mrp_rows.specs.declared.fault.Table.{Table}
use Rattle.mrp_tables.specs.Laws.{AreWholeBefore, IsMemoryRefusal}
use Rattle.mrp_tables.specs.Readers.{IsRefusedAt, layout_in, table_in}
use Rattle.mrp_tables.specs.Reading.{IsRefusedBehind, IsRefusedIn, Reads}
use Rattle.mrp_tables.specs.Tables.{tables_in}
use Rattle.mrp_tables.proofs.TableLaws.{refused_behind}

-- out of memory, at its table
record IsMemoryFault (own : Table) (f : Fault) : Type 0 where
  code : f.code ≡ faults.NO_MEMORY
  table : f.table ≡ own

memory_behind : {X : Type 0} (read : Reads X) (own : Layout) (before : List X) (number : ℕ) (left : List (List (List ℕ))) (f : Fault) → IsRefusedBehind read own before number left f → IsMemoryFault own.table f
memory_behind read own before number left f behind = record { code = ap (λ (g : Fault). g.code) behind.fault; table = ap (λ (g : Fault). g.table) behind.fault }

memory_in : {X : Type 0} (read : Reads X) (own : Layout) (text : List ℕ) (f : Fault) → IsRefusedIn read own text f → IsMemoryFault own.table f
memory_in read own text f (inl e) = record { code = ap (λ (g : Fault). g.code) e; table = ap (λ (g : Fault). g.table) e }
memory_in read own text f (inr (all, opens, behind)) = memory_behind read own [] all.number all.left f behind

-- a table's fault, or out of memory at it, is the bundle's after tables that are read whole
pub refused : (texts : List (List ℕ)) (own : Table) (f : Fault) → AreWholeBefore texts own → IsRefusedAt texts f own ⊎ (table_in texts own ≡ Err f)
    → IsMemoryRefusal texts f ⊎ (tables_in texts ≡ Err f)
refused texts own f earlier (inr e) = inr (refused_behind texts f own earlier e)
refused texts own f earlier (inl (read, is, memory)) =
    let at : IsMemoryFault own f = memory_in read (layout_in texts own) (text_in texts own) f memory in
    inl (record {
      code = at.code;
      at = subst (IsRefusedAt texts f) (sym at.table) (read, is, memory);
      earlier = subst (AreWholeBefore texts) (sym at.table) earlier;
    })
