-- A cursor's next record, within the table's limit.
use Rattle.std.proofs.Common.{◌≡◌, ◌≢◌, ◌⊎◌, ℕ, Option, ◌==◌, ◌&&◌, eqb, Bool, true, false, length, Err, inl, inr, refl, sym, ap}
use Rattle.std.specs.Prelude.{if◌then◌else◌}
use Rattle.std.proofs.lemmas.Bool.{ne_eqb}
use Rattle.mrp_rows.specs.declared.fault.Fault.{Fault}
use Rattle.mrp_rows.specs.declared.faults.TheConstants as faults
use Rattle.mrp_rows.specs.Left.{Cells, Left}
use Rattle.mrp_rows.specs.Next.{IsMisshapen, LacksMemory, NextIs}
use Rattle.mrp_rows.specs.Columns.{Layout, width}
use Rattle.mrp_tables.specs.Reading.{NextAdmitted, admitted, is_past}

-- a refusal of the cursor, but for a record past the limit
abbrev pub past_first : Option ℕ → Fault → Fault
past_first limit f = if (f.code == faults.COLUMNS) && is_past limit f.row then record { code = faults.TOO_MANY; table = f.table; row = f.row } else f

same_fault : (a b : Fault) → a.code ≡ b.code → a.table ≡ b.table → a.row ≡ b.row → a ≡ b
same_fault a b e f g = λ i. record { code = e i; table = f i; row = g i }

-- a record past its limit
past : (limit : Option ℕ) (own : Layout) (f : Fault) (r : Cells) → f.code ≡ faults.COLUMNS → f.table ≡ r.table → f.row ≡ r.number → is_past limit r.number ≡ true → admitted limit own r ≡ Err (past_first limit f)
past limit own f r code table row h =
    rw (code, table, row, h) refl

-- a record within its limit, with another count of cells
within : (limit : Option ℕ) (own : Layout) (f : Fault) (r : Cells) → f.code ≡ faults.COLUMNS → f.table ≡ r.table → f.row ≡ r.number → is_past limit r.number ≡ false
    → length r.cells ≢ width own → admitted limit own r ≡ Err (past_first limit f)
within limit own f r code table row h wide =
    let w : eqb (length r.cells) (width own) ≡ false = ne_eqb _ _ wide in
    let kept : past_first limit f ≡ f = rw (code, table, row, h) refl in
    let same : record { code = faults.COLUMNS; table = r.table; row = r.number } ≡ f = same_fault _ f (sym code) (sym table) (sym row) in
    rw (h, w, kept) (ap (λ g. Err g) same)

either : (limit : Option ℕ) (own : Layout) (f : Fault) (r : Cells) → f.code ≡ faults.COLUMNS → f.table ≡ r.table → f.row ≡ r.number → length r.cells ≢ width own
    → (b : Bool) → is_past limit r.number ≡ b → admitted limit own r ≡ Err (past_first limit f)
either limit own f r code table row wide true h = past limit own f r code table row h
either limit own f r code table row wide false h = within limit own f r code table row h wide

-- a refusal of memory stays, at the record
by_why : (limit : Option ℕ) (old new : Left) (f : Fault) → LacksMemory old f new ⊎ IsMisshapen old f new → NextAdmitted limit old (Err (past_first limit f)) new
by_why limit old new f (inl memory) = inl (record { fault = ap (past_first limit) memory.fault; number = memory.number })
by_why limit old new f (inr other) =
    let r : Cells = record { table = old.layout.table; number = old.number; cells = other.cells } in
    let code : f.code ≡ faults.COLUMNS = ap (λ (x : Fault). x.code) other.fault in
    let table : f.table ≡ r.table = ap (λ (x : Fault). x.table) other.fault in
    let row : f.row ≡ r.number = ap (λ (x : Fault). x.row) other.fault in
    inr (record {
      cells = other.cells;
      rest = other.rest;
      left = other.taken;
      refused = either limit old.layout f r code table row other.wide (is_past limit old.number) refl;
    })

pub refuses : (limit : Option ℕ) (old new : Left) (f : Fault) → NextIs old (Err f) new → NextAdmitted limit old (Err (past_first limit f)) new
refuses limit old new f refused = by_why limit old new f refused.why
