-- Which tables can be those of a day.
use Rattle.std.specs.Prelude.{ℕ, ◌==◌, ◌&&◌, Bool, true, count_by, length, Option, Some, None}
use Rattle.mrp_tables.specs.Master.{is_firm, is_service}
use Rattle.mrp_tables.specs.Tables.{Tables}
use Rattle.mrp_facts.specs.declared.shape.DayShape.{DayShape}

-- a count is this one, if it is known
abbrev pub agrees : Option ℕ → ℕ → Bool
agrees (Some known) count = known == count
agrees None count = true

-- how many firm rows the master schedule has
abbrev pub firm_rows : Tables → ℕ
firm_rows t = count_by (λ row. is_firm row.kind) t.master

-- how many service rows the master schedule has
abbrev pub service_rows : Tables → ℕ
service_rows t = count_by (λ row. is_service row.kind) t.master

-- tables can be those of a day: they have as many items, weeks and rows of each kind as is known of the day's
abbrev pub can_be : Tables → DayShape → Bool
can_be t day =
    agrees day.items (length t.items)
    && (agrees day.weeks t.calendar.weeks
    && (agrees day.firm_rows (firm_rows t)
    && (agrees day.receipts (length t.receipts)
    && agrees day.service_rows (service_rows t))))
