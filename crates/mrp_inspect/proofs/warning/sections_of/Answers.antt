use Rattle.std.proofs.Common.{◌≡◌, ◌∙◌, ℕ, List, Ok, Err, Result, ap}
use Rattle.mrp_qty.specs.Reading.{◌>>=◌}
use Rattle.mrp_rows.specs.declared.fault.Fault.{Fault}
use Rattle.mrp_tables.specs.Tables.{Tables, tables_in}
use Rattle.mrp_inspect.proofs.warning.sections_of.Goals as goal

refused-accepted : (f : Fault) (t : Tables) → ◌≡◌ {A = Result Tables Fault} (Err f) (Ok t) → ⊥
refused-accepted f t e = cc

pub unreachable-requires : goal.unreachable-requires
unreachable-requires c =
    let (tables, is) = c.requires in
    refused-accepted c.in-Err.field-0 tables (ap (λ (r : Result (List (List ℕ)) Fault). r >>= tables_in) c.in-Err.ensures ∙ is)
