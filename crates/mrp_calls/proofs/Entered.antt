-- The desk of a shop's script.
use Rattle.std.proofs.Common.{◌≡◌, ◌≤◌, ℕ, List, length, ap, arith}
use Rattle.std.specs.Prelude.{map}
use Rattle.std.proofs.lemmas.List.{length-map}
use Rattle.mrp_tables.specs.declared.rows.ScriptRow.{ScriptRow}
use Rattle.mrp_book.specs.declared.call.Call.{Call}
use Rattle.mrp_book.specs.Standing.{History}
use Rattle.mrp_book.specs.History.{asked}
use Rattle.mrp_script.specs.Script.{record_of}

-- as many entries as records
pub few-entries : (h : History) (script : List ScriptRow) → asked h ≡ map record_of script → length script ≤ 100000 → length h ≤ 100000
few-entries h script same few =
    let entries : length (asked h) ≡ length h = length-map h (λ e. (e.who, e.call)) in
    let records : length (map record_of script) ≡ length script = length-map script record_of in
    let counts : length (asked h) ≡ length (map record_of script) = ap (length {A = ℕ × Call}) same in
    omega (arith, entries, records, counts, few)
