-- A line that is answered for what it says.
use Rattle.std.proofs.Common.{◌≡◌, ℕ, List, [], ◌++◌, Ok, Err, refl, sym, subst, append-nil}
use Rattle.std.specs.Prelude.{OnOk, Result}
use Rattle.mrp_qty.specs.declared.memory.NoMemory.{NoMemory}
use Rattle.mrp_rows.specs.declared.fault.Fault.{Fault}
use Rattle.mrp_rows.specs.Left.{Cells}
use Rattle.mrp_tables.specs.declared.rows.ScriptRow.{ScriptRow}
use Rattle.mrp_tables.specs.Tables.{Tables}
use Rattle.mrp_book.specs.History.{next_number}
use Rattle.mrp_calls.specs.declared.fault.LineFault.{LineFault}
use Rattle.mrp_calls.specs.declared.fault.LineFault.TheVariants.{Refused}
use Rattle.mrp_calls.specs.Answers.{Adds, AnswersCall, Enters, refusal_text}
use Rattle.mrp_calls.specs.Desk.{Desk}
use Rattle.mrp_calls.specs.LineCall.{ReadsLine, call_of_line}

-- what a line says to the tables of a desk, under the number of its next record
said-of : (tables : Tables) (number : ℕ) (line : List ℕ) (d : Desk) (said : Result (Cells × ScriptRow) Fault) → tables ≡ d.tables → number ≡ next_number d.entries
    → call_of_line tables number line ≡ said → call_of_line d.tables (next_number d.entries) line ≡ said
said-of tables number line d said t n e =
    subst (λ (x : Tables). call_of_line x (next_number d.entries) line ≡ said) t (subst (λ (k : ℕ). call_of_line tables k line ≡ said) n e)

-- its call was entered
pub tried : (done : Result (Unit {0}) NoMemory) (tables : Tables) (number : ℕ) (line : List ℕ) (r : Cells) (given : ScriptRow) (old at new end : Desk) (answers records new_answers new_records : List ℕ)
    → tables ≡ old.tables → number ≡ next_number old.entries → call_of_line tables number line ≡ Ok (r, given) → at ≡ old → end ≡ new
    → OnOk done (Adds (Enters r given) at answers records new new_answers new_records)
    → OnOk done (Adds (AnswersCall (call_of_line old.tables (next_number old.entries) line)) old answers records end new_answers new_records)
tried done tables number line r given old at new end answers records new_answers new_records t n said a e h =
    let call = said-of tables number line old (Ok (r, given)) t n said in
    let here = subst (λ (d : Desk). OnOk done (Adds (Enters r given) d answers records new new_answers new_records)) a h in
    let there = subst (λ (d : Desk). OnOk done (Adds (Enters r given) old answers records d new_answers new_records)) (sym e) here in
    subst (λ (c : Result (Cells × ScriptRow) Fault). OnOk done (Adds (AnswersCall c) old answers records end new_answers new_records)) (sym call) there

-- it was refused
pub turned-down : (done : Result (Unit {0}) NoMemory) (tables : Tables) (number : ℕ) (line : List ℕ) (why : LineFault) (f : Fault) (old end : Desk) (answers records new_answers : List ℕ)
    → tables ≡ old.tables → number ≡ next_number old.entries → ReadsLine tables number line (Err why) → why ≡ Refused f → end ≡ old
    → OnOk done (new_answers ≡ answers ++ refusal_text f)
    → OnOk done (Adds (AnswersCall (call_of_line old.tables (next_number old.entries) line)) old answers records end new_answers records)
turned-down (Err none) tables number line why f old end answers records new_answers t n said is e h = tt
turned-down (Ok done) tables number line why f old end answers records new_answers t n said is e h =
    let refused : call_of_line tables number line ≡ Err f = subst (λ (w : LineFault). ReadsLine tables number line (Err w)) is said in
    let call = said-of tables number line old (Err f) t n refused in
    subst (λ (c : Result (Cells × ScriptRow) Fault). Adds (AnswersCall c) old answers records end new_answers records) (sym call)
    (refusal_text f, [], record { answered = refl; nothing = refl; same = e }, h, sym (append-nil records))
