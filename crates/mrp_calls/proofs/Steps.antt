-- What becomes of one line: its answer stands alone, or its call makes an entry.
use Rattle.std.proofs.Common.{◌≡◌, ◌⊎◌, ◌<◌, ◌≤◌, ◌||◌, ℕ, suc, Bool, true, false, List, Result, Ok, Err, refl, inl, inr, length, arith}
use Rattle.std.specs.Prelude.{nat_le, nat_lt}
use Rattle.std.specs.Bool.{MatchBool}
use Rattle.std.proofs.lemmas.Bool.{leb-false}
use Rattle.mrp_rows.specs.declared.fault.Fault.{Fault}
use Rattle.mrp_rows.specs.Left.{Cells}
use Rattle.mrp_tables.specs.declared.rows.ScriptRow.{ScriptRow}
use Rattle.mrp_book.specs.History.{next_number}
use Rattle.mrp_calls.specs.Answers.{AnswersCall, AnswersLine, Enters, Stays, full_text, no_memory_text, refusal_text}
use Rattle.mrp_calls.specs.Desk.{Desk, is_full}
use Rattle.mrp_calls.specs.LineCall.{call_of_line}

-- nothing is journalled, and nothing has changed
pub record StandsAlone (text : List ℕ) (old : Desk) (answer written : List ℕ) (next : Desk) : Type 0 where
  pub stays : Stays text old answer written next
  pub short : (text ≡ full_text) ⊎ ((text ≡ no_memory_text) ⊎ ((f : Fault) × (text ≡ refusal_text f)))

-- a desk that takes one more record
pub record HasPlace (d : Desk) : Type 0 where
  pub few : length d.entries < 100000
  pub room : 8192 ≤ d.room

-- a call makes an entry
pub record MakesEntry (line : List ℕ) (old : Desk) (answer written : List ℕ) (next : Desk) : Type 0 where
  pub r : Cells
  pub given : ScriptRow
  pub called : call_of_line old.tables (next_number old.entries) line ≡ Ok (r, given)
  pub enters : Enters r given old answer written next
  pub place : HasPlace old

abbrev pub Alone : Desk → List ℕ → List ℕ → Desk → Type 0
Alone old answer written next = (text : List ℕ) × StandsAlone text old answer written next

has-place : (d : Desk) → is_full d ≡ false → HasPlace d
has-place d e = by (nat_le 100000 (length d.entries)) refl (nat_lt d.room 8192) refl e
  where
    by : (a : Bool) → nat_le 100000 (length d.entries) ≡ a → (b : Bool) → nat_lt d.room 8192 ≡ b → (a || b) ≡ false → HasPlace d
    by true f b g h = absurd cc
    by false f true g h = absurd cc
    by false f false g h =
        let some : 8192 < suc d.room = leb-false (suc d.room) 8192 g in
        record { few = leb-false 100000 (length d.entries) f; room = omega (arith, some) }

pub step-of : (line : List ℕ) (old : Desk) (answer written : List ℕ) (next : Desk) → AnswersLine line old answer written next → Alone old answer written next ⊎ MakesEntry line old answer written next
step-of line old answer written next h = by (is_full old) refl h
  where
    said : (c : Result (Cells × ScriptRow) Fault) → call_of_line old.tables (next_number old.entries) line ≡ c → is_full old ≡ false → AnswersCall c old answer written next
        → Alone old answer written next ⊎ MakesEntry line old answer written next
    said (Ok (r, given)) e place h = inr (record { r = r; given = given; called = e; enters = h; place = has-place old place })
    said (Err f) e place h = inl (refusal_text f, record { stays = h; short = inr (inr (f, refl)) })

    by : (b : Bool) → is_full old ≡ b
        → MatchBool b (Stays full_text old answer written next) (AnswersCall (call_of_line old.tables (next_number old.entries) line) old answer written next ⊎ Stays no_memory_text old answer written next)
        → Alone old answer written next ⊎ MakesEntry line old answer written next
    by true e h = inl (full_text, record { stays = h; short = inl refl })
    by false e (inl h) = said (call_of_line old.tables (next_number old.entries) line) refl e h
    by false e (inr h) = inl (no_memory_text, record { stays = h; short = inr (inl refl) })
