-- The records of a script linked desk by desk.
use Rattle.std.specs.Prelude.{ℕ, ◌≡◌, ◌≤◌, ◌+◌, List, Some, length, slice_get, slice_index, take}
use Rattle.mrp_tables.specs.declared.limits.TheConstants.{MOST_DESKS}
use Rattle.mrp_book.specs.declared.call.Call.{Call}
use Rattle.mrp_engine.specs.day.RightDay.{asked_by}
use Rattle.mrp_script.specs.Script.{Script}
use Rattle.mrp_audit.specs.Parts.{IsNextPlace}

-- for the records from a place on: the first of each desk, by its number, and for each record the next one of
-- its desk
pub record AreNext (script : Script) (from : ℕ) (of_desk behind : List ℕ) : Type 0 where
  pub desks : length of_desk ≡ MOST_DESKS + 1
  pub size : length behind ≡ length script
  pub first : (desk : ℕ) → desk ≤ MOST_DESKS → IsNextPlace script desk from (slice_index of_desk desk)
  pub next : (place : ℕ) (r : ℕ × Call) → from ≤ place → slice_get script place ≡ Some r → r.0 ≤ MOST_DESKS → IsNextPlace script r.0 (place + 1) (slice_index behind place)

-- each record has the place of the next one of its desk
pub record AreBehind (script : Script) (behind : List ℕ) : Type 0 where
  pub size : length behind ≡ length script
  pub next : (place : ℕ) (r : ℕ × Call) → slice_get script place ≡ Some r → r.0 ≤ MOST_DESKS → IsNextPlace script r.0 (place + 1) (slice_index behind place)

-- the calls that each desk has made are those of its records before its next one
abbrev pub HaveCome : Script → Script → List ℕ → Type 0
HaveCome script made of_desk =
    (desk : ℕ) → desk ≤ MOST_DESKS → (at : ℕ) × (asked_by desk made ≡ asked_by desk (take at script)) × IsNextPlace script desk at (slice_index of_desk desk)
