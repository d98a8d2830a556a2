-- What a read of the next record found.
use Rattle.std.proofs.Common.{◌≡◌, ◌∙◌, ℕ, Bool, true, false, [], Ok, refl, subst}
use Rattle.mrp_rows.specs.Shown.{Shown, shown_of}
use Rattle.mrp_rows.specs.Unread.{IsAtEnd, IsRead, ReadsInto, Unread}
use Rattle.mrp_survey.specs.declared.finding.Place.{Place}
use Rattle.mrp_survey.specs.declared.form.Form.{Form}
use Rattle.mrp_survey.specs.Entry.{Entry}
use Rattle.mrp_survey.specs.Forms.{AllCells, Row}
use Rattle.mrp_survey.specs.Records.{Records, place_of}
use Rattle.mrp_survey.specs.Tables.{entry_at, width_of}

module _ (old new : Unread) (most : ℕ) (before row : Shown) (found : Bool) where
  -- a record
  pub was-read : found ≡ true → ReadsInto old most before (Ok found) row new → IsRead old most row new
  was-read some reads = subst (λ (b : Bool). ReadsInto old most before (Ok b) row new) some reads

  -- none
  pub was-none : found ≡ false → ReadsInto old most before (Ok found) row new → old ≡ []
  was-none none reads = let end : IsAtEnd old before row new = subst (λ (b : Bool). ReadsInto old most before (Ok b) row new) none reads in end.none

-- a record of a table
pub entry-is : (form : Form) (records : Records) (n : ℕ) (cells : AllCells) (most : ℕ) (row : Row) (place : Place) (entry : Entry) → entry ≡ record { form = form; place = place; row = row }
    → place ≡ place_of records form.table n → row ≡ shown_of most cells → most ≡ width_of form → entry ≡ entry_at form records n cells
entry-is form records n cells most row place entry is place_is row_is most_is = is ∙ rw (place_is, row_is, most_is) refl
