-- What the calendar says, by its records that are kept.
use Rattle.std.proofs.Common.{◌≡◌, ◌∙◌, ℕ, List, [], ◌++◌, Option, Some, None, Result, Ok, Err, length, map, refl, sym, ap, append-nil, append_assoc}
use Rattle.std.specs.Prelude.{IfOk, option_and_then, option_map}
use Rattle.std.proofs.lemmas.List.{length-map}
use Rattle.mrp_rows.specs.declared.fault.Table.{Table}
use Rattle.mrp_rows.specs.declared.fault.Table.TheVariants as t
use Rattle.mrp_cal.specs.Calendar.{ShopCalendar}
use Rattle.mrp_tables.specs.declared.version.Version.{Version}
use Rattle.mrp_survey.specs.declared.form.Form.{Form}
use Rattle.mrp_survey.specs.declared.rule.Beside.{Beside}
use Rattle.mrp_survey.specs.declared.tables.Dated.{Dated}
use Rattle.mrp_survey.specs.Finding.{Told}
use Rattle.mrp_survey.specs.Forms.{AllCells, Row}
use Rattle.mrp_survey.specs.Horizons.{calendar_in, version_in}
use Rattle.mrp_survey.specs.Records.{Records, rows_below}
use Rattle.mrp_survey.specs.Survey.{Sources, calendar_among, calendar_by, calendar_told, dated_form, dated_told, lacking, lacks_told, missing_from, nothing_beside, records_at, rows_in, table_told, version_among, version_below, version_by, version_of_items}
use Rattle.mrp_survey.specs.Tables.{row_shown}

-- the records below a header, all their cells
record AreBelow (form : Form) (below : Option (List AllCells)) (rows : List Row) : Type 0 where
  pub all : List AllCells
  pub is : below ≡ Some all
  pub kept : rows ≡ map (row_shown form) all

are-below : (form : Form) (below : Option (List AllCells)) (rows : List Row) → Some rows ≡ option_map (map (row_shown form)) below → AreBelow form below rows
are-below form None rows e = absurd cc
are-below form (Some all) rows e = record { all = all; is = refl; kept = same rows (map (row_shown form) all) e }
  where
    same : (a b : List Row) → Some a ≡ Some b → a ≡ b
    same a b h = cc

module _ (sources : Sources) (form : Form) (sheet : Option Records) (own : Records) (rows : List Row) (sheet_is : sheet ≡ records_at sources t.Calendar) (form_is : form ≡ dated_form sheet) (own_is : sheet ≡ Some own)
    (rows_are : Some rows ≡ option_map (map (row_shown form)) (rows_below form own)) where
  pub calendar-told : (beside : Beside) (first now more : List Told) (file : Table) (count : ℕ) → beside ≡ nothing_beside → now ≡ first ++ table_told form beside sheet → file ≡ own.file → count ≡ length rows
      → more ≡ now ++ missing_from form file count → more ≡ first ++ calendar_told sources
  calendar-told beside first now more file count beside_is now_is file_is count_is more_is =
      let below = are-below form (rows_below form own) rows rows_are in
      let long : length rows ≡ length below.all = ap length below.kept ∙ length-map below.all (row_shown form) in
      let lacks : lacks_told form sheet ≡ missing_from form file count = ap (lacks_told form) own_is ∙ ap (lacking form own) below.is ∙ rw (file_is, count_is, long) refl in
      more_is ∙ ap (λ (l : List Told). l ++ missing_from form file count) now_is ∙ append_assoc first (table_told form beside sheet) (missing_from form file count)
      ∙ ap (λ (l : List Told). first ++ (table_told form beside sheet ++ l)) (sym lacks)
      ∙ ap (λ (b : Beside). first ++ (table_told form b sheet ++ lacks_told form sheet)) beside_is
      ∙ ap (λ (f : Form). first ++ dated_told f sheet) form_is
      ∙ ap (λ (s : Option Records). first ++ dated_told (dated_form s) s) sheet_is

  here : rows_in form sheet ≡ Some rows
  here = ap (rows_in form) own_is ∙ sym rows_are

  pub version-read : version_in form rows ≡ version_among sources
  version-read =
      let guess : Version = version_of_items (records_at sources t.Items) in
      ap (version_below guess form) (sym here) ∙ ap (λ (f : Form). version_by guess f sheet) form_is ∙ ap (λ (s : Option Records). version_by guess (dated_form s) s) sheet_is

  pub calendar-read : calendar_in form rows ≡ calendar_among sources
  calendar-read =
      ap (option_and_then (calendar_in form)) (sym here) ∙ ap (λ (f : Form). calendar_by f sheet) form_is ∙ ap (λ (s : Option Records). calendar_by (dated_form s) s) sheet_is

abbrev dated_at : Option Version → Option ShopCalendar → Dated
dated_at version calendar = record { version = version; calendar = calendar }

none-below : (form : Form) (below : Option (List AllCells)) → None ≡ option_map (map (row_shown form)) below → below ≡ None
none-below form None e = refl
none-below form (Some all) e = absurd cc

-- the same of a calendar that cannot be read
module _ (sources : Sources) (form : Form) (sheet : Option Records) (own : Records) (sheet_is : sheet ≡ records_at sources t.Calendar) (form_is : form ≡ dated_form sheet) (own_is : sheet ≡ Some own)
    (unread : None ≡ option_map (map (row_shown form)) (rows_below form own)) where
  pub unread-told : (first now : List Told) → now ≡ first ++ table_told form nothing_beside sheet → now ≡ first ++ calendar_told sources
  unread-told first now now_is =
      let lacks : lacks_told form sheet ≡ [] = ap (lacks_told form) own_is ∙ ap (lacking form own) (none-below form (rows_below form own) unread) in
      now_is ∙ ap (λ (l : List Told). first ++ l) (sym (append-nil (table_told form nothing_beside sheet)))
      ∙ ap (λ (l : List Told). first ++ (table_told form nothing_beside sheet ++ l)) (sym lacks)
      ∙ ap (λ (f : Form). first ++ dated_told f sheet) form_is
      ∙ ap (λ (s : Option Records). first ++ dated_told (dated_form s) s) sheet_is

  nowhere : rows_in form sheet ≡ None
  nowhere = ap (rows_in form) own_is ∙ sym unread

  unread-version : Some (version_of_items (records_at sources t.Items)) ≡ version_among sources
  unread-version =
      let guess : Version = version_of_items (records_at sources t.Items) in
      ap (version_below guess form) (sym nowhere) ∙ ap (λ (f : Form). version_by guess f sheet) form_is ∙ ap (λ (s : Option Records). version_by guess (dated_form s) s) sheet_is

  unread-calendar : None ≡ calendar_among sources
  unread-calendar =
      ap (option_and_then (calendar_in form)) (sym nowhere) ∙ ap (λ (f : Form). calendar_by f sheet) form_is ∙ ap (λ (s : Option Records). calendar_by (dated_form s) s) sheet_is

  pub unread-dated : {E : Type 0} (r : Result Dated E) → IfOk r (λ dated. dated ≡ dated_at (Some (version_of_items (records_at sources t.Items))) None) → IfOk r (λ dated. dated ≡ dated_at (version_among sources) (calendar_among sources))
  unread-dated (Ok dated) e =
      e ∙ ap (λ (v : Option Version). dated_at v None) unread-version ∙ ap (λ (k : Option ShopCalendar). dated_at (version_among sources) k) unread-calendar
  unread-dated (Err fault) e = tt
