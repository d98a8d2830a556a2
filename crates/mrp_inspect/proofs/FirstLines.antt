-- The texts of the lines of faults, and the fault that the first tells.
use Rattle.std.proofs.Common.{◌≡◌, ◌∙◌, ℕ, ◌+◌, ◌<◌, Bool, true, false, List, [], ◌∷◌, ◌++◌, Option, Some, None, ap, ap₂, drop, get_or, length, map, refl, sym}
use Rattle.std.specs.Prelude.{if◌then◌else◌, filter_map, is_none, option_map, slice_get}
use Rattle.std.specs.Option.{option_to_list}
use Rattle.std.proofs.lemmas.List.{drop_more, map-append}
use Rattle.std.proofs.lemmas.List.Elements.{filter_map-append}
use Rattle.std.proofs.lemmas.Simd.{map-map}
use Rattle.mrp_rows.specs.declared.fault.Fault.{Fault}
use Rattle.mrp_rows.specs.declared.fault.Table.{Table}
use Rattle.mrp_survey.specs.Finding.{Told}
use Rattle.mrp_survey.specs.Surveyed.{Surveyed}
use Rattle.mrp_advice.specs.Lines.{follows, runs_after, runs_of, survey_lines}
use Rattle.mrp_words.specs.Folder.{all_tables}
use Rattle.mrp_inspect.specs.declared.found.Found.{Found}
use Rattle.mrp_inspect.specs.declared.names.Naming.{Naming}
use Rattle.mrp_inspect.specs.Faults.{FaultLine, file_lines, finding_line, first_fault, is_fault, lines_found, lines_if, missing_as, missing_line, path_line, record_lines, stray_line, tells_first, texts_of, way_line}
use Rattle.mrp_inspect.specs.Found.{is_bare, parts_of}
use Rattle.mrp_inspect.specs.LineFaults.{finding_fault, missing_fault}
use Rattle.mrp_inspect.specs.Pieces.{pieces_of}
use Rattle.mrp_inspect.specs.Strays.{StrayLine, first_among, firsts_of, strays_of}
use Rattle.mrp_inspect.specs.Words.{missing_at, missing_of, path_text, stray_text}
use Rattle.mrp_inspect.proofs.Growing.{filter_map-one}

abbrev text_of : FaultLine → List ℕ
text_of line = line.text

filter_map-more : {A B : Type 0} (f : A → Option B) (x : A) (xs : List A) → filter_map f (x ∷ xs) ≡ option_to_list (f x) ++ filter_map f xs
filter_map-more {A} {B} f x xs = filter_map-append f (x ∷ []) xs ∙ ap (λ (ys : List B). ys ++ filter_map f xs) (filter_map-one f x)

-- the texts of the tables that are not there
texts-one : (table : Table) (text : Option (List ℕ)) → texts_of (option_to_list (option_map (missing_as table) text)) ≡ option_to_list text
texts-one table None = refl
texts-one table (Some text) = refl

texts-missing : (firsts : List (Option ℕ)) (others : List (Option Naming)) (tables : List Table) → texts_of (filter_map (missing_line firsts others) tables) ≡ filter_map (missing_of firsts others) tables
texts-missing firsts others [] = refl
texts-missing firsts others (table ∷ tables) =
    ap texts_of (filter_map-more (missing_line firsts others) table tables)
    ∙ map-append text_of (option_to_list (missing_line firsts others table)) (filter_map (missing_line firsts others) tables)
    ∙ ap₂ (λ (a b : List (List ℕ)). a ++ b) (texts-one table (missing_of firsts others table)) (texts-missing firsts others tables)
    ∙ sym (filter_map-more (missing_of firsts others) table tables)

texts-files : (strays : List StrayLine) (firsts : List (Option ℕ)) (others : List (Option Naming)) → texts_of (file_lines strays firsts others) ≡ map stray_text strays ++ filter_map (missing_of firsts others) all_tables
texts-files strays firsts others =
    map-append text_of (map stray_line strays) (filter_map (missing_line firsts others) all_tables)
    ∙ ap₂ (λ (a b : List (List ℕ)). a ++ b) (map-map text_of stray_line strays) (texts-missing firsts others all_tables)

texts-records : (survey : Surveyed) → texts_of (record_lines survey) ≡ survey_lines survey
texts-records survey =
    map-append text_of (map (finding_line survey) (runs_of survey.findings)) (map (way_line survey) survey.loops)
    ∙ ap₂ (λ (a b : List (List ℕ)). a ++ b) (map-map text_of (finding_line survey) (runs_of survey.findings)) (map-map text_of (way_line survey) survey.loops)

texts-if : (bare : Bool) (path : FaultLine) (files records : List FaultLine) → texts_of (lines_if bare path files records) ≡ lines_if bare path.text (texts_of files) (texts_of records)
texts-if true path files records = refl
texts-if false path files records = map-append text_of files records

-- the texts of all lines that are found
pub texts-found : (found : Found) (survey : Surveyed) (strays : List StrayLine) (firsts : List (Option ℕ)) → strays ≡ strays_of (pieces_of (parts_of found)) → firsts ≡ firsts_of (pieces_of (parts_of found))
    → lines_if (is_bare found) (path_text found.path_kind) (map stray_text strays ++ filter_map (missing_of firsts found.others.items) all_tables) (survey_lines survey) ≡ texts_of (lines_found found survey)
texts-found found survey strays firsts strays_are firsts_are = rw (strays_are, firsts_are) (sym (by (strays_of (pieces_of (parts_of found))) (firsts_of (pieces_of (parts_of found)))))
  where
    by : (ss : List StrayLine) (fs : List (Option ℕ)) → texts_of (lines_if (is_bare found) (path_line found.path_kind) (file_lines ss fs found.others.items) (record_lines survey))
        ≡ lines_if (is_bare found) (path_text found.path_kind) (map stray_text ss ++ filter_map (missing_of fs found.others.items) all_tables) (survey_lines survey)
    by ss fs =
        texts-if (is_bare found) (path_line found.path_kind) (file_lines ss fs found.others.items) (record_lines survey)
        ∙ ap₂ (λ (a b : List (List ℕ)). lines_if (is_bare found) (path_text found.path_kind) a b) (texts-files ss fs found.others.items) (texts-records survey)

-- the first table that is not there, table by table
missing-none : (table : Table) (other : Option Naming) (first : Option ℕ) → is_none first ≡ false → option_map (missing_as table) (missing_at table other first) ≡ None
missing-none table other (Some first) there = refl
missing-none table other None there = absurd (cc)

missing-some : (table : Table) (other : Option Naming) (first : Option ℕ) (behind : List FaultLine) → is_none first ≡ true
    → first_fault (option_to_list (option_map (missing_as table) (missing_at table other first)) ++ behind) ≡ Some (missing_fault table)
missing-some table other (Some first) behind gone = absurd (cc)
missing-some table other None behind gone = refl

abbrev pub first_missing : List (Option ℕ) → List (Option Naming) → List Table → Option Fault
first_missing firsts others tables = first_fault (filter_map (missing_line firsts others) tables)

skips : (firsts : List (Option ℕ)) (others : List (Option Naming)) (table : Table) (tables : List Table) → is_none (first_among firsts table) ≡ false → first_missing firsts others (table ∷ tables) ≡ first_missing firsts others tables
skips firsts others table tables there =
    ap first_fault (filter_map-more (missing_line firsts others) table tables)
    ∙ ap (λ (o : Option FaultLine). first_fault (option_to_list o ++ filter_map (missing_line firsts others) tables)) (missing-none table _ (first_among firsts table) there)

stops : (firsts : List (Option ℕ)) (others : List (Option Naming)) (table : Table) (tables : List Table) → is_none (first_among firsts table) ≡ true → first_missing firsts others (table ∷ tables) ≡ Some (missing_fault table)
stops firsts others table tables gone =
    ap first_fault (filter_map-more (missing_line firsts others) table tables)
    ∙ missing-some table _ (first_among firsts table) (filter_map (missing_line firsts others) tables) gone

-- a table more, which is there
pub goes-on : (firsts : List (Option ℕ)) (others : List (Option Naming)) (k : ℕ) (d : Table) (whole : Option Fault) → k < length all_tables → is_none (first_among firsts (get_or all_tables k d)) ≡ false
    → first_missing firsts others (drop k all_tables) ≡ whole → first_missing firsts others (drop (k + 1) all_tables) ≡ whole
goes-on firsts others k d whole within there so_far =
    sym (skips firsts others (get_or all_tables k d) (drop (k + 1) all_tables) there) ∙ ap (first_missing firsts others) (sym (drop_more all_tables k d within)) ∙ so_far

-- the first that is not
pub finds : (firsts : List (Option ℕ)) (others : List (Option Naming)) (k : ℕ) (d : Table) (whole : Option Fault) → k < length all_tables → is_none (first_among firsts (get_or all_tables k d)) ≡ true
    → first_missing firsts others (drop k all_tables) ≡ whole → Some (missing_fault (get_or all_tables k d)) ≡ whole
finds firsts others k d whole within gone so_far =
    sym (stops firsts others (get_or all_tables k d) (drop (k + 1) all_tables) gone) ∙ ap (first_missing firsts others) (sym (drop_more all_tables k d within)) ∙ so_far

-- the first of lines with others behind them
first-behind : (lines behind : List FaultLine) (fault : Fault) → first_fault lines ≡ Some fault → first_fault (lines ++ behind) ≡ Some fault
first-behind [] behind fault is = absurd (cc)
first-behind (line ∷ lines) behind fault is = is

-- the first of records
first-run : (survey : Surveyed) (first last : Told) (others : List Told) → first_fault (map (finding_line survey) (runs_after first last others)) ≡ Some (finding_fault survey first)
unfolding runs_after
first-run survey first last [] = refl
first-run survey first last (next ∷ others) = by (follows last next) (first-run survey first next others)
  where
    by : (on : Bool) → first_fault (map (finding_line survey) (runs_after first next others)) ≡ Some (finding_fault survey first)
        → first_fault (map (finding_line survey) (if on then runs_after first next others else (first, last.line) ∷ runs_after next next others)) ≡ Some (finding_fault survey first)
    by true rest = rest
    by false rest = refl

pub some-finding : (survey : Surveyed) (finding : Told) → slice_get survey.findings 0 ≡ Some finding → first_fault (record_lines survey) ≡ Some (finding_fault survey finding)
some-finding survey finding is = by survey.findings is
  where
    by : (findings : List Told) → slice_get findings 0 ≡ Some finding → first_fault (map (finding_line survey) (runs_of findings) ++ map (way_line survey) survey.loops) ≡ Some (finding_fault survey finding)
    by [] given = absurd (cc)
    by (first ∷ others) given =
        let same : first ≡ finding = cc in
        first-behind (map (finding_line survey) (runs_after first first others)) (map (way_line survey) survey.loops) (finding_fault survey finding)
        (first-run survey first first others ∙ ap (λ (f : Told). Some (finding_fault survey f)) same)

-- the fault that the first of all lines tells
pub tells-so : (found : Found) (survey : Surveyed) (strays : List StrayLine) (firsts : List (Option ℕ)) (bare : Bool) (own : Option Fault) (fault : Fault) → strays ≡ strays_of (pieces_of (parts_of found)) → firsts ≡ firsts_of (pieces_of (parts_of found)) → bare ≡ is_bare found
    → own ≡ first_fault (lines_if bare (path_line found.path_kind) (file_lines strays firsts found.others.items) (record_lines survey)) → is_fault own fault ≡ tells_first (lines_found found survey) fault
tells-so found survey strays firsts bare own fault strays_are firsts_are bare_is is =
    ap (λ (o : Option Fault). is_fault o fault) is
    ∙ (λ i. is_fault (first_fault (lines_if (bare_is i) (path_line found.path_kind) (file_lines (strays_are i) (firsts_are i) found.others.items) (record_lines survey))) fault)
