-- What is told of each record that is read.
use Rattle.std.proofs.Common.{◌≡◌, ◌∙◌, ◌+◌, ◌<◌, ◌≤◌, ℕ, zero, suc, Bool, true, false, cond, List, [], ◌∷◌, ◌++◌, All, Option, Some, None, get_or, length, map, take, refl, ap, arith, append-nil}
use Rattle.std.specs.Prelude.{◌==◌, filter, flat_map, if◌then◌else◌, is_some, nat_lt, option_and_then, option_map}
use Rattle.std.specs.List.{range_with_len}
use Rattle.std.specs.Option.{option_to_list}
use Rattle.std.proofs.lemmas.Bool.{ltb-false, ltb-true, ne_eqb}
use Rattle.std.proofs.lemmas.List.Elements.{All-append, All-cons, All-nil}
use Rattle.mrp_rows.specs.declared.fault.Table.{Table}
use Rattle.mrp_rows.specs.declared.fault.Table.TheVariants as t
use Rattle.mrp_tables.specs.declared.item.Class.{Class}
use Rattle.mrp_tables.specs.declared.item.Class.TheVariants.{Master, Part}
use Rattle.mrp_tables.specs.Reading.{is_past}
use Rattle.mrp_tables.specs.Versions.{has_steps}
use Rattle.mrp_survey.specs.declared.finding.What.{What}
use Rattle.mrp_survey.specs.declared.finding.What.TheVariants as what
use Rattle.mrp_survey.specs.declared.form.Form.{Form}
use Rattle.mrp_survey.specs.declared.rule.Beside.{Beside}
use Rattle.mrp_survey.specs.declared.rule.Rule.{Rule}
use Rattle.mrp_survey.specs.declared.rule.Rule.TheVariants as rule
use Rattle.mrp_survey.specs.CellLaws.{IsOfWrongCell, TellsEachCell, TellsEachRecord, is_of_cell, keys_behind}
use Rattle.mrp_survey.specs.Entry.{Entry}
use Rattle.mrp_survey.specs.Entries.{kind_in, name_in, word_in, wrong_in}
use Rattle.mrp_survey.specs.Finding.{Told}
use Rattle.mrp_survey.specs.Forms.{AllCells}
use Rattle.mrp_survey.specs.Headers.{limit_of}
use Rattle.mrp_survey.specs.Keys.{Keys}
use Rattle.mrp_survey.specs.Marks.{cell_mark, keys_after, marks_of, told_of}
use Rattle.mrp_survey.specs.Records.{Records}
use Rattle.mrp_survey.specs.Rules.{broken, class_fault, class_fault_in, component_fault, has_gone_out, is_unknown, key_column, known_class, marked_if, not_master, receipt_fault, repeated, row_fault, rules_of, service_fault}
use Rattle.mrp_survey.specs.Tables.{entry_at, row_shown, told_from, width_of}
use Rattle.mrp_survey.specs.Told.{Mark, told}

-- the marks of a record's cells in these columns
abbrev marks_in : Entry → List ℕ → List Mark
marks_in entry columns = flat_map (λ column. cell_mark column (kind_in entry column) (wrong_in entry column)) columns

columns-told : (entry : Entry) (columns : List ℕ) → map (λ (mark : Mark). mark.0) (marks_in entry columns) ≡ filter (λ column. is_some (wrong_in entry column)) columns
columns-told entry [] = refl
columns-told entry (column ∷ columns) = by (wrong_in entry column) (columns-told entry columns)
  where
    by : (o : Option ℕ) → map (λ (mark : Mark). mark.0) (marks_in entry columns) ≡ filter (λ column. is_some (wrong_in entry column)) columns
        → map (λ (mark : Mark). mark.0) (cell_mark column (kind_in entry column) o ++ marks_in entry columns) ≡ cond (is_some o) (column ∷ filter (λ column. is_some (wrong_in entry column)) columns) (filter (λ column. is_some (wrong_in entry column)) columns)
    by None more = more
    by (Some code) more = ap (λ (xs : List ℕ). column ∷ xs) more

cells-wrong : (entry : Entry) (columns : List ℕ) → All (IsOfWrongCell entry) (marks_in entry columns)
cells-wrong entry [] = All-nil (IsOfWrongCell entry)
cells-wrong entry (column ∷ columns) = All-append (IsOfWrongCell entry) (cell_mark column (kind_in entry column) (wrong_in entry column)) (marks_in entry columns) (by (wrong_in entry column) refl) (cells-wrong entry columns)
  where
    by : (o : Option ℕ) → wrong_in entry column ≡ o → All (IsOfWrongCell entry) (cell_mark column (kind_in entry column) o)
    by None is = All-nil (IsOfWrongCell entry)
    by (Some code) is = All-cons (IsOfWrongCell entry) (column, what.Cell (kind_in entry column) code) [] (code, is, refl) (All-nil (IsOfWrongCell entry))

-- no rule speaks of a cell that is not of its kind
IsOther : Mark → Type 0
IsOther mark = is_of_cell mark.1 ≡ false

not-master-other : (class : Class) (w : What) → not_master class ≡ Some w → is_of_cell w ≡ false
not-master-other Master w e = absurd cc
not-master-other Part w e = let same : what.NotMaster ≡ w = cc in rw (← same) refl

service-other : (class : Class) (w : What) → service_fault class ≡ Some w → is_of_cell w ≡ false
service-other Master w e = let same : what.ServiceMaster ≡ w = cc in rw (← same) refl
service-other Part w e = absurd cc

either-other : {Q : Type 0} (b : Bool) (x y : Option What) (w : What) → (x ≡ Some w → Q) → (y ≡ Some w → Q) → (if b then x else y) ≡ Some w → Q
either-other true x y w first second e = first e
either-other false x y w first second e = second e

row-other : (entry : Entry) (kind : Option ℕ) (class : Class) (w : What) → row_fault entry.form.version kind class ≡ Some w → is_of_cell w ≡ false
row-other entry (Some kind) class w e = either-other (kind == 2) (service_fault class) (not_master class) w (service-other class w) (not-master-other class w) e
row-other entry None class w e = either-other (has_steps entry.form.version) None (not_master class) w (λ no. absurd cc) (not-master-other class w) e

receipt-other : (class : Class) (w : What) → receipt_fault class ≡ Some w → is_of_cell w ≡ false
receipt-other Master w e = let same : what.MasterReceipt ≡ w = cc in rw (← same) refl
receipt-other Part w e = absurd cc

component-other : (class : Class) (w : What) → component_fault class ≡ Some w → is_of_cell w ≡ false
component-other Master w e = let same : what.MasterComponent ≡ w = cc in rw (← same) refl
component-other Part w e = absurd cc

class-other : (table : Table) (entry : Entry) (class : Class) (w : What) → class_fault_in table entry class ≡ Some w → is_of_cell w ≡ false
class-other t.Calendar entry class w e = absurd cc
class-other t.Items entry class w e = absurd cc
class-other t.Centres entry class w e = absurd cc
class-other t.Stock entry class w e = absurd cc
class-other t.Receipts entry class w e = receipt-other class w e
class-other t.Bills entry class w e = component-other class w e
class-other t.Routings entry class w e = absurd cc
class-other t.Master entry class w e = row-other entry (word_in entry 1) class w e
class-other t.Script entry class w e = not-master-other class w e
class-other t.Bundle entry class w e = absurd cc

-- a mark, where there is one
OtherMark : Option Mark → Type 0
OtherMark o = All IsOther (option_to_list o)

one-other : (mark : Mark) → is_of_cell mark.1 ≡ false → OtherMark (Some mark)
unfolding OtherMark IsOther
one-other mark e = All-cons IsOther mark [] e (All-nil IsOther)

if-other : (b : Bool) (mark : Mark) → is_of_cell mark.1 ≡ false → OtherMark (marked_if b mark)
unfolding OtherMark
if-other true mark e = one-other mark e
if-other false mark e = All-nil IsOther

line-other : (column : ℕ) (line : Option ℕ) → OtherMark (option_map (λ line. (column, what.Repeated line)) line)
unfolding OtherMark
line-other column (Some line) = one-other (column, what.Repeated line) refl
line-other column None = All-nil IsOther

misfit-other : (entry : Entry) (column : ℕ) (class : Option Class) → OtherMark (option_map (λ wrong. (column, wrong)) (option_and_then (class_fault entry) class))
unfolding OtherMark
misfit-other entry column None = All-nil IsOther
misfit-other entry column (Some class) = by (class_fault entry class) refl
  where
    by : (o : Option What) → class_fault entry class ≡ o → OtherMark (option_map (λ wrong. (column, wrong)) o)
    by (Some w) is = one-other (column, w) (class-other entry.form.table entry class w is)
    by None is = All-nil IsOther

rule-other : (beside : Beside) (seen : Keys) (entry : Entry) (own : Rule) → OtherMark (broken beside seen entry own)
rule-other beside seen entry rule.Once = line-other (key_column entry.form.table) (repeated seen entry)
rule-other beside seen entry (rule.Item column) = if-other (is_unknown beside.items entry column) (column, what.UnknownItem) refl
rule-other beside seen entry (rule.Centre column) = if-other (is_unknown beside.centres entry column) (column, what.UnknownCentre) refl
rule-other beside seen entry (rule.Within column) = if-other (has_gone_out beside.calendar entry column) (column, what.DateOutside) refl
rule-other beside seen entry (rule.OfClass column) = misfit-other entry column (known_class beside.items (name_in entry column))
rule-other beside seen entry rule.Unstocked = if-other _ (6, what.MasterSafety) refl

rules-other : (beside : Beside) (seen : Keys) (entry : Entry) (rules : List Rule) → All IsOther (flat_map (λ own. option_to_list (broken beside seen entry own)) rules)
unfolding OtherMark
rules-other beside seen entry [] = All-nil IsOther
rules-other beside seen entry (own ∷ rules) = All-append IsOther (option_to_list (broken beside seen entry own)) _ (rule-other beside seen entry own) (rules-other beside seen entry rules)

pub tells-each-cell : (entry : Entry) → TellsEachCell entry
unfolding IsOther
tells-each-cell entry = record {
  columns = columns-told entry (range_with_len 0 entry.row.count);
  wrong = cells-wrong entry (range_with_len 0 entry.row.count);
  others = λ beside seen. rules-other beside seen entry (rules_of entry.form.table);
}

-- what is told with this number
abbrev numbered : ℕ → List Told → List Told
numbered k told = filter (λ (one : Told). one.number == k) told

numbered-append : (k : ℕ) (xs ys : List Told) → numbered k (xs ++ ys) ≡ numbered k xs ++ numbered k ys
numbered-append k [] ys = refl
numbered-append k (x ∷ xs) ys = by (x.number == k) (numbered-append k xs ys)
  where
    by : (b : Bool) → numbered k (xs ++ ys) ≡ numbered k xs ++ numbered k ys → cond b (x ∷ numbered k (xs ++ ys)) (numbered k (xs ++ ys)) ≡ cond b (x ∷ numbered k xs) (numbered k xs) ++ numbered k ys
    by true more = ap (λ (l : List Told). x ∷ l) more
    by false more = more

numbered-own : (k : ℕ) (entry : Entry) (marks : List Mark) → (entry.place.number == k) ≡ true → numbered k (told_of entry marks) ≡ told_of entry marks
numbered-own k entry [] e = refl
numbered-own k entry (mark ∷ marks) e = rw e (ap (λ (l : List Told). told entry.place entry.row mark.0 mark.1 ∷ l) (numbered-own k entry marks e))

numbered-other : (k : ℕ) (entry : Entry) (marks : List Mark) → (entry.place.number == k) ≡ false → numbered k (told_of entry marks) ≡ []
numbered-other k entry [] e = refl
numbered-other k entry (mark ∷ marks) e = rw e (numbered-other k entry marks e)

eq-same : (n : ℕ) → (n == n) ≡ true
eq-same n = grind arith

module _ (form : Form) (beside : Beside) (records : Records) where
  numbered-later : (k : ℕ) (seen : Keys) (n : ℕ) (rows : List AllCells) → k < n → numbered k (told_from form beside records seen n rows) ≡ []
  unfolding told_from
  numbered-later k seen n [] less = refl
  numbered-later k seen n (row ∷ rows) less = by (is_past (limit_of form) n) (numbered-later k (keys_after (width_of form) seen (entry_at form records n row)) (n + 1) rows (omega (arith, less)))
    where
      other : (n == k) ≡ false
      other = ne_eqb n k (λ e. omega (arith, e, less))

      by : (b : Bool) → numbered k (told_from form beside records (keys_after (width_of form) seen (entry_at form records n row)) (n + 1) rows) ≡ []
          → numbered k (if b then told (entry_at form records n row).place (row_shown form row) 0 what.TooMany ∷ [] else told_of (entry_at form records n row) (marks_of (width_of form) beside seen (entry_at form records n row)) ++ told_from form beside records (keys_after (width_of form) seen (entry_at form records n row)) (n + 1) rows) ≡ []
      by true more = rw other refl
      by false more =
          numbered-append k (told_of (entry_at form records n row) (marks_of (width_of form) beside seen (entry_at form records n row))) _
          ∙ ap (λ (l : List Told). l ++ numbered k (told_from form beside records (keys_after (width_of form) seen (entry_at form records n row)) (n + 1) rows)) (numbered-other k (entry_at form records n row) (marks_of (width_of form) beside seen (entry_at form records n row)) other)
          ∙ more

  past-below : (limit : Option ℕ) (n k : ℕ) → n ≤ k → is_past limit k ≡ false → is_past limit n ≡ false
  past-below None n k low e = refl
  past-below (Some limit) n k low e = let most : k ≤ limit = ltb-false limit k e in by (nat_lt limit n) refl most
    where
      by : (b : Bool) → nat_lt limit n ≡ b → k ≤ limit → b ≡ false
      by true is most = absurd (let over : limit < n = ltb-true limit n is in omega (arith, over, most, low))
      by false is most = refl

  each-told : (k : ℕ) (seen : Keys) (n place : ℕ) (rows : List AllCells) → k ≡ n + place → place < length rows → is_past (limit_of form) k ≡ false
      → numbered k (told_from form beside records seen n rows)
      ≡ told_of (entry_at form records k (get_or rows place [])) (marks_of (width_of form) beside (keys_behind form records seen n (take place rows)) (entry_at form records k (get_or rows place [])))
  unfolding told_from keys_behind
  each-told k seen n place [] at within admits = absurd (omega (arith, within))
  each-told k seen n zero (row ∷ rows) at within admits =
      let same : n ≡ k = omega (arith, at) in
      let own : (n == k) ≡ true = rw same (eq-same k) in
      let here : is_past (limit_of form) n ≡ false = rw same admits in
      let entry = entry_at form records n row in
      let first : numbered k (told_from form beside records seen n (row ∷ rows)) ≡ told_of entry (marks_of (width_of form) beside seen entry) =
      rw here (numbered-append k (told_of entry (marks_of (width_of form) beside seen entry)) _
      ∙ ap (λ (l : List Told). l ++ numbered k (told_from form beside records (keys_after (width_of form) seen entry) (n + 1) rows)) (numbered-own k entry (marks_of (width_of form) beside seen entry) own)
      ∙ ap (λ (l : List Told). told_of entry (marks_of (width_of form) beside seen entry) ++ l) (numbered-later k (keys_after (width_of form) seen entry) (n + 1) rows (omega (arith, same)))
      ∙ append-nil (told_of entry (marks_of (width_of form) beside seen entry))) in
      first ∙ ap (λ (m : ℕ). told_of (entry_at form records m row) (marks_of (width_of form) beside seen (entry_at form records m row))) same
  each-told k seen n (suc place) (row ∷ rows) at within admits =
      let other : (n == k) ≡ false = ne_eqb n k (λ e. omega (arith, e, at)) in
      let here : is_past (limit_of form) n ≡ false = past-below (limit_of form) n k (omega (arith, at)) admits in
      let entry = entry_at form records n row in
      let more = each-told k (keys_after (width_of form) seen entry) (n + 1) place rows (omega (arith, at)) (omega (arith, within)) admits in
      rw here (numbered-append k (told_of entry (marks_of (width_of form) beside seen entry)) _
      ∙ ap (λ (l : List Told). l ++ numbered k (told_from form beside records (keys_after (width_of form) seen entry) (n + 1) rows)) (numbered-other k entry (marks_of (width_of form) beside seen entry) other)
      ∙ more)

  pub tells-each-record : (rows : List AllCells) → TellsEachRecord form beside records rows
  tells-each-record rows = λ place within admits. each-told (place + 1) [] 1 place rows (omega arith) within admits
