-- Rows of csv behind a journal.
use Rattle.std.proofs.Common.{◌≡◌, ◌≢◌, ◌∙◌, ◌||◌, ℕ, Bool, true, false, List, [], ◌∷◌, ◌++◌, Some, None, refl, sym, ap, append-nil}
use Rattle.std.specs.Prelude.{if◌then◌else◌}
use Rattle.std.specs.List.{list_any, onto_first}
use Rattle.std.proofs.lemmas.Bool.{false≢true, ne_eqb}
use Rattle.csv.proofs.RoundTrip.{read-write-many}
use Rattle.csv.specs.Machine.{Read, ends_at_end, field_after, fields_after, is_end, next_record, step}
use Rattle.csv.specs.Reading.{default_config}
use Rattle.csv.specs.Writing.{default_writer, row_text}
use Rattle.csv.specs.declared.parser.State.{State}
use Rattle.csv.specs.declared.parser.State.TheVariants as st
use Rattle.mrp_rows.specs.Bundle.{ends_line, is_section_line, lines_of, without_line_ends}
use Rattle.mrp_rows.specs.Records.{records_in}
use Rattle.mrp_rows.specs.Together.{has_section_line}
use Rattle.mrp_journal.proofs.NextRecords.{records_in-next}
use Rattle.mrp_journal.specs.Rows.{IsRow, IsTable, is_ended}
use Rattle.mrp_journal.specs.Table.{body_of, journal_records, place_after, place_behind, table_records}
use Rattle.mrp_journal.specs.declared.table.Place.{Place}
use Rattle.mrp_journal.specs.declared.table.Place.TheVariants.{Between}
use Rattle.mrp_journal.proofs.Bodies.{body-behind, lead-behind}
use Rattle.mrp_journal.proofs.RecordsBehind.{IsUsual, place_of, place-none, place-on, records-behind, step-is}

some-same : {A : Type 0} (a b : A) → Some a ≡ Some b → a ≡ b
some-same a b e = cc

-- a text of which a record was read up to here: the rest, and the place between
record Cut (s : State) (xs : List ℕ) (p : Read) : Type 0 where
  front : List ℕ
  is : xs ≡ front ++ p.2
  place : place_behind (place_of s) front ≡ place_of p.1

-- a record that something follows is cut off where its step ended it
cut-off : (xs : List ℕ) (s : State) (cells : List (List ℕ)) (cell : List ℕ) (p : Read) → IsUsual s → next_record default_config s cells cell xs ≡ Some p → p.2 ≢ [] → Cut s xs p
unfolding next_record
cut-off [] s cells cell p u e some = absurd (by (ends_at_end s) e)
  where
    by : (b : Bool) → (if b then Some (cells ++ (cell ∷ []), st.StartRecord, []) else None) ≡ Some p → ⊥
    by true h =
        let made : Read = (cells ++ (cell ∷ []), st.StartRecord, []) in
        let q : made ≡ p = some-same made p h in
        some (sym (ap (λ (r : Read). r.2) q))
    by false h = absurd cc
cut-off (c ∷ rest) s cells cell p u e some =
    let is = step-is s c u in
    by (is_end (step default_config s c).1) e is.place
    (λ h. cut-off rest (step default_config s c).0 (fields_after (step default_config s c).1 cells cell) (field_after (step default_config s c).1 c cell) p is.usual h some)
  where
    by : (b : Bool) → (if b then Some (fields_after (step default_config s c).1 cells cell, (step default_config s c).0, rest)
        else next_record default_config (step default_config s c).0 (fields_after (step default_config s c).1 cells cell) (field_after (step default_config s c).1 c cell) rest) ≡ Some p
        → place_of (step default_config s c).0 ≡ place_after (place_of s) c
        → (next_record default_config (step default_config s c).0 (fields_after (step default_config s c).1 cells cell) (field_after (step default_config s c).1 c cell) rest ≡ Some p → Cut (step default_config s c).0 rest p)
        → Cut s (c ∷ rest) p
    by true h at more =
        let made : Read = (fields_after (step default_config s c).1 cells cell, (step default_config s c).0, rest) in
        let q : made ≡ p = some-same made p h in
        record {
          front = c ∷ [];
          is = ap (λ (r : Read). c ∷ r.2) q;
          place = place-on (place_of s) c [] ∙ place-none (place_after (place_of s) c) ∙ sym at ∙ ap (λ (r : Read). place_of r.1) q;
        }
    by false h at more =
        let cut = more h in
        record {
          front = c ∷ cut.front;
          is = ap (λ (ys : List ℕ). c ∷ ys) cut.is;
          place = place-on (place_of s) c cut.front ∙ ap (λ (at : Place). place_behind at cut.front) (sym at) ∙ cut.place;
        }

same-front : (a b : List ℕ) (x : ℕ) → a ++ x ∷ [] ≡ b ++ x ∷ [] → a ≡ b
same-front [] [] x e = refl
same-front [] (y ∷ []) x e = absurd (let f : x ∷ [] ≡ y ∷ x ∷ [] = e in let g : [] ≡ x ∷ [] = cc in cc)
same-front [] (y ∷ z ∷ b) x e = absurd (let f : x ∷ [] ≡ y ∷ z ∷ (b ++ x ∷ []) = e in let g : [] ≡ z ∷ (b ++ x ∷ []) = cc in cc)
same-front (y ∷ []) [] x e = absurd (let f : y ∷ x ∷ [] ≡ x ∷ [] = e in let g : x ∷ [] ≡ [] = cc in cc)
same-front (y ∷ z ∷ a) [] x e = absurd (let f : y ∷ z ∷ (a ++ x ∷ []) ≡ x ∷ [] = e in let g : z ∷ (a ++ x ∷ []) ≡ [] = cc in cc)
same-front (y ∷ a) (z ∷ b) x e =
    let f : y ∷ (a ++ x ∷ []) ≡ z ∷ (b ++ x ∷ []) = e in
    let first : y ≡ z = cc in
    let more : a ++ x ∷ [] ≡ b ++ x ∷ [] = cc in
    rw first (ap (λ (l : List ℕ). z ∷ l) (same-front a b x more))

-- a row ends between two records
row-place : (x y : List ℕ) (ys : List (List ℕ)) → place_behind Between (row_text default_writer (x ∷ y ∷ ys)) ≡ Between
row-place x y ys =
    let text = row_text default_writer (x ∷ y ∷ ys) in
    let end : Read = (x ∷ y ∷ ys, st.StartRecord, 49 ∷ []) in
    let cut = cut-off (text ++ 49 ∷ []) st.StartRecord [] [] end tt (read-write-many x y ys (49 ∷ [])) (λ e. absurd cc) in
    let same : text ≡ cut.front = same-front text cut.front 49 cut.is in
    ap (place_behind Between) same ∙ cut.place

place-append : (xs ys : List ℕ) (at : Place) → place_behind at (xs ++ ys) ≡ place_behind (place_behind at xs) ys
place-append [] ys at = ap (λ (p : Place). place_behind p ys) (sym (place-none at))
place-append (x ∷ xs) ys at = place-on at x (xs ++ ys) ∙ place-append xs ys (place_after at x) ∙ ap (λ (p : Place). place_behind p ys) (sym (place-on at x xs))

-- lines of a text behind one that ends as a line does
lines-on : (x : ℕ) (xs : List ℕ) → ends_line x ≡ false → lines_of (x ∷ xs) ≡ onto_first x (lines_of xs)
unfolding lines_of
lines-on x xs e = rw e refl

lines-end : (x : ℕ) (xs : List ℕ) → ends_line x ≡ true → lines_of (x ∷ xs) ≡ (x ∷ []) ∷ lines_of xs
unfolding lines_of
lines-end x xs e = rw e refl

lines-none : lines_of [] ≡ []
unfolding lines_of
lines-none = refl

-- the lines of a text that is not empty are some
some-lines : (x : ℕ) (xs : List ℕ) → (l : List ℕ) × (ls : List (List ℕ)) × (lines_of (x ∷ xs) ≡ l ∷ ls)
some-lines x xs = by (ends_line x) refl
  where
    onto : (ls : List (List ℕ)) → (l : List ℕ) × (ms : List (List ℕ)) × (onto_first x ls ≡ l ∷ ms)
    onto [] = (x ∷ [], [], refl)
    onto (l ∷ ls) = (x ∷ l, ls, refl)

    by : (b : Bool) → ends_line x ≡ b → (l : List ℕ) × (ls : List (List ℕ)) × (lines_of (x ∷ xs) ≡ l ∷ ls)
    by true e = (x ∷ [], lines_of xs, lines-end x xs e)
    by false e = let o = onto (lines_of xs) in (o.0, o.1, lines-on x xs e ∙ o.2)

onto-append : (x : ℕ) (ls ms : List (List ℕ)) → (l : List ℕ) (rest : List (List ℕ)) → ls ≡ l ∷ rest → onto_first x (ls ++ ms) ≡ onto_first x ls ++ ms
onto-append x ls ms l rest e = rw e refl

pub lines-behind : (xs ys : List ℕ) → is_ended xs ≡ true → lines_of (xs ++ ys) ≡ lines_of xs ++ lines_of ys
unfolding is_ended
lines-behind [] ys e = absurd (false≢true e)
lines-behind (x ∷ []) ys e = lines-end x ys e ∙ ap (λ (ls : List (List ℕ)). ls ++ lines_of ys) (sym (lines-end x [] e ∙ ap (λ (ls : List (List ℕ)). (x ∷ []) ∷ ls) lines-none))
lines-behind (x ∷ y ∷ rest) ys e = by (ends_line x) refl (lines-behind (y ∷ rest) ys e)
  where
    by : (b : Bool) → ends_line x ≡ b → lines_of ((y ∷ rest) ++ ys) ≡ lines_of (y ∷ rest) ++ lines_of ys → lines_of (x ∷ (y ∷ rest) ++ ys) ≡ lines_of (x ∷ y ∷ rest) ++ lines_of ys
    by true is more = lines-end x ((y ∷ rest) ++ ys) is ∙ ap (λ (ls : List (List ℕ)). (x ∷ []) ∷ ls) more ∙ ap (λ (ls : List (List ℕ)). ls ++ lines_of ys) (sym (lines-end x (y ∷ rest) is))
    by false is more =
        let some = some-lines y rest in
        lines-on x ((y ∷ rest) ++ ys) is ∙ ap (onto_first x) more ∙ onto-append x (lines_of (y ∷ rest)) (lines_of ys) some.0 some.1 some.2
        ∙ ap (λ (ls : List (List ℕ)). ls ++ lines_of ys) (sym (lines-on x (y ∷ rest) is))

any-append : (ls ms : List (List ℕ)) → list_any is_section_line (ls ++ ms) ≡ (list_any is_section_line ls || list_any is_section_line ms)
any-append [] ms = refl
any-append (l ∷ ls) ms = by (is_section_line l) (any-append ls ms)
  where
    by : (b : Bool) → list_any is_section_line (ls ++ ms) ≡ (list_any is_section_line ls || list_any is_section_line ms) → (b || list_any is_section_line (ls ++ ms)) ≡ ((b || list_any is_section_line ls) || list_any is_section_line ms)
    by true e = refl
    by false e = e

-- the only line of a line
one-line : (text : List ℕ) → list_any ends_line text ≡ false → lines_of (text ++ 10 ∷ []) ≡ (text ++ 10 ∷ []) ∷ []
one-line [] none = lines-end 10 [] refl ∙ ap (λ (ls : List (List ℕ)). (10 ∷ []) ∷ ls) lines-none
one-line (x ∷ text) none =
    let off = parts (ends_line x) (list_any ends_line text) none in
    lines-on x (text ++ 10 ∷ []) off.0 ∙ ap (onto_first x) (one-line text off.1)
  where
    parts : (a b : Bool) → (a || b) ≡ false → (a ≡ false) × (b ≡ false)
    parts true b h = absurd cc
    parts false b h = (refl, h)

row-plain : (row : List ℕ) → IsRow row → has_section_line row ≡ false
row-plain row r =
    let one : lines_of row ≡ row ∷ [] = ap lines_of r.line.is ∙ one-line r.line.text r.line.no_end ∙ ap (λ (l : List ℕ). l ∷ []) (sym r.line.is) in
    ap (list_any is_section_line) one ∙ ap (λ (l : List ℕ). is_section_line l || false) r.is ∙ ap (λ b. b || false) (ne_eqb r.first 91 r.plain)

no-section-behind : (journal row : List ℕ) → is_ended journal ≡ true → has_section_line journal ≡ false → IsRow row → has_section_line (journal ++ row) ≡ false
no-section-behind journal row ended none r =
    ap (list_any is_section_line) (lines-behind journal row ended) ∙ any-append (lines_of journal) (lines_of row)
    ∙ ap (λ b. b || has_section_line row) none ∙ row-plain row r

ended-line : (xs : List ℕ) → is_ended (xs ++ 10 ∷ []) ≡ true
unfolding is_ended
ended-line [] = refl
ended-line (x ∷ []) = refl
ended-line (x ∷ y ∷ rest) = ended-line (y ∷ rest)

ended-append : (xs ys : List ℕ) → is_ended ys ≡ true → is_ended (xs ++ ys) ≡ true
unfolding is_ended
ended-append [] ys e = e
ended-append (x ∷ []) [] e = absurd (false≢true e)
ended-append (x ∷ []) (y ∷ ys) e = e
ended-append (x ∷ y ∷ rest) ys e = ended-append (y ∷ rest) ys e

nothing : records_in st.StartRecord [] [] [] ≡ []
unfolding records_in
nothing = refl

feed-alone : records_in st.StartRecord [] [] (10 ∷ []) ≡ []
unfolding records_in
feed-alone = refl

-- the record of a row
pub row-record : (x y : List ℕ) (ys : List (List ℕ)) → records_in st.StartRecord [] [] (row_text default_writer (x ∷ y ∷ ys)) ≡ (x ∷ y ∷ ys) ∷ []
row-record x y ys =
    let text = row_text default_writer (x ∷ y ∷ ys) in
    ap (records_in st.StartRecord [] []) (sym (append-nil text)) ∙ records_in-next st.StartRecord [] [] (text ++ []) (x ∷ y ∷ ys, st.StartRecord, []) (read-write-many x y ys [])
    ∙ ap (λ (rs : List (List (List ℕ))). (x ∷ y ∷ ys) ∷ rs) nothing

-- the records of a journal, as of the table that it is in a bundle
pub table-is : (journal : List ℕ) → IsTable journal → table_records journal ≡ journal_records journal
table-is journal h =
    ap (records_in st.StartRecord [] []) (body-behind journal (10 ∷ []) h.ended h.some)
    ∙ records-behind (body_of journal) st.StartRecord [] [] (10 ∷ []) tt (refl, refl) h.takes.between
    ∙ ap (λ (rs : List (List (List ℕ))). records_in st.StartRecord [] [] (body_of journal) ++ rs) feed-alone
    ∙ append-nil (records_in st.StartRecord [] [] (body_of journal))

-- with a row behind it, it has that row's record too
pub row-behind : (journal : List ℕ) (x y : List ℕ) (ys : List (List ℕ)) → IsTable journal → IsRow (row_text default_writer (x ∷ y ∷ ys))
    → IsTable (journal ++ row_text default_writer (x ∷ y ∷ ys)) × (table_records (journal ++ row_text default_writer (x ∷ y ∷ ys)) ≡ table_records journal ++ (x ∷ y ∷ ys) ∷ [])
row-behind journal x y ys h r =
    let row = row_text default_writer (x ∷ y ∷ ys) in
    let body = body-behind journal row h.ended h.some in
    let some : without_line_ends (journal ++ row) ≢ [] = λ e. h.some (none-front (without_line_ends journal) row (sym (lead-same journal row h.some) ∙ e)) in
    let made : IsTable (journal ++ row) = record {
      ended = ended-append journal row (ap is_ended r.line.is ∙ ended-line r.line.text);
      some = some;
      takes = record {
        no_section = no-section-behind journal row h.ended h.takes.no_section r;
        between = ap (place_behind Between) body ∙ place-append (body_of journal) row Between ∙ ap (λ (at : Place). place_behind at row) h.takes.between ∙ row-place x y ys;
      };
    } in (
      made,
      table-is (journal ++ row) made ∙ ap (records_in st.StartRecord [] []) body
          ∙ records-behind (body_of journal) st.StartRecord [] [] row tt (refl, refl) h.takes.between
          ∙ ap (λ (rs : List (List (List ℕ))). records_in st.StartRecord [] [] (body_of journal) ++ rs) (row-record x y ys)
          ∙ ap (λ (rs : List (List (List ℕ))). rs ++ (x ∷ y ∷ ys) ∷ []) (sym (table-is journal h)),
    )
  where
    none-front : (a b : List ℕ) → a ++ b ≡ [] → a ≡ []
    none-front [] b e = refl
    none-front (x ∷ a) b e = absurd cc

    lead-same : (xs m : List ℕ) → without_line_ends xs ≢ [] → without_line_ends (xs ++ m) ≡ without_line_ends xs ++ m
    lead-same xs m some = lead-behind xs m some
