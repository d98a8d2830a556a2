-- Journals that have begun.
use Rattle.std.proofs.Common.{◌≡◌, ◌≢◌, ◌∙◌, ◌||◌, ℕ, Bool, true, false, List, [], ◌∷◌, ◌++◌, refl, sym, ap, append-nil}
use Rattle.std.specs.List.{list_any}
use Rattle.mrp_rows.specs.Bundle.{ends_line, section_text, without_line_ends, without_mark}
use Rattle.mrp_journal.specs.Journal.{begun}
use Rattle.mrp_journal.specs.Lines.{whole_lines}
use Rattle.mrp_journal.specs.Rows.{IsTable, is_ended}
use Rattle.mrp_journal.specs.Table.{TakesRecords, body_of, header_for, header_unless, journal_records, script_header}
use Rattle.mrp_journal.proofs.Bodies.{ended-more, ended-one, lead-off, lead-on, same-mark}
use Rattle.mrp_journal.proofs.RecordsBehind.{none-left}
use Rattle.mrp_journal.proofs.WholeLines.{any-whole, whole-more, whole-none}

-- a text ends as what is behind it does
ended-behind : (xs : List ℕ) (y : ℕ) (ys : List ℕ) → is_ended (xs ++ y ∷ ys) ≡ is_ended (y ∷ ys)
ended-behind [] y ys = refl
ended-behind (x ∷ []) y ys = ended-more x y ys
ended-behind (x ∷ z ∷ xs) y ys = ended-more x z (xs ++ y ∷ ys) ∙ ended-behind (z ∷ xs) y ys

-- whole lines end as a line does, if there are any
whole-is-ended : (xs : List ℕ) → whole_lines xs ≢ [] → is_ended (whole_lines xs) ≡ true
whole-is-ended [] some = absurd (some (whole-none [] refl))
whole-is-ended (x ∷ xs) some = by (list_any ends_line (x ∷ xs)) refl (whole-is-ended xs)
  where
    last : (rest : List ℕ) → whole_lines xs ≡ rest → (ends_line x || list_any ends_line xs) ≡ true → (whole_lines xs ≢ [] → is_ended (whole_lines xs) ≡ true) → is_ended (x ∷ rest) ≡ true
    last [] is e more =
        let none : list_any ends_line xs ≡ false = sym (any-whole xs) ∙ ap (list_any ends_line) is in
        ended-one x ∙ or-none (ends_line x) (list_any ends_line xs) none e
      where
        or-none : (a b : Bool) → b ≡ false → (a || b) ≡ true → a ≡ true
        or-none true b f t = refl
        or-none false b f t = sym f ∙ t
    last (y ∷ ys) is e more = ended-more x y ys ∙ ap is_ended (sym is) ∙ more (λ none. let f : y ∷ ys ≡ [] = sym is ∙ none in cc)

    by : (b : Bool) → list_any ends_line (x ∷ xs) ≡ b → (whole_lines xs ≢ [] → is_ended (whole_lines xs) ≡ true) → is_ended (whole_lines (x ∷ xs)) ≡ true
    by true e more = ap is_ended (whole-more x xs e) ∙ last (whole_lines xs) refl e more
    by false e more = absurd (some (whole-none (x ∷ xs) e))

-- a byte that ends no line is left
pub some-behind : (xs : List ℕ) (y : ℕ) (ys : List ℕ) → ends_line y ≡ false → without_line_ends (xs ++ y ∷ ys) ≢ []
some-behind [] y ys off = λ none. let f : y ∷ ys ≡ [] = sym (lead-off y ys off) ∙ none in cc
some-behind (x ∷ xs) y ys off = by (ends_line x) refl (some-behind xs y ys off)
  where
    by : (b : Bool) → ends_line x ≡ b → without_line_ends (xs ++ y ∷ ys) ≢ [] → without_line_ends (x ∷ (xs ++ y ∷ ys)) ≢ []
    by true is more = λ none. more (sym (lead-on x (xs ++ y ∷ ys) is) ∙ none)
    by false is more = λ none. let f : x ∷ (xs ++ y ∷ ys) ≡ [] = sym (lead-off x (xs ++ y ∷ ys) is) ∙ none in cc

mark-none : without_mark [] ≡ []
unfolding without_mark
mark-none = refl

-- line ends alone have no record
pub no-records : (xs : List ℕ) → without_line_ends xs ≡ [] → journal_records xs ≡ []
no-records xs none =
    let body : body_of xs ≡ [] = same-mark (section_text xs) ∙ ap (λ (ys : List ℕ). without_mark (without_mark ys)) none ∙ ap without_mark mark-none ∙ mark-none in
    none-left (body_of xs) (ap without_line_ends body)

pub header-ended : is_ended script_header ≡ true
unfolding is_ended
header-ended = refl

pub begun-table : (bytes : List ℕ) → TakesRecords (begun bytes (header_for (whole_lines bytes))) → IsTable (begun bytes (header_for (whole_lines bytes)))
begun-table bytes takes = by (journal_records (whole_lines bytes)) refl
  where
    whole : List ℕ
    whole = whole_lines bytes

    by : (records : List (List (List ℕ))) → journal_records (whole_lines bytes) ≡ records → IsTable (begun bytes (header_for (whole_lines bytes)))
    by [] is =
        let head : header_for (whole_lines bytes) ≡ script_header = ap header_unless is in
        record {
          ended = ap (λ (h : List ℕ). is_ended (whole_lines bytes ++ h)) head ∙ ended-behind (whole_lines bytes) _ _ ∙ header-ended;
          some = λ none. some-behind (whole_lines bytes) _ _ refl (ap (λ (h : List ℕ). without_line_ends (whole_lines bytes ++ h)) (sym head) ∙ none);
          takes = takes;
        }
    by (r ∷ rs) is =
        let head : header_for (whole_lines bytes) ≡ [] = ap header_unless is in
        let same : begun bytes (header_for (whole_lines bytes)) ≡ whole_lines bytes = ap (λ (h : List ℕ). whole_lines bytes ++ h) head ∙ append-nil (whole_lines bytes) in
        let left : without_line_ends (whole_lines bytes) ≢ [] = λ none. (let f : r ∷ rs ≡ [] = sym is ∙ no-records (whole_lines bytes) none in cc) in
        record {
          ended = ap is_ended same ∙ whole-is-ended bytes (λ none. left (ap without_line_ends none));
          some = λ none. left (ap without_line_ends (sym same) ∙ none);
          takes = takes;
        }
