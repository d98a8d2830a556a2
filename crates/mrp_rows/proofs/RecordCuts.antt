-- How a record is cut off a text, a cell at a time.
use Rattle.std.proofs.Common.{◌≡◌, ◌≢◌, ◌≤◌, ◌<◌, ◌+◌, ℕ, Bool, true, false, List, [], ◌∷◌, ◌++◌, refl, sym, ap, ◌∙◌, length, length-append, take, drop, suc, arith}
use Rattle.std.specs.List.{prefix_len}
use Rattle.mrp_rows.specs.Shown.{Shown, are_empty, is_empty, shown_of}
use Rattle.std.specs.Prelude.{◌&&◌, ◌||◌, if◌then◌else◌, nat_lt}
use Rattle.std.proofs.lemmas.Bool.{ltb-true, ltb-false, ne_eqb}
use Rattle.std.proofs.lemmas.List.{drop_all, drop-append-le, take_all, take-append-le}
use Rattle.std.proofs.lemmas.List.Folds.{list_all-append}
use Rattle.csv.specs.declared.parser.State.TheVariants as st
use Rattle.mrp_rows.specs.Bundle.{ends_line, without_line_ends}
use Rattle.mrp_rows.specs.Records.{records_in}
use Rattle.mrp_rows.specs.Cutting.{BeginsWith, IsInside, cell_in, cell_length, records_behind}
use Rattle.mrp_rows.specs.declared.cutting.Spot.TheVariants as spot
use Rattle.mrp_rows.proofs.CellCuts.{begin-record, cut-cell, skip-line_ends}

-- so many cells of a text's first record are cut off, up to the byte that ends the last of them
pub record IsBehind (text : List ℕ) (most : ℕ) (first : List (List ℕ)) (number : ℕ) (others : Bool) (behind : List ℕ) : Type 0 where
  pub cells : List (List ℕ)
  pub records : records_in st.StartField [] [] text ≡ records_behind cells behind
  pub kept : first ≡ take most cells
  pub count : number ≡ length cells
  pub empty : others ≡ are_empty (drop most cells)

-- the first cells, and one more
kept-more : (most : ℕ) (cells : List (List ℕ)) (cell : List ℕ) → (if nat_lt (length cells) most then take most cells ++ (cell ∷ []) else take most cells) ≡ take most (cells ++ (cell ∷ []))
kept-more most cells cell = by (nat_lt (length cells) most) refl
  where
    by : (few : Bool) → nat_lt (length cells) most ≡ few → (if few then take most cells ++ (cell ∷ []) else take most cells) ≡ take most (cells ++ (cell ∷ []))
    by true e =
        let short : length cells < most = ltb-true _ _ e in
        let fits : length (cells ++ (cell ∷ [])) ≤ most = omega (arith, length-append cells (cell ∷ [])) in
        ap (λ (xs : List (List ℕ)). xs ++ (cell ∷ [])) (take_all most cells (omega arith)) ∙ sym (take_all most (cells ++ (cell ∷ [])) fits)
    by false e =
        let long : most ≤ length cells = ltb-false _ _ e in
        sym (take-append-le most cells (cell ∷ []) long)

-- the others are empty, with one more
empty-more : (most : ℕ) (cells : List (List ℕ)) (cell : List ℕ) → (are_empty (drop most cells) && (nat_lt (length cells) most || is_empty cell)) ≡ are_empty (drop most (cells ++ (cell ∷ [])))
empty-more most cells cell = by (nat_lt (length cells) most) refl
  where
    last : (b c : Bool) → (b && c) ≡ (b && (c && true))
    last true true = refl
    last true false = refl
    last false c = refl

    by : (few : Bool) → nat_lt (length cells) most ≡ few → (are_empty (drop most cells) && (few || is_empty cell)) ≡ are_empty (drop most (cells ++ (cell ∷ [])))
    by true e =
        let short : length cells < most = ltb-true _ _ e in
        let fits : length (cells ++ (cell ∷ [])) ≤ most = omega (arith, length-append cells (cell ∷ [])) in
        rw (drop_all most cells (omega arith), drop_all most (cells ++ (cell ∷ [])) fits) refl
    by false e =
        let long : most ≤ length cells = ltb-false _ _ e in
        rw (drop-append-le most cells (cell ∷ []) long, list_all-append is_empty (drop most cells) (cell ∷ [])) (last (are_empty (drop most cells)) (is_empty cell))

pub inside-first : (text : List ℕ) (most : ℕ) (kept : List (List ℕ)) → kept ≡ [] → IsInside text most kept 0 true text
inside-first text most kept none =
    record { cells = []; records = refl; kept = none ∙ sym (take_all most [] (omega arith)); count = refl; empty = rw (drop_all {X = List ℕ} most [] (omega arith)) refl }

-- the next cell
pub cell-next : (text : List ℕ) (most : ℕ) (kept more : List (List ℕ)) (count next : ℕ) (others fit : Bool) (rest behind : List ℕ) → IsInside text most kept count others rest
    → more ≡ (if nat_lt count most then kept ++ (cell_in spot.Front (take (cell_length spot.Front rest) rest) ∷ []) else kept) → behind ≡ drop (cell_length spot.Front rest) rest
    → fit ≡ (nat_lt count most || is_empty (cell_in spot.Front (take (cell_length spot.Front rest) rest)))
    → next ≡ count + 1 → IsBehind text most more next (others && fit) behind
cell-next text most kept more count next others fit rest behind h more_is behind_is fit_is next_is =
    let cell = cell_in spot.Front (take (cell_length spot.Front rest) rest) in
    record {
      cells = h.cells ++ (cell ∷ []);
      records = h.records ∙ cut-cell rest spot.Front h.cells [] ∙ rw behind_is refl;
      kept = more_is ∙ rw (h.count, h.kept) (kept-more most h.cells cell);
      count = omega (arith, length-append h.cells (cell ∷ []), h.count);
      empty = rw (fit_is, h.count, h.empty) (empty-more most h.cells cell);
    }

pub inside-next : (text : List ℕ) (most : ℕ) (kept : List (List ℕ)) (count : ℕ) (others : Bool) (behind rest : List ℕ) → IsBehind text most kept count others behind → behind ≡ 44 ∷ rest
    → IsInside text most kept count others rest
inside-next text most kept count others behind rest h is = record { cells = h.cells; records = h.records ∙ rw is refl; kept = h.kept; count = h.count; empty = h.empty }

pub record-ends : (text : List ℕ) (most : ℕ) (kept : List (List ℕ)) (count byte : ℕ) (others : Bool) (behind rest : List ℕ) → IsBehind text most kept count others behind → behind ≡ byte ∷ rest → byte ≢ 44
    → BeginsWith st.StartField text most kept count others rest
record-ends text most kept count byte others behind rest h is other =
    record { cells = h.cells; records = h.records ∙ rw (is, ne_eqb byte 44 other) refl; kept = h.kept; count = h.count; empty = h.empty }

pub text-ends : (text : List ℕ) (most : ℕ) (kept : List (List ℕ)) (count : ℕ) (others : Bool) (behind : List ℕ) → IsBehind text most kept count others behind → behind ≡ []
    → BeginsWith st.StartField text most kept count others behind
unfolding records_in
text-ends text most kept count others behind h is = record { cells = h.cells; records = h.records ∙ rw is refl; kept = h.kept; count = h.count; empty = h.empty }

-- behind leading line ends a text that is not empty begins with its first cell
first-cell : (text : List ℕ) → length (without_line_ends text) ≢ 0 → records_in st.StartRecord [] [] (without_line_ends text) ≡ records_in st.StartField [] [] (without_line_ends text)
first-cell [] some = absurd (some refl)
first-cell (byte ∷ rest) some = by (ends_line byte) refl some (first-cell rest)
  where
    by : (is : Bool) → ends_line byte ≡ is → length (without_line_ends (byte ∷ rest)) ≢ 0
        → (length (without_line_ends rest) ≢ 0 → records_in st.StartRecord [] [] (without_line_ends rest) ≡ records_in st.StartField [] [] (without_line_ends rest))
        → records_in st.StartRecord [] [] (without_line_ends (byte ∷ rest)) ≡ records_in st.StartField [] [] (without_line_ends (byte ∷ rest))
    by true is some_so more =
        let one : 1 + prefix_len ends_line rest ≡ suc (prefix_len ends_line rest) = omega arith in
        let same : without_line_ends (byte ∷ rest) ≡ without_line_ends rest = rw (is, one) refl in
        rw same (more (rw same at some_so))
    by false is some_so more = rw is (begin-record byte rest is)

pub record-begins : (text front : List ℕ) (most : ℕ) (kept : List (List ℕ)) (count : ℕ) (others : Bool) (rest : List ℕ) → front ≡ without_line_ends text → length front ≢ 0
    → BeginsWith st.StartField front most kept count others rest → BeginsWith st.StartRecord text most kept count others rest
record-begins text front most kept count others rest is some h = record {
  cells = h.cells;
  records = skip-line_ends text ∙ first-cell text (rw is at some) ∙ ap (λ xs. records_in st.StartField [] [] xs) (sym is) ∙ h.records;
  kept = h.kept;
  count = h.count;
  empty = h.empty;
}

-- what is kept of a record, part by part
pub is-shown : (most : ℕ) (shown : Shown) (cells : List (List ℕ)) → shown.first ≡ take most cells → shown.count ≡ length cells → shown.are_others_empty ≡ are_empty (drop most cells) → shown ≡ shown_of most cells
is-shown most shown cells kept count empty = by shown.first shown.count shown.are_others_empty kept count empty
  where
    by : (first : List (List ℕ)) (number : ℕ) (others : Bool) → first ≡ take most cells → number ≡ length cells → others ≡ are_empty (drop most cells)
        → record { first = first; count = number; are_others_empty = others } ≡ shown_of most cells
    by first number others kept_is count_is empty_is = rw (kept_is, count_is, empty_is) refl
