-- A row, cell by cell.
use Rattle.std.proofs.Common.{◌≡◌, ◌∙◌, ℕ, List, [], ◌∷◌, ◌++◌, sym, ap, append_assoc}
use Rattle.std.proofs.lemmas.List.{append-nil}
use Rattle.csv.proofs.WriteFacts.{fields-snoc}
use Rattle.csv.specs.Writing.{default_writer, fields_text, is_blank, row_body}
use Rattle.mrp_report.specs.page.Put.{IsPut}
use Rattle.mrp_report.specs.page.CsvCells.{cell_text, next_cell}
use Rattle.mrp_report.specs.page.Rows.{row}
use Rattle.mrp_report.proofs.lemmas.page.Puts.{put_then}

-- these cells were put, and no end of the row
pub record IsLine (old new : List ℕ) (at : ℕ) (cells : List (List ℕ)) (end : ℕ) : Type 0 where
  pub put : IsPut old new at (row_body default_writer cells) end

pub line_first : {a b : List ℕ} {i j : ℕ} (cell : List ℕ) → IsPut a b i (cell_text cell) j → IsLine a b i (cell ∷ []) j
unfolding fields_text
line_first {a} {b} {i} {j} cell p = record { put = rw (append-nil (cell_text cell)) p }

pub line_next : {a b c first : List ℕ} {rest : List (List ℕ)} {i j k : ℕ} (cell : List ℕ) → IsLine a b i (first ∷ rest) j → IsPut b c j (next_cell cell) k → IsLine a c i (first ∷ (rest ++ cell ∷ [])) k
line_next {a} {b} {c} {first} {rest} {i} {j} {k} cell l p =
    let e : row_body default_writer (first ∷ (rest ++ cell ∷ [])) ≡ row_body default_writer (first ∷ rest) ++ next_cell cell =
    ap (λ (t : List ℕ). cell_text first ++ t) (fields-snoc default_writer rest cell) ∙ sym (append_assoc (cell_text first) (fields_text default_writer rest) (next_cell cell)) in
    record { put = rw e (put_then l.put p) }

pub line_end : {a b c first next : List ℕ} {rest : List (List ℕ)} {i j k : ℕ} → IsLine a b i (first ∷ next ∷ rest) j → IsPut b c j (10 ∷ []) k → IsPut a c i (row (first ∷ next ∷ rest)) k
unfolding is_blank
line_end l p = put_then l.put p
