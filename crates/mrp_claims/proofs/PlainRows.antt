-- Rows of cells that need no quotes.
use Rattle.std.proofs.Common.{◌≡◌, ◌∙◌, ℕ, ◌+◌, ◌<◌, ◌≤◌, false, List, [], ◌∷◌, ◌++◌, length, take, get_or, refl, sym, ap, arith, append_assoc}
use Rattle.std.proofs.lemmas.List.{take_all}
use Rattle.csv.specs.Writing.{default_writer, needs_quotes}
use Rattle.mrp_report.specs.page.CsvCells.{cell_text}
use Rattle.mrp_report.specs.page.Rows.{row}
use Rattle.mrp_report.proofs.lemmas.page.RowCells.{body, body_more, body_one, body_whole}
use Rattle.mrp_claims.specs.Reading.{ArePlain}

-- a cell that needs no quotes is written as it is
plain-cell : (cell : List ℕ) → needs_quotes default_writer cell ≡ false → cell_text cell ≡ cell
plain-cell cell none = rw none refl

-- the first cell
pub first-cell : (cells : List (List ℕ)) → ArePlain cells → body (take 1 cells) ≡ get_or cells 0 []
first-cell cells plain = body_one cells (omega (arith, plain.0)) ∙ plain-cell (get_or cells 0 []) (plain.1 0 (omega (arith, plain.0)))

-- one more, after a comma
pub next-cell : (cells : List (List ℕ)) (k : ℕ) → ArePlain cells → 0 < k → k < length cells → body (take (k + 1) cells) ≡ (body (take k cells) ++ 44 ∷ []) ++ get_or cells k []
next-cell cells k plain some within =
    body_more cells k some within
    ∙ ap (λ (x : List ℕ). body (take k cells) ++ 44 ∷ x) (plain-cell (get_or cells k []) (plain.1 k within))
    ∙ sym (append_assoc (body (take k cells)) (44 ∷ []) (get_or cells k []))

-- all of them, and the line feed
pub whole-row : (cells : List (List ℕ)) (k : ℕ) → ArePlain cells → length cells ≤ k → body (take k cells) ++ 10 ∷ [] ≡ row cells
whole-row cells k plain all = ap (λ (x : List (List ℕ)). body x ++ 10 ∷ []) (take_all k cells all) ∙ body_whole cells plain.0
