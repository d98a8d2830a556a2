-- A row, as its cells are added.
use Rattle.std.proofs.Common.{◌≡◌, ◌∙◌, ℕ, ◌+◌, ◌<◌, ◌≤◌, List, [], ◌∷◌, ◌++◌, length, take, get_or, map, Bor, refl, sym, ap, arith, append_assoc, length-take-le}
use Rattle.std.proofs.lemmas.List.{append-nil, get_or-map, length-map, take_all, take_more}
use Rattle.csv.proofs.WriteFacts.{fields-snoc}
use Rattle.csv.specs.Writing.{default_writer, fields_text, is_blank, row_body}
use Rattle.mrp_report.specs.page.CsvCells.{cell_text, next_cell}
use Rattle.mrp_report.specs.page.Rows.{row}

abbrev pub body : List (List ℕ) → List ℕ
body cells = row_body default_writer cells

body_snoc : (ys : List (List ℕ)) (x : List ℕ) → 0 < length ys → body (ys ++ x ∷ []) ≡ body ys ++ next_cell x
body_snoc [] x h = absurd (omega arith)
body_snoc (y ∷ ys) x h =
    ap (λ (t : List ℕ). cell_text y ++ t) (fields-snoc default_writer ys x) ∙ sym (append_assoc (cell_text y) (fields_text default_writer ys) (next_cell x))

pub body_one : (xs : List (List ℕ)) → 0 < length xs → body (take 1 xs) ≡ cell_text (get_or xs 0 [])
unfolding fields_text
body_one [] h = absurd (omega arith)
body_one (x ∷ xs) h = append-nil (cell_text x)

pub body_more : (xs : List (List ℕ)) (k : ℕ) → 0 < k → k < length xs → body (take (k + 1) xs) ≡ body (take k xs) ++ next_cell (get_or xs k [])
body_more xs k pos h =
    ap body (take_more xs k [] h) ∙ body_snoc (take k xs) (get_or xs k []) (omega (arith, length-take-le k xs (omega arith)))

pub body_whole : (xs : List (List ℕ)) → 2 ≤ length xs → body xs ++ 10 ∷ [] ≡ row xs
unfolding is_blank
body_whole [] h = absurd (omega arith)
body_whole (x ∷ []) h = absurd (omega arith)
body_whole (x ∷ y ∷ xs) h = refl

abbrev pub texts : List (Bor (List ℕ)) → List (List ℕ)
texts bs = map (λ (b : Bor (List ℕ)). b.now) bs

read : (bs : List (Bor (List ℕ))) (k : ℕ) (d : Bor (List ℕ)) → k < length bs → (get_or bs k d).now ≡ get_or (texts bs) k []
read bs k d h = sym (get_or-map (λ (b : Bor (List ℕ)). b.now) bs k d [] h)

-- the first cell was added
pub added_first : (page next : List ℕ) (bs : List (Bor (List ℕ))) (d : Bor (List ℕ)) → 0 < length bs → next ≡ page ++ cell_text (get_or bs 0 d).now → next ≡ page ++ body (take 1 (texts bs))
added_first page next bs d h adds =
    adds ∙ ap (λ (x : List ℕ). page ++ cell_text x) (read bs 0 d h)
    ∙ ap (λ (t : List ℕ). page ++ t) (sym (body_one (texts bs) (omega (arith, length-map bs (λ (b : Bor (List ℕ)). b.now)))))

-- one more cell was added
pub added_next : (page now next : List ℕ) (bs : List (Bor (List ℕ))) (k : ℕ) (d : Bor (List ℕ)) → 0 < k → k < length bs → now ≡ page ++ body (take k (texts bs)) → next ≡ now ++ next_cell (get_or bs k d).now
    → next ≡ page ++ body (take (k + 1) (texts bs))
added_next page now next bs k d pos h begun adds =
    adds ∙ ap (λ (x : List ℕ). now ++ next_cell x) (read bs k d h)
    ∙ ap (λ (t : List ℕ). t ++ next_cell (get_or (texts bs) k [])) begun
    ∙ append_assoc page (body (take k (texts bs))) (next_cell (get_or (texts bs) k []))
    ∙ ap (λ (t : List ℕ). page ++ t) (sym (body_more (texts bs) k pos (omega (arith, length-map bs (λ (b : Bor (List ℕ)). b.now)))))

-- the line feed was added
pub added_end : (page now next : List ℕ) (bs : List (Bor (List ℕ))) (k : ℕ) → length bs ≤ k → 2 ≤ length bs → now ≡ page ++ body (take k (texts bs)) → next ≡ now ++ 10 ∷ [] → next ≡ page ++ row (texts bs)
added_end page now next bs k all two begun adds =
    let long = length-map bs (λ (b : Bor (List ℕ)). b.now) in
    adds ∙ ap (λ (t : List ℕ). t ++ 10 ∷ []) (begun ∙ ap (λ (xs : List (List ℕ)). page ++ body xs) (take_all k (texts bs) (omega arith)))
    ∙ append_assoc page (body (texts bs)) (10 ∷ [])
    ∙ ap (λ (t : List ℕ). page ++ t) (body_whole (texts bs) (omega arith))
