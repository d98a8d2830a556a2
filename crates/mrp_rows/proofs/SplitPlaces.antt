-- Placing the sections one by one, as a loop does.
use Rattle.std.proofs.Common.{◌≡◌, ℕ, zero, suc, ◌+◌, ◌<◌, true, List, [], ◌∷◌, get_or, take, drop, Result, Ok, Err, refl, sym, ap, ◌∙◌, arith}
use Rattle.mrp_rows.specs.declared.fault.Fault.{Fault}
use Rattle.mrp_rows.specs.Bundle.{lines_of, is_section_line, Section, parts_of, sections_in, section_text, Texts, put_all, table_of, line_text}
use Rattle.mrp_rows.specs.Placing.{Places}

is-section : (xs : List ℕ) (n : ℕ) → get_or xs 0 0 ≡ 91 → 0 < n → is_section_line (take n xs) ≡ true
is-section [] n e lt = absurd (omega (arith, e))
is-section (x ∷ xs) zero e lt = absurd (omega arith)
is-section (x ∷ xs) (suc n) e lt = rw e refl

head-is : (l : List ℕ) (ls : List (List ℕ)) → is_section_line l ≡ true → (parts_of (l ∷ ls)).1 ≡ record { line = l; text = (parts_of ls).0 } ∷ (parts_of ls).1
unfolding parts_of
head-is l ls e = rw e refl

-- the sections of a text that begins with a section line
pub first-section : (rest after next text : List ℕ) (n : ℕ) → get_or rest 0 0 ≡ 91 → 0 < n → lines_of rest ≡ take n rest ∷ lines_of (drop n rest) → after ≡ drop n rest
    → (sections_in after).0 ≡ text → (sections_in after).1 ≡ (sections_in next).1
    → (sections_in rest).1 ≡ record { line = take n rest; text = text } ∷ (sections_in next).1
first-section rest after next text n front some lines is before sections =
    let first = ap (λ ls. (parts_of ls).1) lines ∙ head-is (take n rest) (lines_of (drop n rest)) (is-section rest n front some) in
    let e : (sections_in (drop n rest)).0 ≡ text = ap (λ t. (sections_in t).0) (sym is) ∙ before in
    let g : (sections_in (drop n rest)).1 ≡ (sections_in next).1 = ap (λ t. (sections_in t).1) (sym is) ∙ sections in
    let one : Section = record { line = take n rest; text = text } in
    first ∙ ap (λ t. record { line = take n rest; text = t } ∷ (sections_in (drop n rest)).1) e ∙ ap (λ r. one ∷ r) g

-- a section is placed
pub places-on : (old new : Texts) (count : ℕ) (sections more : List Section) (line text : List ℕ) (total : Result Texts Fault) (u : Unit {0})
    → sections ≡ record { line = line; text = text } ∷ more → Places old (count + 1) (section_text text) (table_of (line_text line)) (Ok u) new
    → total ≡ put_all old count sections → total ≡ put_all new (count + 1) more
unfolding put_all
places-on old new count sections more line text total u is placed so_far = so_far ∙ rw (is, placed) refl

-- a section is refused
pub places-not : (old new : Texts) (count : ℕ) (sections more : List Section) (line text : List ℕ) (total : Result Texts Fault) (f : Fault)
    → sections ≡ record { line = line; text = text } ∷ more → Places old (count + 1) (section_text text) (table_of (line_text line)) (Err f) new
    → total ≡ put_all old count sections → total ≡ Err f
unfolding put_all
places-not old new count sections more line text total f is placed so_far = so_far ∙ rw (is, placed) refl
