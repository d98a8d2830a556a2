-- What csv reads of a journal behind which more is appended.
use Rattle.std.proofs.Common.{◌≡◌, ◌≢◌, ◌∙◌, ◌+◌, ℕ, suc, Bool, true, false, List, [], ◌∷◌, ◌++◌, refl, sym, ap, arith}
use Rattle.std.specs.Prelude.{◌==◌, ◌&&◌, if◌then◌else◌}
use Rattle.std.specs.List.{prefix_len}
use Rattle.std.proofs.lemmas.Bool.{eqb-true, false≢true}
use Rattle.csv.specs.Reading.{strip_bom}
use Rattle.mrp_rows.specs.Bundle.{ends_line, section_text, without_line_ends, without_mark}
use Rattle.mrp_journal.specs.Rows.{is_ended}
use Rattle.mrp_journal.specs.Table.{body_of}

pub ended-one : (x : ℕ) → is_ended (x ∷ []) ≡ ends_line x
unfolding is_ended
ended-one x = refl

pub ended-more : (x y : ℕ) (rest : List ℕ) → is_ended (x ∷ y ∷ rest) ≡ is_ended (y ∷ rest)
unfolding is_ended
ended-more x y rest = refl

ended-none : is_ended [] ≡ false
unfolding is_ended
ended-none = refl

-- a byte of the byte order mark ends no line
first-mark : (x : ℕ) → ends_line x ≡ true → (x == 239) ≡ false
first-mark x e = by (x == 239) refl
  where
    by : (b : Bool) → (x == 239) ≡ b → (x == 239) ≡ false
    by true is = let same : x ≡ 239 = eqb-true x 239 is in absurd (false≢true (ap ends_line (sym same) ∙ e))
    by false is = is

second-mark : (x : ℕ) → ends_line x ≡ true → (x == 187) ≡ false
second-mark x e = by (x == 187) refl
  where
    by : (b : Bool) → (x == 187) ≡ b → (x == 187) ≡ false
    by true is = let same : x ≡ 187 = eqb-true x 187 is in absurd (false≢true (ap ends_line (sym same) ∙ e))
    by false is = is

third-mark : (x : ℕ) → ends_line x ≡ true → (x == 191) ≡ false
third-mark x e = by (x == 191) refl
  where
    by : (b : Bool) → (x == 191) ≡ b → (x == 191) ≡ false
    by true is = let same : x ≡ 191 = eqb-true x 191 is in absurd (false≢true (ap ends_line (sym same) ∙ e))
    by false is = is

pub no-second : (a b c : Bool) → b ≡ false → (a && b && c) ≡ false
no-second true b c e = rw e refl
no-second false b c e = refl

pub no-third : (a b c : Bool) → c ≡ false → (a && b && c) ≡ false
no-third true true c e = e
no-third true false c e = refl
no-third false b c e = refl

-- csv drops the same mark as a bundle does
pub same-mark : (text : List ℕ) → strip_bom text ≡ without_mark text
unfolding without_mark strip_bom
same-mark [] = refl
same-mark (a ∷ []) = refl
same-mark (a ∷ b ∷ []) = refl
same-mark (a ∷ b ∷ c ∷ rest) = refl

-- a mark in front of a text that ends a line is not made by what is appended
mark-behind : (xs m : List ℕ) → is_ended xs ≡ true → without_mark (xs ++ m) ≡ without_mark xs ++ m
unfolding without_mark
mark-behind [] m e = absurd (false≢true (sym ended-none ∙ e))
mark-behind (x ∷ []) m e = one m
  where
    one : (more : List ℕ) → without_mark (x ∷ more) ≡ x ∷ more
    one [] = refl
    one (a ∷ []) = refl
    one (a ∷ b ∷ rest) = rw (first-mark x (sym (ended-one x) ∙ e)) refl
mark-behind (x ∷ y ∷ []) m e = two m
  where
    two : (more : List ℕ) → without_mark (x ∷ y ∷ more) ≡ x ∷ y ∷ more
    two [] = refl
    two (a ∷ rest) = rw (no-second (x == 239) (y == 187) (a == 191) (second-mark y (sym (ended-one y) ∙ sym (ended-more x y []) ∙ e))) refl
mark-behind (x ∷ y ∷ z ∷ rest) m e = by ((x == 239) && (y == 187) && (z == 191))
  where
    by : (b : Bool) → (if b then rest ++ m else x ∷ y ∷ z ∷ (rest ++ m)) ≡ (if b then rest else x ∷ y ∷ z ∷ rest) ++ m
    by true = refl
    by false = refl

-- without its mark it still ends a line
mark-ended : (xs : List ℕ) → is_ended xs ≡ true → is_ended (without_mark xs) ≡ true
unfolding without_mark
mark-ended [] e = e
mark-ended (x ∷ []) e = e
mark-ended (x ∷ y ∷ []) e = e
mark-ended (x ∷ y ∷ z ∷ []) e =
    let last : ends_line z ≡ true = sym (ended-one z) ∙ sym (ended-more y z []) ∙ sym (ended-more x y (z ∷ [])) ∙ e in
    rw (no-third (x == 239) (y == 187) (z == 191) (third-mark z last)) e
mark-ended (x ∷ y ∷ z ∷ a ∷ rest) e =
    by ((x == 239) && (y == 187) && (z == 191)) (sym (ended-more z a rest) ∙ sym (ended-more y z (a ∷ rest)) ∙ sym (ended-more x y (z ∷ a ∷ rest)) ∙ e)
  where
    by : (b : Bool) → is_ended (a ∷ rest) ≡ true → is_ended (if b then a ∷ rest else x ∷ y ∷ z ∷ a ∷ rest) ≡ true
    by true h = h
    by false h = e

pub lead-on : (x : ℕ) (xs : List ℕ) → ends_line x ≡ true → without_line_ends (x ∷ xs) ≡ without_line_ends xs
lead-on x xs is =
    let one : 1 + prefix_len ends_line xs ≡ suc (prefix_len ends_line xs) = omega arith in
    rw (is, one) refl

pub lead-off : (x : ℕ) (xs : List ℕ) → ends_line x ≡ false → without_line_ends (x ∷ xs) ≡ x ∷ xs
lead-off x xs is = rw is refl

-- line ends in front of a text in which more than line ends stand
pub lead-behind : (xs m : List ℕ) → without_line_ends xs ≢ [] → without_line_ends (xs ++ m) ≡ without_line_ends xs ++ m
lead-behind [] m some = absurd (some refl)
lead-behind (x ∷ xs) m some = by (ends_line x) refl (lead-behind xs m)
  where
    by : (b : Bool) → ends_line x ≡ b → (without_line_ends xs ≢ [] → without_line_ends (xs ++ m) ≡ without_line_ends xs ++ m)
        → without_line_ends (x ∷ (xs ++ m)) ≡ without_line_ends (x ∷ xs) ++ m
    by true is more = lead-on x (xs ++ m) is ∙ more (λ none. some (lead-on x xs is ∙ none)) ∙ ap (λ (ys : List ℕ). ys ++ m) (sym (lead-on x xs is))
    by false is more = lead-off x (xs ++ m) is ∙ ap (λ (ys : List ℕ). ys ++ m) (sym (lead-off x xs is))

lead-ended : (xs : List ℕ) → is_ended xs ≡ true → without_line_ends xs ≢ [] → is_ended (without_line_ends xs) ≡ true
lead-ended [] e some = e
lead-ended (x ∷ []) e some = by (ends_line x) refl
  where
    by : (b : Bool) → ends_line x ≡ b → is_ended (without_line_ends (x ∷ [])) ≡ true
    by true is = absurd (some (lead-on x [] is))
    by false is = ap is_ended (lead-off x [] is) ∙ e
lead-ended (x ∷ y ∷ rest) e some = by (ends_line x) refl (lead-ended (y ∷ rest) (sym (ended-more x y rest) ∙ e))
  where
    by : (b : Bool) → ends_line x ≡ b → (without_line_ends (y ∷ rest) ≢ [] → is_ended (without_line_ends (y ∷ rest)) ≡ true) → is_ended (without_line_ends (x ∷ y ∷ rest)) ≡ true
    by true is more = ap is_ended (lead-on x (y ∷ rest) is) ∙ more (λ none. some (lead-on x (y ∷ rest) is ∙ none))
    by false is more = ap is_ended (lead-off x (y ∷ rest) is) ∙ e

-- what csv reads of a journal that ends as a line does goes on with what is appended
pub body-behind : (journal m : List ℕ) → is_ended journal ≡ true → without_line_ends journal ≢ [] → body_of (journal ++ m) ≡ body_of journal ++ m
body-behind journal m e some =
    let lead = lead-ended journal e some in
    same-mark (section_text (journal ++ m))
    ∙ ap (λ (xs : List ℕ). without_mark (without_mark xs)) (lead-behind journal m some)
    ∙ ap without_mark (mark-behind (without_line_ends journal) m lead)
    ∙ mark-behind (without_mark (without_line_ends journal)) m (mark-ended (without_line_ends journal) lead)
    ∙ ap (λ (xs : List ℕ). xs ++ m) (sym (same-mark (section_text journal)))
