-- The whole lines of texts.
use Rattle.std.proofs.Common.{◌≡◌, ◌≤◌, ◌<◌, ◌⊎◌, ◌+◌, ℕ, zero, suc, Bool, true, false, List, [], ◌∷◌, ◌++◌, length, take, refl, sym, ap, ◌∙◌, inl, inr, subst, add-one, arith}
use Rattle.std.specs.Prelude.{◌||◌, All, slice_index}
use Rattle.std.specs.List.{AllByRecursion, concat, list_any}
use Rattle.std.proofs.lemmas.List.Elements.{recursion_from_All}
use Rattle.std.proofs.lemmas.List.Folds.{list_any-append, list_any_at}
use Rattle.memchr.specs.Find.{NoneAfter, Nowhere, Passes, is_byte2}
use Rattle.mrp_rows.specs.Bundle.{ends_line}
use Rattle.mrp_journal.specs.Held.{IsFront}
use Rattle.mrp_journal.specs.Lines.{IsLine, whole_lines}
use Rattle.mrp_journal.proofs.Fronts.{front-none, front-past}

-- where no line ends, nothing is whole
pub whole-none : (xs : List ℕ) → list_any ends_line xs ≡ false → whole_lines xs ≡ []
unfolding whole_lines
whole-none [] e = refl
whole-none (x ∷ xs) e = rw e refl

-- where a line ends, the first byte is whole
pub whole-more : (x : ℕ) (xs : List ℕ) → list_any ends_line (x ∷ xs) ≡ true → whole_lines (x ∷ xs) ≡ x ∷ whole_lines xs
unfolding whole_lines
whole-more x xs e = rw e refl

pub whole-front : (xs : List ℕ) → IsFront (whole_lines xs) xs
whole-front [] = rw (whole-none [] refl) (front-none [])
whole-front (x ∷ xs) = by (list_any ends_line (x ∷ xs)) refl (whole-front xs)
  where
    by : (b : Bool) → list_any ends_line (x ∷ xs) ≡ b → IsFront (whole_lines xs) xs → IsFront (whole_lines (x ∷ xs)) (x ∷ xs)
    by true e f = rw (whole-more x xs e) (record { behind = f.behind; is = ap (λ l. x ∷ l) f.is })
    by false e f = rw (whole-none (x ∷ xs) e) (front-none (x ∷ xs))

-- lines that are whole, in front of others
pub whole-append : (xs ys : List ℕ) → whole_lines xs ≡ xs → whole_lines (xs ++ ys) ≡ xs ++ whole_lines ys
whole-append [] ys e = refl
whole-append (x ∷ xs) ys e = by (list_any ends_line (x ∷ xs)) refl (λ h. whole-append xs ys h)
  where
    by : (b : Bool) → list_any ends_line (x ∷ xs) ≡ b → (whole_lines xs ≡ xs → whole_lines (xs ++ ys) ≡ xs ++ whole_lines ys) → whole_lines ((x ∷ xs) ++ ys) ≡ (x ∷ xs) ++ whole_lines ys
    by true t more =
        let f : x ∷ whole_lines xs ≡ x ∷ xs = sym (whole-more x xs t) ∙ e in
        let tail : whole_lines xs ≡ xs = cc in
        let any : list_any ends_line (x ∷ (xs ++ ys)) ≡ true = list_any-append ends_line (x ∷ xs) ys ∙ ap (λ b. b || list_any ends_line ys) t in
        whole-more x (xs ++ ys) any ∙ ap (λ l. x ∷ l) (more tail)
    by false t more = absurd (let f : [] ≡ x ∷ xs = sym (whole-none (x ∷ xs) t) ∙ e in cc)

or-true : (a b : Bool) → b ≡ true → (a || b) ≡ true
or-true true b e = refl
or-true false b e = e

any-one : (b : ℕ) → ends_line b ≡ true → list_any ends_line (b ∷ []) ≡ true
any-one b e = ap (λ c. c || false) e

any-last : (xs : List ℕ) (b : ℕ) → ends_line b ≡ true → list_any ends_line (xs ++ b ∷ []) ≡ true
any-last xs b e = list_any-append ends_line xs (b ∷ []) ∙ or-true (list_any ends_line xs) (list_any ends_line (b ∷ [])) (any-one b e)

-- a text that ends as a line does
whole-ended : (xs : List ℕ) (b : ℕ) → ends_line b ≡ true → whole_lines (xs ++ b ∷ []) ≡ xs ++ b ∷ []
whole-ended [] b e = whole-more b [] (any-one b e) ∙ ap (λ l. b ∷ l) (whole-none [] refl)
whole-ended (x ∷ xs) b e = whole-more x (xs ++ b ∷ []) (any-last (x ∷ xs) b e) ∙ ap (λ l. x ∷ l) (whole-ended xs b e)

whole-line : (line : List ℕ) → IsLine line → whole_lines line ≡ line
whole-line line l = rw l.is (whole-ended l.text 10 refl)

-- lines are whole
whole-all : (lines : List (List ℕ)) → AllByRecursion IsLine lines → whole_lines (concat lines) ≡ concat lines
whole-all [] all = whole-none [] refl
whole-all (l ∷ ls) all = whole-append l (concat ls) (whole-line l all.0) ∙ ap (λ r. l ++ r) (whole-all ls all.1)

-- lines behind a journal are whole
pub whole-journal : (journal : List ℕ) (lines : List (List ℕ)) → whole_lines journal ≡ journal → All IsLine lines → whole_lines (journal ++ concat lines) ≡ journal ++ concat lines
whole-journal journal lines e all =
    whole-append journal (concat lines) e ∙ ap (λ r. journal ++ r) (whole-all lines (recursion_from_All IsLine lines all))

-- a line ends in a text exactly where one ends in its whole lines
pub any-whole : (xs : List ℕ) → list_any ends_line (whole_lines xs) ≡ list_any ends_line xs
any-whole [] = rw (whole-none [] refl) refl
any-whole (x ∷ xs) = by (list_any ends_line (x ∷ xs)) refl (any-whole xs)
  where
    by : (b : Bool) → list_any ends_line (x ∷ xs) ≡ b → list_any ends_line (whole_lines xs) ≡ list_any ends_line xs → list_any ends_line (whole_lines (x ∷ xs)) ≡ list_any ends_line (x ∷ xs)
    by true e same = ap (list_any ends_line) (whole-more x xs e) ∙ ap (λ b. ends_line x || b) same
    by false e same = ap (list_any ends_line) (whole-none (x ∷ xs) e) ∙ sym e

-- whole lines are their own
pub whole-own : (xs : List ℕ) → whole_lines (whole_lines xs) ≡ whole_lines xs
whole-own [] = ap whole_lines (whole-none [] refl)
whole-own (x ∷ xs) = by (list_any ends_line (x ∷ xs)) refl (whole-own xs)
  where
    by : (b : Bool) → list_any ends_line (x ∷ xs) ≡ b → whole_lines (whole_lines xs) ≡ whole_lines xs → whole_lines (whole_lines (x ∷ xs)) ≡ whole_lines (x ∷ xs)
    by true e own =
        let is = whole-more x xs e in
        let any : list_any ends_line (x ∷ whole_lines xs) ≡ true = ap (λ b. ends_line x || b) (any-whole xs) ∙ e in
        ap whole_lines is ∙ whole-more x (whole_lines xs) any ∙ ap (λ l. x ∷ l) own ∙ sym is
    by false e own =
        let is = whole-none (x ∷ xs) e in
        ap whole_lines is ∙ whole-none [] refl ∙ sym is

-- no line ends in a front of a text in which none ends
any-front : (xs ys : List ℕ) → IsFront xs ys → list_any ends_line ys ≡ false → list_any ends_line xs ≡ false
any-front xs ys f e = left (list_any ends_line xs) (list_any ends_line f.behind) (sym (list_any-append ends_line xs f.behind) ∙ sym (ap (list_any ends_line) f.is) ∙ e)
  where
    left : (a b : Bool) → (a || b) ≡ false → a ≡ false
    left true b h = absurd cc
    left false b h = refl

-- a text that begins with one in which a line ends
any-longer : (xs ys : List ℕ) → IsFront xs ys → list_any ends_line xs ≡ true → list_any ends_line ys ≡ true
any-longer xs ys f e = ap (list_any ends_line) f.is ∙ list_any-append ends_line xs f.behind ∙ ap (λ b. b || list_any ends_line f.behind) e

-- the whole lines of a front
pub whole-fronts : (xs ys : List ℕ) → IsFront xs ys → IsFront (whole_lines xs) (whole_lines ys)
whole-fronts [] ys f = rw (whole-none [] refl) (front-none (whole_lines ys))
whole-fronts (x ∷ xs) [] f = absurd (let e = f.is in cc)
whole-fronts (x ∷ xs) (y ∷ ys) f =
    let first : y ≡ x = (let e = f.is in cc) in
    let rest : ys ≡ xs ++ f.behind = (let e = f.is in cc) in
    by (list_any ends_line (x ∷ xs)) refl first (whole-fronts xs ys (record { behind = f.behind; is = rest }))
  where
    by : (b : Bool) → list_any ends_line (x ∷ xs) ≡ b → y ≡ x → IsFront (whole_lines xs) (whole_lines ys) → IsFront (whole_lines (x ∷ xs)) (whole_lines (y ∷ ys))
    by true e first more =
        let any : list_any ends_line (y ∷ ys) ≡ true = any-longer (x ∷ xs) (y ∷ ys) f e in
        rw (whole-more x xs e, whole-more y ys any, first) (record { behind = more.behind; is = ap (λ l. x ∷ l) more.is })
    by false e first more = rw (whole-none (x ∷ xs) e) (front-none (whole_lines (y ∷ ys)))

-- a front of a line and more is within the line, or has all of it
front-of-line : (left text rest : List ℕ) → IsFront left ((text ++ 10 ∷ []) ++ rest) → IsFront left text ⊎ IsFront (text ++ 10 ∷ []) left
front-of-line [] text rest f = inl (front-none text)
front-of-line (y ∷ left) [] rest f =
    let first : y ≡ 10 = (let e = f.is in cc) in
    inr (record { behind = left; is = rw first refl })
front-of-line (y ∷ left) (x ∷ text) rest f =
    let first : y ≡ x = (let e = f.is in cc) in
    let more : (text ++ 10 ∷ []) ++ rest ≡ left ++ f.behind = (let e = f.is in cc) in
    by first (front-of-line left text rest (record { behind = f.behind; is = more }))
  where
    by : y ≡ x → IsFront left text ⊎ IsFront (text ++ 10 ∷ []) left → IsFront (y ∷ left) (x ∷ text) ⊎ IsFront ((x ∷ text) ++ 10 ∷ []) (y ∷ left)
    by first (inl g) = inl (record { behind = g.behind; is = rw first (ap (λ l. x ∷ l) g.is) })
    by first (inr g) = inr (record { behind = g.behind; is = rw first (ap (λ l. x ∷ l) g.is) })

-- the whole lines of a text are the first of these
abbrev AreFirst : List ℕ → List (List ℕ) → Type 0
AreFirst left lines = (count : ℕ) × (count ≤ length lines) × (whole_lines left ≡ concat (take count lines))

-- of a front of lines the first are whole
lines-left : (left : List ℕ) (lines : List (List ℕ)) → AllByRecursion IsLine lines → IsFront left (concat lines) → AreFirst left lines
lines-left [] [] all f = (0, omega arith, whole-none [] refl)
lines-left (y ∷ left) [] all f = absurd (let e = f.is in cc)
lines-left left (l ∷ ls) all f =
    by (front-of-line left all.0.text (concat ls) (subst (λ (m : List ℕ). IsFront left (m ++ concat ls)) all.0.is f)) (λ more h. lines-left more ls all.1 h)
  where
    by : IsFront left all.0.text ⊎ IsFront (all.0.text ++ 10 ∷ []) left → ((more : List ℕ) → IsFront more (concat ls) → AreFirst more ls) → AreFirst left (l ∷ ls)
    by (inl g) rest = (0, omega arith, whole-none left (any-front left all.0.text g all.0.no_end))
    by (inr g) rest =
        let past : IsFront l left = record { behind = g.behind; is = g.is ∙ ap (λ (m : List ℕ). m ++ g.behind) (sym all.0.is) } in
        let more : AreFirst g.behind ls = rest g.behind (front-past l left (concat ls) past f) in
        let within : more.0 ≤ length ls = more.1 in
        (suc more.0, omega arith, ap whole_lines past.is ∙ whole-append l g.behind (whole-line l all.0) ∙ ap (λ (r : List ℕ). l ++ r) more.2)

-- a journal with a front of lines behind it
pub journal-left : (journal left : List ℕ) (lines : List (List ℕ)) → whole_lines journal ≡ journal → All IsLine lines → IsFront journal left → IsFront left (journal ++ concat lines)
    → (count : ℕ) × (count ≤ length lines) × (whole_lines left ≡ journal ++ concat (take count lines))
journal-left journal left lines e all f g =
    let more : AreFirst f.behind lines = lines-left f.behind lines (recursion_from_All IsLine lines all) (front-past journal left (concat lines) f g) in
    (more.0, more.1, ap whole_lines f.is ∙ whole-append journal f.behind e ∙ ap (λ (r : List ℕ). journal ++ r) more.2)

-- no byte ends a line
none-any : (xs : List ℕ) → ((k : ℕ) → k < length xs → ¬ (ends_line (slice_index xs k) ≡ true)) → list_any ends_line xs ≡ false
none-any [] none = refl
none-any (x ∷ xs) none = by (ends_line x) refl (none-any xs (λ k in_xs e. none (suc k) (omega arith) e))
  where
    by : (b : Bool) → ends_line x ≡ b → list_any ends_line xs ≡ false → list_any ends_line (x ∷ xs) ≡ false
    by true e rest = absurd (none 0 (omega arith) e)
    by false e rest = ap (λ b. b || list_any ends_line xs) e ∙ rest

-- the last byte that ends a line
last-whole : (xs : List ℕ) (k : ℕ) → k < length xs → ends_line (slice_index xs k) ≡ true → ((j : ℕ) → k < j → j < length xs → ¬ (ends_line (slice_index xs j) ≡ true)) → whole_lines xs ≡ take (suc k) xs
last-whole [] k in_xs e after = absurd (omega arith)
last-whole (x ∷ xs) zero in_xs e after =
    let none : list_any ends_line xs ≡ false = none-any xs (λ j in_rest p. after (suc j) (omega arith) (omega arith) p) in
    whole-more x xs (ap (λ b. b || list_any ends_line xs) e) ∙ ap (λ l. x ∷ l) (whole-none xs none)
last-whole (x ∷ xs) (suc k) in_xs e after =
    let in_rest : k < length xs = omega arith in
    whole-more x xs (or-true (ends_line x) (list_any ends_line xs) (list_any_at ends_line xs k 0 in_rest e))
    ∙ ap (λ l. x ∷ l) (last-whole xs k in_rest e (λ j behind in_j p. after (suc j) (omega arith) (omega arith) p))

-- as a search from the end has it
pub no-last : (text : List ℕ) → Nowhere (Passes (is_byte2 10 13) text) 0 (length text) → [] ≡ whole_lines text
no-last text nowhere = sym (whole-none text (none-any text (λ k in_text e. nowhere k (omega arith) in_text e)))

pub at-last : (text : List ℕ) (at : ℕ) → NoneAfter (Passes (is_byte2 10 13) text) 0 (length text) at → Passes (is_byte2 10 13) text at → take (at + 1) text ≡ whole_lines text
at-last text at found passes =
    let high : at < length text = found.high in
    rw add-one (sym (last-whole text at high passes (λ j behind in_text e. found.after j (omega arith) in_text e)))
