-- How lines and sections follow the places in a text.
use Rattle.std.proofs.Common.{◌≡◌, ℕ, zero, suc, ◌<◌, ◌≤◌, Bool, true, false, eqb, ltb, List, [], ◌∷◌, ◌++◌, length, get_or, take, drop, refl, sym, ap, ◌∙◌, arith, sub-one}
use Rattle.std.proofs.lemmas.Bool.{ne_eqb, ltb-false, false≢true}
use Rattle.std.proofs.lemmas.List.Sums.{prefix_len-le-length}
use Rattle.std.specs.Prelude.{not, position, unwrap_or, ◌||◌, ◌==◌, ◌-◌}
use Rattle.std.specs.List.{onto_first, position_or_len}
use Rattle.mrp_rows.specs.Bundle.{ends_line, lines_of, Parts, parts_of, sections_in}

-- one line is cut off after the first byte that ends a line
pub line-cut : (xs : List ℕ) (n : ℕ) → n < length xs → ((k : ℕ) → k < n → ends_line (get_or xs k 0) ≡ false) → ends_line (get_or xs n 0) ≡ true
    → lines_of xs ≡ take (suc n) xs ∷ lines_of (drop (suc n) xs)
unfolding lines_of
line-cut [] n lt before here = absurd (omega arith)
line-cut (x ∷ xs) zero lt before here = rw here refl
line-cut (x ∷ xs) (suc n) lt before here =
    let first : ends_line x ≡ false = before 0 (omega arith) in
    let more = line-cut xs n (omega arith) (λ k h. before (suc k) (omega arith)) here in
    rw (first, more) refl

-- a text with no such byte is one line
pub line-all : (xs : List ℕ) → 0 < length xs → ((k : ℕ) → k < length xs → ends_line (get_or xs k 0) ≡ false) → lines_of xs ≡ xs ∷ []
unfolding lines_of
line-all [] lt before = absurd (omega arith)
line-all (x ∷ []) lt before =
    let first : ends_line x ≡ false = before 0 (omega arith) in
    rw first refl
line-all (x ∷ y ∷ xs) lt before =
    let first : ends_line x ≡ false = before 0 (omega arith) in
    let more = line-all (y ∷ xs) (omega arith) (λ k h. before (suc k) (omega arith)) in
    rw (first, more) refl

-- the parts of lines whose first continues one that has begun
pub parts_within : List (List ℕ) → Parts
parts_within [] = ([], [])
parts_within (l ∷ ls) = (l ++ (parts_of ls).0, (parts_of ls).1)

-- the parts of bytes that begin at the start of a line, or within a line
unfoldable pub parts_at : Bool → List ℕ → Parts
parts_at true xs = sections_in xs
parts_at false xs = parts_within (lines_of xs)

-- a byte that begins no section line
pub next-byte : (front : Bool) (x : ℕ) (xs : List ℕ) → (x ≡ 91 → front ≡ false) → parts_at front (x ∷ xs) ≡ (x ∷ (parts_at (ends_line x) xs).0, (parts_at (ends_line x) xs).1)
unfolding lines_of parts_of parts_at parts_within
next-byte true x xs h = by (ends_line x) refl (lines_of xs) refl
  where
    other : eqb x 91 ≡ false
    other = ne_eqb x 91 (λ e. false≢true (sym (h e)))

    by : (b : Bool) → ends_line x ≡ b → (ls : List (List ℕ)) → lines_of xs ≡ ls → parts_at true (x ∷ xs) ≡ (x ∷ (parts_at b xs).0, (parts_at b xs).1)
    by true e ls f = rw (e, other) refl
    by false e [] f = rw (e, f, other) refl
    by false e (l ∷ ls) f = rw (e, f, other) refl
next-byte false x xs h = by (ends_line x) refl (lines_of xs) refl
  where
    by : (b : Bool) → ends_line x ≡ b → (ls : List (List ℕ)) → lines_of xs ≡ ls → parts_at false (x ∷ xs) ≡ (x ∷ (parts_at b xs).0, (parts_at b xs).1)
    by true e ls f = rw e refl
    by false e [] f = rw (e, f) refl
    by false e (l ∷ ls) f = rw (e, f) refl

-- a text that begins with a bracket has nothing before its first section line
pub bracket-first : (xs : List ℕ) → (sections_in (91 ∷ xs)).0 ≡ []
unfolding lines_of parts_of
bracket-first xs = by (lines_of xs)
  where
    by : (ls : List (List ℕ)) → (parts_of (onto_first 91 ls)).0 ≡ []
    by [] = refl
    by (l ∷ ls) = refl

-- whether a line begins at a place
pub begins : Bool → List ℕ → ℕ → Bool
begins front xs zero = front
begins front xs (suc k) = ends_line (get_or xs k 0)

begins-next : (front : Bool) (x : ℕ) (xs : List ℕ) (k : ℕ) → begins front (x ∷ xs) (suc k) ≡ begins (ends_line x) xs k
unfolding begins
begins-next front x xs zero = refl
begins-next front x xs (suc k) = refl

-- the first bracket that begins a line ends the text before the sections
pub parts-from : (front : Bool) (xs : List ℕ) (n : ℕ) → n ≤ length xs → ((k : ℕ) → k < n → get_or xs k 0 ≡ 91 → begins front xs k ≡ false)
    → (n < length xs → (get_or xs n 0 ≡ 91) × (begins front xs n ≡ true))
    → ((parts_at front xs).0 ≡ take n xs) × ((parts_at front xs).1 ≡ (sections_in (drop n xs)).1)
unfolding lines_of parts_of parts_at parts_within begins
parts-from true [] zero le before here = (refl, refl)
parts-from false [] zero le before here = (refl, refl)
parts-from front [] (suc n) le before here = absurd (omega arith)
parts-from true (x ∷ xs) zero le before here =
    let h = here (omega arith) in
    (rw h.0 (bracket-first xs), refl)
parts-from false (x ∷ xs) zero le before here =
    let h = here (omega arith) in
    absurd (false≢true h.1)
parts-from front (x ∷ xs) (suc n) le before here =
    let more = parts-from (ends_line x) xs n (omega arith)
    (λ k lt is. sym (begins-next front x xs k) ∙ before (suc k) (omega arith) is)
    (λ lt. let h = here (omega arith) in (h.0, sym (begins-next front x xs n) ∙ h.1)) in
    let one = next-byte front x xs (before 0 (omega arith)) in
    (ap (λ p. p.0) one ∙ ap (λ t. x ∷ t) more.0, ap (λ p. p.1) one ∙ more.1)

-- whether a line begins at a place of a text
abbrev pub opens_line : List ℕ → ℕ → Bool
opens_line xs k = (k == 0) || ends_line (get_or xs (k - 1) 0)

opens-begins : (xs : List ℕ) (k : ℕ) → opens_line xs k ≡ begins true xs k
unfolding begins
opens-begins xs zero = refl
opens-begins xs (suc k) =
    let no : eqb (suc k) 0 ≡ false = ne_eqb (suc k) 0 (λ e. absurd (omega (arith, e))) in
    rw (no, sub-one) refl

-- the text before the first section line, and where the sections begin
pub sections-from : (xs : List ℕ) (n : ℕ) → n ≤ length xs → ((k : ℕ) → k < n → get_or xs k 0 ≡ 91 → opens_line xs k ≡ false)
    → (n < length xs → (get_or xs n 0 ≡ 91) × (opens_line xs n ≡ true))
    → ((sections_in xs).0 ≡ take n xs) × ((sections_in xs).1 ≡ (sections_in (drop n xs)).1)
unfolding parts_at
sections-from xs n le before here =
    parts-from true xs n le (λ k lt is. sym (opens-begins xs k) ∙ before k lt is) (λ lt. ((here lt).0, sym (opens-begins xs n) ∙ (here lt).1))

-- the place of the first, or the length
pub place-or-length : (p : ℕ → Bool) (xs : List ℕ) → unwrap_or (position p xs) (length xs) ≡ position_or_len p xs
place-or-length p xs = by (ltb (position_or_len p xs) (length xs)) refl
  where
    by : (b : Bool) → ltb (position_or_len p xs) (length xs) ≡ b → unwrap_or (position p xs) (length xs) ≡ position_or_len p xs
    by true e = rw e refl
    by false e =
        let n : length xs ≤ position_or_len p xs = ltb-false _ _ e in
        let m : position_or_len p xs ≤ length xs = prefix_len-le-length (λ x. not (p x)) xs in
        let same : length xs ≡ position_or_len p xs = omega arith in
        rw e same
