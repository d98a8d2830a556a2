-- The laws of a bundle's parts.
use Rattle.std.proofs.Common.{◌≡◌, ℕ, Bool, true, false, List, [], ◌∷◌, ◌++◌, refl, ap, ◌∙◌, append_assoc, append-nil, inl, inr}
use Rattle.std.specs.Prelude.{◌==◌, ◌⊎◌, if◌then◌else◌}
use Rattle.std.proofs.lemmas.Bool.{eqb-true}
use Rattle.std.specs.List.{list_any, onto_first}
use Rattle.mrp_rows.specs.Bundle.{ends_line, lines_of, is_section_line, parts_of, without_mark}
use Rattle.mrp_rows.specs.Together.{mark, together, has_section_line, PartsAreTogether, HasNoOther, DropsOneMark}

joined : List (List ℕ) → List ℕ
joined [] = []
joined (l ∷ ls) = l ++ joined ls

joined-onto : (x : ℕ) (ls : List (List ℕ)) → joined (onto_first x ls) ≡ x ∷ joined ls
unfolding joined
joined-onto x [] = refl
joined-onto x (l ∷ ls) = refl

joined-lines : (xs : List ℕ) → joined (lines_of xs) ≡ xs
unfolding joined lines_of
joined-lines [] = refl
joined-lines (x ∷ xs) = by (ends_line x) refl (joined-lines xs)
  where
    by : (b : Bool) → ends_line x ≡ b → joined (lines_of xs) ≡ xs → joined (lines_of (x ∷ xs)) ≡ x ∷ xs
    by true e more = rw e (ap (λ t. x ∷ t) more)
    by false e more = rw e (joined-onto x (lines_of xs) ∙ ap (λ t. x ∷ t) more)

together-parts : (ls : List (List ℕ)) → together (parts_of ls) ≡ joined ls
unfolding joined parts_of
together-parts [] = refl
together-parts (l ∷ ls) = by (is_section_line l) refl (together-parts ls)
  where
    by : (b : Bool) → is_section_line l ≡ b → together (parts_of ls) ≡ joined ls → together (parts_of (l ∷ ls)) ≡ l ++ joined ls
    by true e more = rw e (append_assoc l (parts_of ls).0 _ ∙ ap (λ t. l ++ t) more)
    by false e more = rw e (append_assoc l (parts_of ls).0 _ ∙ ap (λ t. l ++ t) more)

pub parts-together : (bytes : List ℕ) → PartsAreTogether bytes
parts-together bytes = together-parts (lines_of bytes) ∙ joined-lines bytes

-- a line before others
abbrev IsLine : List ℕ → Type 0
IsLine l = (ys : List ℕ) → lines_of (l ++ ys) ≡ l ∷ lines_of ys

-- consecutive lines
abbrev AreLines : List (List ℕ) → Type 0
AreLines [] = Unit {0}
AreLines (l ∷ []) = lines_of l ≡ l ∷ []
AreLines (l ∷ m ∷ ls) = IsLine l × AreLines (m ∷ ls)

are-lines : (xs : List ℕ) → AreLines (lines_of xs)
unfolding lines_of
are-lines [] = tt
are-lines (x ∷ xs) = by (ends_line x) refl (lines_of xs) (are-lines xs)
  where
    by : (b : Bool) → ends_line x ≡ b → (ls : List (List ℕ)) → AreLines ls → AreLines (if b then (x ∷ []) ∷ ls else onto_first x ls)
    by true e [] more = rw e refl
    by true e (l ∷ ls) more = (λ ys. rw e refl, more)
    by false e [] more = rw e refl
    by false e (l ∷ []) more = rw (e, more) refl
    by false e (l ∷ m ∷ ls) more = (λ ys. rw (e, more.0 ys) refl, more.1)

front-plain : (ls : List (List ℕ)) → AreLines ls → has_section_line (parts_of ls).0 ≡ false
unfolding lines_of parts_of
front-plain [] are = refl
front-plain (l ∷ []) are = by (is_section_line l) refl
  where
    by : (b : Bool) → is_section_line l ≡ b → has_section_line (parts_of (l ∷ [])).0 ≡ false
    by true e = rw e refl
    by false e = rw (e, append-nil l, are, e) refl
front-plain (l ∷ m ∷ ls) are = by (is_section_line l) refl (front-plain (m ∷ ls) are.1)
  where
    by : (b : Bool) → is_section_line l ≡ b → has_section_line (parts_of (m ∷ ls)).0 ≡ false → has_section_line (parts_of (l ∷ m ∷ ls)).0 ≡ false
    by true e more = rw e refl
    by false e more = rw (e, are.0 (parts_of (m ∷ ls)).0, e) more

rest-lines : (l : List ℕ) (ls : List (List ℕ)) → AreLines (l ∷ ls) → AreLines ls
rest-lines l [] are = tt
rest-lines l (m ∷ ls) are = are.1

sections-plain : (ls : List (List ℕ)) → AreLines ls → list_any (λ s. has_section_line s.text) (parts_of ls).1 ≡ false
unfolding parts_of
sections-plain [] are = refl
sections-plain (l ∷ ls) are = by (is_section_line l) refl (front-plain ls (rest-lines l ls are)) (sections-plain ls (rest-lines l ls are))
  where
    by : (b : Bool) → is_section_line l ≡ b → has_section_line (parts_of ls).0 ≡ false → list_any (λ s. has_section_line s.text) (parts_of ls).1 ≡ false → list_any (λ s. has_section_line s.text) (parts_of (l ∷ ls)).1 ≡ false
    by true e front more = rw (e, front) more
    by false e front more = rw e more

pub no-other : (bytes : List ℕ) → HasNoOther bytes
no-other bytes = record { before = front-plain (lines_of bytes) (are-lines bytes); sections = sections-plain (lines_of bytes) (are-lines bytes) }

only-mark : (bytes : List ℕ) → (without_mark bytes ≡ bytes) ⊎ (bytes ≡ mark ++ without_mark bytes)
unfolding without_mark
only-mark [] = inl refl
only-mark (a ∷ []) = inl refl
only-mark (a ∷ b ∷ []) = inl refl
only-mark (a ∷ b ∷ c ∷ rest) = by (a == 239) refl (b == 187) refl (c == 191) refl
  where
    by : (p : Bool) → (a == 239) ≡ p → (q : Bool) → (b == 187) ≡ q → (r : Bool) → (c == 191) ≡ r
        → (without_mark (a ∷ b ∷ c ∷ rest) ≡ a ∷ b ∷ c ∷ rest) ⊎ (a ∷ b ∷ c ∷ rest ≡ mark ++ without_mark (a ∷ b ∷ c ∷ rest))
    by true e true f true g =
        let first : a ≡ 239 = eqb-true a 239 e in
        let second : b ≡ 187 = eqb-true b 187 f in
        let third : c ≡ 191 = eqb-true c 191 g in
        inr (rw (e, f, g) (cc))
    by true e true f false g = inl (rw (e, f, g) refl)
    by true e false f r g = inl (rw (e, f) refl)
    by false e q f r g = inl (rw e refl)

pub one-mark : (bytes : List ℕ) → DropsOneMark bytes
unfolding without_mark
one-mark bytes = record { marked = refl; only = only-mark bytes }
