-- The sections of a bundle that was joined from parts.
use Rattle.std.proofs.Common.{◌≡◌, ℕ, Bool, true, false, ◌||◌, List, [], ◌∷◌, ◌++◌, map, refl, sym, ap, ◌∙◌, arith, append_assoc}
use Rattle.std.specs.Prelude.{◌==◌, codes}
use Rattle.std.proofs.lemmas.Bool.{eq-eqb, false≢true}
use Rattle.std.proofs.lemmas.List.Elements.{All-head, All-tail}
use Rattle.std.specs.List.{list_any}
use Rattle.mrp_rows.specs.declared.fault.Table.{Table}
use Rattle.mrp_rows.specs.declared.fault.Table.TheVariants as t
use Rattle.mrp_rows.specs.Bundle.{ends_line, lines_of, is_section_line, parts_of, sections_in}
use Rattle.mrp_rows.specs.Joined.{Part, section_line_of, section_of, section_bytes, joined, ComeApart}
use Rattle.mrp_rows.specs.Together.{has_section_line}
use Rattle.mrp_rows.proofs.SplitLines.{parts_at, next-byte}

-- a table's section line is a line
line-first : (table : Table) (rest : List ℕ) → lines_of (section_line_of table ++ rest) ≡ section_line_of table ∷ lines_of rest
unfolding lines_of
line-first t.Calendar rest = refl
line-first t.Items rest = refl
line-first t.Centres rest = refl
line-first t.Stock rest = refl
line-first t.Receipts rest = refl
line-first t.Bills rest = refl
line-first t.Routings rest = refl
line-first t.Master rest = refl
line-first t.Script rest = refl
line-first t.Bundle rest = refl

-- the lines after the first
behind : List (List ℕ) → List (List ℕ)
behind [] = []
behind (l ∷ ls) = ls

-- a section line is in bytes that begin at the start of a line, or within a line
has_line : Bool → List ℕ → Bool
has_line true xs = list_any is_section_line (lines_of xs)
has_line false xs = list_any is_section_line (behind (lines_of xs))

no-or : (a b : Bool) → (a || b) ≡ false → (a ≡ false) × (b ≡ false)
no-or true b e = absurd (false≢true (sym e))
no-or false b e = (refl, e)

-- no section line begins with the first byte, and none comes after it
no-line-next : (front : Bool) (x : ℕ) (xs : List ℕ) → has_line front (x ∷ xs) ≡ false → (x ≡ 91 → front ≡ false) × (has_line (ends_line x) xs ≡ false)
unfolding lines_of behind has_line
no-line-next true x xs free = by (ends_line x) refl (lines_of xs) refl
  where
    by : (b : Bool) → ends_line x ≡ b → (ls : List (List ℕ)) → lines_of xs ≡ ls → (x ≡ 91 → true ≡ false) × (has_line b xs ≡ false)
    by true e ls f = let h = no-or (x == 91) _ (rw e at free) in (λ is. absurd (false≢true (sym h.0 ∙ eq-eqb x 91 is)), h.1)
    by false e [] f = let h = no-or (x == 91) _ (rw (e, f) at free) in (λ is. absurd (false≢true (sym h.0 ∙ eq-eqb x 91 is)), rw f refl)
    by false e (l ∷ ls) f = let h = no-or (x == 91) _ (rw (e, f) at free) in (λ is. absurd (false≢true (sym h.0 ∙ eq-eqb x 91 is)), rw f h.1)
no-line-next false x xs free = by (ends_line x) refl (lines_of xs) refl
  where
    by : (b : Bool) → ends_line x ≡ b → (ls : List (List ℕ)) → lines_of xs ≡ ls → (x ≡ 91 → false ≡ false) × (has_line b xs ≡ false)
    by true e ls f = (λ is. refl, rw e at free)
    by false e [] f = (λ is. refl, rw f refl)
    by false e (l ∷ ls) f = (λ is. refl, rw f (rw (e, f) at free))

-- bytes without a section line, and a line feed, come before the sections of what follows
plain-front : (front : Bool) (xs rest : List ℕ) → has_line front xs ≡ false
    → parts_at front (xs ++ 10 ∷ rest) ≡ (xs ++ 10 ∷ (sections_in rest).0, (sections_in rest).1)
unfolding parts_at
plain-front front [] rest free = next-byte front 10 rest (λ is. absurd (omega (arith, is)))
plain-front front (x ∷ xs) rest free =
    let h = no-line-next front x xs free in
    let more = plain-front (ends_line x) xs rest h.1 in
    next-byte front x (xs ++ 10 ∷ rest) h.0 ∙ rw more refl

-- the sections of a table's line, bytes without one, and what follows
first-part : (part : Part) (rest : List ℕ) → has_section_line part.1 ≡ false → (sections_in rest).0 ≡ []
    → sections_in (section_bytes (section_of part) ++ rest) ≡ ([], section_of part ∷ (sections_in rest).1)
unfolding parts_of parts_at has_line
first-part part rest free front =
    let line = section_line_of part.0 in
    let bytes : section_bytes (section_of part) ++ rest ≡ line ++ (part.1 ++ 10 ∷ rest) = append_assoc line (part.1 ++ codes "\n") rest ∙ ap (λ (xs : List ℕ). line ++ xs) (append_assoc part.1 (codes "\n") rest) in
    let plain : sections_in (part.1 ++ 10 ∷ rest) ≡ (part.1 ++ 10 ∷ (sections_in rest).0, (sections_in rest).1) = plain-front true part.1 rest free in
    rw (bytes, line-first part.0 (part.1 ++ 10 ∷ rest), plain, front) refl

-- a part in which no line is a section line
abbrev IsPlain : Part → Type 0
IsPlain part = has_section_line part.1 ≡ false

pub come-apart : (parts : List Part) → ComeApart parts
unfolding lines_of parts_of
come-apart [] = λ free. refl
come-apart (part ∷ parts) = λ free.
    let more : sections_in (joined parts) ≡ ([], map section_of parts) = come-apart parts (All-tail IsPlain part parts free) in
    first-part part (joined parts) (All-head IsPlain part parts free) (rw more refl) ∙ rw more refl
