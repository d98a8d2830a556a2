-- The line behind leading line ends, and the byte order mark after them.
use Rattle.std.proofs.Common.{◌≡◌, ◌∙◌, ◌+◌, ◌-◌, ◌<◌, ◌≤◌, ℕ, suc, Bool, true, false, cond, not, List, [], ◌∷◌, drop, take, get_or, length, refl, sym, ap, arith}
use Rattle.std.specs.Prelude.{◌==◌, if◌then◌else◌}
use Rattle.std.specs.List.{prefix_len}
use Rattle.std.proofs.lemmas.List.{take_all}
use Rattle.csv.specs.Reading.{strip_bom}
use Rattle.mrp_rows.specs.Bundle.{ends_line, without_mark}
use Rattle.mrp_survey.specs.declared.lines.Reading.{Reading}
use Rattle.mrp_survey.specs.LineLaws.{line_ends}
use Rattle.mrp_survey.specs.Lines.{ends_own_line, line_behind, step_to}

pub is-true : (b : Bool) → not b ≡ false → b ≡ true
is-true true e = refl
is-true false e = absurd cc

line_more : (r : Reading) (b : ℕ) (xs : List ℕ) → ends_line b ≡ true → line_behind r (b ∷ xs) ≡ line_behind (step_to r b) xs
unfolding line_behind
line_more r b xs ends = rw ends refl

pub line_here : (r : Reading) (b : ℕ) (xs : List ℕ) → ends_line b ≡ false → line_behind r (b ∷ xs) ≡ r.line
unfolding line_behind
line_here r b xs inside = rw inside refl

-- the next byte is a line end
pub line_next : (r : Reading) (whole b : ℕ) (rest : List ℕ) → 1 ≤ length rest → get_or rest 0 0 ≡ b → ends_line b ≡ true → whole ≡ line_behind r rest
    → whole ≡ line_behind (step_to r b) (take (length rest - 1) (drop 1 rest))
line_next r whole b [] long at ends is = absurd (omega (arith, long))
line_next r whole b (x ∷ xs) long at ends is =
    let all : take (length (x ∷ xs) - 1) xs ≡ xs = take_all (length (x ∷ xs) - 1) xs (omega arith) in
    is ∙ ap (λ (y : ℕ). line_behind r (y ∷ xs)) at ∙ line_more r b xs ends ∙ ap (line_behind (step_to r b)) (sym all)

pub all_left : (rest : List ℕ) → 1 ≤ length rest → take (length rest - 1) (drop 1 rest) ≡ drop 1 rest
all_left [] long = absurd (omega (arith, long))
all_left (x ∷ xs) long = take_all (length (x ∷ xs) - 1) xs (omega arith)

pub left_next : (rest : List ℕ) → 1 ≤ length rest → length (take (length rest - 1) (drop 1 rest)) + 1 ≡ length rest
left_next [] long = absurd (omega (arith, long))
left_next (x ∷ xs) long =
    let all : take (length (x ∷ xs) - 1) xs ≡ xs = take_all (length (x ∷ xs) - 1) xs (omega arith) in
    ap (λ (l : List ℕ). length l + 1) all ∙ omega arith

-- there is no next byte
pub line_end : (r : Reading) (whole : ℕ) (rest : List ℕ) → length rest < 1 → whole ≡ line_behind r rest → r.line ≡ whole
unfolding line_behind
line_end r whole [] short is = sym is
line_end r whole (x ∷ xs) short is = absurd (omega (arith, short))

pub same_mark : (bytes : List ℕ) → strip_bom bytes ≡ without_mark bytes
unfolding strip_bom without_mark
same_mark [] = refl
same_mark (a ∷ []) = refl
same_mark (a ∷ b ∷ []) = refl
same_mark (a ∷ b ∷ c ∷ rest) = refl

take-next : (n b : ℕ) (xs : List ℕ) → take (1 + n) (b ∷ xs) ≡ b ∷ take n xs
take-next n b xs = let one : 1 + n ≡ suc n = omega arith in ap (λ (k : ℕ). take k (b ∷ xs)) one

-- the line behind leading line ends is as many lines further
pub behind-is : (r : Reading) (bytes : List ℕ) → line_behind r bytes ≡ r.line + line_ends r.after_return (take (prefix_len ends_line bytes) bytes)
unfolding line_behind line_ends
behind-is r [] = omega arith
behind-is r (b ∷ xs) = by (ends_line b) (behind-is (step_to r b) xs)
  where
    own : (o : Bool) → (if o then r.line + 1 else r.line) + line_ends (b == 13) (take (prefix_len ends_line xs) xs) ≡ r.line + ((if o then 1 else 0) + line_ends (b == 13) (take (prefix_len ends_line xs) xs))
    own true = omega arith
    own false = omega arith

    by : (ends : Bool) → line_behind (step_to r b) xs ≡ (step_to r b).line + line_ends (b == 13) (take (prefix_len ends_line xs) xs)
        → (if ends then line_behind (step_to r b) xs else r.line) ≡ r.line + line_ends r.after_return (take (cond ends (1 + prefix_len ends_line xs) 0) (b ∷ xs))
    by false more = omega arith
    by true more = more ∙ own (ends_own_line r.after_return b) ∙ ap (λ (l : List ℕ). r.line + line_ends r.after_return l) (sym (take-next (prefix_len ends_line xs) b xs))
