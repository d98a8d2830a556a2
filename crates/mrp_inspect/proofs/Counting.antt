-- The line of a byte, byte by byte.
use Rattle.std.proofs.Common.{◌≡◌, ◌∙◌, ◌+◌, ◌<◌, ◌≤◌, ℕ, Bool, true, false, List, [], ◌∷◌, ◌++◌, drop, get_or, length, refl, sym, ap, arith}
use Rattle.std.specs.Prelude.{◌==◌, if◌then◌else◌}
use Rattle.std.proofs.lemmas.List.{drop_all, drop_more}
use Rattle.mrp_survey.specs.LineLaws.{line_ends}
use Rattle.mrp_survey.specs.Lines.{ends_own_line}
use Rattle.mrp_inspect.specs.declared.lines.Counter.{Counter}
use Rattle.mrp_inspect.specs.Lines.{counted, counted_all}

-- one byte more
pub counted-next : (c : Counter) (xs : List ℕ) (i b : ℕ) (whole : Counter) → i < length xs → get_or xs i 0 ≡ b → whole ≡ counted_all c (drop i xs) → whole ≡ counted_all (counted c b) (drop (i + 1) xs)
unfolding counted_all
counted-next c xs i b whole within at so_far =
    so_far ∙ ap (counted_all c) (drop_more xs i 0 within ∙ ap (λ (n : ℕ). n ∷ drop (i + 1) xs) at)

-- no byte more
pub counted-end : (c : Counter) (xs : List ℕ) (i : ℕ) (whole : Counter) → length xs ≤ i → whole ≡ counted_all c (drop i xs) → c ≡ whole
unfolding counted_all
counted-end c xs i whole past so_far = sym (so_far ∙ ap (counted_all c) (drop_all i xs past))

pub line-most : (c : Counter) (b : ℕ) → (counted c b).line ≤ c.line + 1
line-most c b = by (ends_own_line c.after_return b)
  where
    by : (e : Bool) → (if e then c.line + 1 else c.line) ≤ c.line + 1
    by true = omega arith
    by false = omega arith

-- a byte's line is as many lines further as there are line ends in front of it
pub line-is : (c : Counter) (bytes : List ℕ) → (counted_all c bytes).line ≡ c.line + line_ends c.after_return bytes
unfolding counted_all line_ends
line-is c [] = omega arith
line-is c (b ∷ xs) = line-is (counted c b) xs ∙ by (ends_own_line c.after_return b)
  where
    by : (e : Bool) → (if e then c.line + 1 else c.line) + line_ends (b == 13) xs ≡ c.line + ((if e then 1 else 0) + line_ends (b == 13) xs)
    by true = omega arith
    by false = omega arith

-- counting goes on behind bytes that were counted
pub counted-on : (c : Counter) (first second : List ℕ) → counted_all (counted_all c first) second ≡ counted_all c (first ++ second)
unfolding counted_all
counted-on c [] second = refl
counted-on c (b ∷ bytes) second = counted-on (counted c b) bytes second
