-- Lines that are added one by one, and texts that stand one behind the other.
use Rattle.std.proofs.Common.{◌≡◌, ◌∙◌, ℕ, ◌+◌, ◌<◌, ◌≤◌, List, [], ◌∷◌, ◌++◌, add-zero, append-nil, append_assoc, arith, codes, drop, get_or, length, map, ap, refl, sym}
use Rattle.std.specs.Prelude.{String, flat_map, string_bytes}
use Rattle.std.specs.declared.alloc.Global.{Global}
use Rattle.std.proofs.lemmas.Bool.{ne_eqb}
use Rattle.std.proofs.lemmas.List.{drop_all, drop_more, get_or-map, length-map}
use Rattle.std.proofs.lemmas.List.Concat.{flat_map-append}
use Rattle.mrp_advice.specs.Listing.{Listed, lines_text, none_listed, remark_after, with_line, with_lines, with_listed}

pub no_lines : (l : Listed) → with_lines l [] ≡ l
unfolding with_lines
no_lines l = refl

pub line-first : (l : Listed) (line : List ℕ) (lines : List (List ℕ)) → with_lines l (line ∷ lines) ≡ with_lines (with_line l line) lines
unfolding with_lines
line-first l line lines = refl

pub one_line : (l : Listed) (line : List ℕ) → with_lines l (line ∷ []) ≡ with_line l line
unfolding with_lines
one_line l line = refl

-- lines, and then others
pub lines-both : (l : Listed) (first second : List (List ℕ)) → with_lines l (first ++ second) ≡ with_lines (with_lines l first) second
unfolding with_lines
lines-both l [] second = refl
lines-both l (line ∷ lines) second = lines-both (with_line l line) lines second

-- the next of the lines that are left
pub next-line : (now new whole : Listed) (lines : List (List ℕ)) (k : ℕ) → k < length lines → new ≡ with_line now (get_or lines k []) → with_lines now (drop k lines) ≡ whole → with_lines new (drop (k + 1) lines) ≡ whole
next-line now new whole lines k within grown so_far =
    ap (λ (l : Listed). with_lines l (drop (k + 1) lines)) grown ∙ sym (line-first now (get_or lines k []) (drop (k + 1) lines)) ∙ ap (with_lines now) (sym (drop_more lines k [] within)) ∙ so_far

-- no line is left
pub last-line : (now whole : Listed) (lines : List (List ℕ)) (k : ℕ) → length lines ≤ k → with_lines now (drop k lines) ≡ whole → now ≡ whole
last-line now whole lines k past so_far = sym (no_lines now) ∙ ap (with_lines now) (sym (drop_all k lines past)) ∙ so_far

-- the lines of values, one by one
module _ {X : Type 0} (line_of : X → List ℕ) (xs : List X) (k : ℕ) where
  pub next-of : (d x : X) (now new whole : Listed) → k < length xs → x ≡ get_or xs k d → new ≡ with_line now (line_of x) → with_lines now (drop k (map line_of xs)) ≡ whole
      → with_lines new (drop (k + 1) (map line_of xs)) ≡ whole
  next-of d x now new whole within is grown so_far =
      let inside : k < length (map line_of xs) = rw (length-map xs line_of) within in
      next-line now new whole (map line_of xs) k inside (grown ∙ ap (λ (y : X). with_line now (line_of y)) is ∙ ap (with_line now) (sym (get_or-map line_of xs k d [] within))) so_far

  pub last-of : (now whole : Listed) → length xs ≤ k → with_lines now (drop k (map line_of xs)) ≡ whole → now ≡ whole
  last-of now whole past so_far = last-line now whole (map line_of xs) k (rw (length-map xs line_of) past) so_far

-- lines behind the first have no remark
abbrev listed_as : List ℕ → List ℕ → ℕ → Listed
listed_as remark text count = record { remark = remark; text = text; count = count }

abbrev IsBare : List ℕ → ℕ → Type 0
IsBare remark count = remark_after count remark ≡ []

bare-next : (remark : List ℕ) (count : ℕ) → IsBare remark (count + 1)
bare-next remark count = rw (ne_eqb (count + 1) 0 (λ e. absurd (omega (arith, e)))) refl

line-bare : (remark text line : List ℕ) (count : ℕ) → IsBare remark count → with_line (listed_as remark text count) line ≡ listed_as remark (text ++ (line ++ codes "\n")) (count + 1)
line-bare remark text line count bare = rw bare (ap (λ (t : List ℕ). listed_as remark t (count + 1)) (append_assoc text line (codes "\n")))

-- lines where no remark stands behind the next
pub lines-bare : (remark text : List ℕ) (count : ℕ) (lines : List (List ℕ)) → remark_after count remark ≡ []
    → with_lines (record { remark = remark; text = text; count = count }) lines ≡ record { remark = remark; text = text ++ lines_text lines; count = count + length lines }
lines-bare remark text count [] bare =
    no_lines (listed_as remark text count) ∙ ap (λ (t : List ℕ). listed_as remark t count) (sym (append-nil text)) ∙ ap (listed_as remark (text ++ [])) (sym (add-zero count))
lines-bare remark text count (line ∷ lines) bare =
    let own : List ℕ = line ++ codes "\n" in
    let long : count + 1 + length lines ≡ count + length (line ∷ lines) = omega arith in
    line-first (listed_as remark text count) line lines
    ∙ ap (λ (l : Listed). with_lines l lines) (line-bare remark text line count bare)
    ∙ lines-bare remark (text ++ own) (count + 1) lines (bare-next remark count)
    ∙ ap (λ (t : List ℕ). listed_as remark t (count + 1 + length lines)) (append_assoc text own (lines_text lines))
    ∙ ap (listed_as remark (text ++ (own ++ lines_text lines))) long

-- behind a line no remark stands
counted : (l : Listed) (lines : List (List ℕ)) → (with_lines l lines).count ≡ l.count + length lines
unfolding with_lines
counted l [] = sym (add-zero l.count)
counted l (line ∷ lines) = let long : l.count + 1 + length lines ≡ l.count + length (line ∷ lines) = omega arith in counted (with_line l line) lines ∙ long

bare-behind : (l : Listed) (lines : List (List ℕ)) → 0 < length lines → remark_after (with_lines l lines).count (with_lines l lines).remark ≡ []
bare-behind l lines some = by (with_lines l lines).remark (with_lines l lines).count (counted l lines)
  where
    by : (remark : List ℕ) (count : ℕ) → count ≡ l.count + length lines → remark_after count remark ≡ []
    by remark count is = rw (ne_eqb count 0 (λ e. absurd (omega (arith, e, is, some)))) refl

-- lines that are listed behind others, once there is one
pub listed-both : (l : Listed) (front back : List (List ℕ)) → 0 < length front → with_listed (with_lines l front) (with_lines (none_listed []) back) ≡ with_lines l (front ++ back)
listed-both l front back some =
    let own : Listed = with_lines l front in
    let long : 0 + length back ≡ length back = omega arith in
    let alone : with_lines (none_listed []) back ≡ listed_as [] (lines_text back) (length back) = lines-bare [] [] 0 back refl ∙ ap (listed_as [] (lines_text back)) long in
    ap (with_listed own) alone
    ∙ sym (lines-bare own.remark own.text own.count back (bare-behind l front some))
    ∙ sym (lines-both l front back)

-- texts with one behind them
pub texts-end : (texts : List (String Global)) (last : String Global) → flat_map string_bytes (texts ++ last ∷ []) ≡ flat_map string_bytes texts ++ string_bytes last
texts-end texts last = flat_map-append string_bytes texts (last ∷ []) ∙ ap (λ (t : List ℕ). flat_map string_bytes texts ++ t) (append-nil (string_bytes last))

-- texts with one behind them, and then other texts
pub texts-behind : (texts others : List (String Global)) (text last : String Global)
    → flat_map string_bytes ((texts ++ text ∷ []) ++ others) ++ string_bytes last ≡ (flat_map string_bytes texts ++ string_bytes text) ++ (flat_map string_bytes others ++ string_bytes last)
texts-behind texts others text last =
    ap (λ (t : List ℕ). t ++ string_bytes last) (flat_map-append string_bytes (texts ++ text ∷ []) others ∙ ap (λ (t : List ℕ). t ++ flat_map string_bytes others) (texts-end texts text))
    ∙ append_assoc (flat_map string_bytes texts ++ string_bytes text) (flat_map string_bytes others) (string_bytes last)
