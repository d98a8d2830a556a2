-- A line without quotes is a record of csv.
use Rattle.std.proofs.Common.{◌≡◌, ◌∙◌, ◌<◌, ℕ, Bool, true, false, List, [], ◌∷◌, ◌++◌, Some, length, refl, sym, ap, append_assoc, arith}
use Rattle.std.specs.Prelude.{◌==◌, All}
use Rattle.std.specs.List.{onto_first}
use Rattle.std.proofs.lemmas.List.{append-nil}
use Rattle.std.proofs.lemmas.List.Elements.{All-head, All-tail}
use Rattle.std.proofs.lemmas.List.Splits.{length-slice_split, slice_split-cons_no, slice_split-cons_yes}
use Rattle.csv.specs.Machine.{next_record, step}
use Rattle.csv.specs.Reading.{default_config}
use Rattle.csv.specs.declared.parser.Action.TheVariants as act
use Rattle.csv.specs.declared.parser.State.{State}
use Rattle.csv.specs.declared.parser.State.TheVariants as st
use Rattle.mrp_lines.specs.Lines.{ArePlain, IsPlainLine, cells_of, is_comma, is_special}

-- the states in which csv reads a cell without quotes: before its first byte, and after
abbrev in_cell : Bool → State
in_cell true = st.StartField
in_cell false = st.InField

-- what is neither a quote nor the end of a line
record Joins (byte : ℕ) : Type 0 where
  quote : (byte == 34) ≡ false
  return : (byte == 13) ≡ false
  feed : (byte == 10) ≡ false

joins : (byte : ℕ) → is_special byte ≡ false → (byte == 10) ≡ false → Joins byte
joins byte special feed = by (byte == 34) (byte == 13) refl refl
  where
    by : (q r : Bool) → (byte == 34) ≡ q → (byte == 13) ≡ r → Joins byte
    by false false q r = record { quote = q; return = r; feed = feed }
    by true r q _ = absurd (let e = rw q at special in cc)
    by false true q r = absurd (let e = rw (q, r) at special in cc)

step-comma : (first : Bool) (byte : ℕ) → Joins byte → is_comma byte ≡ true → step default_config (in_cell first) byte ≡ (st.StartField, act.EndField)
step-comma true byte is comma = rw (is.quote, comma) refl
step-comma false byte is comma = rw comma refl

step-other : (first : Bool) (byte : ℕ) → Joins byte → is_comma byte ≡ false → step default_config (in_cell first) byte ≡ (st.InField, act.Copy)
step-other true byte is other = rw (is.quote, other, is.return, is.feed) refl
step-other false byte is other = rw (other, is.return, is.feed) refl

step-feed : (first : Bool) → step default_config (in_cell first) 10 ≡ (st.StartRecord, act.EndRecord)
step-feed true = refl
step-feed false = refl

step-start : (byte : ℕ) → Joins byte → step default_config st.StartRecord byte ≡ step default_config st.StartField byte
step-start byte is = rw (is.return, is.feed) refl

-- the first cell goes on with these bytes in front
abbrev with_front : List ℕ → List (List ℕ) → List (List ℕ)
with_front cell [] = cell ∷ []
with_front cell (c ∷ cells) = (cell ++ c) ∷ cells

with-none : (cells : List (List ℕ)) → 0 < length cells → with_front [] cells ≡ cells
with-none [] some = absurd (omega arith)
with-none (c ∷ cells) some = refl

at-comma : (done : List (List ℕ)) (cell : List ℕ) (cells : List (List ℕ)) → 0 < length cells → (done ++ (cell ∷ [])) ++ with_front [] cells ≡ done ++ with_front cell ([] ∷ cells)
at-comma done cell [] some = absurd (omega arith)
at-comma done cell (c ∷ cells) some = append_assoc done (cell ∷ []) (c ∷ cells) ∙ ap (λ (x : List ℕ). done ++ (x ∷ c ∷ cells)) (sym (append-nil cell))

at-other : (done : List (List ℕ)) (cell : List ℕ) (byte : ℕ) (cells : List (List ℕ)) → 0 < length cells → done ++ with_front (cell ++ (byte ∷ [])) cells ≡ done ++ with_front cell (onto_first byte cells)
at-other done cell byte [] some = absurd (omega arith)
at-other done cell byte (c ∷ cells) some = ap (λ (x : List ℕ). done ++ (x ∷ cells)) (append_assoc cell (byte ∷ []) c)

some-cells : (line : List ℕ) → 0 < length (cells_of line)
some-cells line = omega (arith, length-slice_split is_comma line)

-- the rest of a line, in a cell
in-line : (first : Bool) (done : List (List ℕ)) (cell line rest : List ℕ) → ArePlain line → All (λ byte. (byte == 10) ≡ false) line
    → next_record default_config (in_cell first) done cell (line ++ (10 ∷ rest)) ≡ Some (done ++ with_front cell (cells_of line), st.StartRecord, rest)
unfolding next_record
in-line first done cell [] rest plain one = rw (step-feed first) (ap (λ (x : List ℕ). Some (done ++ (x ∷ []), st.StartRecord, rest)) (sym (append-nil cell)))
in-line first done cell (byte ∷ line) rest plain one =
    let is = joins byte (All-head (λ b. is_special b ≡ false) byte line plain) (All-head (λ b. (b == 10) ≡ false) byte line one) in
    by is (λ f d c. in-line f d c line rest (All-tail (λ b. is_special b ≡ false) byte line plain) (All-tail (λ b. (b == 10) ≡ false) byte line one)) (is_comma byte) refl
  where
    by : Joins byte
        → ((f : Bool) (d : List (List ℕ)) (c : List ℕ) → next_record default_config (in_cell f) d c (line ++ (10 ∷ rest)) ≡ Some (d ++ with_front c (cells_of line), st.StartRecord, rest))
        → (b : Bool) → is_comma byte ≡ b → next_record default_config (in_cell first) done cell ((byte ∷ line) ++ (10 ∷ rest)) ≡ Some (done ++ with_front cell (cells_of (byte ∷ line)), st.StartRecord, rest)
    by is more true comma =
        rw (step-comma first byte is comma)
        (more true (done ++ (cell ∷ [])) []
        ∙ ap (λ (x : List (List ℕ)). Some (x, st.StartRecord, rest)) (at-comma done cell (cells_of line) (some-cells line) ∙ ap (λ (x : List (List ℕ)). done ++ with_front cell x) (sym (slice_split-cons_yes is_comma byte line comma))))
    by is more false other =
        rw (step-other first byte is other)
        (more false done (cell ++ (byte ∷ []))
        ∙ ap (λ (x : List (List ℕ)). Some (x, st.StartRecord, rest)) (at-other done cell byte (cells_of line) (some-cells line) ∙ ap (λ (x : List (List ℕ)). done ++ with_front cell x) (sym (slice_split-cons_no is_comma byte line other))))

from-start : (byte : ℕ) (rest : List ℕ) → Joins byte → next_record default_config st.StartRecord [] [] (byte ∷ rest) ≡ next_record default_config st.StartField [] [] (byte ∷ rest)
unfolding next_record
from-start byte rest is = rw (step-start byte is) refl

pub line-next : (line rest : List ℕ) → IsPlainLine line → next_record default_config st.StartRecord [] [] (line ++ (10 ∷ rest)) ≡ Some (cells_of line, st.StartRecord, rest)
line-next [] rest is = absurd (omega (arith, is.some))
line-next (byte ∷ line) rest is =
    from-start byte (line ++ (10 ∷ rest)) (joins byte (All-head (λ b. is_special b ≡ false) byte line is.plain) (All-head (λ b. (b == 10) ≡ false) byte line is.one))
    ∙ in-line true [] [] (byte ∷ line) rest is.plain is.one
    ∙ ap (λ (x : List (List ℕ)). Some (x, st.StartRecord, rest)) (with-none (cells_of (byte ∷ line)) (some-cells (byte ∷ line)))
