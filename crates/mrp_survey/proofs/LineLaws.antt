-- Where the records of a text begin.
use Rattle.std.proofs.Common.{◌≡◌, ◌∙◌, ◌+◌, ◌<◌, ℕ, zero, suc, Bool, true, false, List, [], ◌∷◌, ◌++◌, drop, length, get_or, refl, sym, ap, arith}
use Rattle.std.specs.Prelude.{◌==◌, ◌&&◌, not, if◌then◌else◌}
use Rattle.std.proofs.lemmas.Bool.{eqb-true}
use Rattle.csv.specs.Machine.{field_after, fields_after, is_end, step}
use Rattle.csv.specs.Reading.{default_config, strip_bom}
use Rattle.csv.specs.declared.parser.State.{State}
use Rattle.csv.specs.declared.parser.State.TheVariants as st
use Rattle.mrp_rows.specs.Bundle.{ends_line}
use Rattle.mrp_rows.specs.Records.{records_in}
use Rattle.mrp_survey.specs.declared.lines.Reading.{Reading}
use Rattle.mrp_survey.specs.declared.lines.Spot.{Spot}
use Rattle.mrp_survey.specs.declared.lines.Spot.TheVariants as spot
use Rattle.mrp_survey.specs.Lines.{at_start, ends_own_line, is_between, lines_from, spot_after, step_to}
use Rattle.mrp_survey.specs.LineLaws.{AreLinesOf, line_ends}

-- where csv's machine is, as the lines see it
abbrev spot_of : State → Spot
spot_of st.StartRecord = spot.Between
spot_of st.AfterCr = spot.Between
spot_of st.StartField = spot.Front
spot_of st.InField = spot.Bare
spot_of st.InQuoted = spot.Quoted
spot_of st.AfterQuote = spot.Behind
spot_of st.InEscape = spot.Bare
spot_of st.InComment = spot.Bare

-- a state that the default dialect has
abbrev is_own : State → Bool
is_own st.StartRecord = true
is_own st.AfterCr = true
is_own st.StartField = true
is_own st.InField = true
is_own st.InQuoted = true
is_own st.AfterQuote = true
is_own st.InEscape = false
is_own st.InComment = false

-- how many records have begun and have not ended
abbrev begun : Bool → ℕ
begun between = if between then 0 else 1

-- what a byte does
record Steps (s : State) (b : ℕ) : Type 0 where
  own : is_own (step default_config s b).0 ≡ true
  same : spot_of (step default_config s b).0 ≡ spot_after (spot_of s) b
  ends : is_end (step default_config s b).1 ≡ (not (is_between (spot_of s)) && is_between (spot_after (spot_of s) b))
  cells : is_between (spot_of s) ≡ true → is_between (spot_after (spot_of s) b) ≡ true → (fields_after (step default_config s b).1 [] [] ≡ []) × (field_after (step default_config s b).1 b [] ≡ [])
  next : is_between (spot_of s) ≡ true → is_between (spot_after (spot_of s) b) ≡ ends_line b
  first : is_between (spot_of s) ≡ true → ends_line b ≡ false → step default_config s b ≡ step default_config st.StartRecord b

steps : (s : State) (b : ℕ) → is_own s ≡ true → Steps s b
steps s b own = by (b == 34) refl (b == 44) refl (b == 13) refl (b == 10) refl
  where
    at : (n : ℕ) → (b == n) ≡ true → Steps s n → Steps s b
    at n e h = rw (eqb-true b n e) h

    quote : (t : State) → is_own t ≡ true → Steps t 34
    quote st.StartRecord o = record { own = refl; same = refl; ends = refl; cells = λ p q. absurd cc; next = λ p. refl; first = λ p q. refl }
    quote st.AfterCr o = record { own = refl; same = refl; ends = refl; cells = λ p q. absurd cc; next = λ p. refl; first = λ p q. refl }
    quote st.StartField o = record { own = refl; same = refl; ends = refl; cells = λ p q. absurd cc; next = λ p. absurd cc; first = λ p q. absurd cc }
    quote st.InField o = record { own = refl; same = refl; ends = refl; cells = λ p q. absurd cc; next = λ p. absurd cc; first = λ p q. absurd cc }
    quote st.InQuoted o = record { own = refl; same = refl; ends = refl; cells = λ p q. absurd cc; next = λ p. absurd cc; first = λ p q. absurd cc }
    quote st.AfterQuote o = record { own = refl; same = refl; ends = refl; cells = λ p q. absurd cc; next = λ p. absurd cc; first = λ p q. absurd cc }
    quote st.InEscape o = absurd cc
    quote st.InComment o = absurd cc

    comma : (t : State) → is_own t ≡ true → Steps t 44
    comma st.StartRecord o = record { own = refl; same = refl; ends = refl; cells = λ p q. absurd cc; next = λ p. refl; first = λ p q. refl }
    comma st.AfterCr o = record { own = refl; same = refl; ends = refl; cells = λ p q. absurd cc; next = λ p. refl; first = λ p q. refl }
    comma st.StartField o = record { own = refl; same = refl; ends = refl; cells = λ p q. absurd cc; next = λ p. absurd cc; first = λ p q. absurd cc }
    comma st.InField o = record { own = refl; same = refl; ends = refl; cells = λ p q. absurd cc; next = λ p. absurd cc; first = λ p q. absurd cc }
    comma st.InQuoted o = record { own = refl; same = refl; ends = refl; cells = λ p q. absurd cc; next = λ p. absurd cc; first = λ p q. absurd cc }
    comma st.AfterQuote o = record { own = refl; same = refl; ends = refl; cells = λ p q. absurd cc; next = λ p. absurd cc; first = λ p q. absurd cc }
    comma st.InEscape o = absurd cc
    comma st.InComment o = absurd cc

    return : (t : State) → is_own t ≡ true → Steps t 13
    return st.StartRecord o = record { own = refl; same = refl; ends = refl; cells = λ p q. (refl, refl); next = λ p. refl; first = λ p q. absurd cc }
    return st.AfterCr o = record { own = refl; same = refl; ends = refl; cells = λ p q. (refl, refl); next = λ p. refl; first = λ p q. absurd cc }
    return st.StartField o = record { own = refl; same = refl; ends = refl; cells = λ p q. absurd cc; next = λ p. absurd cc; first = λ p q. absurd cc }
    return st.InField o = record { own = refl; same = refl; ends = refl; cells = λ p q. absurd cc; next = λ p. absurd cc; first = λ p q. absurd cc }
    return st.InQuoted o = record { own = refl; same = refl; ends = refl; cells = λ p q. absurd cc; next = λ p. absurd cc; first = λ p q. absurd cc }
    return st.AfterQuote o = record { own = refl; same = refl; ends = refl; cells = λ p q. absurd cc; next = λ p. absurd cc; first = λ p q. absurd cc }
    return st.InEscape o = absurd cc
    return st.InComment o = absurd cc

    feed : (t : State) → is_own t ≡ true → Steps t 10
    feed st.StartRecord o = record { own = refl; same = refl; ends = refl; cells = λ p q. (refl, refl); next = λ p. refl; first = λ p q. absurd cc }
    feed st.AfterCr o = record { own = refl; same = refl; ends = refl; cells = λ p q. (refl, refl); next = λ p. refl; first = λ p q. absurd cc }
    feed st.StartField o = record { own = refl; same = refl; ends = refl; cells = λ p q. absurd cc; next = λ p. absurd cc; first = λ p q. absurd cc }
    feed st.InField o = record { own = refl; same = refl; ends = refl; cells = λ p q. absurd cc; next = λ p. absurd cc; first = λ p q. absurd cc }
    feed st.InQuoted o = record { own = refl; same = refl; ends = refl; cells = λ p q. absurd cc; next = λ p. absurd cc; first = λ p q. absurd cc }
    feed st.AfterQuote o = record { own = refl; same = refl; ends = refl; cells = λ p q. absurd cc; next = λ p. absurd cc; first = λ p q. absurd cc }
    feed st.InEscape o = absurd cc
    feed st.InComment o = absurd cc

    plain : (t : State) → is_own t ≡ true → (b == 34) ≡ false → (b == 44) ≡ false → (b == 13) ≡ false → (b == 10) ≡ false → Steps t b
    plain st.StartRecord o q c r n = record { own = rw (q, c, r, n) refl; same = rw (q, c, r, n) refl; ends = rw (q, c, r, n) refl; cells = λ p f. absurd (let no = rw (q, c, r, n) at f in cc); next = λ p. rw (q, c, r, n) refl; first = λ p f. refl }
    plain st.AfterCr o q c r n = record { own = rw (q, c, r, n) refl; same = rw (q, c, r, n) refl; ends = rw (q, c, r, n) refl; cells = λ p f. absurd (let no = rw (q, c, r, n) at f in cc); next = λ p. rw (q, c, r, n) refl; first = λ p f. rw n refl }
    plain st.StartField o q c r n = record { own = rw (q, c, r, n) refl; same = rw (q, c, r, n) refl; ends = rw (q, c, r, n) refl; cells = λ p f. absurd cc; next = λ p. absurd cc; first = λ p f. absurd cc }
    plain st.InField o q c r n = record { own = rw (c, r, n) refl; same = rw (c, r, n) refl; ends = rw (c, r, n) refl; cells = λ p f. absurd cc; next = λ p. absurd cc; first = λ p f. absurd cc }
    plain st.InQuoted o q c r n = record { own = rw q refl; same = rw q refl; ends = rw q refl; cells = λ p f. absurd cc; next = λ p. absurd cc; first = λ p f. absurd cc }
    plain st.AfterQuote o q c r n = record { own = rw (q, c, r, n) refl; same = rw (q, c, r, n) refl; ends = rw (q, c, r, n) refl; cells = λ p f. absurd cc; next = λ p. absurd cc; first = λ p f. absurd cc }
    plain st.InEscape o q c r n = absurd cc
    plain st.InComment o q c r n = absurd cc

    by : (q : Bool) → (b == 34) ≡ q → (c : Bool) → (b == 44) ≡ c → (r : Bool) → (b == 13) ≡ r → (n : Bool) → (b == 10) ≡ n → Steps s b
    by true eq c ec r er n en = at 34 eq (quote s own)
    by false eq true ec r er n en = at 44 ec (comma s own)
    by false eq false ec true er n en = at 13 er (return s own)
    by false eq false ec false er true en = at 10 en (feed s own)
    by false eq false ec false er false en = plain s own eq ec er en

spot-same : (sp : Spot) (s : State) → sp ≡ spot_of s → is_between sp ≡ is_between (spot_of s)
spot-same sp s e = ap is_between e

-- the machine and the lines, one byte on
spot-next : (s : State) (r : Reading) (b : ℕ) → is_own s ≡ true → r.spot ≡ spot_of s → (step_to r b).spot ≡ spot_of (step default_config s b).0
spot-next s r b own same = ap (λ (sp : Spot). spot_after sp b) same ∙ sym (steps s b own).same

none-left : (s : State) (cells : List (List ℕ)) (cell : List ℕ) → is_own s ≡ true → length (records_in s cells cell []) ≡ begun (is_between (spot_of s))
unfolding records_in
none-left st.StartRecord cells cell own = refl
none-left st.AfterCr cells cell own = refl
none-left st.StartField cells cell own = refl
none-left st.InField cells cell own = refl
none-left st.InQuoted cells cell own = refl
none-left st.AfterQuote cells cell own = refl
none-left st.InEscape cells cell own = absurd cc
none-left st.InComment cells cell own = absurd cc

-- as many records as lines
count-from : (s : State) (r : Reading) (cells : List (List ℕ)) (cell xs : List ℕ) → is_own s ≡ true → r.spot ≡ spot_of s
    → length (records_in s cells cell xs) ≡ begun (is_between (spot_of s)) + length (lines_from r xs)
unfolding lines_from records_in
count-from s r cells cell [] own same = none-left s cells cell own ∙ (omega arith)
count-from s r cells cell (b ∷ xs) own same =
    by (is_between (spot_of s)) refl (is_between (spot_after (spot_of s) b)) refl
    (count-from (step default_config s b).0 (step_to r b) (fields_after (step default_config s b).1 cells cell) (field_after (step default_config s b).1 b cell) xs (steps s b own).own (spot-next s r b own same))
    (count-from (step default_config s b).0 (step_to r b) [] [] xs (steps s b own).own (spot-next s r b own same))
  where
    by : (p : Bool) → is_between (spot_of s) ≡ p → (q : Bool) → is_between (spot_after (spot_of s) b) ≡ q
        → length (records_in (step default_config s b).0 (fields_after (step default_config s b).1 cells cell) (field_after (step default_config s b).1 b cell) xs) ≡ begun (is_between (spot_of (step default_config s b).0)) + length (lines_from (step_to r b) xs)
        → length (records_in (step default_config s b).0 [] [] xs) ≡ begun (is_between (spot_of (step default_config s b).0)) + length (lines_from (step_to r b) xs)
        → length (records_in s cells cell (b ∷ xs)) ≡ begun p + length (lines_from r (b ∷ xs))
    by true p true q on new =
        let t = steps s b own in
        let line : ends_line b ≡ true = sym (t.next p) ∙ q in
        let now : is_between r.spot ≡ true = spot-same r.spot s same ∙ p in
        let after : is_between (spot_of (step default_config s b).0) ≡ true = ap is_between t.same ∙ q in
        let goes : is_end (step default_config s b).1 ≡ false = t.ends ∙ rw p refl in
        rw (goes, now, line) (rw after at on)
    by true p false q on new =
        let t = steps s b own in
        let line : ends_line b ≡ false = sym (t.next p) ∙ q in
        let now : is_between r.spot ≡ true = spot-same r.spot s same ∙ p in
        let after : is_between (spot_of (step default_config s b).0) ≡ false = ap is_between t.same ∙ q in
        let goes : is_end (step default_config s b).1 ≡ false = t.ends ∙ rw p refl in
        let more = rw after at on in
        rw (goes, now, line) (omega (arith, more))
    by false p true q on new =
        let t = steps s b own in
        let now : is_between r.spot ≡ false = spot-same r.spot s same ∙ p in
        let after : is_between (spot_of (step default_config s b).0) ≡ true = ap is_between t.same ∙ q in
        let goes : is_end (step default_config s b).1 ≡ true = t.ends ∙ rw (p, q) refl in
        let more = rw after at new in
        rw (goes, now) (omega (arith, more))
    by false p false q on new =
        let t = steps s b own in
        let now : is_between r.spot ≡ false = spot-same r.spot s same ∙ p in
        let after : is_between (spot_of (step default_config s b).0) ≡ false = ap is_between t.same ∙ q in
        let goes : is_end (step default_config s b).1 ≡ false = t.ends ∙ rw (p, q) refl in
        rw (goes, now) (rw after at on)

pub count-lines : (line : ℕ) (xs : List ℕ) → length (lines_from (at_start line) xs) ≡ length (records_in st.StartRecord [] [] xs)
count-lines line xs = let all = count-from st.StartRecord (at_start line) [] [] xs refl refl in omega (arith, all)

-- a byte from which on csv reads these records, and its line, in bytes that begin in a line
record Found (xs : List ℕ) (read : List (List (List ℕ))) (line : ℕ) (after : Bool) (own : ℕ) : Type 0 where
  front : List ℕ
  byte : ℕ
  rest : List ℕ
  parts : xs ≡ front ++ byte ∷ rest
  inside : ends_line byte ≡ false
  reads : records_in st.StartRecord [] [] (byte ∷ rest) ≡ read
  line_is : own ≡ line + line_ends after front

-- the same, one byte further back
found-behind : (r : Reading) (b : ℕ) (xs : List ℕ) (read : List (List (List ℕ))) (own : ℕ) → Found xs read (step_to r b).line (b == 13) own → Found (b ∷ xs) read r.line r.after_return own
unfolding line_ends
found-behind r b xs read own f = record {
  front = b ∷ f.front;
  byte = f.byte;
  rest = f.rest;
  parts = ap (λ (t : List ℕ). b ∷ t) f.parts;
  inside = f.inside;
  reads = f.reads;
  line_is = f.line_is ∙ by (ends_own_line r.after_return b);
}
  where
    by : (e : Bool) → (if e then r.line + 1 else r.line) + line_ends (b == 13) f.front ≡ r.line + ((if e then 1 else 0) + line_ends (b == 13) f.front)
    by true = omega arith
    by false = omega arith

same-read : (xs : List ℕ) (a b : List (List (List ℕ))) (line : ℕ) (after : Bool) (own : ℕ) → a ≡ b → Found xs a line after own → Found xs b line after own
same-read xs a b line after own e f = rw (← e) f

-- what holds of the records behind a byte
abbrev Next : State → Reading → ℕ → List ℕ → List (List ℕ) → List ℕ → Type 0
Next s r b xs more now = (n : ℕ) → n < length (lines_from (step_to r b) xs)
    → Found xs (drop (begun (is_between (spot_of (step default_config s b).0)) + n) (records_in (step default_config s b).0 more now xs)) (step_to r b).line (b == 13) (get_or (lines_from (step_to r b) xs) n 0)

found-from : (s : State) (r : Reading) (cells : List (List ℕ)) (cell xs : List ℕ) → is_own s ≡ true → r.spot ≡ spot_of s → (is_between (spot_of s) ≡ true → (cells ≡ []) × (cell ≡ []))
    → (place : ℕ) → place < length (lines_from r xs) → Found xs (drop (begun (is_between (spot_of s)) + place) (records_in s cells cell xs)) r.line r.after_return (get_or (lines_from r xs) place 0)
unfolding lines_from records_in line_ends
found-from s r cells cell [] own same bare place within = absurd (omega (arith, within))
found-from s r cells cell (b ∷ xs) own same bare place within =
    by (is_between (spot_of s)) refl (is_between (spot_after (spot_of s) b)) refl place within
    (found-from (step default_config s b).0 (step_to r b) (fields_after (step default_config s b).1 cells cell) (field_after (step default_config s b).1 b cell) xs (steps s b own).own (spot-next s r b own same))
    (found-from (step default_config s b).0 (step_to r b) [] [] xs (steps s b own).own (spot-next s r b own same) (λ p. (refl, refl)))
  where
    by : (p : Bool) → is_between (spot_of s) ≡ p → (q : Bool) → is_between (spot_after (spot_of s) b) ≡ q → (n : ℕ) → n < length (lines_from r (b ∷ xs))
        → ((is_between (spot_of (step default_config s b).0) ≡ true → (fields_after (step default_config s b).1 cells cell ≡ []) × (field_after (step default_config s b).1 b cell ≡ []))
        → Next s r b xs (fields_after (step default_config s b).1 cells cell) (field_after (step default_config s b).1 b cell))
        → Next s r b xs [] []
        → Found (b ∷ xs) (drop (begun p + n) (records_in s cells cell (b ∷ xs))) r.line r.after_return (get_or (lines_from r (b ∷ xs)) n 0)
    by true p true q n inside on new =
        let t = steps s b own in
        let line : ends_line b ≡ true = sym (t.next p) ∙ q in
        let now : is_between r.spot ≡ true = spot-same r.spot s same ∙ p in
        let after : is_between (spot_of (step default_config s b).0) ≡ true = ap is_between t.same ∙ q in
        let goes : is_end (step default_config s b).1 ≡ false = t.ends ∙ rw p refl in
        let none = bare p in
        let both = t.cells p q in
        let f = on (λ e. (rw (none.0, none.1) both.0, rw none.1 both.1)) n (rw (now, line) at inside) in
        rw (goes, now, line) (found-behind r b xs _ _ (rw after at f))
    by true p false q zero inside on new =
        let t = steps s b own in
        let line : ends_line b ≡ false = sym (t.next p) ∙ q in
        let now : is_between r.spot ≡ true = spot-same r.spot s same ∙ p in
        let none = bare p in
        rw (now, line, none.0, none.1) (record { front = []; byte = b; rest = xs; parts = refl; inside = line; reads = rw (t.first p line) refl; line_is = omega arith })
    by true p false q (suc m) inside on new =
        let t = steps s b own in
        let line : ends_line b ≡ false = sym (t.next p) ∙ q in
        let now : is_between r.spot ≡ true = spot-same r.spot s same ∙ p in
        let after : is_between (spot_of (step default_config s b).0) ≡ false = ap is_between t.same ∙ q in
        let goes : is_end (step default_config s b).1 ≡ false = t.ends ∙ rw p refl in
        let long = rw (now, line) at inside in
        let f = on (λ e. absurd (let no = sym e ∙ after in cc)) m (omega (arith, long)) in
        let further : 1 + m ≡ 0 + suc m = omega arith in
        rw (goes, now, line) (same-read (b ∷ xs) _ _ r.line r.after_return _
        (ap (λ (k : ℕ). drop k (records_in (step default_config s b).0 (fields_after (step default_config s b).1 cells cell) (field_after (step default_config s b).1 b cell) xs)) further)
        (found-behind r b xs _ _ (rw after at f)))
    by false p true q n inside on new =
        let t = steps s b own in
        let now : is_between r.spot ≡ false = spot-same r.spot s same ∙ p in
        let after : is_between (spot_of (step default_config s b).0) ≡ true = ap is_between t.same ∙ q in
        let goes : is_end (step default_config s b).1 ≡ true = t.ends ∙ rw (p, q) refl in
        let f = new n (rw now at inside) in
        let here : 0 + n ≡ n = omega arith in
        let further : suc n ≡ 1 + n = omega arith in
        rw (goes, now) (same-read (b ∷ xs) _ _ r.line r.after_return _
        (ap (λ (k : ℕ). drop k (records_in (step default_config s b).0 [] [] xs)) here
        ∙ ap (λ (k : ℕ). drop k (fields_after (step default_config s b).1 cells cell ∷ records_in (step default_config s b).0 [] [] xs)) further)
        (found-behind r b xs _ _ (rw after at f)))
    by false p false q n inside on new =
        let t = steps s b own in
        let now : is_between r.spot ≡ false = spot-same r.spot s same ∙ p in
        let after : is_between (spot_of (step default_config s b).0) ≡ false = ap is_between t.same ∙ q in
        let goes : is_end (step default_config s b).1 ≡ false = t.ends ∙ rw (p, q) refl in
        let f = on (λ e. absurd (let no = sym e ∙ after in cc)) n (rw now at inside) in
        rw (goes, now) (found-behind r b xs _ _ (rw after at f))

-- each record of a text has a line, that of its first byte
pub are-lines : (line : ℕ) (text : List ℕ) → AreLinesOf line text
are-lines line text = record {
  count = count-lines line (strip_bom text);
  each = λ place within.
      let long : place < length (lines_from (at_start line) (strip_bom text)) = rw (count-lines line (strip_bom text)) within in
      let f = found-from st.StartRecord (at_start line) [] [] (strip_bom text) refl refl (λ e. (refl, refl)) place long in
      record {
        front = f.front;
        byte = f.byte;
        rest = f.rest;
        parts = f.parts;
        inside = f.inside;
        reads = f.reads ∙ ap (λ (k : ℕ). drop k (records_in st.StartRecord [] [] (strip_bom text))) (omega arith);
        line_is = f.line_is;
      };
}
