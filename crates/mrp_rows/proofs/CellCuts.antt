-- How the records of a text follow from cutting off its first cell.
use Rattle.std.proofs.Common.{◌≡◌, ℕ, suc, ◌+◌, Bool, true, false, List, [], ◌∷◌, ◌++◌, refl, sym, ap, ◌∙◌, append_assoc, append-nil, take, drop, length, get_or, ◌<◌, ◌≤◌, arith}
use Rattle.std.specs.Prelude.{◌==◌, ◌||◌, not, if◌then◌else◌}
use Rattle.std.specs.List.{list_any, prefix_len}
use Rattle.std.proofs.lemmas.Bool.{eqb-true, ne_eqb}
use Rattle.std.proofs.lemmas.List.{drop_all, drop_more}
use Rattle.csv.specs.Machine.{step, in_field, start_field, after_end, is_end, fields_after, field_after, ends_at_end}
use Rattle.csv.specs.Reading.{default_config, strip_bom}
use Rattle.csv.specs.declared.parser.Action.{Action}
use Rattle.csv.specs.declared.parser.Action.TheVariants as act
use Rattle.csv.specs.declared.parser.State.{State}
use Rattle.csv.specs.declared.parser.State.TheVariants as st
use Rattle.csv.specs.declared.parser.Terminator.TheVariants as term
use Rattle.mrp_rows.specs.Bundle.{ends_line, without_line_ends, without_mark}
use Rattle.mrp_rows.specs.Records.{records_in}
use Rattle.mrp_rows.specs.Shown.{is_empty}
use Rattle.mrp_rows.specs.Cutting.{state_at, ends_bare, ends_cell, spot_after, counts, cell_length, cell_in, records_behind}
use Rattle.mrp_rows.specs.declared.cutting.Spot.{Spot}
use Rattle.mrp_rows.specs.declared.cutting.Spot.TheVariants as spot

abbrev Step : Type 0
Step = State × Action

abbrev doing : State → Action → Step
doing s action = (s, action)

-- the records of a text behind its first byte, which had this effect
abbrev read_on : Step → List (List ℕ) → List ℕ → ℕ → List ℕ → List (List (List ℕ))
read_on effect cells cell byte rest =
    if is_end effect.1 then fields_after effect.1 cells cell ∷ records_in effect.0 [] [] rest
    else records_in effect.0 (fields_after effect.1 cells cell) (field_after effect.1 byte cell) rest

stepped : (s : State) (cells : List (List ℕ)) (cell : List ℕ) (byte : ℕ) (rest : List ℕ) (effect : Step) → step default_config s byte ≡ effect
    → records_in s cells cell (byte ∷ rest) ≡ read_on effect cells cell byte rest
unfolding records_in
stepped s cells cell byte rest effect e = ap (λ (x : Step). read_on x cells cell byte rest) e

-- what a byte does that ends a cell
abbrev closing : ℕ → Step
closing byte = if byte == 44 then (st.StartField, act.EndField) else (after_end term.CRLF byte, act.EndRecord)

quote-goes : (byte : ℕ) → (byte == 34) ≡ true → ends_bare byte ≡ false
quote-goes byte e = rw (eqb-true byte 34 e) refl

in_field-ends : (byte : ℕ) → ends_bare byte ≡ true → in_field default_config byte ≡ closing byte
in_field-ends byte = by (byte == 44) (byte == 10) (byte == 13) (st.StartField, act.EndField) (after_end term.CRLF byte, act.EndRecord) (st.InField, act.Copy)
  where
    by : (comma feed return : Bool) (x y z : Step) → (comma || (feed || return)) ≡ true → (if comma then x else if return || feed then y else z) ≡ (if comma then x else y)
    by true feed return x y z e = refl
    by false true true x y z e = refl
    by false true false x y z e = refl
    by false false true x y z e = refl
    by false false false x y z e = absurd cc

in_field-goes : (byte : ℕ) → ends_bare byte ≡ false → in_field default_config byte ≡ doing st.InField act.Copy
in_field-goes byte = by (byte == 44) (byte == 10) (byte == 13) (st.StartField, act.EndField) (after_end term.CRLF byte, act.EndRecord) (st.InField, act.Copy)
  where
    by : (comma feed return : Bool) (x y z : Step) → (comma || (feed || return)) ≡ false → (if comma then x else if return || feed then y else z) ≡ z
    by true feed return x y z e = absurd cc
    by false true return x y z e = absurd cc
    by false false true x y z e = absurd cc
    by false false false x y z e = refl

-- a byte that ends a cell
ends : (at : Spot) (byte : ℕ) → ends_cell at byte ≡ true → step default_config (state_at at) byte ≡ closing byte
ends spot.Front byte is = by (byte == 34) refl
  where
    by : (quote : Bool) → (byte == 34) ≡ quote → (if quote then (st.InQuoted, act.Skip) else in_field default_config byte) ≡ closing byte
    by true e = absurd (let f = sym is ∙ quote-goes byte e in cc)
    by false e = in_field-ends byte is
ends spot.Bare byte is = in_field-ends byte is
ends spot.Quoted byte is = absurd cc
ends spot.Behind byte is = by (byte == 34) refl
  where
    by : (quote : Bool) → (byte == 34) ≡ quote → (if quote then (st.InQuoted, act.Copy) else in_field default_config byte) ≡ closing byte
    by true e = absurd (let f = sym is ∙ quote-goes byte e in cc)
    by false e = in_field-ends byte is

-- what a byte of a cell does
abbrev going : Spot → ℕ → Step
going at byte = (state_at (spot_after at byte), if counts at byte then act.Copy else act.Skip)

-- a byte of a cell
goes : (at : Spot) (byte : ℕ) → ends_cell at byte ≡ false → step default_config (state_at at) byte ≡ going at byte
goes spot.Front byte is = by (byte == 34)
  where
    by : (quote : Bool) → (if quote then (st.InQuoted, act.Skip) else in_field default_config byte) ≡ doing (state_at (if quote then spot.Quoted else spot.Bare)) (if not quote then act.Copy else act.Skip)
    by true = refl
    by false = in_field-goes byte is
goes spot.Bare byte is = in_field-goes byte is
goes spot.Quoted byte is = by (byte == 34)
  where
    by : (quote : Bool) → (if quote then (st.AfterQuote, act.Skip) else (st.InQuoted, act.Copy)) ≡ doing (state_at (if quote then spot.Behind else spot.Quoted)) (if not quote then act.Copy else act.Skip)
    by true = refl
    by false = refl
goes spot.Behind byte is = by (byte == 34)
  where
    by : (quote : Bool) → (if quote then (st.InQuoted, act.Copy) else in_field default_config byte) ≡ doing (state_at (if quote then spot.Quoted else spot.Bare)) act.Copy
    by true = refl
    by false = in_field-goes byte is

-- behind a carriage return csv reads on as at the start of a record
same-step : (byte : ℕ) → step default_config st.AfterCr byte ≡ step default_config st.StartRecord byte
same-step byte = by (byte == 13) (byte == 10) (start_field default_config byte)
  where
    by : (return feed : Bool) (x : Step) → (if feed then (st.StartRecord, act.Skip) else if return || feed then (st.StartRecord, act.Skip) else x) ≡ (if return || feed then (st.StartRecord, act.Skip) else x)
    by true true x = refl
    by true false x = refl
    by false true x = refl
    by false false x = refl

after-return : (text : List ℕ) → records_in st.AfterCr [] [] text ≡ records_in st.StartRecord [] [] text
unfolding records_in
after-return [] = refl
after-return (byte ∷ rest) = ap (λ (x : Step). read_on x [] [] byte rest) (same-step byte)

-- the records from a byte that ends a cell
closed : (cells : List (List ℕ)) (cell : List ℕ) (byte : ℕ) (rest : List ℕ) → read_on (closing byte) cells cell byte rest ≡ records_behind (cells ++ (cell ∷ [])) (byte ∷ rest)
closed cells cell byte rest = by (byte == 44) (byte == 13)
  where
    by : (comma return : Bool) → read_on (if comma then (st.StartField, act.EndField) else (if return then st.AfterCr else st.StartRecord, act.EndRecord)) cells cell byte rest
        ≡ (if comma then records_in st.StartField (cells ++ (cell ∷ [])) [] rest else (cells ++ (cell ∷ [])) ∷ records_in st.StartRecord [] [] rest)
    by true return = refl
    by false true = ap (λ (more : List (List (List ℕ))). (cells ++ (cell ∷ [])) ∷ more) (after-return rest)
    by false false = refl

-- the records from a byte of a cell
gone : (at : Spot) (cells : List (List ℕ)) (cell : List ℕ) (byte : ℕ) (rest : List ℕ)
    → read_on (going at byte) cells cell byte rest ≡ records_in (state_at (spot_after at byte)) cells (if counts at byte then cell ++ (byte ∷ []) else cell) rest
gone at cells cell byte rest = by (counts at byte)
  where
    by : (counts_so : Bool) → read_on (state_at (spot_after at byte), if counts_so then act.Copy else act.Skip) cells cell byte rest
        ≡ records_in (state_at (spot_after at byte)) cells (if counts_so then cell ++ (byte ∷ []) else cell) rest
    by true = refl
    by false = refl

at-end : (at : Spot) → ends_at_end (state_at at) ≡ true
at-end spot.Front = refl
at-end spot.Bare = refl
at-end spot.Quoted = refl
at-end spot.Behind = refl

-- the records of a text from what is behind its first cell
pub cut-cell : (text : List ℕ) (at : Spot) (cells : List (List ℕ)) (cell : List ℕ)
    → records_in (state_at at) cells cell text
    ≡ records_behind (cells ++ ((cell ++ cell_in at (take (cell_length at text) text)) ∷ [])) (drop (cell_length at text) text)
unfolding records_in cell_length cell_in
cut-cell [] at cells cell = rw (at-end at, append-nil cell) refl
cut-cell (byte ∷ rest) at cells cell =
    by (ends_cell at byte) refl (cut-cell rest (spot_after at byte) cells (if counts at byte then cell ++ (byte ∷ []) else cell))
  where
    added : (is : Bool) → (if is then cell ++ (byte ∷ []) else cell) ++ cell_in (spot_after at byte) (take (cell_length (spot_after at byte) rest) rest)
        ≡ cell ++ (if is then byte ∷ cell_in (spot_after at byte) (take (cell_length (spot_after at byte) rest) rest) else cell_in (spot_after at byte) (take (cell_length (spot_after at byte) rest) rest))
    added true = append_assoc cell (byte ∷ []) (cell_in (spot_after at byte) (take (cell_length (spot_after at byte) rest) rest))
    added false = refl

    by : (is : Bool) → ends_cell at byte ≡ is
        → records_in (state_at (spot_after at byte)) cells (if counts at byte then cell ++ (byte ∷ []) else cell) rest
        ≡ records_behind (cells ++ (((if counts at byte then cell ++ (byte ∷ []) else cell) ++ cell_in (spot_after at byte) (take (cell_length (spot_after at byte) rest) rest)) ∷ [])) (drop (cell_length (spot_after at byte) rest) rest)
        → records_in (state_at at) cells cell (byte ∷ rest)
        ≡ records_behind (cells ++ ((cell ++ cell_in at (take (cell_length at (byte ∷ rest)) (byte ∷ rest))) ∷ [])) (drop (cell_length at (byte ∷ rest)) (byte ∷ rest))
    by true is more = stepped (state_at at) cells cell byte rest (closing byte) (ends at byte is) ∙ closed cells cell byte rest ∙ rw (is, append-nil cell) refl
    by false is more =
        stepped (state_at at) cells cell byte rest (going at byte) (goes at byte is) ∙ gone at cells cell byte rest
        ∙ more ∙ rw (is, added (counts at byte)) refl

-- the byte order mark that csv drops is the one that a bundle's texts lose
pub same-mark : (text : List ℕ) → without_mark text ≡ strip_bom text
unfolding without_mark strip_bom
same-mark [] = refl
same-mark (a ∷ []) = refl
same-mark (a ∷ b ∷ []) = refl
same-mark (a ∷ b ∷ c ∷ rest) = refl

-- leading line ends make no record
pub skip-line_ends : (text : List ℕ) → records_in st.StartRecord [] [] text ≡ records_in st.StartRecord [] [] (without_line_ends text)
unfolding records_in
skip-line_ends [] = refl
skip-line_ends (byte ∷ rest) = by (ends_line byte) refl (skip-line_ends rest)
  where
    effect : (feed return : Bool) (x : Step) → (feed || return) ≡ true → (if return || feed then (st.StartRecord, act.Skip) else x) ≡ doing st.StartRecord act.Skip
    effect true true x e = refl
    effect true false x e = refl
    effect false true x e = refl
    effect false false x e = absurd cc

    by : (is : Bool) → ends_line byte ≡ is → records_in st.StartRecord [] [] rest ≡ records_in st.StartRecord [] [] (without_line_ends rest)
        → records_in st.StartRecord [] [] (byte ∷ rest) ≡ records_in st.StartRecord [] [] (without_line_ends (byte ∷ rest))
    by true is more =
        let one : 1 + prefix_len ends_line rest ≡ suc (prefix_len ends_line rest) = omega arith in
        stepped st.StartRecord [] [] byte rest (st.StartRecord, act.Skip) (effect (byte == 10) (byte == 13) (start_field default_config byte) is)
        ∙ more ∙ rw (is, one) refl
    by false is more = rw is refl

-- a record begins with its first cell
pub begin-record : (byte : ℕ) (rest : List ℕ) → ends_line byte ≡ false → records_in st.StartRecord [] [] (byte ∷ rest) ≡ records_in st.StartField [] [] (byte ∷ rest)
unfolding records_in
begin-record byte rest is = ap (λ (x : Step). read_on x [] [] byte rest) (by (byte == 13) (byte == 10) (start_field default_config byte) is)
  where
    by : (return feed : Bool) (x : Step) → (feed || return) ≡ false → (if return || feed then (st.StartRecord, act.Skip) else x) ≡ x
    by true true x e = absurd cc
    by true false x e = absurd cc
    by false true x e = absurd cc
    by false false x e = refl

-- a byte that ends a cell, or one of the cell, behind so many others
pub length-ends : (xs : List ℕ) (at : Spot) (i byte : ℕ) → i < length xs → get_or xs i 0 ≡ byte → ends_cell at byte ≡ true → cell_length at (drop i xs) ≡ 0
unfolding cell_length
length-ends xs at i byte within is ends_so = rw (drop_more xs i 0 within, is, ends_so) refl

pub length-next : (xs : List ℕ) (at : Spot) (i byte : ℕ) → i < length xs → get_or xs i 0 ≡ byte → ends_cell at byte ≡ false
    → cell_length at (drop i xs) ≡ suc (cell_length (spot_after at byte) (drop (i + 1) xs))
unfolding cell_length
length-next xs at i byte within is ends_so = rw (drop_more xs i 0 within, is, ends_so) refl

pub length-last : (xs : List ℕ) (at : Spot) (i : ℕ) → length xs ≤ i → cell_length at (drop i xs) ≡ 0
unfolding cell_length
length-last xs at i past = rw (drop_all i xs past) refl

pub length-within : (xs : List ℕ) (at : Spot) → cell_length at xs ≤ length xs
unfolding cell_length
length-within [] at = omega arith
length-within (byte ∷ rest) at = by (ends_cell at byte) (length-within rest (spot_after at byte))
  where
    by : (is : Bool) → cell_length (spot_after at byte) rest ≤ length rest → (if is then 0 else suc (cell_length (spot_after at byte) rest)) ≤ suc (length rest)
    by true h = omega arith
    by false h = omega arith

-- the bytes of a cell that count so far, and one more byte
pub cell-next : (xs whole cell more : List ℕ) (at : Spot) (i byte : ℕ) (is : Bool) → i < length xs → get_or xs i 0 ≡ byte → counts at byte ≡ is
    → more ≡ (if is then cell ++ (byte ∷ []) else cell) → whole ≡ cell ++ cell_in at (drop i xs) → whole ≡ more ++ cell_in (spot_after at byte) (drop (i + 1) xs)
unfolding cell_in
cell-next xs whole cell more at i byte true within is counts_so grown so_far =
    so_far ∙ rw (drop_more xs i 0 within, is, counts_so, grown) (sym (append_assoc cell (byte ∷ []) (cell_in (spot_after at byte) (drop (i + 1) xs))))
cell-next xs whole cell more at i byte false within is counts_so grown so_far =
    so_far ∙ rw (drop_more xs i 0 within, is, counts_so, grown) refl

pub cell-last : (xs whole cell : List ℕ) (at : Spot) (i : ℕ) → length xs ≤ i → whole ≡ cell ++ cell_in at (drop i xs) → cell ≡ whole
unfolding cell_in
cell-last xs whole cell at i past so_far = sym (so_far ∙ rw (drop_all i xs past) (append-nil cell))

-- no byte of a cell counts, from a place on
pub blank-ends : (xs : List ℕ) (at : Spot) (i byte : ℕ) → i < length xs → get_or xs i 0 ≡ byte → counts at byte ≡ true → is_empty (cell_in at (drop i xs)) ≡ false
unfolding cell_in
blank-ends xs at i byte within is counts_so = rw (drop_more xs i 0 within, is, counts_so) (ne_eqb _ 0 (λ e. absurd (omega (arith, e))))

pub blank-next : (xs : List ℕ) (at : Spot) (i byte : ℕ) → i < length xs → get_or xs i 0 ≡ byte → counts at byte ≡ false
    → is_empty (cell_in at (drop i xs)) ≡ is_empty (cell_in (spot_after at byte) (drop (i + 1) xs))
unfolding cell_in
blank-next xs at i byte within is counts_so = rw (drop_more xs i 0 within, is, counts_so) refl

pub blank-last : (xs : List ℕ) (at : Spot) (i : ℕ) → length xs ≤ i → is_empty (cell_in at (drop i xs)) ≡ true
unfolding cell_in
blank-last xs at i past = rw (drop_all i xs past) refl

-- in a cell without quotes all bytes count
bare-cell : (xs : List ℕ) → cell_in spot.Bare xs ≡ xs
unfolding cell_in
bare-cell [] = refl
bare-cell (byte ∷ rest) = ap (λ (more : List ℕ). byte ∷ more) (bare-cell rest)

pub unquoted-cell : (byte : ℕ) (rest : List ℕ) → (byte == 34) ≡ false → cell_in spot.Front (byte ∷ rest) ≡ byte ∷ rest
unfolding cell_in
unquoted-cell byte rest is = rw (is, bare-cell rest) refl

pub empty-cell : cell_in spot.Front [] ≡ []
unfolding cell_in
empty-cell = refl

-- between two quotes all bytes count, if none is a quote
quoted-cell : (xs : List ℕ) → list_any (λ (byte : ℕ). byte == 34) xs ≡ false → cell_in spot.Quoted (xs ++ (34 ∷ [])) ≡ xs
unfolding cell_in
quoted-cell [] none = refl
quoted-cell (byte ∷ rest) none = by (byte == 34) refl none (quoted-cell rest)
  where
    by : (is : Bool) → (byte == 34) ≡ is → (is || list_any (λ (b : ℕ). b == 34) rest) ≡ false
        → (list_any (λ (b : ℕ). b == 34) rest ≡ false → cell_in spot.Quoted (rest ++ (34 ∷ [])) ≡ rest)
        → cell_in spot.Quoted (byte ∷ (rest ++ (34 ∷ []))) ≡ byte ∷ rest
    by true e quote more = absurd cc
    by false e none_so more = rw (e, more none_so) refl

pub between-quotes : (first last : ℕ) (spelled behind cell : List ℕ) → spelled ≡ first ∷ behind → behind ≡ cell ++ (last ∷ []) → first ≡ 34 → last ≡ 34 → list_any (λ (byte : ℕ). byte == 34) cell ≡ false
    → cell_in spot.Front spelled ≡ cell
unfolding cell_in
between-quotes first last spelled behind cell is behind_is first_is last_is none = rw (is, behind_is, first_is, last_is) (quoted-cell cell none)
