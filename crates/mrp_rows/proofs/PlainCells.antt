-- A text's first cell without quotes, up to the first byte that ends a cell or is a quote.
use Rattle.std.proofs.Common.{◌≡◌, ◌∙◌, ◌+◌, ◌-◌, ◌<◌, ◌≤◌, ◌≢◌, ℕ, suc, Bool, true, false, List, [], ◌∷◌, ◌++◌, ap, arith, cond, drop, get_or, length, map, not, refl, subst, sym, take}
use Rattle.std.specs.Prelude.{◌==◌, ◌||◌, if◌then◌else◌, nat_lt}
use Rattle.std.specs.List.{position_or_len}
use Rattle.std.proofs.lemmas.Bool.{lt-ltb, ne_eqb, not-false}
use Rattle.std.proofs.lemmas.List.{drop-drop, drop_more, get_or-drop, length-append, length-drop, map-append}
use Rattle.std.proofs.lemmas.List.Sums.{prefix_len_stops}
use Rattle.csv.specs.declared.parser.State.TheVariants as st
use Rattle.mrp_rows.specs.CellTexts.{Place, bytes_at}
use Rattle.mrp_rows.specs.Cutting.{BeginsWith, IsInside, cell_in, cell_length, ends_bare}
use Rattle.mrp_rows.specs.PlainLines.{IsStop, stops}
use Rattle.mrp_rows.specs.declared.cutting.Spot.TheVariants as spot
use Rattle.mrp_rows.proofs.CellCuts.{empty-cell, unquoted-cell}
use Rattle.mrp_rows.proofs.RecordCuts.{IsBehind, cell-next, inside-next, record-ends}

-- the first such byte of a text ends a cell
abbrev ends_first : List ℕ → Type 0
ends_first text = ends_bare (get_or text (position_or_len stops text) 0) ≡ true

bare-length : (text : List ℕ) → position_or_len stops text < length text → ends_first text → cell_length spot.Bare text ≡ position_or_len stops text
unfolding cell_length
bare-length [] within ends = absurd (omega arith)
bare-length (byte ∷ rest) within ends = by (ends_bare byte) (byte == 34) refl refl within ends (bare-length rest)
  where
    n : ℕ
    n = position_or_len stops rest

    by : (end quote : Bool) → ends_bare byte ≡ end → (byte == 34) ≡ quote → cond (not (end || quote)) (1 + n) 0 < suc (length rest)
        → ends_bare (get_or (byte ∷ rest) (cond (not (end || quote)) (1 + n) 0) 0) ≡ true
        → (n < length rest → ends_first rest → cell_length spot.Bare rest ≡ n)
        → (if end then 0 else suc (cell_length spot.Bare rest)) ≡ cond (not (end || quote)) (1 + n) 0
    by true quote is q in_it found more = refl
    by false true is q in_it found more = absurd (let e = sym is ∙ found in cc)
    by false false is q in_it found more =
        let one : 1 + n ≡ suc n = omega arith in
        let low : 1 + n < suc (length rest) = in_it in
        let last : ends_bare (get_or (byte ∷ rest) (1 + n) 0) ≡ true = found in
        ap suc (more (omega arith) (subst (λ k. ends_bare (get_or (byte ∷ rest) k 0) ≡ true) one last)) ∙ sym one

plain-length : (text : List ℕ) → position_or_len stops text < length text → ends_first text → cell_length spot.Front text ≡ position_or_len stops text
unfolding cell_length
plain-length [] within ends = absurd (omega arith)
plain-length (byte ∷ rest) within ends = by (ends_bare byte) (byte == 34) refl refl within ends (bare-length rest)
  where
    n : ℕ
    n = position_or_len stops rest

    by : (end quote : Bool) → ends_bare byte ≡ end → (byte == 34) ≡ quote → cond (not (end || quote)) (1 + n) 0 < suc (length rest)
        → ends_bare (get_or (byte ∷ rest) (cond (not (end || quote)) (1 + n) 0) 0) ≡ true
        → (n < length rest → ends_first rest → cell_length spot.Bare rest ≡ n)
        → (if end then 0 else suc (cell_length (if quote then spot.Quoted else spot.Bare) rest)) ≡ cond (not (end || quote)) (1 + n) 0
    by true quote is q in_it found more = refl
    by false true is q in_it found more = absurd (let e = sym is ∙ found in cc)
    by false false is q in_it found more =
        let one : 1 + n ≡ suc n = omega arith in
        let low : 1 + n < suc (length rest) = in_it in
        let last : ends_bare (get_or (byte ∷ rest) (1 + n) 0) ≡ true = found in
        ap suc (more (omega arith) (subst (λ k. ends_bare (get_or (byte ∷ rest) k 0) ≡ true) one last)) ∙ sym one

-- all bytes in front of it count
plain-cell : (text : List ℕ) → cell_in spot.Front (take (position_or_len stops text) text) ≡ take (position_or_len stops text) text
plain-cell [] = empty-cell
plain-cell (byte ∷ rest) = by (ends_bare byte) (byte == 34) refl
  where
    n : ℕ
    n = position_or_len stops rest

    by : (end quote : Bool) → (byte == 34) ≡ quote
        → cell_in spot.Front (take (cond (not (end || quote)) (1 + n) 0) (byte ∷ rest)) ≡ take (cond (not (end || quote)) (1 + n) 0) (byte ∷ rest)
    by true quote q = empty-cell
    by false true q = empty-cell
    by false false q =
        let one : 1 + n ≡ suc n = omega arith in
        subst (λ k. cell_in spot.Front (take k (byte ∷ rest)) ≡ take k (byte ∷ rest)) (sym one) (unquoted-cell byte (take n rest) q)

-- the next cell of a record is cut off up to such a byte
pub plain-next : (text : List ℕ) (most start end : ℕ) (places : List Place) → IsInside text most (map (bytes_at text) places) (length places) true (drop start text)
    → IsStop text start end → ends_bare (get_or text end 0) ≡ true → start ≤ length text → length places < most
    → IsBehind text most (map (bytes_at text) (places ++ ((start, end) ∷ []))) (length (places ++ ((start, end) ∷ []))) true (drop end text)
plain-next text most start end places h stop ends room few =
    let rest = drop start text in
    let n = position_or_len stops rest in
    let behind : drop n rest ≡ drop end text = drop-drop n start text ∙ ap (λ k. drop k text) (sym stop.first) in
    let here : get_or rest n 0 ≡ get_or text end 0 = get_or-drop start text n 0 ∙ ap (λ k. get_or text k 0) (sym stop.first) in
    let within : n < length rest = omega (arith, stop.within, stop.first, length-drop start text) in
    let long : cell_length spot.Front rest ≡ n = plain-length rest within (ap ends_bare here ∙ ends) in
    let size : end - start ≡ n = omega (arith, stop.first) in
    let cell : cell_in spot.Front (take (cell_length spot.Front rest) rest) ≡ bytes_at text (start, end) =
    ap (λ k. cell_in spot.Front (take k rest)) long ∙ plain-cell rest ∙ ap (λ k. take k rest) (sym size) in
    let less : nat_lt (length places) most ≡ true = lt-ltb _ _ few in
    cell-next text most (map (bytes_at text) places) (map (bytes_at text) (places ++ ((start, end) ∷ []))) (length places) (length (places ++ ((start, end) ∷ []))) true true rest (drop end text) h
    (rw (less, cell) (map-append (bytes_at text) places ((start, end) ∷ [])))
    (sym behind ∙ ap (λ k. drop k rest) (sym long))
    (rw less refl) (omega (arith, length-append places ((start, end) ∷ [])))

-- a comma ends it
pub plain-comma : (text : List ℕ) (most end count : ℕ) (kept : List (List ℕ)) → IsBehind text most kept count true (drop end text) → end < length text → get_or text end 0 ≡ 44
    → IsInside text most kept count true (drop (end + 1) text)
plain-comma text most end count kept h within comma = inside-next text most kept count true (drop end text) (drop (end + 1) text) h (drop_more text end 0 within ∙ ap (λ byte. byte ∷ drop (end + 1) text) comma)

-- something else does
pub plain-ends : (text : List ℕ) (most end count : ℕ) (kept : List (List ℕ)) → IsBehind text most kept count true (drop end text) → end < length text → get_or text end 0 ≢ 44
    → BeginsWith st.StartField text most kept count true (drop (end + 1) text)
plain-ends text most end count kept h within other = record-ends text most kept count (get_or text end 0) true (drop end text) (drop (end + 1) text) h (drop_more text end 0 within) other

-- such a byte that is no quote ends a cell
pub stop-ends : (text : List ℕ) (start end : ℕ) → IsStop text start end → get_or text end 0 ≢ 34 → ends_bare (get_or text end 0) ≡ true
stop-ends text start end stop other =
    let rest = drop start text in
    let n = position_or_len stops rest in
    let here : get_or rest n 0 ≡ get_or text end 0 = get_or-drop start text n 0 ∙ ap (λ k. get_or text k 0) (sym stop.first) in
    let within : n < length rest = omega (arith, stop.within, stop.first, length-drop start text) in
    let is : stops (get_or text end 0) ≡ true = ap stops (sym here) ∙ not-false _ (prefix_len_stops (λ byte. not (stops byte)) rest 0 within) in
    by (ends_bare (get_or text end 0)) (get_or text end 0 == 34) (ne_eqb _ 34 other) is
  where
    by : (end_so quote : Bool) → quote ≡ false → (end_so || quote) ≡ true → end_so ≡ true
    by true quote none some = refl
    by false quote none some = sym none ∙ some
