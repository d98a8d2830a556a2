-- The steps of loops over bytes, names, keys and records.
use Rattle.std.proofs.Common.{◌≡◌, ◌∙◌, ◌+◌, ◌-◌, ◌<◌, ◌≤◌, ℕ, Bool, true, false, cond, List, [], ◌∷◌, ◌++◌, Bor, Option, Some, None, drop, get_or, length, map, nat_eq, refl, sym, ap, arith, append_assoc, append-nil}
use Rattle.std.specs.Prelude.{◌&&◌, if◌then◌else◌, is_some, is_none, nat_le}
use Rattle.std.proofs.lemmas.Bool.{leb-false, leb-true}
use Rattle.std.specs.List.{range_with_len}
use Rattle.std.specs.Cmp.Lexicographic.{pointwise}
use Rattle.std.specs.Map.{lookup}
use Rattle.std.proofs.lemmas.List.{drop_all, drop_more, get_or-map, length-map}
use Rattle.std.proofs.lemmas.List.FromFn.{map-range_with_len_more}
use Rattle.indexmap.specs.IndexMap.{insert_entry}
use Rattle.mrp_rows.proofs.WordPlaces.{pointwise-drop}
use Rattle.mrp_tables.specs.declared.item.Class.{Class}
use Rattle.mrp_tables.specs.Reading.{is_past}
use Rattle.mrp_survey.specs.declared.finding.Place.{Place}
use Rattle.mrp_survey.specs.declared.finding.What.TheVariants as what
use Rattle.mrp_survey.specs.declared.form.Form.{Form}
use Rattle.mrp_survey.specs.declared.lines.Reading.{Reading}
use Rattle.mrp_survey.specs.declared.rule.Beside.{Beside}
use Rattle.mrp_survey.specs.Entry.{Entry}
use Rattle.mrp_survey.specs.Finding.{Told}
use Rattle.mrp_survey.specs.Forms.{AllCells, Row}
use Rattle.mrp_survey.specs.Headers.{is_like, limit_of}
use Rattle.mrp_survey.specs.Keys.{Key, Keys, line_of, same_key, with_key}
use Rattle.mrp_survey.specs.Likes.{Firsts, lowered, with_first}
use Rattle.mrp_survey.specs.Lines.{begins_record, ends_own_line, lines_from, step_to}
use Rattle.mrp_survey.specs.Marks.{keys_after, marks_of, told_of}
use Rattle.mrp_survey.specs.Names.{Names, is_among, with_name}
use Rattle.mrp_survey.specs.Records.{Records, place_of}
use Rattle.mrp_survey.specs.Tables.{entry_at, names_after, names_from, row_shown, told_from, width_of}
use Rattle.mrp_survey.specs.Told.{told}

-- a key that is not there goes last
inserted : {K X : Type 0} (eq : K → K → Bool) (k : K) (v : X) (es : List (K × X)) → lookup (eq k) es ≡ None → insert_entry eq es k v ≡ es ++ (k, v) ∷ []
inserted eq k v [] none = refl
inserted {K} {X} eq k v (x ∷ es) none = by (eq k x.0) refl none (inserted eq k v es)
  where
    by : (b : Bool) → eq k x.0 ≡ b → cond b (Some x.1) (lookup (eq k) es) ≡ None → (lookup (eq k) es ≡ None → insert_entry eq es k v ≡ es ++ (k, v) ∷ [])
        → (if b then (x.0, v) ∷ es else x ∷ insert_entry eq es k v) ≡ x ∷ (es ++ (k, v) ∷ [])
    by true is e more = absurd cc
    by false is e more = ap (λ (l : List (K × X)). x ∷ l) (more e)

is-none : {X : Type 0} (o : Option X) → is_some o ≡ false → o ≡ None
is-none None e = refl
is-none (Some x) e = absurd cc

none-is : {X : Type 0} (o : Option X) → is_none o ≡ true → o ≡ None
none-is None e = refl
none-is (Some x) e = absurd cc

pub name-added : (old new : Names) (name : List ℕ) (class : Option Class) → is_among old name ≡ false → new ≡ insert_entry (pointwise nat_eq) old name class → new ≡ with_name old name class
name-added old new name class absent is = is ∙ inserted (pointwise nat_eq) name class old (is-none (lookup (pointwise nat_eq name) old) absent) ∙ rw absent refl

pub key-added : (old new : Keys) (key : Key) (line : ℕ) → is_none (line_of old key) ≡ true → new ≡ insert_entry same_key old key line → new ≡ with_key old key line
key-added old new key line absent is = is ∙ inserted same_key key line old (none-is (line_of old key) absent) ∙ rw absent refl

-- a name under its lower case
pub first-added : (old new : Firsts) (key name : List ℕ) → key ≡ lowered name → is_some (lookup (pointwise nat_eq key) old) ≡ false → new ≡ insert_entry (pointwise nat_eq) old key name → new ≡ with_first old name
first-added old new key name key_is absent is =
    let here : is_some (lookup (pointwise nat_eq (lowered name)) old) ≡ false = ap (λ (k : List ℕ). is_some (lookup (pointwise nat_eq k) old)) (sym key_is) ∙ absent in
    is ∙ inserted (pointwise nat_eq) key name old (is-none (lookup (pointwise nat_eq key) old) absent) ∙ ap (λ (k : List ℕ). old ++ (k, name) ∷ []) key_is ∙ rw here refl

-- the next byte's line
pub line-most : (r : Reading) (b : ℕ) → (step_to r b).line ≤ r.line + 1
line-most r b = by (ends_own_line r.after_return b)
  where
    by : (e : Bool) → (if e then r.line + 1 else r.line) ≤ r.line + 1
    by true = omega arith
    by false = omega arith

-- the lines so far, and one byte more
pub lines-next : (r : Reading) (xs whole lines more : List ℕ) (i b : ℕ) (begins : Bool) → i < length xs → get_or xs i 0 ≡ b → begins_record r.spot b ≡ begins
    → more ≡ (if begins then lines ++ r.line ∷ [] else lines) → whole ≡ lines ++ lines_from r (drop i xs) → whole ≡ more ++ lines_from (step_to r b) (drop (i + 1) xs)
unfolding lines_from
lines-next r xs whole lines more i b true within at is grown so_far =
    let here : drop i xs ≡ b ∷ drop (i + 1) xs = drop_more xs i 0 within ∙ ap (λ (n : ℕ). n ∷ drop (i + 1) xs) at in
    so_far ∙ ap (λ (ys : List ℕ). lines ++ lines_from r ys) here ∙ rw is (sym (append_assoc lines (r.line ∷ []) (lines_from (step_to r b) (drop (i + 1) xs)))) ∙ ap (λ (ys : List ℕ). ys ++ lines_from (step_to r b) (drop (i + 1) xs)) (sym grown)
lines-next r xs whole lines more i b false within at is grown so_far =
    let here : drop i xs ≡ b ∷ drop (i + 1) xs = drop_more xs i 0 within ∙ ap (λ (n : ℕ). n ∷ drop (i + 1) xs) at in
    so_far ∙ ap (λ (ys : List ℕ). lines ++ lines_from r ys) here ∙ rw is refl ∙ ap (λ (ys : List ℕ). ys ++ lines_from (step_to r b) (drop (i + 1) xs)) (sym grown)

pub lines-end : (r : Reading) (xs whole lines : List ℕ) (i : ℕ) → length xs ≤ i → whole ≡ lines ++ lines_from r (drop i xs) → lines ≡ whole
unfolding lines_from
lines-end r xs whole lines i past so_far = sym (so_far ∙ ap (λ (ys : List ℕ). lines ++ lines_from r ys) (drop_all i xs past) ∙ append-nil lines)

-- a header's next cell against the next name
pub like-drop : (cells : AllCells) (names : List (Bor (List ℕ))) (i : ℕ) (d : Bor (List ℕ)) (cell name : List ℕ) (like : Bool)
    → length cells ≡ length names → i < length names → cell ≡ get_or cells i [] → name ≡ (get_or names i d).now → like ≡ is_like cell name
    → pointwise is_like (drop i cells) (drop i (map (λ n. n.now) names)) ≡ (like && pointwise is_like (drop (i + 1) cells) (drop (i + 1) (map (λ n. n.now) names)))
like-drop cells names i d cell name like long within cell_is name_is is =
    let in_cells : i < length cells = rw long within in
    let in_names : i < length (map (λ (n : Bor (List ℕ)). n.now) names) = rw (length-map names (λ (n : Bor (List ℕ)). n.now)) within in
    let name_at = name_is ∙ sym (get_or-map (λ (n : Bor (List ℕ)). n.now) names i d [] within) in
    let same : is_like (get_or cells i []) (get_or (map (λ (n : Bor (List ℕ)). n.now) names) i []) ≡ like = rw (← cell_is, ← name_at) (sym is) in
    pointwise-drop is_like cells (map (λ (n : Bor (List ℕ)). n.now) names) i [] [] in_cells in_names
    ∙ ap (λ (b : Bool). b && pointwise is_like (drop (i + 1) cells) (drop (i + 1) (map (λ (n : Bor (List ℕ)). n.now) names))) same

module _ (form : Form) (records : Records) (n : ℕ) (cells : AllCells) (rest rows : List AllCells) (is : rows ≡ cells ∷ rest) where
  -- a record more that is told
  pub told-further : (beside : Beside) (seen keys : Keys) (width : ℕ) (entry : Entry) (whole now more : List Told) → width ≡ width_of form → entry ≡ entry_at form records n cells → is_past (limit_of form) n ≡ false
      → more ≡ now ++ told_of entry (marks_of width beside seen entry) → keys ≡ keys_after width seen entry
      → whole ≡ now ++ told_from form beside records seen n rows → whole ≡ more ++ told_from form beside records keys (n + 1) rest
  unfolding told_from
  told-further beside seen keys width entry whole now more width_is entry_is within grown keys_is so_far =
      let step : told_from form beside records seen n (cells ∷ rest) ≡ told_of entry (marks_of width beside seen entry) ++ told_from form beside records keys (n + 1) rest = rw (keys_is, width_is, entry_is, within) refl in
      so_far ∙ ap (λ (r : List AllCells). now ++ told_from form beside records seen n r) is
      ∙ ap (λ (t : List Told). now ++ t) step
      ∙ sym (append_assoc now (told_of entry (marks_of width beside seen entry)) (told_from form beside records keys (n + 1) rest))
      ∙ ap (λ (t : List Told). t ++ told_from form beside records keys (n + 1) rest) (sym grown)

  -- the first record past the limit
  pub told-past : (beside : Beside) (seen : Keys) (place : Place) (row : Row) (whole now : List Told) → place ≡ place_of records form.table n → row ≡ row_shown form cells → is_past (limit_of form) n ≡ true
      → whole ≡ now ++ told_from form beside records seen n rows → now ++ told place row 0 what.TooMany ∷ [] ≡ whole
  unfolding told_from
  told-past beside seen place row whole now place_is row_is past so_far =
      let step : told_from form beside records seen n (cells ∷ rest) ≡ told place row 0 what.TooMany ∷ [] = rw (place_is, row_is, past) refl in
      sym (so_far ∙ ap (λ (r : List AllCells). now ++ told_from form beside records seen n r) is ∙ ap (λ (t : List Told). now ++ t) step)

  -- a record more whose name is added
  pub names-further : (names more : Names) (width : ℕ) (entry : Entry) (whole : Names) → width ≡ width_of form → entry ≡ entry_at form records n cells
      → more ≡ names_after width names entry → whole ≡ names_from form records names n rows → whole ≡ names_from form records more (n + 1) rest
  unfolding names_from
  names-further names more width entry whole width_is entry_is added so_far =
      so_far ∙ ap (names_from form records names n) is ∙ rw (added, width_is, entry_is) refl

-- no record more
pub told-all : (form : Form) (beside : Beside) (records : Records) (seen : Keys) (n : ℕ) (rows : List AllCells) (whole now : List Told) → rows ≡ [] → whole ≡ now ++ told_from form beside records seen n rows → now ≡ whole
unfolding told_from
told-all form beside records seen n rows whole now none so_far = sym (so_far ∙ ap (λ (r : List AllCells). now ++ told_from form beside records seen n r) none ∙ append-nil now)

pub names-all : (form : Form) (records : Records) (names : Names) (n : ℕ) (rows : List AllCells) (whole : Names) → rows ≡ [] → whole ≡ names_from form records names n rows → names ≡ whole
unfolding names_from
names-all form records names n rows whole none so_far = sym (so_far ∙ ap (names_from form records names n) none)

-- one missing record more
pub missing-further : (f : ℕ → Told) (count n : ℕ) (first now more : List Told) → count ≤ n → now ≡ first ++ map f (range_with_len count (n - count)) → more ≡ now ++ f n ∷ []
    → more ≡ first ++ map f (range_with_len count (n + 1 - count))
missing-further f count n first now more low so_far grown =
    let next : n + 1 - count ≡ n - count + 1 = omega arith in
    let here : count + (n - count) ≡ n = omega arith in
    grown ∙ ap (λ (t : List Told). t ++ f n ∷ []) so_far ∙ append_assoc first (map f (range_with_len count (n - count))) (f n ∷ [])
    ∙ ap (λ (t : List Told). first ++ t) (sym (map-range_with_len_more f count (n - count) n here) ∙ ap (λ (k : ℕ). map f (range_with_len count k)) (sym next))

-- the span of a loop that has ended, or had nothing to go over
pub span-of : (count number most : ℕ) → count ≤ number → most ≤ number → (count ≤ most → number ≤ most) → (most < number → number ≡ count) → number - count ≡ most - count
span-of count number most from to below none = by (nat_le count most) refl
  where
    by : (b : Bool) → nat_le count most ≡ b → number - count ≡ most - count
    by true is = let top : number ≤ most = below (leb-true count most is) in omega (arith, top, from, to)
    by false is = let over : most < count = leb-false count most is in let same : number ≡ count = none (omega (arith, over, from)) in omega (arith, same, over)

-- a test that fails in its second part
pub either-false : (a b : Bool) → false ≡ b → false ≡ (a && b)
either-false true b e = e
either-false false b e = refl
