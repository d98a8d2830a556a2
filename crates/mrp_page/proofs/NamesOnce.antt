-- Names, each once, and the first 200 of them.
use Rattle.std.proofs.Common.{◌≡◌, ◌∙◌, ◌⊎◌, ◌<◌, ◌≤◌, ℕ, Bool, true, false, not, List, [], ◌∷◌, ◌++◌, length, take, drop, get_or, refl, sym, ap, subst, arith, inl, inr, append_assoc}
use Rattle.std.specs.Prelude.{◌||◌, if◌then◌else◌}
use Rattle.std.specs.List.{IsDistinct, filter, fold, list_any}
use Rattle.std.proofs.lemmas.Bool.{cases_lt, cond-false, cond-true}
use Rattle.std.proofs.lemmas.Cmp.{nat_list_eq_equiv}
use Rattle.std.proofs.lemmas.List.{get_or-take, length-append, length-take, length-take-le, map_push, take-append-drop, take-append-le}
use Rattle.std.proofs.lemmas.List.Elements.{filter-append, filter_passes}
use Rattle.std.proofs.lemmas.List.Filters.{length-filter_both}
use Rattle.std.proofs.lemmas.List.Folds.{Any-from_list_any, list_any-append, list_any_at}
use Rattle.std.proofs.lemmas.List.Kept.{AllPairs-filter}
use Rattle.std.proofs.lemmas.Map.Keys.{IsDistinct-from_apart, IsDistinct-push, apart_from_distinct}
use Rattle.std.proofs.lemmas.Map.Made.{length-le_from_is_member}
use Rattle.std.proofs.lemmas.Slice.Eq.{bytes_eq-Decides}
use Rattle.mrp_page.specs.Row.{Cells, same_text}
use Rattle.mrp_page.specs.Shown.{each_once, has_name, is_asked, items_in, items_of_plan, items_to_show, others, row_names, rows_of, with_name}
use Rattle.mrp_page.specs.Spot.{Names}
use Rattle.mrp_page.specs.declared.limits.TheConstants.{MOST_ITEMS}
use Rattle.mrp_day.specs.declared.section.Section.TheVariants as s

pub text-same : (a b : List ℕ) → same_text a b ≡ true → a ≡ b
text-same a b = (bytes_eq-Decides a b).0

pub same-text : (a b : List ℕ) → a ≡ b → same_text a b ≡ true
same-text a b = (bytes_eq-Decides a b).1

or-last : (a b : Bool) → (a || (b || false)) ≡ (a || b)
or-last true b = refl
or-last false true = refl
or-last false false = refl

or-nil : (a : Bool) → a ≡ (a || false)
or-nil true = refl
or-nil false = refl

or-three : (a b c : Bool) → ((a || b) || c) ≡ (a || (b || c))
or-three true b c = refl
or-three false b c = refl

or-has : (a b : Bool) → (b ≡ true → a ≡ true) → a ≡ (a || b)
or-has true b has = refl
or-has false true has = has refl
or-has false false has = refl

-- a name that is among some
pub has-push : (names : List (List ℕ)) (name x : List ℕ) → has_name (names ++ (name ∷ [])) x ≡ (has_name names x || same_text x name)
has-push names name x = list_any-append (same_text x) names (name ∷ []) ∙ or-last (has_name names x) (same_text x name)

pub has-at : (names : List (List ℕ)) (x : List ℕ) (i : ℕ) → i < length names → get_or names i [] ≡ x → has_name names x ≡ true
has-at names x i within is = list_any_at (same_text x) names i [] within (same-text x (get_or names i []) (sym is))

pub place-of : (names : List (List ℕ)) (x : List ℕ) → has_name names x ≡ true → (i : ℕ) × (i < length names) × (get_or names i x ≡ x)
place-of names x has =
    let (i, y, within, at, is) = Any-from_list_any (same_text x) names has in
    (i, within, place-is i y at (text-same x y is))
  where
    place-is : (i : ℕ) (y : List ℕ) → get_or names i y ≡ y → x ≡ y → get_or names i x ≡ x
    place-is i y at e = subst (λ (t : List ℕ). get_or names i t ≡ t) (sym e) at

has-with : (seen : List (List ℕ)) (name x : List ℕ) → has_name (with_name seen name) x ≡ (has_name seen x || same_text x name)
has-with seen name x = by (has_name seen name) refl
  where
    by : (b : Bool) → has_name seen name ≡ b → has_name (with_name seen name) x ≡ (has_name seen x || same_text x name)
    by true e = rw e (or-has (has_name seen x) (same_text x name) (λ is. subst (λ (t : List ℕ). has_name seen t ≡ true) (sym (text-same x name is)) e))
    by false e = rw e (has-push seen name x)

has-fold : (seen names : List (List ℕ)) (x : List ℕ) → has_name (fold with_name seen names) x ≡ (has_name seen x || has_name names x)
has-fold seen [] x = or-nil (has_name seen x)
has-fold seen (name ∷ names) x = has-fold (with_name seen name) names x ∙ ap (λ (b : Bool). b || has_name names x) (has-with seen name x) ∙ or-three (has_name seen x) (same_text x name) (has_name names x)

pub once-has : (names : List (List ℕ)) (x : List ℕ) → has_name (each_once names) x ≡ has_name names x
unfolding each_once
once-has names x = has-fold [] names x

fold-push : {A B : Type 0} (f : B → A → B) (b : B) (xs : List A) (x : A) → fold f b (xs ++ (x ∷ [])) ≡ f (fold f b xs) x
fold-push f b [] x = refl
fold-push f b (y ∷ xs) x = fold-push f (f b y) xs x

pub once-more : (names : List (List ℕ)) (name : List ℕ) → each_once (names ++ (name ∷ [])) ≡ with_name (each_once names) name
unfolding each_once
once-more names name = fold-push with_name [] names name

distinct-fold : (seen names : List (List ℕ)) → IsDistinct same_text seen → IsDistinct same_text (fold with_name seen names)
distinct-fold seen [] is = is
distinct-fold seen (name ∷ names) is = distinct-fold (with_name seen name) names (by (has_name seen name) refl)
  where
    by : (b : Bool) → has_name seen name ≡ b → IsDistinct same_text (with_name seen name)
    by true e = rw e is
    by false e = rw e (IsDistinct-push nat_list_eq_equiv seen name is e)

once-distinct : (names : List (List ℕ)) → IsDistinct same_text (each_once names)
unfolding each_once IsDistinct
once-distinct names = distinct-fold [] names tt

distinct-filter : (p : List ℕ → Bool) (names : List (List ℕ)) → IsDistinct same_text names → IsDistinct same_text (filter p names)
distinct-filter p names is =
    IsDistinct-from_apart same_text (filter p names) (AllPairs-filter (λ (x y : List ℕ). same_text x y ≡ false) p names (λ i j d before within. apart_from_distinct same_text names i j d is before within))

distinct-take : (n : ℕ) (names : List (List ℕ)) → IsDistinct same_text names → IsDistinct same_text (take n names)
distinct-take n names is = IsDistinct-from_apart same_text (take n names) apart
  where
    apart : (i j : ℕ) (d : List ℕ) → i < j → j < length (take n names) → same_text (get_or (take n names) i d) (get_or (take n names) j d) ≡ false
    apart i j d before within =
        let few = length-take n names in
        rw (get_or-take n names i d (omega arith), get_or-take n names j d (omega arith)) (apart_from_distinct same_text names i j d is before (omega arith))

pub items-distinct : (items : Names) (rows : List Cells) → IsDistinct same_text (items_in items rows)
unfolding items_in
items-distinct items rows = distinct-filter (is_asked items) (each_once (row_names rows)) (once-distinct (row_names rows))

-- one more row, of an item that stood before
pub items-same : (items : Names) (rows : List Cells) (cells : Cells) → has_name (row_names rows) (get_or cells 0 []) ≡ true → items_in items (rows ++ (cells ∷ [])) ≡ items_in items rows
unfolding items_in
items-same items rows cells has =
    let name = get_or cells 0 [] in
    ap (λ (t : List (List ℕ)). filter (is_asked items) (each_once t)) (map_push (λ (c : Cells). get_or c 0 []) rows cells)
    ∙ ap (filter (is_asked items)) (once-more (row_names rows) name ∙ cond-true _ _ _ (once-has (row_names rows) name ∙ has))

-- or of another one
pub items-new : (items : Names) (rows : List Cells) (cells : Cells) → has_name (row_names rows) (get_or cells 0 []) ≡ false
    → items_in items (rows ++ (cells ∷ [])) ≡ items_in items rows ++ (if is_asked items (get_or cells 0 []) then get_or cells 0 [] ∷ [] else [])
unfolding items_in
items-new items rows cells has =
    let name = get_or cells 0 [] in
    ap (λ (t : List (List ℕ)). filter (is_asked items) (each_once t)) (map_push (λ (c : Cells). get_or c 0 []) rows cells)
    ∙ ap (filter (is_asked items)) (once-more (row_names rows) name ∙ cond-false _ _ _ (once-has (row_names rows) name ∙ has))
    ∙ filter-append (is_asked items) (each_once (row_names rows)) (name ∷ [])

-- some names are kept of all of them: their first 200, and all if they are fewer
pub record Keeps (all kept : List (List ℕ)) : Type 0 where
  pub front : take MOST_ITEMS kept ≡ take MOST_ITEMS all
  pub whole : length all < MOST_ITEMS → kept ≡ all

pub keeps-none : Keeps [] []
keeps-none = record { front = refl; whole = λ few. refl }

many : (all kept : List (List ℕ)) → Keeps all kept → MOST_ITEMS ≤ length all → MOST_ITEMS ≤ length kept
many all kept keeps long =
    let of-all = length-take MOST_ITEMS all in
    let of-kept = length-take MOST_ITEMS kept in
    let same = ap length keeps.front in
    omega arith

-- with one more name, which is kept
pub keeps-more : (all kept : List (List ℕ)) (name : List ℕ) → Keeps all kept → Keeps (all ++ (name ∷ [])) (kept ++ (name ∷ []))
keeps-more all kept name keeps = by (cases_lt (length all) MOST_ITEMS)
  where
    by : (length all < MOST_ITEMS) ⊎ (MOST_ITEMS ≤ length all) → Keeps (all ++ (name ∷ [])) (kept ++ (name ∷ []))
    by (inl few) = subst (λ (t : List (List ℕ)). Keeps (all ++ (name ∷ [])) (t ++ (name ∷ []))) (sym (keeps.whole few)) (record { front = refl; whole = λ e. refl })
    by (inr long) =
        let more = length-append all (name ∷ []) in
        record {
          front = take-append-le MOST_ITEMS kept (name ∷ []) (many all kept keeps long) ∙ keeps.front ∙ sym (take-append-le MOST_ITEMS all (name ∷ []) long);
          whole = λ few. absurd (omega arith);
        }

-- with one more name, for which there is no room
pub keeps-past : (all kept : List (List ℕ)) (name : List ℕ) → Keeps all kept → MOST_ITEMS ≤ length all → Keeps (all ++ (name ∷ [])) kept
keeps-past all kept name keeps long =
    let more = length-append all (name ∷ []) in
    record {
      front = keeps.front ∙ sym (take-append-le MOST_ITEMS all (name ∷ []) long);
      whole = λ few. absurd (omega arith);
    }

-- no more names are among some than there are of these, if each occurs once
told-few : (told names : List (List ℕ)) → IsDistinct same_text names → length (filter (has_name told) names) ≤ length told
told-few told names is = length-le_from_is_member nat_list_eq_equiv (filter (has_name told) names) told (distinct-filter (has_name told) names is) among
  where
    among : (q : List ℕ) → list_any (same_text q) (filter (has_name told) names) ≡ true → list_any (same_text q) told ≡ true
    among q has =
        let (i, within, at) = place-of (filter (has_name told) names) q has in
        subst (λ (t : List ℕ). has_name told t ≡ true) at (filter_passes (has_name told) names i q within)

-- so some names and the others are no fewer than all
all-enough : (told names : List (List ℕ)) → IsDistinct same_text names → length names ≤ length (told ++ others told names)
all-enough told names is =
    let few = told-few told names is in
    let both = length-filter_both (has_name told) (λ (name : List ℕ). not (has_name told name)) (λ name. refl) names in
    let sum = length-append told (others told names) in
    omega arith

-- 200 items are shown at most
pub shows-most : (items : Names) (run : ℕ) (records : List Cells) → length (items_to_show items run records) ≤ 200
unfolding items_to_show
shows-most items run records =
    let told = items_in items (rows_of s.Messages run records) in
    let names = told ++ others told (items_in items (rows_of s.Plan run records)) in
    let few = length-take MOST_ITEMS names in
    omega arith

-- and as many where the plan has them
pub shows-full : (items : Names) (run : ℕ) (records : List Cells) → 200 ≤ length (items_of_plan items run records) → length (items_to_show items run records) ≡ 200
unfolding items_to_show
shows-full items run records many =
    let told = items_in items (rows_of s.Messages run records) in
    let planned = items_in items (rows_of s.Plan run records) in
    let enough = all-enough told planned (items-distinct items (rows_of s.Plan run records)) in
    length-take-le MOST_ITEMS (told ++ others told planned) (omega arith)

-- so the first 200 leave enough others
others-enough : (told names : List (List ℕ)) → IsDistinct same_text names → MOST_ITEMS ≤ length names → MOST_ITEMS ≤ length (told ++ others told (take MOST_ITEMS names))
others-enough told names is long =
    let all = all-enough told (take MOST_ITEMS names) (distinct-take MOST_ITEMS names is) in
    let first = length-take-le MOST_ITEMS names long in
    omega arith

-- the first 200 names are those of all, if the first 200 of each list are kept
pub first-shown : (told planned kept-told kept-planned : List (List ℕ)) → Keeps told kept-told → Keeps planned kept-planned → IsDistinct same_text planned
    → take MOST_ITEMS (kept-told ++ others kept-told kept-planned) ≡ take MOST_ITEMS (told ++ others told planned)
first-shown told planned kept-told kept-planned of-told of-planned is = by (cases_lt (length told) MOST_ITEMS)
  where
    enough : (names : List (List ℕ)) → MOST_ITEMS ≤ length planned → take MOST_ITEMS names ≡ take MOST_ITEMS planned → take MOST_ITEMS (told ++ others told names) ≡ take MOST_ITEMS (told ++ others told (take MOST_ITEMS planned))
    enough names long first =
        ap (λ (t : List (List ℕ)). take MOST_ITEMS (told ++ others told t)) (sym (take-append-drop MOST_ITEMS names) ∙ ap (λ (t : List (List ℕ)). t ++ drop MOST_ITEMS names) first)
        ∙ ap (λ (t : List (List ℕ)). take MOST_ITEMS (told ++ t)) (filter-append (λ (name : List ℕ). not (has_name told name)) (take MOST_ITEMS planned) (drop MOST_ITEMS names))
        ∙ ap (take MOST_ITEMS) (sym (append_assoc told (others told (take MOST_ITEMS planned)) (others told (drop MOST_ITEMS names))))
        ∙ take-append-le MOST_ITEMS (told ++ others told (take MOST_ITEMS planned)) (others told (drop MOST_ITEMS names)) (others-enough told planned is long)

    of-plan : (length planned < MOST_ITEMS) ⊎ (MOST_ITEMS ≤ length planned) → take MOST_ITEMS (told ++ others told kept-planned) ≡ take MOST_ITEMS (told ++ others told planned)
    of-plan (inl few) = ap (λ (t : List (List ℕ)). take MOST_ITEMS (told ++ others told t)) (of-planned.whole few)
    of-plan (inr long) = enough kept-planned long of-planned.front ∙ sym (enough planned long refl)

    by : (length told < MOST_ITEMS) ⊎ (MOST_ITEMS ≤ length told) → take MOST_ITEMS (kept-told ++ others kept-told kept-planned) ≡ take MOST_ITEMS (told ++ others told planned)
    by (inl few) = ap (λ (t : List (List ℕ)). take MOST_ITEMS (t ++ others t kept-planned)) (of-told.whole few) ∙ of-plan (cases_lt (length planned) MOST_ITEMS)
    by (inr long) = take-append-le MOST_ITEMS kept-told (others kept-told kept-planned) (many told kept-told of-told long) ∙ of-told.front ∙ sym (take-append-le MOST_ITEMS told (others told planned) long)
