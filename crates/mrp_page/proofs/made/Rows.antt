-- Rows that are kept have what all have.
use Rattle.std.proofs.Common.{◌≡◌, ◌-◌, ◌<◌, ℕ, zero, suc, Bool, true, false, Some, List, [], ◌∷◌, drop, get_or, length, refl, sym, subst, unwrap_or, arith, not}
use Rattle.std.specs.Prelude.{if◌then◌else◌, ◌&&◌}
use Rattle.std.proofs.lemmas.List.Folds.{Any-from_list_any}
use Rattle.std.proofs.lemmas.Slice.Eq.{bytes_eq-Decides}
use Rattle.std.proofs.lemmas.List.Elements.{All-append, All-cons, All-drop, All-filter, All-nil, All-take, Contains-append_left, Contains-append_right}
use Rattle.std.specs.List.{All, Contains, find, flat_map, position_or_len, slice_get}
use Rattle.std.proofs.lemmas.Option.{get_or_from_slice_get, slice_get_within}
use Rattle.mrp_page.specs.ByWord.{by_word, with_word}
use Rattle.mrp_page.specs.Draw.{has_item}
use Rattle.mrp_page.specs.ItemRows.{ItemLists}
use Rattle.mrp_page.specs.Kinds.{other}
use Rattle.mrp_page.specs.Page.{is_told, shown_items, told_first, untold_rows}
use Rattle.mrp_page.specs.Orders.{is_numbered, is_order}
use Rattle.mrp_page.specs.Row.{RowView, cell_at, is_in, is_of}
use Rattle.mrp_page.specs.Rows.{leader_rows, leaders, rows_in, rows_named, stretch}
use Rattle.mrp_page.specs.Template.{has_word}
use Rattle.mrp_page.specs.declared.limits.TheConstants.{MOST_ITEMS}
use Rattle.mrp_day.specs.declared.section.Section.{Section}

-- what one of the parts has, all of them have
pub contains-flat : {X A : Type 0} (f : X → List A) (xs : List X) (x : X) (y : A) (k : ℕ) → k < length xs → get_or xs k x ≡ x → Contains (f x) y → Contains (flat_map f xs) y
contains-flat f [] x y k within is has = absurd (omega (arith, within))
contains-flat {X} {A} f (z ∷ xs) x y zero within is has = Contains-append_left (f z) (flat_map f xs) y (subst (λ (t : X). Contains (f t) y) (sym is) has)
contains-flat f (z ∷ xs) x y (suc k) within is has = Contains-append_right (f z) (flat_map f xs) y (contains-flat f xs x y k (omega (arith, within)) is has)

pub all-flat : {X Y : Type 0} (P : X → Type 0) (Q : Y → Type 0) (f : X → List Y) → ((x : X) → P x → All Q (f x)) → (xs : List X) → All P xs → All Q (flat_map f xs)
all-flat P Q f each [] all = All-nil Q
all-flat P Q f each (x ∷ xs) all = All-append Q (f x) (flat_map f xs) (each x (all 0 x (omega arith))) (all-flat P Q f each xs (λ k d within. all (suc k) d (omega arith)))

-- if some rows are kept, each of them is among all
module _ {X : Type 0} (P : X → Type 0) where
  pub all-stretch : (p : X → Bool) (xs : List X) → All P xs → All P (stretch p xs)
  all-stretch p xs all = All-take P (position_or_len (λ x. not (p x)) (drop (position_or_len p xs) xs)) (drop (position_or_len p xs) xs) (All-drop P (position_or_len p xs) xs all)

  pub all-if : (b : Bool) (x : X) → P x → All P (if b then [] else x ∷ [])
  all-if true x is = All-nil P
  all-if false x is = All-cons P x [] is (All-nil P)

module _ (P : RowView → Type 0) where
  pub all-in : (section : Section) (rows : List RowView) → All P rows → All P (rows_in section rows)
  unfolding rows_in
  all-in section rows all = all-stretch P (is_in section) rows all

  pub all-named : (name : List ℕ) (rows : List RowView) → All P rows → All P (rows_named name rows)
  unfolding rows_named
  all-named name rows all = all-stretch P (is_of name) rows all

  pub all-leaders : (previous : List ℕ) (rows : List RowView) → All P rows → All P (leaders previous rows)
  unfolding leaders
  all-leaders previous [] all = All-nil P
  all-leaders previous (r ∷ rows) all =
      All-append P (leader_rows previous r) (leaders (cell_at r 0) rows) (all-if P (is_of previous r) r (all 0 r (omega arith))) (all-leaders (cell_at r 0) rows (λ k d within. all (suc k) d (omega arith)))

  pub all-by-word : (column : ℕ) (words : List (List ℕ)) (rows : List RowView) → All P rows → All P (by_word column words rows)
  unfolding by_word
  all-by-word column [] rows all = All-nil P
  all-by-word column (word ∷ words) rows all = All-append P (with_word column rows word) (flat_map (with_word column rows) words) (All-filter (has_word column word) P rows all) (all-by-word column words rows all)

  -- what is found among rows, or a row like them
  pub found-or : (p : RowView → Bool) (rows : List RowView) (other : RowView) → All P rows → P other → P (unwrap_or (find p rows) other)
  found-or p [] other all is = is
  found-or p (r ∷ rows) other all is = by (p r) (all 0 r (omega arith)) (found-or p rows other (λ k d within. all (suc k) d (omega arith)) is)
    where
      by : (b : Bool) → P r → P (unwrap_or (find p rows) other) → P (unwrap_or (if b then Some r else find p rows) other)
      by true here rest = here
      by false here rest = rest

  pub all-told : (messages plan : List RowView) → All P messages → All P plan → All P (told_first messages plan)
  unfolding told_first
  all-told messages plan of-messages of-plan =
      All-append P (leaders [] messages) (flat_map (untold_rows messages) (leaders [] plan)) (all-leaders [] messages of-messages)
      (all-flat P P (untold_rows messages) (λ r is. all-if P (is_told messages r) r is) (leaders [] plan) (all-leaders [] plan of-plan))

  pub all-shown : (rows : ItemLists) → All P rows.messages → All P rows.plan → All P (shown_items rows)
  unfolding shown_items
  all-shown rows of-messages of-plan = All-take P MOST_ITEMS (told_first rows.messages rows.plan) (all-told rows.messages rows.plan of-messages of-plan)

-- an item that is among those of some rows is the item of one of them
pub named-item : (shown : List RowView) (name : List ℕ) → has_item shown name ≡ true → (r : RowView) × Contains shown r × (cell_at r 0 ≡ name)
named-item shown name has =
    let (k, r, within, at, is) = Any-from_list_any (is_of name) shown has in
    (r, (k, within, at), (bytes_eq-Decides (cell_at r 0) name).0 is)

-- what stands at a place among rows has what all of them have
pub at-place : (P : RowView → Type 0) (rs : List RowView) (k : ℕ) → All P rs → (r : RowView) → slice_get rs k ≡ Some r → P r
at-place P rs k all r at = subst P (get_or_from_slice_get rs k r r at) (all k r (slice_get_within rs k r at))

pub left : (a b : Bool) → (a && b) ≡ true → a ≡ true
left true b e = refl
left false b e = absurd cc

pub numbered-name : (name number : List ℕ) (r : RowView) → is_numbered name number r ≡ true → cell_at r 0 ≡ name
numbered-name name number r passes = (bytes_eq-Decides (cell_at r 0) name).0 (left (is_of name r) (has_word 1 number r) passes)

pub ordered-name : (name kind number : List ℕ) (r : RowView) → is_order name kind number r ≡ true → cell_at r 0 ≡ name
ordered-name name kind number r passes = (bytes_eq-Decides (cell_at r 0) name).0 (left (is_of name r) (has_word 1 number r && has_word 2 kind r) passes)
