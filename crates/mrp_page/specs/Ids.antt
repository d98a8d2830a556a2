-- The ids of a page's parts, to which its links lead.
use Rattle.std.specs.Prelude.{ℕ, ◌≡◌, ◌≢◌, true, List, [], ◌∷◌, ◌++◌, All, AllPairs, codes, flat_map, map}
use Rattle.std.specs.Char.{is_ascii_digit}
use Rattle.mrp_page.specs.Escaped.{escaped}
use Rattle.mrp_page.specs.Known.{entries_kept, names_shown}
use Rattle.mrp_page.specs.Notes.{Noted}
use Rattle.mrp_page.specs.Row.{cell_at}
use Rattle.mrp_page.specs.Rows.{leaders, rows_in, rows_named}
use Rattle.mrp_day.specs.declared.section.Section.TheVariants as s

-- the ids of the sections that each page has
unfoldable pub section_ids : List (List ℕ)
section_ids = codes "glance" ∷ codes "out-first" ∷ codes "unkept" ∷ codes "risk" ∷ codes "todo" ∷ codes "centres" ∷ codes "items" ∷ codes "history" ∷ []

-- those of parts that it may have: the most overloaded work centres, and the kinds of messages
unfoldable pub part_ids : List (List ℕ)
part_ids = codes "overloaded" ∷ codes "late" ∷ codes "release" ∷ codes "in" ∷ codes "out" ∷ codes "cancel" ∷ codes "other" ∷ []

-- the id of an item, by its name
abbrev pub item_id : List ℕ → List ℕ
item_id name = codes "i-" ++ escaped name

-- that of a work centre
abbrev pub centre_id : List ℕ → List ℕ
centre_id name = codes "c-" ++ escaped name

-- that of an order, by its number and the name of its item
abbrev pub order_id : List ℕ → List ℕ → List ℕ
order_id number name = codes "o-" ++ (escaped number ++ (codes "-" ++ escaped name))

-- that of an entry of the history, by its number
abbrev pub entry_id : List ℕ → List ℕ
entry_id number = codes "e" ++ escaped number

-- the names of the work centres on a page
abbrev pub centres_shown : Noted → List (List ℕ)
centres_shown notes = map (λ r. cell_at r 0) (leaders [] (rows_in s.Loads notes.report))

-- the numbers of an item's orders
abbrev pub order_numbers : Noted → List ℕ → List (List ℕ)
order_numbers notes name = map (λ r. cell_at r 1) (rows_named name (rows_in s.Orders notes.report))

-- their ids
abbrev pub order_ids : Noted → List ℕ → List (List ℕ)
order_ids notes name = map (λ number. order_id number name) (order_numbers notes name)

-- all ids that a page may have
unfoldable pub page_ids : Noted → List (List ℕ)
page_ids notes =
    (section_ids ++ part_ids)
    ++ (map entry_id (entries_kept notes)
    ++ (map item_id (names_shown notes)
    ++ (map centre_id (centres_shown notes)
    ++ flat_map (order_ids notes) (names_shown notes))))

-- texts differ from one another
abbrev pub AreApart : List (List ℕ) → Type 0
AreApart texts = AllPairs (λ text other. text ≢ other) texts

-- what is kept of a day can be told apart, as in each plan: no two items, work centres or entries have one name or number, and
-- no two orders of an item have one number, which has digits alone
pub record AreNamed (notes : Noted) : Type 0 where
  pub items : AreApart (names_shown notes)
  pub centres : AreApart (centres_shown notes)
  pub entries : AreApart (entries_kept notes)
  pub orders : (name : List ℕ) → AreApart (order_numbers notes name)
  pub digits : (name : List ℕ) → All (λ number. All (λ byte. is_ascii_digit byte ≡ true) number) (order_numbers notes name)

-- a part stands in a page
abbrev pub IsPartOf : List ℕ → List ℕ → Type 0
IsPartOf part page = (front : List ℕ) × (back : List ℕ) × (page ≡ front ++ (part ++ back))
