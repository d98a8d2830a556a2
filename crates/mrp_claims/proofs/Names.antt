-- Items by their names.
use Rattle.std.proofs.Common.{◌≡◌, ◌∙◌, ℕ, ◌<◌, ◌≤◌, Bool, true, false, List, [], length, get_or, Option, Some, None, sym, ap, refl, arith, inl, inr}
use Rattle.std.specs.Prelude.{All, map, ◌&&◌}
use Rattle.std.specs.List.{position, position_or_len}
use Rattle.std.specs.Cmp.Lexicographic.{nat_list_eq_equiv, pointwise, same_text}
use Rattle.std.proofs.lemmas.Bool.{cases_lt, leb-true, lt-ltb}
use Rattle.std.proofs.lemmas.List.{get_or-map, get_or_past, length-map}
use Rattle.std.proofs.lemmas.List.Quantifiers.{position-Some}
use Rattle.std.proofs.lemmas.List.Sums.{fails_before_first}
use Rattle.std.specs.Bool.{nat_eq}
use Rattle.mrp_rows.specs.Name.{is_name, name_in}
use Rattle.mrp_tables.specs.declared.item.Item.{Item}
use Rattle.mrp_tables.specs.Facts.{AllDiffer, IsItem}
use Rattle.mrp_tables.specs.Items.{is_master, is_master_at, item_at, names_of, place_of}
use Rattle.mrp_tables.specs.Tables.{Tables}
use Rattle.mrp_master.specs.Supply.{IsMaster, supply_of}
use Rattle.mrp_report.specs.section.Cells.{name_at}
use Rattle.mrp_claims.specs.Reading.{FindsItem}

-- if something passes, a first place is found
passed : {X : Type 0} (p : X → Bool) (xs : List X) (k : ℕ) (d : X) → k < length xs → p (get_or xs k d) ≡ true → position p xs ≡ None → ⊥
passed p xs k d within is none = elim (cases_lt k (position_or_len p xs)) [
  | inl before ↦ let fails = fails_before_first p xs k d before in absurd cc
  | inr behind ↦
      let found = lt-ltb (position_or_len p xs) (length xs) (omega arith) in
      let some = rw found at none in
      absurd cc
]

name-at : (t : Tables) (place : ℕ) → place < length t.items → get_or (names_of t.items) place [] ≡ name_at t place
name-at t place within = get_or-map (λ (i : Item). i.name) t.items place (item_at [] 0) [] within

-- an item has a name
pub named : (t : Tables) (place : ℕ) → All IsItem t.items → place < length t.items → is_name (name_at t place) ≡ true
named t place all within = (all place (item_at [] 0) within).name

both : (a b : Bool) → (a && b) ≡ true → (a ≡ true) × (b ≡ true)
both true b e = (refl, e)
both false b e = absurd cc

-- a name is no longer than 32 bytes
pub name-short : (text : List ℕ) → is_name text ≡ true → length text ≤ 32
name-short text is = leb-true (length text) 32 (both _ _ (both _ _ (both _ _ is).0).0).1

-- what is read as a name is the cell
name-of : (cell name : List ℕ) (b : Bool) → is_name cell ≡ b → name_in cell ≡ Some name → name ≡ cell
name-of cell name true is e = let some = rw is at e in cc
name-of cell name false is e = let none = rw is at e in absurd cc

-- a cell that is no name is that of no item
pub no-name : (t : Tables) (cell : List ℕ) → All IsItem t.items → name_in cell ≡ None → (place : ℕ) → place < length t.items → cell ≡ name_at t place → ⊥
no-name t cell all none place within is =
    let so : is_name cell ≡ true = ap is_name is ∙ named t place all within in
    let some = rw so at none in
    absurd cc

not-found : (t : Tables) (cell : List ℕ) → place_of cell t.items ≡ None → (place : ℕ) → place < length t.items → cell ≡ name_at t place → ⊥
not-found t cell none place within is =
    passed (pointwise nat_eq cell) (names_of t.items) place [] (rw length-map within) (ap (pointwise nat_eq cell) (name-at t place within ∙ sym is) ∙ nat_list_eq_equiv.refl cell) none

pub apart : (t : Tables) (one other : ℕ) → AllDiffer (names_of t.items) → one < other → other < length t.items → name_at t one ≡ name_at t other → ⊥
apart t one other differ before within same =
    differ one other [] before (rw length-map within) (name-at t one (omega arith) ∙ same ∙ sym (name-at t other within))

found : (t : Tables) (cell : List ℕ) (place : ℕ) → AllDiffer (names_of t.items) → place_of cell t.items ≡ Some place → FindsItem t cell (Some place)
found t cell place differ is =
    let some = position-Some (pointwise nat_eq cell) (names_of t.items) place [] is in
    let within : place < length t.items = rw length-map at some.0 in
    let own : cell ≡ name_at t place = same_text cell (get_or (names_of t.items) place []) (sym some.1) ∙ name-at t place within in (
      within,
      own,
      λ (other : ℕ) there same. elim (cases_lt other place) [
        | inl before ↦ absurd (apart t other place differ before within (sym same ∙ own))
        | inr behind ↦ elim (cases_lt place other) [
          | inl more ↦ absurd (apart t place other differ more there (sym own ∙ same))
          | inr at ↦ omega arith
        ]
      ],
    )

-- an item is found by its name
pub finds : (t : Tables) (cell name : List ℕ) (r : Option ℕ) → AllDiffer (names_of t.items) → name_in cell ≡ Some name → r ≡ place_of name t.items → FindsItem t cell r
finds t cell name None differ is given = let own = name-of cell name (is_name cell) refl is in not-found t cell (ap (λ (x : List ℕ). place_of x t.items) (sym own) ∙ sym given)
finds t cell name (Some place) differ is given = let own = name-of cell name (is_name cell) refl is in found t cell place differ (ap (λ (x : List ℕ). place_of x t.items) (sym own) ∙ sym given)

-- a master item of the supply is one of the tables
pub master-there : (t : Tables) (item : ℕ) → IsMaster (supply_of t) item → (item < length t.items) × (is_master_at t.items item ≡ true)
master-there t item is = elim (cases_lt item (length t.items)) [
  | inl within ↦ (within, sym (get_or-map (λ (i : Item). is_master i.class) t.items item (item_at [] 0) false within) ∙ is)
  | inr past ↦
      let size : length (map (λ (i : Item). is_master i.class) t.items) ≡ length t.items = length-map t.items (λ (i : Item). is_master i.class) in
      let none = get_or_past (map (λ (i : Item). is_master i.class) t.items) item false (omega (arith, size, past)) in
      absurd cc
]
