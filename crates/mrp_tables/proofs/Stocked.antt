-- A master item without safety stock.
use Rattle.std.proofs.Common.{◌≡◌, ℕ, ◌≤◌, Bool, true, false, ◌&&◌, arith, List, [], ◌∷◌, ◌++◌, Result, Ok, Err}
use Rattle.std.specs.Prelude.{nat_lt, All}
use Rattle.std.proofs.lemmas.Bool.{ltb-false}
use Rattle.std.proofs.lemmas.List.Elements.{All-append, All-cons, All-nil}
use Rattle.mrp_rows.specs.declared.fault.Fault.{Fault}
use Rattle.mrp_rows.specs.Left.{Cells}
use Rattle.mrp_tables.specs.declared.item.Item.{Item}
use Rattle.mrp_tables.specs.Facts.{IsItem, IsItemUnlessStocked}
use Rattle.mrp_tables.specs.Items.{AddsItem, is_master}

none : (master : Bool) (safety : ℕ) → (master && nat_lt 0 safety) ≡ false → master ≡ true → safety ≡ 0
none true safety e h = let low : safety ≤ 0 = ltb-false 0 safety e in omega arith
none false safety e h = absurd cc

unstocked : (item : Item) → IsItemUnlessStocked item → (is_master item.class && nat_lt 0 item.safety) ≡ false → IsItem item
unstocked item read e = read (none (is_master item.class) item.safety e)

-- items and one more
pub more_items : (items : List Item) (item : Item) → All IsItem items → IsItemUnlessStocked item
    → (is_master item.class && nat_lt 0 item.safety) ≡ false → All IsItem (items ++ item ∷ [])
more_items items item within read e = All-append IsItem items (item ∷ []) within (All-cons IsItem item [] (unstocked item read e) (All-nil IsItem))

-- lead times that are no longer than that, and those of one item more
pub leads_kept : (most : ℕ) (old new : List Item) (item : Item) (r : Cells) (result : Result (Unit {0}) Fault) → All (λ (x : Item). x.lead ≤ most) old → item.lead ≤ most
    → AddsItem old item r result new → All (λ (x : Item). x.lead ≤ most) new
leads_kept most old new item r (Ok u) all own added =
    rw (added.1) (All-append (λ (x : Item). x.lead ≤ most) old (item ∷ []) all (All-cons (λ (x : Item). x.lead ≤ most) item [] own (All-nil (λ (x : Item). x.lead ≤ most))))
leads_kept most old new item r (Err f) all own added = rw (added.0) all
