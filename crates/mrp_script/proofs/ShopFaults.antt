-- Faults, loops and shops of bundles.
use Rattle.std.proofs.Common.{◌≡◌, ◌≢◌, ◌⊎◌, ◌∙◌, ◌<◌, ◌≤◌, ℕ, List, [], ◌∷◌, Result, Ok, Err, sym, ap, subst, inl, inr, refl, length, slice_index, arith}
use Rattle.std.specs.Prelude.{All}
use Rattle.mrp_rows.specs.Bundle.{bundle_of}
use Rattle.mrp_rows.specs.declared.fault.Fault.{Fault}
use Rattle.mrp_rows.specs.declared.faults.TheConstants as faults
use Rattle.mrp_tables.specs.declared.item.Item.{Item}
use Rattle.mrp_tables.specs.declared.rows.BillLine.{BillLine}
use Rattle.mrp_tables.specs.Facts.{IsBillLine}
use Rattle.mrp_tables.specs.Tables.{Tables, tables_in, tables_of}
use Rattle.mrp_bill.specs.Bill.{IsLoopPath, IsFirstLoop, NeedsItself}
use Rattle.mrp_bill.specs.Fault.{IsRefusal}
use Rattle.mrp_bill.specs.Shop.{Shop}
use Rattle.mrp_bill.specs.declared.fault.BillFault.{BillFault}
use Rattle.mrp_bill.specs.declared.fault.BillFault.TheVariants as bill
use Rattle.mrp_bill.proofs.Accepted.{are-within}
use Rattle.mrp_bill.proofs.BillListed.{parent-within}
use Rattle.mrp_script.specs.declared.fault.OpenFault.{OpenFault}
use Rattle.mrp_script.specs.declared.fault.OpenFault.TheVariants.{Refused, NoMemory}
use Rattle.mrp_script.specs.Opened.{BeginsWithin, Closes, Opens, OpensTables, bill_fault, loop_fault}

-- an item that needs itself is an item of the table
needs-within : (items : List Item) (lines : List BillLine) (i : ℕ) → All (IsBillLine items) lines → NeedsItself lines i → i < length items
needs-within items lines i all (n, (p, chain, link)) = (parent-within lines (length items) p i (are-within items lines all) link).1

-- a loop's path is not empty, and begins at an item of the table
pub path-begins : (items : List Item) (lines : List BillLine) (path : List ℕ) → All (IsBillLine items) lines → length items ≤ 20000 → IsLoopPath lines path
    → (0 < length path) × (slice_index path 0 < 20000)
path-begins items lines [] all few (i, first, round) = absurd round
path-begins items lines (a ∷ []) all few (i, first, round) = absurd round
path-begins items lines (a ∷ b ∷ more) all few (i, first, round) =
    (omega arith, omega (arith, round.0, needs-within items lines i all first.loop, few))

-- the first item of a loop's path is the first that needs itself
pub path-first : (lines : List BillLine) (path : List ℕ) → IsLoopPath lines path → IsFirstLoop lines (slice_index path 0)
path-first lines [] (i, first, round) = absurd round
path-first lines (a ∷ []) (i, first, round) = absurd round
path-first lines (a ∷ b ∷ more) (i, first, round) = subst (λ (x : ℕ). IsFirstLoop lines x) (sym round.0) first

-- what refuses a bill begins within the table
pub begins-within : (items : List Item) (lines : List BillLine) (fault : BillFault) → All (IsBillLine items) lines → length items ≤ 20000 → IsRefusal lines fault → BeginsWithin fault
begins-within items lines (bill.Loop path) all few is = path-begins items lines path.items all few is
begins-within items lines bill.NoMemory all few is = tt

-- and refuses the tables
pub opens-refused : (tables : Tables) (fault : BillFault) → IsRefusal tables.bills fault → OpensTables tables (Err (bill_fault fault))
opens-refused tables (bill.Loop path) is = (slice_index path.items 0, path-first tables.bills path.items is, refl)
opens-refused tables bill.NoMemory is = tt

-- what refuses a bundle's sections or tables refuses the bundle
pub closed : (bundle : List ℕ) (f : Fault) (r : OpenFault) → (f.code ≡ faults.NO_MEMORY) ⊎ (tables_of bundle ≡ Err f) → Closes f r → Opens bundle (Err r)
closed bundle f (Refused g) (inl memory) (same, other) = absurd (other memory)
closed bundle f (Refused g) (inr e) (same, other) =
    (inl (e ∙ ap (λ (h : Fault). Err h) (sym same)), λ (h : g.code ≡ faults.NO_MEMORY). other (ap (λ (x : Fault). x.code) (sym same) ∙ h))
closed bundle f NoMemory why is = tt

-- the loop's fault is not out of memory
loop-code : (item : ℕ) → (loop_fault item).code ≢ faults.NO_MEMORY
loop-code item h = let bad : faults.LOOP ≡ faults.NO_MEMORY = h in absurd (omega arith)

-- the tables of a bundle, and the result for their bill
pub opened : (bundle : List ℕ) (tables : Tables) (r : Result Shop OpenFault) → tables_of bundle ≡ Ok tables → OpensTables tables r → Opens bundle r
opened bundle tables (Ok shop) e (same, none) =
    record {
      tables_are = e ∙ ap (λ (t : Tables). Ok t) (sym same);
      no_loop = subst (λ (t : Tables). (i : ℕ) → NeedsItself t.bills i → ⊥) (sym same) none;
    }
opened bundle tables (Err (Refused f)) e (item, first, same) =
    (inr (tables, item, record { tables_are = e; loop = first }, same), λ (h : f.code ≡ faults.NO_MEMORY). loop-code item (ap (λ (x : Fault). x.code) (sym same) ∙ h))
opened bundle tables (Err NoMemory) e is = tt

-- the tables of a bundle whose sections are split
pub tables-are : (bundle : List ℕ) (texts : List (List ℕ)) (r : Result Tables Fault) → bundle_of bundle ≡ Ok texts → tables_in texts ≡ r → tables_of bundle ≡ r
tables-are bundle texts r split e = rw split e

pub sections-refused : (bundle : List ℕ) (f : Fault) → bundle_of bundle ≡ Err f → tables_of bundle ≡ Err f
sections-refused bundle f e = rw e refl
