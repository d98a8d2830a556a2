-- Each item that needs itself is in a set that is told.
use Rattle.std.proofs.Common.{◌≡◌, ◌∙◌, ◌<◌, ℕ, zero, suc, List, [], ◌∷◌, Option, ap, arith, get_or, length, map, refl, sym}
use Rattle.std.specs.List.{Contains}
use Rattle.std.proofs.lemmas.List.{get_or-map, length-map}
use Rattle.mrp_loops.specs.declared.line.Loop.{Loop}
use Rattle.mrp_loops.specs.Loops.{IsTold, items_of}
use Rattle.mrp_survey.specs.declared.bill_lines.BillLine.{BillLine}
use Rattle.mrp_survey.specs.LoopLaws.{IsInTold, TellsEachItem}
use Rattle.mrp_survey.specs.Loops.{AreFound, edges_of, loop_told}
use Rattle.mrp_survey.specs.Names.{Names}
use Rattle.mrp_survey.specs.Records.{Records}
use Rattle.mrp_survey.specs.Surveyed.{LoopTold}

-- an element goes along with a map
mapped : {X Y : Type 0} (f : X → Y) (xs : List X) (k : ℕ) (x : X) → k < length xs → get_or xs k x ≡ x → Contains (map f xs) (f x)
mapped f xs k x within is = (k, rw (length-map xs f) within, get_or-map f xs k x (f x) within ∙ ap f is)

picked : {X : Type 0} (xs : List X) (k : ℕ) → k < length xs → (x : X) × (get_or xs k x ≡ x)
picked [] k within = absurd (omega (arith, within))
picked (x ∷ xs) zero within = (x, refl)
picked (x ∷ xs) (suc k) within = picked xs k (omega (arith, within))

-- the set whose first item this is
the-set : (items : Option Names) (records : Records) (lines : List BillLine) (found : List LoopTold) (are : AreFound items records lines found) (item : ℕ) → IsTold (edges_of lines) (items_of are.own) item → IsInTold items records lines found item
the-set items records lines found are item (first, there, each) =
    let (k, within, is) = there in
    let short : k < length are.own = rw (length-map are.own (λ (told : Loop). told.item)) at within in
    let (own, here) = picked are.own k short in
    let same : own.item ≡ first = ap (λ (told : Loop). told.item) (sym here) ∙ sym (get_or-map (λ (told : Loop). told.item) are.own k own first short) ∙ is in
    record {
      own = own;
      told = rw are.named (mapped (loop_told items records lines) are.own k own short here);
      each = rw same each;
      leads = rw here at (are.ways k own short);
    }

pub tells-each-item : (items : Option Names) (records : Records) (lines : List BillLine) (found : List LoopTold) → AreFound items records lines found → TellsEachItem items records lines found
tells-each-item items records lines found are item needs = the-set items records lines found are item (are.all item needs)
