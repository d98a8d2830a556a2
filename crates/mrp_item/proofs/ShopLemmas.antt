-- What holds of the codes and parents of an accepted shop.
use Rattle.std.proofs.Common.{◌≡◌, ◌<◌, ◌≤◌, ℕ, suc, Bool, true, false, eqb, List, [], ◌∷◌, ◌⊎◌, inl, inr, length, get_or, refl, ap, arith}
use Rattle.std.specs.Prelude.{All, ◌||◌, ◌&&◌, slice_index}
use Rattle.std.proofs.lemmas.Bool.{eqb-true, cases_lt}
use Rattle.std.proofs.lemmas.List.{get_or_past}
use Rattle.std.proofs.lemmas.List.Elements.{All-get_or}
use Rattle.mrp_tables.specs.Facts.{IsBillLine, IsItem}
use Rattle.mrp_tables.specs.declared.item.Item.{Item}
use Rattle.mrp_tables.specs.declared.item.LotRule.{LotRule}
use Rattle.mrp_tables.specs.declared.item.LotRule.TheVariants.{LotForLot, Fixed, Period}
use Rattle.mrp_tables.specs.declared.rows.BillLine.{BillLine}
use Rattle.mrp_bill.specs.Bill.{is_parent, IsParent}
use Rattle.mrp_bill.specs.Shop.{Shop, IsShop}
use Rattle.mrp_item.specs.Inputs.{Inputs, count}
use Rattle.mrp_item.specs.Limits.{HasSize, IsPlannable}
use Rattle.mrp_item.specs.Plan.{IsRanked, HasParents}

parent_within : (lines : List BillLine) (n : ℕ) → All (λ line. line.parent < n) lines → (p i : ℕ) → IsParent lines p i → p < n
parent_within [] n all p i h = absurd (cc)
parent_within (line ∷ lines) n all p i h =
    by (eqb line.parent p) refl (eqb line.component i) (all 0 line (omega arith)) h (parent_within lines n (λ k d a. all (suc k) d (omega arith)) p i)
  where
    by : (a : Bool) → eqb line.parent p ≡ a → (b : Bool) → line.parent < n → ((a && b) || is_parent lines p i) ≡ true → (IsParent lines p i → p < n) → p < n
    by true e true below k more = omega (arith, eqb-true line.parent p e)
    by true e false below k more = more k
    by false e b below k more = more k

pub has_parents : (s : Inputs) → All (IsBillLine s.tables.items) s.tables.bills → HasParents s
has_parents s all p i h = parent_within s.tables.bills (count s) (λ k d a. (all k d a).parent) p i h

code_within : (codes : List ℕ) (n : ℕ) → All (λ code. code < n) codes → (i : ℕ) → get_or codes i 0 ≤ n
code_within codes n all i = by (cases_lt i (length codes))
  where
    by : (i < length codes) ⊎ (length codes ≤ i) → get_or codes i 0 ≤ n
    by (inl h) = let below : get_or codes i 0 < n = All-get_or (λ code. code < n) codes i 0 h all in omega arith
    by (inr h) = omega (arith, get_or_past codes i 0 h)

pub is_ranked : (s : Inputs) (shop : Shop) → shop.tables ≡ s.tables → IsShop shop → IsRanked s (slice_index shop.codes)
is_ranked s shop same kept = record {
  rises = λ p i h. kept.codes.rises p i (rw same h);
  within = λ i. omega (arith, code_within shop.codes (length shop.tables.items) kept.low i, ap (λ t. length t.items) same);
}

sized : (lot : LotRule) (item : Item) → item.lot ≡ lot → IsItem item → HasSize lot item.step
sized LotForLot item same kept = omega (arith, kept.step.0)
sized (Fixed size) item same kept = let range = kept.fixed size same in omega (arith, range.0)
sized (Period n) item same kept = let range = kept.period n same in (omega (arith, range.0), omega (arith, kept.step.0))

-- an accepted item can be planned
pub is_plannable : (item : Item) → IsItem item → IsPlannable item
is_plannable item kept = record {
  scrap = omega (arith, kept.scrap);
  lead = kept.lead;
  sized = sized item.lot item refl kept;
  period = λ n same. (kept.period n same).1;
  least = kept.least;
  step = kept.step.1;
}
