-- What net change leaves alone, and what it touches.
use Rattle.std.proofs.Common.{◌≡◌, ◌∙◌, ℕ, ◌<◌, ◌⊎◌, inl, inr, Bool, true, false, eqb, List, [], ◌∷◌, length, get_or, refl, sym, ap, subst, arith}
use Rattle.std.specs.Prelude.{All, Any, MatchBool, Option, Some, None, Ok, map, not, ◌&&◌, ◌||◌}
use Rattle.std.specs.Bool.{OnFalse, OnTrue}
use Rattle.std.specs.Int.{IsInRange}
use Rattle.std.specs.List.{list_all, range_with_len}
use Rattle.std.proofs.lemmas.Bool.{eqb-true, and_from}
use Rattle.std.proofs.lemmas.List.{get_or-map}
use Rattle.std.proofs.lemmas.List.Elements.{All-head, All-tail, filter_passes}
use Rattle.mrp_tables.specs.Facts.{IsBillLine}
use Rattle.mrp_tables.specs.Items.{is_master_at}
use Rattle.mrp_tables.specs.Tables.{Tables}
use Rattle.mrp_tables.specs.declared.item.Item.{Item}
use Rattle.mrp_tables.specs.declared.rows.BillLine.{BillLine}
use Rattle.mrp_bill.specs.Bill.{IsParent, is_parent, parents_of}
use Rattle.mrp_bill.proofs.Listed.{filter-range-below}
use Rattle.mrp_item.specs.Inputs.{Inputs, count, horizon, is_master, places}
use Rattle.mrp_item.specs.Made.{item_from, parents_from}
use Rattle.mrp_item.specs.NetChange.{IsLeftAlone, IsOfShop, IsRebooked, IsReordered, IsTouched, IsUntouched, KeepsOrders, LosesOrders}
use Rattle.mrp_item.specs.Own.{IsReady}
use Rattle.mrp_item.specs.Places.{ItemOf}
use Rattle.mrp_item.specs.Plan.{HasParents, IsRanked, ItemPlan, Outcome, first_over, is_planned, outcome_of, plan_in, plan_of, plan_unless}
use Rattle.mrp_item.specs.Rows.{booked}
use Rattle.mrp_item.proofs.Outcomes.{all-planned, outcome_of-unfolds, parent-planned}
use Rattle.mrp_item.proofs.Parents.{kept_there, length-parents}
use Rattle.mrp_item.proofs.Steps.{still-ranked, untouched}

-- the parents of an item, as one list
abbrev above : Inputs → ℕ → List ℕ
above s i = parents_of s.tables.bills (count s) i

all-pass : (q : ℕ → Bool) (xs : List ℕ) → All (λ x. q x ≡ true) xs → list_all q xs ≡ true
all-pass q [] h = refl
all-pass q (x ∷ xs) h = and_from (q x) (list_all q xs) (All-head (λ y. q y ≡ true) x xs h) (all-pass q xs (All-tail (λ y. q y ≡ true) x xs h))

-- what holds of the outcomes of all parents holds of each parent
each-parent : (s : Inputs) (i : ℕ) (parents : List ItemOf) (P : ItemOf → Type 0) → HasParents s → parents ≡ parents_from s i → All P parents → (p : ℕ) → IsParent s.tables.bills p i → P (item_from s p)
each-parent s i parents P has are all p parent =
    let within : p < count s = has p i parent in
    let (k, low, is) = kept_there (λ q. is_parent s.tables.bills q i) 0 (count s) p (omega arith) (omega arith) parent in
    let there : k < length parents = omega (arith, low, length-parents s i parents are) in
    subst P (ap (λ (os : List ItemOf). get_or os k (item_from s p)) are ∙ get_or-map (item_from s) (above s i) k 0 (item_from s p) low ∙ ap (item_from s) is) (all k (item_from s p) there)

-- each outcome is of a parent
of-parent : (s : Inputs) (i : ℕ) (parents : List ItemOf) (k : ℕ) (d : ItemOf) → parents ≡ parents_from s i → k < length parents
    → (p : ℕ) × (p < count s) × IsParent s.tables.bills p i × (get_or parents k d ≡ item_from s p)
of-parent s i parents k d are h =
    let there : k < length (above s i) = omega (arith, h, length-parents s i parents are) in
    let p = get_or (above s i) k 0 in (
      p,
      filter-range-below (λ q. is_parent s.tables.bills q i) (count s) k 0 there,
      filter_passes (λ q. is_parent s.tables.bills q i) (range_with_len 0 (count s)) k 0 there,
      ap (λ (os : List ItemOf). get_or os k d) are ∙ get_or-map (item_from s) (above s i) k 0 d there,
    )

-- what `keep_orders` asks of the parents' outcomes
pub parents-fit : (old s : Inputs) (i : ℕ) (parents : List ItemOf) → old.tables ≡ s.tables → parents ≡ parents_from s i → All (IsOfShop old) parents
parents-fit old s i parents tables are k d h =
    let (p, within, parent, is) = of-parent s i parents k d are h in
    subst (IsOfShop old) (sym is) (record { tables = tables; within = within })

-- a touched part
part-touched : (old new : Inputs) (i : ℕ) → is_master new i ≡ false → (p : ℕ) × IsParent new.tables.bills p i × IsReordered old new p → IsTouched old new i
part-touched old new i part h = subst (λ (b : Bool). MatchBool b (IsRebooked old new i) ((p : ℕ) × IsParent new.tables.bills p i × IsReordered old new p)) (sym part) h

touched-part : (old new : Inputs) (i : ℕ) → is_master new i ≡ false → IsTouched old new i → (p : ℕ) × IsParent new.tables.bills p i × IsReordered old new p
touched-part old new i part h = subst (λ (b : Bool). MatchBool b (IsRebooked old new i) ((p : ℕ) × IsParent new.tables.bills p i × IsReordered old new p)) part h

pub part-lost : (old new : Inputs) (i : ℕ) (parents : List ItemOf) → is_master new i ≡ false → parents ≡ parents_from new i → Any (λ o. LosesOrders old o.inputs o.item) parents
    → IsTouched old new i ⊎ (IsReady new i → ⊥)
part-lost old new i parents part are (k, o, h, at, lost) =
    let (p, within, parent, is) = of-parent new i parents k o are h in
    by p within parent (subst (λ (x : ItemOf). LosesOrders old x.inputs x.item) (sym at ∙ is) lost)
  where
    by : (p : ℕ) → p < count new → IsParent new.tables.bills p i → LosesOrders old new p → IsTouched old new i ⊎ (IsReady new i → ⊥)
    by p within parent (inl unplanned) = inr (λ ready. let planned = parent-planned new i p ready within parent in cc)
    by p within parent (inr other) = inl (part-touched old new i part (p, parent, other))

same-kind : (old new : Inputs) (i : ℕ) → old.tables ≡ new.tables → is_master old i ≡ is_master new i
same-kind old new i tables = ap (λ (t : Tables). is_master (record { tables = t; front = 0; standing = [] }) i) tables

-- net change leaves a part alone if each of its parents keeps its orders
pub part-alone : (old new : Inputs) (i : ℕ) → old.tables ≡ new.tables → is_master new i ≡ false → ((p : ℕ) → IsParent new.tables.bills p i → KeepsOrders old new p) → IsLeftAlone old new i
part-alone old new i tables part each = record {
  untouched = λ touched. let (p, parent, other) = touched-part old new i part touched in other (each p parent).demand.orders;
  ready = all-pass (λ p. is_planned (outcome_of new p)) (above new i) (λ k d h. (each _ (filter_passes (λ q. is_parent new.tables.bills q i) (range_with_len 0 (count new)) k d h)).planned);
  same = record {
    tables = tables;
    booked = λ master. absurd (let kind = same-kind old new i tables in cc);
    parents = λ p parent. (each p (subst (λ (t : Tables). IsParent t.bills p i) tables parent)).demand;
  };
}

pub part-kept : (old new : Inputs) (i : ℕ) (parents : List ItemOf) → HasParents new → old.tables ≡ new.tables → is_master new i ≡ false → parents ≡ parents_from new i
    → All (λ o. KeepsOrders old o.inputs o.item) parents → IsLeftAlone old new i
part-kept old new i parents has tables part are all = part-alone old new i tables part (each-parent new i parents (λ o. KeepsOrders old o.inputs o.item) has are all)

-- a master item has no parents
no-parents : (items : List Item) (lines : List BillLine) (p i : ℕ) → All (IsBillLine items) lines → is_master_at items i ≡ true → is_parent lines p i ≡ true → ⊥
no-parents items [] p i all master h = absurd (cc)
no-parents items (line ∷ lines) p i all master h =
    by (eqb line.parent p) (eqb line.component i) refl (no-parents items lines p i (All-tail (IsBillLine items) line lines all) master) h
  where
    by : (a b : Bool) → eqb line.component i ≡ b → (is_parent lines p i ≡ true → ⊥) → ((a && b) || is_parent lines p i) ≡ true → ⊥
    by true true e more k =
        let same : line.component ≡ i = eqb-true line.component i e in
        let part : is_master_at items line.component ≡ false = (All-head (IsBillLine items) line lines all).part in
        let is : is_master_at items line.component ≡ true = ap (is_master_at items) same ∙ master in
        cc
    by true false e more k = more k
    by false b e more k = more k

pub master-kept : (old new : Inputs) (i : ℕ) → old.tables ≡ new.tables → All (IsBillLine new.tables.items) new.tables.bills → is_master new i ≡ true
    → ((week : ℕ) → IsInRange 1 (horizon new) week → booked old i week ≡ booked new i week) → IsLeftAlone old new i
master-kept old new i tables lines master same =
    let none : (p : ℕ) → IsParent new.tables.bills p i → ⊥ = λ p parent. no-parents new.tables.items new.tables.bills p i lines master parent in
    record {
      untouched = λ touched. let (week, within, other) = subst (λ (b : Bool). MatchBool b (IsRebooked old new i) ((p : ℕ) × IsParent new.tables.bills p i × IsReordered old new p)) master touched in other (same week within);
      ready = all-pass (λ p. is_planned (outcome_of new p)) (above new i) (λ k d h. absurd (none _ (filter_passes (λ q. is_parent new.tables.bills q i) (range_with_len 0 (count new)) k d h)));
      same = record {
        tables = tables;
        booked = λ yes week within. same week (subst (λ (t : Tables). IsInRange 1 t.calendar.weeks week) tables within);
        parents = λ p parent. absurd (none p (subst (λ (t : Tables). IsParent t.bills p i) tables parent));
      };
    }

-- what follows from a fact, under the same test
pub on-true : (b : Bool) (P Q : Type 0) → (P → Q) → OnTrue b P → OnTrue b Q
on-true true P Q f h = f h
on-true false P Q f h = tt

pub on-false : (b : Bool) (P Q : Type 0) → (P → Q) → OnFalse b P → OnFalse b Q
on-false true P Q f h = tt
on-false false P Q f h = f h

pub on-not : (b : Bool) (P Q R : Type 0) → (Q → R) → MatchBool b P Q → OnTrue (not b) R
on-not true P Q R f h = tt
on-not false P Q R f h = f h

-- the outcome of an item that is left alone is the same
pub same-outcome : (old new : Inputs) (code : ℕ → ℕ) → IsRanked new code → (i : ℕ) → IsUntouched old new i (outcome_of old) (outcome_of new) → outcome_of old i ≡ outcome_of new i
same-outcome old new code ranked i same =
    outcome_of-unfolds old code (still-ranked new old code (sym same.tables) ranked) i
    ∙ untouched old new i (outcome_of old) (outcome_of new) same
    ∙ sym (outcome_of-unfolds new code ranked i)

-- an item with a parent is a part
pub parent-of-part : (s : Inputs) (p i : ℕ) → All (IsBillLine s.tables.items) s.tables.bills → IsParent s.tables.bills p i → is_master s i ≡ false
parent-of-part s p i lines parent = by (is_master s i) refl
  where
    by : (b : Bool) → is_master s i ≡ b → b ≡ false
    by true master = absurd (no-parents s.tables.items s.tables.bills p i lines master parent)
    by false part = refl

-- if no item is over, all parents of each are planned
pub ready-unless-over : (s : Inputs) (code : ℕ → ℕ) → IsRanked s code → HasParents s → first_over s ≡ None → (i : ℕ) → IsReady s i
ready-unless-over s code ranked has none i =
    all-pass (λ p. is_planned (outcome_of s p)) (above s i)
    (λ k d h. ap is_planned (all-planned s code ranked has none _ (filter-range-below (λ q. is_parent s.tables.bills q i) (count s) k d h)))

none-in-plan : (s : Inputs) (plans : List ItemPlan) → plan_of s ≡ Ok plans → first_over s ≡ None
none-in-plan s plans is = by (first_over s) is
  where
    by : (o : Option ℕ) → plan_unless o (map (λ i. plan_in (outcome_of s i)) (places s)) ≡ Ok plans → o ≡ None
    by None e = refl
    by (Some i) e = absurd (cc)

-- what net change leaves alone keeps its orders
pub alone-keeps : (old new : Inputs) (code : ℕ → ℕ) (plans : List ItemPlan) → IsRanked new code → HasParents new → plan_of old ≡ Ok plans → (i : ℕ) → i < count new → IsLeftAlone old new i → KeepsOrders old new i
alone-keeps old new code plans ranked has whole i within alone =
    let tables = alone.same.tables in
    let same = same-outcome old new code ranked i alone.same in
    let HasOf : Tables → Type 0 = λ t. HasParents (record { tables = t; front = old.front; standing = old.standing }) in
    let inside : i < count old = subst (λ (t : Tables). i < length t.items) (sym tables) within in
    let planned = all-planned old code (still-ranked new old code (sym tables) ranked) (subst HasOf (sym tables) has) (none-in-plan old plans whole) i inside in
    record {
      planned = ap is_planned (sym same ∙ planned);
      demand = record { planned = ap is_planned same; orders = ap (λ (o : Outcome). (plan_in o).orders) same };
    }
