-- An item's step depends on the tables, its own bookings and its parents' orders alone.
use Rattle.std.proofs.Common.{◌≡◌, ◌∙◌, ℕ, ◌+◌, ◌<◌, ◌≤◌, Bool, true, false, cond, eqb, List, [], ◌∷◌, refl, sym, ap, subst, arith}
use Rattle.std.specs.Prelude.{filter, max, sum_by, ◌==◌, ◌&&◌, ◌||◌, IsTrue}
use Rattle.std.specs.List.{list_all, range_with_len}
use Rattle.std.proofs.lemmas.Bool.{eq-eqb}
use Rattle.std.proofs.lemmas.List.Sums.{sum_by-cons}
use Rattle.mrp_tables.specs.Tables.{Tables}
use Rattle.mrp_tables.specs.declared.rows.BillLine.{BillLine}
use Rattle.mrp_bill.specs.Bill.{is_parent, IsParent, parents_of}
use Rattle.mrp_book.specs.declared.booking.Booking.{Booking}
use Rattle.mrp_phase.specs.Weeks.{row}
use Rattle.mrp_phase.proofs.WeekRows.{row_same}
use Rattle.mrp_item.specs.Inputs.{Inputs, count, horizon, is_master}
use Rattle.mrp_item.specs.NetChange.{IsUntouched}
use Rattle.mrp_item.specs.Rows.{independent_demand, forecast, service}
use Rattle.mrp_item.specs.Plan.{Blocked, IsRanked, Outcome, line_demand, gross_in, is_planned, item_plan, judged, outcome_step, part_gross, plan_in}
use Rattle.mrp_item.specs.Recursion.{IsLocal}

here : (line : BillLine) (lines : List BillLine) (i : ℕ) → eqb line.component i ≡ true → IsParent (line ∷ lines) line.parent i
here line lines i e = rw (eq-eqb line.parent line.parent refl, e) refl

there : (line : BillLine) (lines : List BillLine) (p i : ℕ) → IsParent lines p i → IsParent (line ∷ lines) p i
there line lines p i k = by (eqb line.parent p && eqb line.component i)
  where
    by : (b : Bool) → IsTrue (b || is_parent lines p i)
    by true = refl
    by false = k

-- the dependent demand of an item depends on its parents' orders alone
demand-same : (f g : ℕ → Outcome) (i week : ℕ) (lines : List BillLine) → ((p : ℕ) → IsParent lines p i → (plan_in (f p)).orders ≡ (plan_in (g p)).orders)
    → sum_by (line_demand f week) (filter (λ line. line.component == i) lines) ≡ sum_by (line_demand g week) (filter (λ line. line.component == i) lines)
demand-same f g i week [] h = refl
demand-same f g i week (line ∷ lines) h =
    by (eqb line.component i) refl (demand-same f g i week lines (λ p k. h p (there line lines p i k))) (λ e. h line.parent (here line lines i e))
  where
    rest : List BillLine
    rest = filter (λ x. x.component == i) lines

    by : (b : Bool) → eqb line.component i ≡ b → sum_by (line_demand f week) rest ≡ sum_by (line_demand g week) rest
        → (eqb line.component i ≡ true → (plan_in (f line.parent)).orders ≡ (plan_in (g line.parent)).orders)
        → sum_by (line_demand f week) (cond b (line ∷ rest) rest) ≡ sum_by (line_demand g week) (cond b (line ∷ rest) rest)
    by true e others same =
        sum_by-cons (line_demand f week) line rest ∙ rw (same e, others) refl ∙ sym (sum_by-cons (line_demand g week) line rest)
    by false e others same = others

-- whether the parents are planned depends on them alone
all-same : (f g : ℕ → Outcome) (lines : List BillLine) (i : ℕ) (places : List ℕ) → ((p : ℕ) → IsParent lines p i → is_planned (f p) ≡ is_planned (g p))
    → list_all (λ p. is_planned (f p)) (filter (λ p. is_parent lines p i) places) ≡ list_all (λ p. is_planned (g p)) (filter (λ p. is_parent lines p i) places)
all-same f g lines i [] h = refl
all-same f g lines i (p ∷ places) h = by (is_parent lines p i) refl (all-same f g lines i places h) (h p)
  where
    rest : List ℕ
    rest = filter (λ x. is_parent lines x i) places

    by : (b : Bool) → is_parent lines p i ≡ b → list_all (λ p. is_planned (f p)) rest ≡ list_all (λ p. is_planned (g p)) rest → (IsParent lines p i → is_planned (f p) ≡ is_planned (g p))
        → list_all (λ p. is_planned (f p)) (cond b (p ∷ rest) rest) ≡ list_all (λ p. is_planned (g p)) (cond b (p ∷ rest) rest)
    by true e others same =
        let parent : IsParent lines p i = e in
        rw (same parent, others) refl
    by false e others same = others

-- the inputs of tables and bookings
abbrev from : Tables → ℕ → List Booking → Inputs
from t front standing = record { tables = t; front = front; standing = standing }

gross-same : (t : Tables) (a b : ℕ) (xs ys : List Booking) (i : ℕ) (f g : ℕ → Outcome) → IsUntouched (from t a xs) (from t b ys) i f g
    → row (horizon (from t a xs)) (gross_in (from t a xs) i f) ≡ row (horizon (from t a xs)) (gross_in (from t b ys) i g)
gross-same t a b xs ys i f g same = row_same (gross_in old i f) (gross_in new i g) (horizon old) (λ week low high. by week low high (is_master old i) refl)
  where
    old : Inputs
    old = from t a xs

    new : Inputs
    new = from t b ys

    by : (week : ℕ) → 0 < week → week ≤ horizon old → (m : Bool) → is_master old i ≡ m → cond m (independent_demand old i week) (part_gross old i f week) ≡ cond m (independent_demand new i week) (part_gross new i g week)
    by week low high true e = ap (max (forecast old i week)) (same.booked e week (omega (arith, low), high))
    by week low high false e = ap (λ n. service old i week + n) (demand-same f g i week t.bills (λ p k. (same.parents p k).orders))

step-same : (t : Tables) (a b : ℕ) (xs ys : List Booking) (i : ℕ) (f g : ℕ → Outcome) → IsUntouched (from t a xs) (from t b ys) i f g
    → outcome_step (from t a xs) i f ≡ outcome_step (from t b ys) i g
step-same t a b xs ys i f g same =
    let old : Inputs = from t a xs in
    let ready = all-same f g t.bills i (range_with_len 0 (count old)) (λ p k. (same.parents p k).planned) in
    ap (λ c. cond c (judged old i (item_plan old i (row (horizon old) (gross_in old i f)))) Blocked) ready
    ∙ ap (λ gross. cond (list_all (λ p. is_planned (g p)) (parents_of t.bills (count old) i)) (judged old i (item_plan old i gross)) Blocked) (gross-same t a b xs ys i f g same)

-- if nothing changes that an item's plan depends on, the outcome is unchanged
pub untouched : (old new : Inputs) (i : ℕ) (f g : ℕ → Outcome) → IsUntouched old new i f g → outcome_step old i f ≡ outcome_step new i g
untouched old new i f g same =
    let Alike : Tables → Type 0 = λ t. IsUntouched old (from t new.front new.standing) i f g in
    let Same : Tables → Type 0 = λ t. outcome_step old i f ≡ outcome_step (from t new.front new.standing) i g in
    subst Same same.tables (step-same old.tables old.front new.front old.standing new.standing i f g (subst Alike (sym same.tables) same))

pub still-ranked : (old new : Inputs) (code : ℕ → ℕ) → old.tables ≡ new.tables → IsRanked old code → IsRanked new code
still-ranked old new code same ranked =
    let Ranked : Tables → Type 0 = λ t. IsRanked (from t new.front new.standing) code in
    subst Ranked same (record { rises = ranked.rises; within = ranked.within })

-- so an item's step depends on its parents' outcomes alone
pub outcome_step-local : (s : Inputs) → IsLocal (IsParent s.tables.bills) (outcome_step s)
outcome_step-local s i f g h =
    untouched s s i f g (record { tables = refl; booked = λ _ week _. refl; parents = λ p k. record { planned = ap is_planned (h p k); orders = ap (λ (o : Outcome). (plan_in o).orders) (h p k) } })
