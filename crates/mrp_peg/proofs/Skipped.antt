-- What an item adds that was not reached: nothing.
use Rattle.std.proofs.Common.{◌≡◌, ◌∙◌, ◌⊎◌, ℕ, Bool, true, false, cond, List, [], ◌∷◌, refl, sym, ap, inl, inr, subst, Option, Some, None, eqb-true, eq-eqb}
use Rattle.std.specs.Prelude.{Contains, filter, fold}
use Rattle.std.specs.List.{list_any}
use Rattle.mrp_tables.specs.declared.rows.BillLine.{BillLine}
use Rattle.mrp_item.specs.Inputs.{Inputs}
use Rattle.mrp_item.specs.declared.supplies.Supplied.{Supplied}
use Rattle.mrp_item.specs.declared.supplies.Supplied.TheVariants as supplied
use Rattle.mrp_peg.specs.declared.peg.Peg.{Peg}
use Rattle.mrp_peg.specs.declared.peg.Cause.{Cause}
use Rattle.mrp_peg.specs.Causes.{ends_in, same_cause}
use Rattle.mrp_peg.specs.Pegging.{pegs_of}
use Rattle.mrp_peg.specs.Walk.{followed, is_reached, item_of, item_told, known, order_served, same_number, same_order, with_any, with_item, with_known, with_order, AreAmong, AreMarked}
use Rattle.mrp_peg.proofs.Members.{any_at, here, in_all, kept_all, new_all, nothing, only, some_one, there}
use Rattle.mrp_peg.proofs.Orders.{one_order}
use Rattle.mrp_peg.proofs.Served.{ends_here}
use Rattle.mrp_peg.proofs.Traced.{is_known}

absent : (items : List ℕ) (i j : ℕ) → list_any (same_number i) items ≡ false → Contains items j → j ≡ i → ⊥
absent items i j none inside same =
    let e : false ≡ true = sym none ∙ any_at (same_number i) items j inside (eq-eqb i j (sym same)) in
    absurd (cc)

filter_none : {X : Type 0} (test : X → Bool) (xs : List X) → ((x : X) → test x ≡ false) → filter test xs ≡ []
filter_none test [] none = refl
filter_none test (x ∷ xs) none = ap (λ b. cond b (x ∷ filter test xs) (filter test xs)) (none x) ∙ filter_none test xs none

fold_none : {X K : Type 0} (eq : K → K → Bool) (f : X → Option K) (xs : List X) (ks : List K) → ((x : X) → Contains xs x → f x ≡ None) → fold (λ ks x. with_any eq ks (f x)) ks xs ≡ ks
fold_none eq f [] ks none = refl
fold_none eq f (x ∷ xs) ks none =
    ap (λ o. fold (λ ks x. with_any eq ks (f x)) (with_any eq ks o) xs) (none x (here x x xs refl))
    ∙ fold_none eq f xs ks (λ y inside. none y (there x y xs inside))

-- no order of an item that is not among those of the orders was reached
not_reached : (orders : List (ℕ × ℕ)) (items : List ℕ) (i : ℕ) → AreMarked orders items → list_any (same_number i) items ≡ false → (x : Supplied) → is_reached orders i x ≡ false
not_reached orders items i marked none supplied.Stock = refl
not_reached orders items i marked none (supplied.Receipt r) = refl
not_reached orders items i marked none (supplied.Order number) = by (list_any (same_order (i, number)) orders) refl
  where
    by : (b : Bool) → list_any (same_order (i, number)) orders ≡ b → b ≡ false
    by true found =
        let (e, inside, is) = some_one (same_order (i, number)) orders found in
        let same : (i, number) ≡ e = one_order (i, number) e is in
        absurd (absent items i e.0 none (marked e inside) (sym (ap (λ (x : ℕ × ℕ). x.0) same)))
    by false found = refl

pub unfollowed : (s : Inputs) (orders : List (ℕ × ℕ)) (items : List ℕ) (i : ℕ) → AreMarked orders items → list_any (same_number i) items ≡ false → followed s orders i ≡ []
unfollowed s orders items i marked none = filter_none (λ (g : Peg). is_reached orders i g.supply) (pegs_of s i) (λ g. not_reached orders items i marked none g.supply)

-- the items of the orders that are reached stay among those that are marked
still_marked : (lines : List BillLine) (orders : List (ℕ × ℕ)) (items : List ℕ) (pegs : List Peg) → AreMarked orders items → AreMarked (fold (with_order lines) orders pegs) (fold (with_item lines) items pegs)
still_marked lines orders items pegs marked e inside = by (in_all same_order one_order (λ (g : Peg). order_served lines g.need) pegs orders e inside)
  where
    by : Contains orders e ⊎ ((g : Peg) × Contains pegs g × (order_served lines g.need ≡ Some e)) → Contains (fold (with_item lines) items pegs) e.0
    by (inl old) = kept_all same_number eqb-true (λ (g : Peg). item_of (order_served lines g.need)) pegs items e.0 (marked e old)
    by (inr (g, among, is)) = new_all same_number eqb-true (λ (g : Peg). item_of (order_served lines g.need)) pegs items g e.0 among (ap item_of is)

pub marked_on : (lines : List BillLine) (orders more_orders : List (ℕ × ℕ)) (items more_items : List ℕ) (pegs : List Peg) → AreMarked orders items
    → more_orders ≡ fold (with_order lines) orders pegs → more_items ≡ fold (with_item lines) items pegs → AreMarked more_orders more_items
marked_on lines orders more_orders items more_items pegs marked are_orders are_items e inside =
    subst (λ (x : List ℕ). Contains x e.0) (sym are_items) (still_marked lines orders items pegs marked e (subst (λ (x : List (ℕ × ℕ)). Contains x e) are_orders inside))

first_marked : (o : Option (ℕ × ℕ)) → AreMarked (with_any same_order [] o) (with_any same_number [] (item_of o))
first_marked None e inside = absurd (nothing e inside)
first_marked (Some order) e inside = here order.0 e.0 [] (ap (λ (x : ℕ × ℕ). x.0) (only order e inside))

pub marked_first : (o : Option (ℕ × ℕ)) (none orders : List (ℕ × ℕ)) (nothing_marked items : List ℕ) → none ≡ [] → orders ≡ with_any same_order none o → nothing_marked ≡ [] → items ≡ with_any same_number nothing_marked (item_of o) → AreMarked orders items
marked_first o none orders nothing_marked items no_orders are_orders no_items are_items e inside =
    let those : orders ≡ with_any same_order [] o = are_orders ∙ ap (λ (x : List (ℕ × ℕ)). with_any same_order x o) no_orders in
    let marks : items ≡ with_any same_number [] (item_of o) = are_items ∙ ap (λ (x : List ℕ). with_any same_number x (item_of o)) no_items in
    subst (λ (x : List ℕ). Contains x e.0) (sym marks) (first_marked o e (subst (λ (x : List (ℕ × ℕ)). Contains x e) those inside))

-- pegs of an item that was not visited end in no cause that is known
pub untold : (s : Inputs) (causes found : List Cause) (items : List ℕ) (i : ℕ) → AreAmong causes items → list_any (same_number i) items ≡ false → fold (with_known causes) found (pegs_of s i) ≡ found
untold s causes found items i among none = fold_none same_cause (λ (g : Peg). known causes (ends_in g)) (pegs_of s i) found (λ g inside. by g inside (known causes (ends_in g)) refl)
  where
    by : (g : Peg) → Contains (pegs_of s i) g → (o : Option Cause) → known causes (ends_in g) ≡ o → o ≡ None
    by g inside None is = refl
    by g inside (Some c) is =
        let (there_is, told) = is_known causes (ends_in g) c is in
        absurd (absent items i (item_told c) none (among c there_is) (ends_here s i g c inside told))
