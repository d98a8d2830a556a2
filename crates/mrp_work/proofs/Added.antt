-- Operations that are added to those of the weeks that they load.
use Rattle.std.proofs.Common.{◌≡◌, ◌∙◌, ◌+◌, ◌<◌, ◌++◌, ℕ, Bool, true, false, cond, Option, None, Some, List, [], ◌∷◌, Vec, append_assoc, get_or, length, map, refl, sym, ap, take}
use Rattle.std.specs.Prelude.{◌==◌, ◌&&◌, ◌||◌, if◌then◌else◌, option_map}
use Rattle.std.specs.HashMap as hash
use Rattle.std.specs.HashMap.{HashMap}
use Rattle.std.specs.List.{filter}
use Rattle.std.proofs.lemmas.List.Concat.{flat_map-append}
use Rattle.std.proofs.lemmas.Bool.{eqb-true}
use Rattle.std.proofs.lemmas.List.{append-nil, map-append, take_more}
use Rattle.std.proofs.lemmas.List.Elements.{filter-append}
use Rattle.mrp_work.specs.Table.{added, found_in}
use Rattle.mrp_tables.specs.declared.rows.Operation.{Operation}
use Rattle.mrp_work.specs.Work.{all_work, found_of, is_asked, is_at, work_of, work_of_order}
use Rattle.mrp_work.specs.declared.order.Work.{Work}
use Rattle.mrp_work.specs.declared.order.WorkOrder.{WorkOrder}

-- two weeks of work centres are the same
abbrev pub same-place : ℕ × ℕ → ℕ × ℕ → Bool
same-place x y = (x.0 == y.0) && (x.1 == y.1)

both : (a b : Bool) → (a && b) ≡ true → (a ≡ true) × (b ≡ true)
both true b e = (refl, e)
both false b e = absurd cc

pub added-nil : (found : Option (List Work)) (centre week : ℕ) → added found centre week [] ≡ found
added-nil None centre week = refl
added-nil (Some before) centre week = ap Some (append-nil before)

pub added-append : (found : Option (List Work)) (centre week : ℕ) (xs ys : List Work) → added (added found centre week xs) centre week ys ≡ added found centre week (xs ++ ys)
added-append None centre week xs ys = refl
added-append (Some before) centre week xs ys =
    let here : List Work → List Work = filter (is_at centre week) in
    ap Some (append_assoc before (here xs) (here ys) ∙ ap (λ (more : List Work). before ++ more) (sym (filter-append (is_at centre week) xs ys)))

-- an operation of another week is not added
added-elsewhere : (found : Option (List Work)) (centre week : ℕ) (work : Work) → is_at centre week work ≡ false → added found centre week (work ∷ []) ≡ found
added-elsewhere found centre week work apart =
    ap (λ (b : Bool). option_map (λ (before : List Work). before ++ cond b (work ∷ []) []) found) apart ∙ added-nil found centre week

added-here : (before : List Work) (centre week : ℕ) (work : Work) → is_at centre week work ≡ true → added (Some before) centre week (work ∷ []) ≡ Some (before ++ (work ∷ []))
added-here before centre week work is = ap (λ (b : Bool). Some (before ++ cond b (work ∷ []) [])) is

module _ {V S : Type 0} (work : Work) where
  found-at : (m : HashMap (ℕ × ℕ) (Vec Work V) S) (centre week : ℕ) → is_at centre week work ≡ true → found_in m work.centre work.week ≡ found_in m centre week
  found-at m centre week is =
      let parts = both (work.centre == centre) (work.week == week) is in
      ap (λ (k : ℕ). found_in m k work.week) (eqb-true work.centre centre parts.0) ∙ ap (λ (k : ℕ). found_in m centre k) (eqb-true work.week week parts.1)

  -- nothing is asked for at the operation's place
  pub not-asked : (m n : HashMap (ℕ × ℕ) (Vec Work V) S) → hash.UpdatesBy same-place (same-place (work.centre, work.week)) m n None → None ≡ hash.get_by (same-place (work.centre, work.week)) m
      → (centre week : ℕ) → found_in n centre week ≡ added (found_in m centre week) centre week (work ∷ [])
  not-asked m n removed none centre week = by (is_at centre week work) refl
    where
      items : Option (Vec Work V) → Option (List Work)
      items found = option_map (λ (works : Vec Work V). works.items) found

      by : (b : Bool) → is_at centre week work ≡ b → found_in n centre week ≡ added (found_in m centre week) centre week (work ∷ [])
      by true is =
          ap items (removed.0 (centre, week) ∙ ap (λ (b : Bool). cond b None (hash.get same-place m (centre, week))) is)
          ∙ ap (λ (found : Option (List Work)). added found centre week (work ∷ [])) (ap items none ∙ found-at m centre week is)
      by false apart =
          ap items (removed.0 (centre, week) ∙ ap (λ (b : Bool). cond b None (hash.get same-place m (centre, week))) apart)
          ∙ sym (added-elsewhere (found_in m centre week) centre week work apart)

  -- the operation goes behind those that were found of its place
  pub put-back : (m r n : HashMap (ℕ × ℕ) (Vec Work V) S) (before works : Vec Work V) → hash.UpdatesBy same-place (same-place (work.centre, work.week)) m r None → Some before ≡ hash.get_by (same-place (work.centre, work.week)) m
      → works.items ≡ before.items ++ (work ∷ []) → hash.UpdatesBy same-place (same-place (work.centre, work.week)) r n (Some works) → (centre week : ℕ) → found_in n centre week ≡ added (found_in m centre week) centre week (work ∷ [])
  put-back m r n before works removed found more inserted centre week = by (is_at centre week work) refl
    where
      items : Option (Vec Work V) → Option (List Work)
      items found = option_map (λ (works : Vec Work V). works.items) found

      by : (b : Bool) → is_at centre week work ≡ b → found_in n centre week ≡ added (found_in m centre week) centre week (work ∷ [])
      by true is =
          ap items (inserted.0 (centre, week) ∙ ap (λ (b : Bool). cond b (Some works) (hash.get same-place r (centre, week))) is)
          ∙ ap Some more ∙ sym (added-here before.items centre week work is)
          ∙ ap (λ (o : Option (List Work)). added o centre week (work ∷ [])) (ap items found ∙ found-at m centre week is)
      by false apart =
          ap items (inserted.0 (centre, week) ∙ ap (λ (b : Bool). cond b (Some works) (hash.get same-place r (centre, week))) apart
          ∙ removed.0 (centre, week) ∙ ap (λ (b : Bool). cond b None (hash.get same-place m (centre, week))) apart)
          ∙ sym (added-elsewhere (found_in m centre week) centre week work apart)

-- a week that is asked for has no operations so far
pub asked-one : {V S : Type 0} (m n : HashMap (ℕ × ℕ) (Vec Work V) S) (place : ℕ × ℕ) (none : Vec Work V) → none.items ≡ [] → hash.UpdatesBy same-place (same-place place) m n (Some none)
    → (centre week : ℕ) → found_in n centre week ≡ (if is_asked (place ∷ []) centre week then Some [] else found_in m centre week)
asked-one {V} m n place none empty inserted centre week = by (same-place place (centre, week)) refl
  where
    items : Option (Vec Work V) → Option (List Work)
    items found = option_map (λ (works : Vec Work V). works.items) found

    by : (b : Bool) → same-place place (centre, week) ≡ b → found_in n centre week ≡ (if is_asked (place ∷ []) centre week then Some [] else found_in m centre week)
    by true is =
        ap items (inserted.0 (centre, week) ∙ ap (λ (b : Bool). cond b (Some none) (hash.get same-place m (centre, week))) is) ∙ ap Some empty
        ∙ sym (ap (λ (b : Bool). if b || false then Some [] else found_in m centre week) is)
    by false apart =
        ap items (inserted.0 (centre, week) ∙ ap (λ (b : Bool). cond b (Some none) (hash.get same-place m (centre, week))) apart)
        ∙ sym (ap (λ (b : Bool). if b || false then Some [] else found_in m centre week) apart)

-- the operations of one more order
pub orders-more : (routings : List Operation) (orders : List WorkOrder) (k : ℕ) (order d : WorkOrder) → k < length orders → order ≡ get_or orders k d
    → all_work routings (take k orders) ++ work_of_order routings order ≡ all_work routings (take (k + 1) orders)
orders-more routings orders k order d within is =
    sym (ap (all_work routings) (take_more orders k d within ∙ ap (λ (o : WorkOrder). take k orders ++ o ∷ []) (sym is))
    ∙ flat_map-append (work_of_order routings) (take k orders) (order ∷ []) ∙ ap (λ (works : List Work). all_work routings (take k orders) ++ works) (append-nil (work_of_order routings order)))

pub operations-more : (order : WorkOrder) (operations : List Operation) (k : ℕ) (operation d : Operation) → k < length operations → operation ≡ get_or operations k d
    → map (work_of order) (take k operations) ++ (work_of order operation ∷ []) ≡ map (work_of order) (take (k + 1) operations)
operations-more order operations k operation d within is =
    sym (ap (map (work_of order)) (take_more operations k d within ∙ ap (λ (o : Operation). take k operations ++ o ∷ []) (sym is)) ∙ map-append (work_of order) (take k operations) (operation ∷ []))

-- what is added to weeks that have none so far is what is found of those that are asked for
pub asked-found : (asked : List (ℕ × ℕ)) (works : List Work) (centre week : ℕ) → added (if is_asked asked centre week then Some [] else None) centre week works ≡ found_of asked works centre week
asked-found asked works centre week = by (is_asked asked centre week)
  where
    by : (b : Bool) → added (if b then Some [] else None) centre week works ≡ (if b then Some (filter (is_at centre week) works) else None)
    by true = refl
    by false = refl
