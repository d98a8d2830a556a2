-- The requirements that the pegs of an item serve, and the places of items with parents before their components.
use Rattle.std.proofs.Common.{◌≡◌, ◌∙◌, ◌⊎◌, ℕ, zero, suc, ◌+◌, ◌-◌, ◌*◌, ◌<◌, ◌==◌, ◌&&◌, Bool, true, false, List, [], ◌∷◌, ◌++◌, length, map, refl, sym, ap, arith, inl, inr, subst, Option, Some, None, eqb-true, eq-eqb, lt-ltb, le-leb, ltb-true, ltb-false}
use Rattle.std.specs.Prelude.{Contains, filter, if◌then◌else◌, nat_lt, nat_le, slice_index}
use Rattle.std.specs.List.{list_any, position_or_len, range_with_len}
use Rattle.std.proofs.lemmas.Bool.{and_from}
use Rattle.std.proofs.lemmas.List.Elements.{Contains-append_cases, Contains-get_or}
use Rattle.std.proofs.lemmas.List.FromFn.{get_or-range_with_len, length-range_with_len}
use Rattle.std.proofs.lemmas.List.Sums.{fails_before_first, passes_at_first}
use Rattle.mrp_tables.specs.declared.rows.BillLine.{BillLine}
use Rattle.mrp_bill.specs.Bill.{IsOrder, IsParent, line_at, lines_of}
use Rattle.mrp_phase.specs.Weeks.{weeks}
use Rattle.mrp_book.specs.declared.booking.Booking.{Booking}
use Rattle.mrp_tables.specs.declared.rows.MasterRow.{MasterRow}
use Rattle.mrp_item.specs.Inputs.{Inputs, count, horizon, is_master}
use Rattle.mrp_item.specs.Plan.{HasParents}
use Rattle.mrp_item.specs.Rows.{booked, bookings_due, forecast, service_rows}
use Rattle.mrp_peg.specs.declared.peg.Need.{Need}
use Rattle.mrp_peg.specs.declared.peg.NeedKind.{NeedKind}
use Rattle.mrp_peg.specs.declared.peg.NeedKind.TheVariants as kind
use Rattle.mrp_item.specs.declared.supplies.Supplied.{Supplied}
use Rattle.mrp_item.specs.declared.supplies.Supplied.TheVariants as supplied
use Rattle.mrp_item.specs.declared.order.Order.{Order}
use Rattle.mrp_peg.specs.declared.peg.Peg.{Peg}
use Rattle.mrp_peg.specs.declared.peg.Cause.{Cause}
use Rattle.mrp_peg.specs.declared.peg.Cause.TheVariants as cause
use Rattle.mrp_peg.specs.Walk.{item_told}
use Rattle.mrp_peg.specs.Units.{Amount, Match, Span, is_positive, match_of, matches, pairs, spans, spans_from, surplus_of, total}
use Rattle.mrp_peg.specs.Matching.{peg_of}
use Rattle.mrp_peg.specs.Pegging.{booking_needs, forecast_needs, line_needs, needed, needs_in, orders_in, parent_needs, part_needs, pegs_of, requirements, service_needs, supplies}
use Rattle.mrp_peg.specs.Causes.{ends_in, need_or_surplus_cause, order_for, own_cause, same_kind, same_need, surplus_cause}
use Rattle.mrp_peg.proofs.Sourced.{some_value}
use Rattle.mrp_peg.proofs.Members.{any_at, here, in_filter, in_flat_map, in_map, nothing, split, there}
use Rattle.mrp_peg.proofs.Walked.{AreServed}

-- what holds of a requirement of an item: it is the item's, and the order that it is for is a parent's
pub record IsOwnNeed (s : Inputs) (i : ℕ) (need : Need) : Type 0 where
  pub item : need.item ≡ i
  pub above : (e : ℕ × ℕ) → order_for s.tables.bills need.kind ≡ Some e → IsParent s.tables.bills e.0 i
  pub ordered : own_cause need need.kind ≡ None → (e : ℕ × ℕ) × (order_for s.tables.bills need.kind ≡ Some e) × ((o : Order) × Contains (orders_in s e.0) (e.1, o))

lone : (s : Inputs) (i : ℕ) (need : Need) (c : Cause) → need.item ≡ i → order_for s.tables.bills need.kind ≡ None → own_cause need need.kind ≡ Some c → IsOwnNeed s i need
lone s i need c item none own = record {
  item = item;
  above = λ e is. let nothing_is : Option (ℕ × ℕ) = None in let f : nothing_is ≡ Some e = sym none ∙ is in absurd (cc);
  ordered = λ alone. let nothing_is : Option Cause = None in let f : nothing_is ≡ Some c = sym alone ∙ own in absurd (cc);
}

in_range : (place n : ℕ) → Contains (range_with_len 0 n) place → place < n
in_range place n (k, within, is) =
    let size : length (range_with_len 0 n) ≡ n = length-range_with_len 0 n in
    let at = get_or-range_with_len 0 n k place (omega (arith, within, size)) in
    omega (arith, within, size, sym is ∙ at)

-- a line of the bill to an item has a parent of the item
line_parent : (lines : List BillLine) (i place : ℕ) → Contains (lines_of lines i) place → (place < length lines) × IsParent lines (line_at lines place).parent i
line_parent lines i place inside =
    let (ranged, is) = in_filter (λ p. (line_at lines p).component == i) (range_with_len 0 (length lines)) place inside in
    let within = in_range place (length lines) ranged in
    let line : BillLine = line_at lines place in
    (within, any_at (λ (l : BillLine). (l.parent == line.parent) && (l.component == i)) lines line (Contains-get_or lines place (record { parent = 0; component = 0; per = 0 }) within) (and_from (line.parent == line.parent) (line.component == i) (eq-eqb line.parent line.parent refl) is))

own_line : (s : Inputs) (i week place : ℕ) (a : Amount Need) → Contains (lines_of s.tables.bills i) place → Contains (line_needs s i week place) a → IsOwnNeed s i a.of
own_line s i week place a listed inside =
    let lines = s.tables.bills in
    let line : BillLine = line_at lines place in
    let (within, parent) = line_parent lines i place listed in
    let (n, there, is) = in_map (λ (n : ℕ × Order). needed i week (kind.Parent (place + 1) n.0) (n.1.start * line.per)) (filter (λ (n : ℕ × Order). n.1.release == week) (orders_in s line.parent)) a inside in
    let of : needed i week (kind.Parent (place + 1) n.0) (n.1.start * line.per) ≡ a = is in
    let low : nat_lt 0 (place + 1) ≡ true = lt-ltb 0 (place + 1) (omega arith) in
    let high : nat_le (place + 1) (length lines) ≡ true = le-leb (place + 1) (length lines) (omega (arith, within)) in
    let less : place + 1 - 1 ≡ place = omega arith in
    let back : line_at lines (place + 1 - 1) ≡ line = ap (line_at lines) less in
    let whole : order_for lines (kind.Parent (place + 1) n.0) ≡ Some (line.parent, n.0) =
    ap (λ (b : Bool). if b then Some ((line_at lines (place + 1 - 1)).parent, n.0) else None) (and_from (nat_lt 0 (place + 1)) (nat_le (place + 1) (length lines)) low high)
    ∙ ap (λ (l : BillLine). Some (l.parent, n.0)) back in
    record {
      item = sym (ap (λ (x : Amount Need). x.of.item) of);
      above = λ e whose.
          let both : Some (line.parent, n.0) ≡ Some e = sym whole ∙ ap (λ (x : Amount Need). order_for lines x.of.kind) of ∙ whose in
          let same = some_value (line.parent, n.0) e both in
          subst (λ (x : ℕ × ℕ). IsParent lines x.0 i) same parent;
      ordered = λ alone. ((line.parent, n.0), sym (ap (λ (x : Amount Need). order_for lines x.of.kind) of) ∙ whole, (n.1, (in_filter (λ (m : ℕ × Order). m.1.release == week) (orders_in s line.parent) n there).0));
    }

-- each requirement of an item
pub own_need : (s : Inputs) (i : ℕ) (a : Amount Need) → Contains (requirements s i) a → IsOwnNeed s i a.of
unfolding requirements
own_need s i a inside =
    let (week, among, has) = in_flat_map (needs_in s i) (weeks (horizon s)) a inside in
    by week (is_master s i) has
  where
    forecasted : (week : ℕ) (b : Bool) → Contains (if b then needed i week kind.Forecast (forecast s i week - booked s i week) ∷ [] else []) a → IsOwnNeed s i a.of
    forecasted week true (zero, within, is) = lone s i a.of (cause.Forecast i week) (sym (ap (λ (x : Amount Need). x.of.item) is)) (sym (ap (λ (x : Amount Need). order_for s.tables.bills x.of.kind) is)) (sym (ap (λ (x : Amount Need). own_cause x.of x.of.kind) is))
    forecasted week true (suc k, within, is) = absurd (omega (arith, within))
    forecasted week false inside = absurd (nothing a inside)

    demanded : (week : ℕ) → Contains (booking_needs s i week) a ⊎ Contains (forecast_needs s i week) a → IsOwnNeed s i a.of
    demanded week (inl has) =
        let (b, there, is) = in_map (λ (b : Booking). needed i week (kind.Booking b.number) b.line.quantity) (bookings_due s i week) a has in
        lone s i a.of (cause.Booking i b.number) (sym (ap (λ (x : Amount Need). x.of.item) is)) (sym (ap (λ (x : Amount Need). order_for s.tables.bills x.of.kind) is)) (sym (ap (λ (x : Amount Need). own_cause x.of x.of.kind) is))
    demanded week (inr has) = forecasted week (nat_lt (booked s i week) (forecast s i week)) has

    used : (week : ℕ) → Contains (service_needs s i week) a ⊎ Contains (parent_needs s i week) a → IsOwnNeed s i a.of
    used week (inl has) =
        let (r, there, is) = in_map (λ (r : MasterRow). needed i week (kind.Service r.number) r.quantity) (service_rows s i week) a has in
        lone s i a.of (cause.Service i r.number) (sym (ap (λ (x : Amount Need). x.of.item) is)) (sym (ap (λ (x : Amount Need). order_for s.tables.bills x.of.kind) is)) (sym (ap (λ (x : Amount Need). own_cause x.of x.of.kind) is))
    used week (inr has) =
        let (place, listed, line) = in_flat_map (line_needs s i week) (lines_of s.tables.bills i) a has in
        own_line s i week place a listed line

    by : (week : ℕ) (b : Bool) → Contains (if b then booking_needs s i week ++ forecast_needs s i week else part_needs s i week) a → IsOwnNeed s i a.of
    by week true has = demanded week (Contains-append_cases (booking_needs s i week) (forecast_needs s i week) a has)
    by week false has = used week (Contains-append_cases (service_needs s i week) (parent_needs s i week) a has)

-- a span of a row is of something in it
span_of : {A : Type 0} (n : ℕ) (row : List (Amount A)) (span : Span A) → Contains (spans_from n row) span → (a : Amount A) × Contains row a × (a.of ≡ span.of)
unfolding spans_from
span_of n [] span inside = absurd (nothing span inside)
span_of {A} n (a ∷ row) span inside = by (span_of (n + a.quantity) row span) (split (record { of = a.of; first = n; past = n + a.quantity }) span (spans_from (n + a.quantity) row) inside)
  where
    by : (Contains (spans_from (n + a.quantity) row) span → (b : Amount A) × Contains row b × (b.of ≡ span.of)) → ((record { of = a.of; first = n; past = n + a.quantity }) ≡ span) ⊎ Contains (spans_from (n + a.quantity) row) span → (b : Amount A) × Contains (a ∷ row) b × (b.of ≡ span.of)
    by more (inl is) = (a, here a a row refl, ap (λ (x : Span A). x.of) is)
    by more (inr rest) = let (b, inside, is) = more rest in (b, there a b row inside, is)

-- what a match serves is required
paired_need : {A B : Type 0} (needs : List (Amount A)) (offers : List (Span B)) (m : Match A B) (need : A) → Contains (pairs (spans needs) offers) m → m.need ≡ Some need → (a : Amount A) × Contains needs a × (a.of ≡ need)
unfolding pairs
paired_need {A} {B} needs offers m need paired is =
    let (span, among, has) = in_flat_map (λ (n : Span A). map (match_of n) offers) (spans needs) m paired in
    let (offer, there, same) = in_map (match_of span) offers m has in
    let (a, inside, of) = span_of 0 needs span among in
    (a, inside, of ∙ some_value span.of need (ap (λ (x : Match A B). x.need) same ∙ is))

matched_need : {A B : Type 0} (needs : List (Amount A)) (supplies : List (Amount B)) (m : Match A B) (need : A) → Contains (matches needs supplies) m → m.need ≡ Some need → (a : Amount A) × Contains needs a × (a.of ≡ need)
unfolding matches
matched_need {A} {B} needs offers m need inside is =
    let (either, positive) = in_filter is_positive (pairs (spans needs) (spans offers) ++ map (surplus_of (total needs)) (spans offers)) m inside in
    by (Contains-append_cases (pairs (spans needs) (spans offers)) (map (surplus_of (total needs)) (spans offers)) m either)
  where
    by : Contains (pairs (spans needs) (spans offers)) m ⊎ Contains (map (surplus_of (total needs)) (spans offers)) m → (a : Amount A) × Contains needs a × (a.of ≡ need)
    by (inl paired) = paired_need needs (spans offers) m need paired is
    by (inr left) =
        let (offer, there, same) = in_map (surplus_of (total needs)) (spans offers) m left in
        let none : Option A = None in
        let e : none ≡ Some need = ap (λ (x : Match A B). x.need) same ∙ is in
        absurd (cc)

-- what a peg of an item serves is one of its requirements
pegged_need : (s : Inputs) (i : ℕ) (g : Peg) (via : Need) → Contains (pegs_of s i) g → g.need ≡ Some via → (a : Amount Need) × Contains (requirements s i) a × (a.of ≡ via)
unfolding pegs_of
pegged_need s i g via inside is =
    let (m, among, same) = in_map (peg_of i) (matches (requirements s i) (supplies s i)) g inside in
    matched_need (requirements s i) (supplies s i) m via among (ap (λ (x : Peg). x.need) same ∙ is)

own_item : (n : Need) (k : NeedKind) (c : Cause) → own_cause n k ≡ Some c → item_told c ≡ n.item
own_item n (kind.Booking m) c is = sym (ap item_told (some_value (cause.Booking n.item m) c is))
own_item n kind.Forecast c is = sym (ap item_told (some_value (cause.Forecast n.item n.week) c is))
own_item n (kind.Service m) c is = sym (ap item_told (some_value (cause.Service n.item m) c is))
own_item n (kind.Parent line m) c is = let none : Option Cause = None in let e : none ≡ Some c = is in absurd (cc)

surplus_item : (i : ℕ) (x : Supplied) (c : Cause) → surplus_cause i x ≡ Some c → item_told c ≡ i
surplus_item i supplied.Stock c is = let none : Option Cause = None in let e : none ≡ Some c = is in absurd (cc)
surplus_item i (supplied.Receipt r) c is = let none : Option Cause = None in let e : none ≡ Some c = is in absurd (cc)
surplus_item i (supplied.Order n) c is = sym (ap item_told (some_value (cause.Surplus i n) c is))

peg_item : (s : Inputs) (i : ℕ) (g : Peg) → Contains (pegs_of s i) g → g.item ≡ i
unfolding pegs_of
peg_item s i g inside =
    let (m, among, same) = in_map (peg_of i) (matches (requirements s i) (supplies s i)) g inside in
    sym (ap (λ (x : Peg). x.item) same)

pub need_item : (s : Inputs) (i : ℕ) (g : Peg) (via : Need) → Contains (pegs_of s i) g → g.need ≡ Some via → via.item ≡ i
need_item s i g via inside at =
    let (a, among, of) = pegged_need s i g via inside at in
    let own : IsOwnNeed s i via = subst (IsOwnNeed s i) of (own_need s i a among) in
    own.item

-- a peg of an item ends in a cause of that item
pub ends_here : (s : Inputs) (i : ℕ) (g : Peg) (c : Cause) → Contains (pegs_of s i) g → ends_in g ≡ Some c → item_told c ≡ i
ends_here s i g c inside is = by g.need refl is
  where
    by : (o : Option Need) → g.need ≡ o → need_or_surplus_cause g o ≡ Some c → item_told c ≡ i
    by (Some via) at is =
        own_item via via.kind c is ∙ need_item s i g via inside at
    by None at is = surplus_item g.item g.supply c is ∙ peg_item s i g inside

own_kind : (k : NeedKind) → same_kind k k ≡ true
own_kind (kind.Booking m) = eq-eqb m m refl
own_kind kind.Forecast = refl
own_kind (kind.Service m) = eq-eqb m m refl
own_kind (kind.Parent line m) = and_from (line == line) (m == m) (eq-eqb line line refl) (eq-eqb m m refl)

same_self : (n : Need) → same_need n n ≡ true
same_self n = and_from (n.item == n.item) ((n.week == n.week) && same_kind n.kind n.kind) (eq-eqb n.item n.item refl) (and_from (n.week == n.week) (same_kind n.kind n.kind) (eq-eqb n.week n.week refl) (own_kind n.kind))

-- the place of an item in an order
abbrev pub place_in : List ℕ → ℕ → ℕ
place_in order i = position_or_len (λ x. x == i) order

module _ (s : Inputs) (order : List ℕ) (is : IsOrder s.tables.bills (count s) order) where
  pub placed : (i : ℕ) → i < count s → (place_in order i < length order) × (slice_index order (place_in order i) ≡ i)
  placed i small =
      let (k, within, at) = is.all.each i small in
      let first : place_in order i < length order = by k within at (nat_lt (place_in order i) (length order)) refl in
      (first, eqb-true (slice_index order (place_in order i)) i (passes_at_first (λ x. x == i) order 0 first))
    where
      by : (k : ℕ) → k < length order → slice_index order k ≡ i → (b : Bool) → nat_lt (place_in order i) (length order) ≡ b → place_in order i < length order
      by k within at true low = omega (arith, ltb-true (place_in order i) (length order) low)
      by k within at false high =
          let past = ltb-false (place_in order i) (length order) high in
          let e : false ≡ true = sym (fails_before_first (λ x. x == i) order k 0 (omega (arith, past, within))) ∙ eq-eqb (slice_index order k) i at in
          absurd (cc)

  -- the item at a place is the one that has it
  pub at_place : (k : ℕ) → k < length order → place_in order (slice_index order k) ≡ k
  at_place k within =
      let (first, at) = placed (slice_index order k) (is.all.items k 0 within) in
      is.all.once (place_in order (slice_index order k)) k first within at

  pub one_at : (k : ℕ) (j : ℕ) → j < count s → place_in order j ≡ k → j ≡ slice_index order k
  one_at k j small at = let (first, is_at) = placed j small in sym is_at ∙ ap (slice_index order) at

  pub before : (p i : ℕ) → p < count s → i < count s → IsParent s.tables.bills p i → place_in order p < place_in order i
  before p i low small link =
      let (p_first, p_at) = placed p low in
      let (i_first, i_at) = placed i small in
      is.parents_first (place_in order p) (place_in order i) p_first i_first (subst (λ x. IsParent s.tables.bills x (slice_index order (place_in order i))) (sym p_at) (subst (λ x. IsParent s.tables.bills p x) (sym i_at) link))

  pub are_served : HasParents s → AreServed s (place_in order)
  are_served parents i g via small inside serves =
      let (a, among, of) = pegged_need s i g via inside serves in
      let own : IsOwnNeed s i via = subst (IsOwnNeed s i) of (own_need s i a among) in
      let required : list_any (λ (x : Amount Need). same_need x.of via) (requirements s via.item) ≡ true =
      any_at (λ (x : Amount Need). same_need x.of via) (requirements s via.item) a (subst (λ j. Contains (requirements s j) a) (sym own.item) among) (ap (λ (x : Need). same_need x via) of ∙ same_self via) in
      record {
        has = and_from (nat_lt via.item (count s)) (list_any (λ (x : Amount Need). same_need x.of via) (requirements s via.item)) (lt-ltb via.item (count s) (omega (arith, small, own.item))) required;
        above = λ e whose.
            let link = own.above e whose in
            let low = parents e.0 i link in
            (low, before e.0 i low small link);
      }
