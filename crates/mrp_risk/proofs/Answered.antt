-- What marks say of bookings, and what answers say.
use Rattle.std.proofs.Common.{◌≡◌, ◌⊎◌, inl, inr, ℕ, ◌*◌, ◌^◌, ◌<◌, ◌≤◌, Bool, true, false, cond, List, [], ◌∷◌, length, refl, sym, ap, subst, ◌∙◌, arith}
use Rattle.std.specs.Prelude.{Option, Some, None, IfSome, IsTrue, ◌↔◌, is_some, sum_by}
use Rattle.std.proofs.lemmas.Bool.{and_from, and_parts, cases_Bool, cases_lt, eq-eqb, eqb-true}
use Rattle.std.proofs.lemmas.List.{get_or_past, take_all}
use Rattle.std.proofs.lemmas.List.Sums.{sum_by-cons, sum_by-le-sum_by}
use Rattle.std.proofs.lemmas.Option.{none-some}
use Rattle.mrp_risk.specs.declared.peg.Need.{Need}
use Rattle.mrp_risk.specs.declared.peg.Need.TheVariants.{Booking, Order, Other}
use Rattle.mrp_risk.specs.declared.peg.Peg.{Peg}
use Rattle.mrp_risk.specs.declared.risk.Risk.{Risk}
use Rattle.mrp_risk.specs.Chains.{peg_at, LeadsTo, HangsOn, ComesFirst, weeks_late}
use Rattle.mrp_risk.specs.Marks.{mark_at, AreMarks}
use Rattle.mrp_risk.specs.Risks.{IsDelayed, AreDelayedPieces, IsRisk, IsAnswer, risk_at, is_for, pieces_of}
use Rattle.mrp_risk.specs.Adding.{mark_of, is_marked_for, marked_pieces, WaitsFor, pieces_in, IsFirstTo, AreRisksTo}
use Rattle.mrp_risk.proofs.Added.{comes-on}
use Rattle.mrp_risk.proofs.Marked.{IsKnown, known, late-inside}

-- a need is a booking if the test says so
is-booking : (booking : ℕ) (need : Need) → is_for booking need ≡ true → need ≡ Booking booking
is-booking booking (Booking other) holds = ap (λ (b : ℕ). Booking b) (eqb-true other booking holds)
is-booking booking (Order order) holds = absurd (cc)
is-booking booking Other holds = absurd (cc)

booking-is : (booking : ℕ) (need : Need) → need ≡ Booking booking → is_for booking need ≡ true
booking-is booking need same = rw same (eq-eqb booking booking refl)

some-is : (mark : Option ℕ) → is_some mark ≡ true → (late : ℕ) × (mark ≡ Some late)
some-is None holds = absurd (cc)
some-is (Some late) holds = (late, refl)

module _ (lateness : List ℕ) (pegs : List Peg) (marks : List (Option ℕ)) (are : AreMarks lateness pegs marks) where
  -- an order that leads to a late one is marked, with one that comes first
  reached : (order other : ℕ) → LeadsTo pegs order other → 0 < weeks_late lateness other → (late : ℕ) × (mark_at marks order ≡ Some late)
  reached order other leads some = by (known (mark_at marks order))
    where
      by : IsKnown (mark_at marks order) → (late : ℕ) × (mark_at marks order ≡ Some late)
      by (inl free) = absurd (omega (arith, some, are.unmarked order other free leads))
      by (inr marked) = marked

  -- the order that supplies a marked peg
  supplied : (supply : Option ℕ) (late : ℕ) → mark_of marks supply ≡ Some late → (first : ℕ) × (supply ≡ Some first) × (mark_at marks first ≡ Some late)
  supplied None late is = absurd (none-some late is)
  supplied (Some first) late is = (first, refl, is)

  delayed : (booking : ℕ) (peg : Peg) → is_marked_for marks booking peg ≡ true → (peg.need ≡ Booking booking) × IsDelayed lateness pegs peg
  delayed booking peg holds =
      let (for, has) = and_parts (is_for booking peg.need) (is_some (mark_of marks peg.supply)) holds in
      let (late, is) = some-is (mark_of marks peg.supply) has in
      let (first, supply, mark) = supplied peg.supply late is in
      let latest = are.marked first late mark in
      (is-booking booking peg.need for, (first, late, supply, latest.among, latest.late))

  decided : (booking : ℕ) (peg : Peg) → (peg.need ≡ Booking booking) × IsDelayed lateness pegs peg → is_marked_for marks booking peg ≡ true
  decided booking peg (for, (first, last, supply, leads, some)) =
      let (late, mark) = reached first last leads some in
      and_from (is_for booking peg.need) (is_some (mark_of marks peg.supply)) (booking-is booking peg.need for) (rw supply (ap is_some mark))

  pieces-are : (booking pieces : ℕ) → pieces ≡ sum_by (marked_pieces marks booking) pegs → AreDelayedPieces lateness pegs booking pieces
  pieces-are booking pieces is = record { delayed = is_marked_for marks booking; decided = λ peg. (delayed booking peg, decided booking peg); sum = is }

  -- what a booking waits for by its pegs, it hangs on
  hangs : (booking late : ℕ) → WaitsFor marks pegs (length pegs) booking late → HangsOn pegs booking late × (0 < weeks_late lateness late)
  hangs booking late (k, below, need, is) =
      let (first, supply, mark) = supplied (peg_at pegs k).supply late is in
      let latest = are.marked first late mark in
      ((first, (k, below, need, supply), latest.among), latest.late)

  answer : (booking : ℕ) (risk : Option Risk) → IsFirstTo lateness marks pegs (length pegs) booking risk → pieces_in risk ≡ sum_by (marked_pieces marks booking) pegs → IsAnswer lateness pegs booking risk
  answer booking None none sum = λ order hangs. by order hangs (cases_lt 0 (weeks_late lateness order))
    where
      by : (order : ℕ) → HangsOn pegs booking order → (0 < weeks_late lateness order) ⊎ (weeks_late lateness order ≤ 0) → weeks_late lateness order ≡ 0
      by order hangs (inr most) = omega (arith, most)
      by order (first, (k, below, need, supply), leads) (inl some) =
          let (late, mark) = reached first order leads some in
          let waits : WaitsFor marks pegs (length pegs) booking late = (k, below, need, rw supply mark) in
          absurd (none late waits)
  answer booking (Some risk) (own, first) sum = record {
    latest = record { late = (hangs booking risk.order own).1; among = (hangs booking risk.order own).0; first = latest };
    pieces = pieces-are booking risk.pieces sum;
  }
    where
      latest : (other : ℕ) → HangsOn pegs booking other → ComesFirst lateness risk.order other
      latest other (start, (k, below, need, supply), leads) = by (cases_lt 0 (weeks_late lateness other))
        where
          by : (0 < weeks_late lateness other) ⊎ (weeks_late lateness other ≤ 0) → ComesFirst lateness risk.order other
          by (inl some) =
              let (late, mark) = reached start other leads some in
              let waits : WaitsFor marks pegs (length pegs) booking late = (k, below, need, rw supply mark) in
              comes-on lateness risk.order late other (first late waits) ((are.marked start late mark).first other leads)
          by (inr most) =
              let some = (hangs booking risk.order own).1 in
              record { later = omega (arith, most); lesser = λ same. absurd (omega (arith, same, most, some)) }

-- all pegs are gone through
pub answers-are : (lateness : List ℕ) (pegs : List Peg) (marks : List (Option ℕ)) (bookings end : ℕ) (risks : List (Option Risk)) → AreMarks lateness pegs marks → AreRisksTo lateness marks pegs bookings end risks → end ≡ length pegs
    → (booking : ℕ) → booking < bookings → IsAnswer lateness pegs booking (risk_at risks booking)
answers-are lateness pegs marks bookings end risks are to all booking inside =
    answer lateness pegs marks are booking (risk_at risks booking)
    (subst (λ (n : ℕ). IsFirstTo lateness marks pegs n booking (risk_at risks booking)) all (to.first booking inside))
    (to.pieces booking inside ∙ ap (sum_by (marked_pieces marks booking)) (take_all end pegs (omega (arith, all))))

-- Marks and risks name orders.

pub mark-inside : (lateness : List ℕ) (pegs : List Peg) (marks : List (Option ℕ)) → AreMarks lateness pegs marks → (supply : Option ℕ) → IfSome (mark_of marks supply) (λ order. order < length lateness)
mark-inside lateness pegs marks are supply = by (known (mark_of marks supply))
  where
    by : IsKnown (mark_of marks supply) → IfSome (mark_of marks supply) (λ order. order < length lateness)
    by (inl free) = rw free tt
    by (inr (late, is)) =
        let (first, given, mark) = supplied lateness pegs marks are supply late is in
        let inside : late < length lateness = late-inside lateness late (are.marked first late mark).late in
        rw is inside

pub risk-inside : (lateness : List ℕ) (pegs : List Peg) (marks : List (Option ℕ)) (bookings end : ℕ) (risks : List (Option Risk)) → AreMarks lateness pegs marks → AreRisksTo lateness marks pegs bookings end risks
    → (booking : ℕ) → IfSome (risk_at risks booking) (λ risk. risk.order < length lateness)
risk-inside lateness pegs marks bookings end risks are to booking = by (cases_lt booking bookings)
  where
    of : (risk : Option Risk) → IsFirstTo lateness marks pegs end booking risk → IfSome risk (λ risk. risk.order < length lateness)
    of None none = tt
    of (Some risk) ((k, below, need, is), first) =
        let (order, given, mark) = supplied lateness pegs marks are (peg_at pegs k).supply risk.order is in
        late-inside lateness risk.order (are.marked order risk.order mark).late

    by : (booking < bookings) ⊎ (bookings ≤ booking) → IfSome (risk_at risks booking) (λ risk. risk.order < length lateness)
    by (inl inside) = of (risk_at risks booking) (to.first booking inside)
    by (inr past) = let none : risk_at risks booking ≡ None = get_or_past risks booking None (omega (arith, past, to.size)) in rw none tt

pub risk-small : (lateness : List ℕ) (pegs : List Peg) (marks : List (Option ℕ)) (bookings end : ℕ) (risks : List (Option Risk)) → AreRisksTo lateness marks pegs bookings end risks
    → (booking : ℕ) → pieces_in (risk_at risks booking) ≤ end * 2 ^ 64
risk-small lateness pegs marks bookings end risks to booking = by (cases_lt booking bookings)
  where
    by : (booking < bookings) ⊎ (bookings ≤ booking) → pieces_in (risk_at risks booking) ≤ end * 2 ^ 64
    by (inl inside) = to.small booking inside
    by (inr past) = omega (arith, ap pieces_in (get_or_past risks booking None (omega (arith, past, to.size))))

-- What answers say.

pub at-risk : (lateness : List ℕ) (pegs : List Peg) (booking : ℕ) (answer : Option Risk) → IsAnswer lateness pegs booking answer
    → (IsTrue (is_some answer) ↔ ((order : ℕ) × HangsOn pegs booking order × (0 < weeks_late lateness order)))
at-risk lateness pegs booking None none = (λ no. absurd (cc), λ (order, hangs, late). absurd (omega (arith, late, none order hangs)))
at-risk lateness pegs booking (Some risk) is = (λ holds. (risk.order, is.latest.among, is.latest.late), λ hangs. refl)

-- the pieces of a delayed peg are at most those of the peg
pub at-most : (lateness : List ℕ) (pegs : List Peg) (booking : ℕ) (risk : Risk) → IsAnswer lateness pegs booking (Some risk) → risk.pieces ≤ sum_by (pieces_of booking) pegs
at-most lateness pegs booking risk is =
    omega (arith, is.pieces.sum, sum_by-le-sum_by (λ (peg : Peg). cond (is.pieces.delayed peg) peg.pieces 0) (pieces_of booking) pegs (λ peg. by peg (cases_Bool (is.pieces.delayed peg))))
  where
    by : (peg : Peg) → (is.pieces.delayed peg ≡ true) ⊎ (is.pieces.delayed peg ≡ false) → cond (is.pieces.delayed peg) peg.pieces 0 ≤ pieces_of booking peg
    by peg (inl holds) =
        let own = booking-is booking peg.need ((is.pieces.decided peg).0 holds).0 in
        rw (holds, own) (omega arith)
    by peg (inr fails) = rw fails (omega arith)

same-sum : (f g : Peg → ℕ) (pegs : List Peg) → ((peg : Peg) → f peg ≡ g peg) → sum_by f pegs ≡ sum_by g pegs
same-sum f g [] same = refl
same-sum f g (peg ∷ pegs) same = omega (arith, sum_by-cons f peg pegs, sum_by-cons g peg pegs, same peg, same-sum f g pegs same)

-- two tests that mean the same
same-test : (a b : Bool) (P : Type 0) → ((a ≡ true) ↔ P) → ((b ≡ true) ↔ P) → a ≡ b
same-test true true P f g = refl
same-test false false P f g = refl
same-test true false P f g = sym (g.1 (f.0 refl))
same-test false true P f g = f.1 (g.0 refl)

abbrev risk_of : ℕ → ℕ → Risk
risk_of order pieces = record { order = order; pieces = pieces }

same-risk : (lateness : List ℕ) (pegs : List Peg) (booking : ℕ) (a b : Risk) → IsRisk lateness pegs booking a → IsRisk lateness pegs booking b → a ≡ b
same-risk lateness pegs booking a b f g = ap (λ (order : ℕ). risk_of order a.pieces) orders ∙ ap (risk_of b.order) sums
  where
    orders : a.order ≡ b.order
    orders =
        let ab = f.latest.first b.order g.latest.among in
        let ba = g.latest.first a.order f.latest.among in
        omega (arith, ab.later, ba.later, ab.lesser (omega (arith, ab.later, ba.later)), ba.lesser (omega (arith, ab.later, ba.later)))

    sums : a.pieces ≡ b.pieces
    sums =
        f.pieces.sum
        ∙ same-sum (λ (peg : Peg). cond (f.pieces.delayed peg) peg.pieces 0) (λ (peg : Peg). cond (g.pieces.delayed peg) peg.pieces 0) pegs
        (λ peg. ap (λ (t : Bool). cond t peg.pieces 0) (same-test (f.pieces.delayed peg) (g.pieces.delayed peg) ((peg.need ≡ Booking booking) × IsDelayed lateness pegs peg) (f.pieces.decided peg) (g.pieces.decided peg)))
        ∙ sym g.pieces.sum

-- there is one answer
pub one-answer : (lateness : List ℕ) (pegs : List Peg) (booking : ℕ) (a b : Option Risk) → IsAnswer lateness pegs booking a → IsAnswer lateness pegs booking b → a ≡ b
one-answer lateness pegs booking None None f g = refl
one-answer lateness pegs booking None (Some b) f g = absurd (omega (arith, g.latest.late, f b.order g.latest.among))
one-answer lateness pegs booking (Some a) None f g = absurd (omega (arith, f.latest.late, g a.order f.latest.among))
one-answer lateness pegs booking (Some a) (Some b) f g = ap (λ (risk : Risk). Some risk) (same-risk lateness pegs booking a b f g)
