-- Pieces are added peg by peg.
use Rattle.std.proofs.Common.{◌≡◌, ◌⊎◌, inl, inr, ℕ, ◌+◌, ◌*◌, ◌^◌, ◌<◌, ◌≤◌, Bool, true, false, cond, List, length, take, refl, sym, ap, subst, ◌∙◌, arith}
use Rattle.std.specs.Prelude.{Option, Some, None, is_some, sum_by, replicate}
use Rattle.std.proofs.lemmas.Bool.{and_right, cases_eq, cases_lt, eq-eqb, ne_eqb}
use Rattle.std.proofs.lemmas.List.{get_or-replicate, length-replicate}
use Rattle.std.proofs.lemmas.List.Sums.{sum_by_more}
use Rattle.std.proofs.lemmas.Option.{none-some, same_Some}
use Rattle.mrp_risk.specs.declared.peg.Need.{Need}
use Rattle.mrp_risk.specs.declared.peg.Need.TheVariants.{Booking, Order, Other}
use Rattle.mrp_risk.specs.declared.peg.Peg.{Peg}
use Rattle.mrp_risk.specs.declared.risk.Risk.{Risk}
use Rattle.mrp_risk.specs.Chains.{peg_at, ComesFirst}
use Rattle.mrp_risk.specs.Risks.{is_for, risk_at}
use Rattle.mrp_risk.specs.Adding.{mark_of, is_marked_for, marked_pieces, WaitsFor, pieces_in, IsFirstTo, AreRisksTo, IsFirstWith, AddsTo, AddsToNeed, AddsPeg}

-- no peg, no risk
pub risks-none : (lateness : List ℕ) (marks : List (Option ℕ)) (pegs : List Peg) (bookings : ℕ) → AreRisksTo lateness marks pegs bookings 0 (replicate bookings None)
risks-none lateness marks pegs bookings = record {
  size = length-replicate bookings None;
  first = λ booking inside. subst (IsFirstTo lateness marks pegs 0 booking) (sym (free booking inside)) (λ late (k, below, need, mark). absurd (omega (arith, below)));
  pieces = λ booking inside. ap pieces_in (free booking inside);
  small = λ booking inside. omega (arith, ap pieces_in (free booking inside));
}
  where
    free : (booking : ℕ) → booking < bookings → risk_at (replicate bookings None) booking ≡ None
    free booking inside = get_or-replicate bookings booking None None inside

-- who comes first
pub comes-on : (lateness : List ℕ) (a b c : ℕ) → ComesFirst lateness a b → ComesFirst lateness b c → ComesFirst lateness a c
comes-on lateness a b c f g = record {
  later = omega (arith, f.later, g.later);
  lesser = λ same. omega (arith, f.lesser (omega (arith, same, f.later, g.later)), g.lesser (omega (arith, same, f.later, g.later)));
}

pub comes-first-itself : (lateness : List ℕ) (a : ℕ) → ComesFirst lateness a a
comes-first-itself lateness a = record { later = omega arith; lesser = λ same. omega arith }

module _ (lateness : List ℕ) (marks : List (Option ℕ)) (pegs : List Peg) (end booking : ℕ) where
  -- what is waited for by the first pegs is waited for by one more
  waits-more : (late : ℕ) → WaitsFor marks pegs end booking late → WaitsFor marks pegs (end + 1) booking late
  waits-more late (k, below, need, mark) = (k, omega (arith, below), need, mark)

  -- what is waited for by one more
  waits-cases : (late : ℕ) → WaitsFor marks pegs (end + 1) booking late → WaitsFor marks pegs end booking late ⊎ (((peg_at pegs end).need ≡ Booking booking) × (mark_of marks (peg_at pegs end).supply ≡ Some late))
  waits-cases late (k, below, need, mark) = by (cases_lt k end)
    where
      by : (k < end) ⊎ (end ≤ k) → WaitsFor marks pegs end booking late ⊎ (((peg_at pegs end).need ≡ Booking booking) × (mark_of marks (peg_at pegs end).supply ≡ Some late))
      by (inl less) = inl (k, less, need, mark)
      by (inr least) =
          let same : end ≡ k = omega (arith, below, least) in
          inr (ap (λ (j : ℕ). (peg_at pegs j).need) same ∙ need, ap (λ (j : ℕ). mark_of marks (peg_at pegs j).supply) same ∙ mark)

  -- a peg that is not for the booking, or does not wait
  first-passes : (risk : Option Risk) → IsFirstTo lateness marks pegs end booking risk → ((late : ℕ) → (peg_at pegs end).need ≡ Booking booking → mark_of marks (peg_at pegs end).supply ≡ Some late → ⊥)
      → IsFirstTo lateness marks pegs (end + 1) booking risk
  first-passes None none other = λ late waits. by late (waits-cases late waits)
    where
      by : (late : ℕ) → WaitsFor marks pegs end booking late ⊎ (((peg_at pegs end).need ≡ Booking booking) × (mark_of marks (peg_at pegs end).supply ≡ Some late)) → ⊥
      by late (inl old) = none late old
      by late (inr (need, mark)) = other late need mark
  first-passes (Some risk) (own, first) other = (waits-more risk.order own, λ late waits. by late (waits-cases late waits))
    where
      by : (late : ℕ) → WaitsFor marks pegs end booking late ⊎ (((peg_at pegs end).need ≡ Booking booking) × (mark_of marks (peg_at pegs end).supply ≡ Some late)) → ComesFirst lateness risk.order late
      by late (inl old) = first late old
      by late (inr (need, mark)) = absurd (other late need mark)

  -- a peg for the booking that waits
  first-more : (old : Option Risk) (order : ℕ) (new : Risk) → IsFirstTo lateness marks pegs end booking old → (peg_at pegs end).need ≡ Booking booking → mark_of marks (peg_at pegs end).supply ≡ Some order
      → IsFirstWith lateness old order new.order → IsFirstTo lateness marks pegs (end + 1) booking (Some new)
  first-more None order new none need mark is = (here, λ late waits. by late (waits-cases late waits))
    where
      here : WaitsFor marks pegs (end + 1) booking new.order
      here = (end, omega arith, need, mark ∙ ap (λ (o : ℕ). Some o) (sym is))

      by : (late : ℕ) → WaitsFor marks pegs end booking late ⊎ (((peg_at pegs end).need ≡ Booking booking) × (mark_of marks (peg_at pegs end).supply ≡ Some late)) → ComesFirst lateness new.order late
      by late (inl old) = absurd (none late old)
      by late (inr (for, has)) =
          let same : new.order ≡ late = is ∙ same_Some order late (sym mark ∙ has) in
          subst (ComesFirst lateness new.order) same (comes-first-itself lateness new.order)
  first-more (Some risk) order new (own, first) need mark (one, before, behind) = (here one, λ late waits. by late (waits-cases late waits))
    where
      here : (new.order ≡ risk.order) ⊎ (new.order ≡ order) → WaitsFor marks pegs (end + 1) booking new.order
      here (inl same) = subst (WaitsFor marks pegs (end + 1) booking) (sym same) (waits-more risk.order own)
      here (inr same) = (end, omega arith, need, mark ∙ ap (λ (o : ℕ). Some o) (sym same))

      by : (late : ℕ) → WaitsFor marks pegs end booking late ⊎ (((peg_at pegs end).need ≡ Booking booking) × (mark_of marks (peg_at pegs end).supply ≡ Some late)) → ComesFirst lateness new.order late
      by late (inl old) = comes-on lateness new.order risk.order late before (first late old)
      by late (inr (for, has)) = subst (ComesFirst lateness new.order) (same_Some order late (sym mark ∙ has)) behind

booking-is : (a b : ℕ) → ◌≡◌ {A = Need} (Booking a) (Booking b) → a ≡ b
booking-is a b is = cc

-- the pieces of a peg for a booking
for-own : (booking : ℕ) → is_for booking (Booking booking) ≡ true
for-own booking = eq-eqb booking booking refl

for-other : (booking other : ℕ) → (booking ≡ other → ⊥) → is_for booking (Booking other) ≡ false
for-other booking other apart = ne_eqb other booking (λ e. apart (sym e))

module _ (lateness : List ℕ) (marks : List (Option ℕ)) (pegs : List Peg) (bookings end : ℕ) (old new : List (Option Risk)) (are : AreRisksTo lateness marks pegs bookings end old) (inside : end < length pegs) where
  abbrev peg : Peg
  peg = peg_at pegs end

  sum : (booking : ℕ) → sum_by (marked_pieces marks booking) (take (end + 1) pegs) ≡ sum_by (marked_pieces marks booking) (take end pegs) + marked_pieces marks booking (peg_at pegs end)
  sum booking = sum_by_more (marked_pieces marks booking) pegs end (record { need = Other; supply = None; pieces = 0 }) inside

  -- nothing is added
  unchanged : new ≡ old → ((booking : ℕ) → is_marked_for marks booking (peg_at pegs end) ≡ false) → ((booking late : ℕ) → (peg_at pegs end).need ≡ Booking booking → mark_of marks (peg_at pegs end).supply ≡ Some late → ⊥)
      → AreRisksTo lateness marks pegs bookings (end + 1) new
  unchanged same none other = subst (AreRisksTo lateness marks pegs bookings (end + 1)) (sym same) (record {
    size = are.size;
    first = λ booking within. first-passes lateness marks pegs end booking (risk_at old booking) (are.first booking within) (other booking);
    pieces = λ booking within. omega (arith, are.pieces booking within, sum booking, ap (λ (b : Bool). cond b (peg_at pegs end).pieces 0) (none booking));
    small = λ booking within. omega (arith, are.small booking within);
  })

  -- pieces are added to a booking
  added : (own order : ℕ) → (peg_at pegs end).need ≡ Booking own → mark_of marks (peg_at pegs end).supply ≡ Some order → AddsTo lateness own order (peg_at pegs end).pieces old new → AreRisksTo lateness marks pegs bookings (end + 1) new
  added own order need mark adds = record {
    size = adds.size ∙ are.size;
    first = λ booking within. first booking within (cases_eq booking own);
    pieces = λ booking within. pieces booking within (cases_eq booking own);
    small = λ booking within. less booking within (cases_eq booking own);
  }
    where
      first : (booking : ℕ) → booking < bookings → (booking ≡ own) ⊎ (booking ≡ own → ⊥) → IsFirstTo lateness marks pegs (end + 1) booking (risk_at new booking)
      first booking within (inl same) =
          subst (λ (b : ℕ). IsFirstTo lateness marks pegs (end + 1) b (risk_at new b)) (sym same)
          (subst (IsFirstTo lateness marks pegs (end + 1) own) (sym adds.put)
          (first-more lateness marks pegs end own (risk_at old own) order adds.risk (are.first own (omega (arith, within, same))) need mark adds.more.first))
      first booking within (inr apart) =
          subst (IsFirstTo lateness marks pegs (end + 1) booking) (sym (adds.others booking apart))
          (first-passes lateness marks pegs end booking (risk_at old booking) (are.first booking within) (λ late for has. apart (booking-is booking own (sym for ∙ need))))

      counted : (booking : ℕ) → booking ≡ own → marked_pieces marks booking (peg_at pegs end) ≡ (peg_at pegs end).pieces
      counted booking same = rw (need, mark, same, for-own own) refl

      skipped : (booking : ℕ) → (booking ≡ own → ⊥) → marked_pieces marks booking (peg_at pegs end) ≡ 0
      skipped booking apart = rw (need, for-other booking own apart) refl

      grown : (booking : ℕ) → booking ≡ own → pieces_in (risk_at new booking) ≡ pieces_in (risk_at old booking) + (peg_at pegs end).pieces
      grown booking same =
          ap (λ (b : ℕ). pieces_in (risk_at new b)) same ∙ ap pieces_in adds.put ∙ adds.more.sum
          ∙ ap (λ (b : ℕ). pieces_in (risk_at old b) + (peg_at pegs end).pieces) (sym same)

      most : (booking : ℕ) → booking ≡ own → pieces_in (risk_at new booking) ≤ pieces_in (risk_at old booking) + 2 ^ 64
      most booking same = subst (λ (b : ℕ). pieces_in (risk_at new b) ≤ pieces_in (risk_at old b) + 2 ^ 64) (sym same) (omega (arith, ap pieces_in adds.put, adds.more.small))

      pieces : (booking : ℕ) → booking < bookings → (booking ≡ own) ⊎ (booking ≡ own → ⊥) → pieces_in (risk_at new booking) ≡ sum_by (marked_pieces marks booking) (take (end + 1) pegs)
      pieces booking within (inl same) = omega (arith, grown booking same, are.pieces booking within, sum booking, counted booking same)
      pieces booking within (inr apart) = omega (arith, ap pieces_in (adds.others booking apart), are.pieces booking within, sum booking, skipped booking apart)

      less : (booking : ℕ) → booking < bookings → (booking ≡ own) ⊎ (booking ≡ own → ⊥) → pieces_in (risk_at new booking) ≤ (end + 1) * 2 ^ 64
      less booking within (inl same) = omega (arith, are.small booking within, most booking same)
      less booking within (inr apart) = omega (arith, ap pieces_in (adds.others booking apart), are.small booking within)

-- one more peg
pub risks-more : (lateness : List ℕ) (marks : List (Option ℕ)) (pegs : List Peg) (bookings end : ℕ) (old new : List (Option Risk)) → AreRisksTo lateness marks pegs bookings end old → end < length pegs
    → AddsPeg lateness (peg_at pegs end) (mark_of marks (peg_at pegs end).supply) old new → AreRisksTo lateness marks pegs bookings (end + 1) new
risks-more lateness marks pegs bookings end old new are inside adds = by (mark_of marks (peg_at pegs end).supply) refl adds
  where
    by : (mark : Option ℕ) → mark_of marks (peg_at pegs end).supply ≡ mark → AddsPeg lateness (peg_at pegs end) mark old new → AreRisksTo lateness marks pegs bookings (end + 1) new
    by None is same =
        unchanged lateness marks pegs bookings end old new are inside same
        (λ booking. and_right (is_for booking (peg_at pegs end).need) (is_some (mark_of marks (peg_at pegs end).supply)) (ap is_some is))
        (λ booking late own has. none-some late (sym is ∙ has))
    by (Some order) is adds = of (peg_at pegs end).need refl adds
      where
        of : (need : Need) → (peg_at pegs end).need ≡ need → AddsToNeed lateness need order (peg_at pegs end).pieces old new → AreRisksTo lateness marks pegs bookings (end + 1) new
        of (Booking own) for adds = added lateness marks pegs bookings end old new are inside own order for is adds
        of (Order parent) for same =
            unchanged lateness marks pegs bookings end old new are inside same (λ booking. rw for refl)
            (λ booking late own has. let clash : ◌≡◌ {A = Need} (Order parent) (Booking booking) = sym for ∙ own in absurd (cc))
        of Other for same =
            unchanged lateness marks pegs bookings end old new are inside same (λ booking. rw for refl)
            (λ booking late own has. let clash : ◌≡◌ {A = Need} Other (Booking booking) = sym for ∙ own in absurd (cc))
