use Rattle.std.proofs.Common.{◌≡◌, ◌∙◌, ◌+◌, ◌-◌, ◌/◌, ◌<◌, ℕ, length, ap, sym, arith}
use Rattle.std.proofs.lemmas.List.{get_or_default}
use Rattle.mrp_book.specs.declared.made.Made.{Made}
use Rattle.mrp_book.proofs.Numbers.{less_up_to, more_from, none_between, nothing_made, number_at}
use Rattle.mrp_book.proofs.made.MadeList.place_of.Goals as goal
use Rattle.mrp_book.proofs.made.MadeList.place_of.Goals.{After-at-found}

abbrev middle : After-at-found → ℕ
middle c = c.loop-first.first + (c.loop-first.end - c.loop-first.first) / 2

inside : (c : After-at-found) → middle c < length c.args.self.now
inside c = omega arith

found_is : (c : After-at-found) → number_at c.args.self.now (middle c) ≡ c.at-found.result.booking.number
found_is c = ap (λ (m : Made). m.booking.number) (get_or_default c.args.self.now (middle c) nothing_made c.at-found.result (inside c) ∙ sym c.at-found.ensures)

pub loop-first-preserved-then-found-number-2 : goal.loop-first-preserved-then-found-number-2
loop-first-preserved-then-found-number-2 c =
    let f = (goal.at.loop-first-preserved-then-found-number-2 c).After-at-found in
    record {
      order = omega arith;
      within = c.loop-first.invariant.within;
      less = less_up_to c.args.self.now c.requires c.args.number (middle f) (inside f) (omega (arith, found_is f));
      more = c.loop-first.invariant.more;
    }

pub loop-first-preserved : goal.loop-first-preserved
loop-first-preserved c =
    let f = (goal.at.loop-first-preserved c).After-at-found in
    record {
      order = omega arith;
      within = omega arith;
      less = c.loop-first.invariant.less;
      more = more_from c.args.self.now c.requires c.args.number (middle f) (omega (arith, found_is f));
    }

pub returns-clause-none : goal.returns-clause-none
returns-clause-none c =
    none_between c.args.self.now c.args.number c.loop-first.first c.loop-first.invariant.less (λ i after h. c.loop-first.invariant.more i (omega arith) h)
