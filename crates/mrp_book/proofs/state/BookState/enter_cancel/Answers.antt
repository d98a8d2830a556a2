use Rattle.std.specs.Prelude.{find, is_some}
use Rattle.std.proofs.Common.{◌≡◌, ◌∙◌, ◌+◌, ◌<◌, ℕ, List, true, false, ap, get_or, set, subst, sym, arith}
use Rattle.mrp_book.specs.declared.booking.Booking.{Booking}
use Rattle.mrp_book.specs.declared.call.Call.TheVariants as call
use Rattle.mrp_book.specs.declared.made.Made.{Made}
use Rattle.mrp_book.specs.declared.reply.Reply.TheVariants as reply
use Rattle.mrp_book.specs.BookState.{BookState}
use Rattle.mrp_book.specs.History.{state_after}
use Rattle.mrp_book.specs.Made.{KeepsState, standing_of}
use Rattle.mrp_book.proofs.Entries.{cancel_leaves, cancel_lines, give_booked, give_week, keeps_cancel, row_inside, stands_if_found}
use Rattle.mrp_book.proofs.Numbers.{find-none, has_number}
use Rattle.mrp_book.proofs.state.BookState.enter_cancel.Goals as goal
use Rattle.mrp_book.proofs.state.BookState.enter_cancel.Goals.{After-cancel-line, After-index_mut}

pub unreachable-requires : goal.unreachable-requires
unreachable-requires c =
    let made : List Made = c.self.inside.made in
    let some : is_some (find (has_number c.args.number) (standing_of made)) ≡ true = subst (λ b. is_some (find (has_number c.args.number) b.standing) ≡ true) (sym c.self.view_is) c.requires.stands in
    let bad = sym (ap is_some (find-none made c.args.number c.in_default.ensures.none)) ∙ some in
    cc

-- the booking that was found stands
stands : (c : After-cancel-line) → c.cancel-line.result.stands ≡ true
stands c =
    let i = c.self.inside in
    let found = c.in-Some.ensures in
    let some : is_some (find (has_number c.args.number) (standing_of i.made)) ≡ true = subst (λ b. is_some (find (has_number c.args.number) b.standing) ≡ true) (sym c.self.view_is) c.requires.stands in
    stands_if_found i.supply i.entries i.rows.items i.made c.self.invariant c.in-Some.place c.cancel-line.result found.within c.cancel-line.ensures.was c.args.number found.found some

-- the row that is found is the item's
row_at : (c : After-index_mut) → c.index_mut.result.now ≡ get_or c.self.inside.rows.items c.cancel-line.result.booking.line.item c.index_mut.result.now
row_at c = subst (λ (x : ℕ). c.index_mut.result.now ≡ get_or c.self.inside.rows.items x c.index_mut.result.now) c.item.ensures c.index_mut.ensures.value

pub index_mut-requires : goal.index_mut-requires
index_mut-requires c =
    let i = c.self.inside in
    let m : Made = c.cancel-line.result in
    let before = (goal.at.index_mut-requires c).After-cancel-line in
    omega (arith, i.rows.ok.0, c.item.ensures, row_inside i.supply i.entries i.rows.items i.made c.self.invariant m.booking.line.item (cancel_lines i.supply i.entries i.rows.items i.made c.self.invariant c.in-Some.place m c.in-Some.ensures.within c.cancel-line.ensures.was (stands before)).item)

pub give-requires-clause-week : goal.give-requires-clause-week
give-requires-clause-week c =
    let i = c.self.inside in
    let before = (goal.at.give-requires-clause-week c).After-cancel-line in
    give_week i.supply i.entries i.rows.items i.made c.self.invariant c.in-Some.place c.cancel-line.result c.in-Some.ensures.within c.cancel-line.ensures.was (stands before) c.index_mut.result.now (row_at (goal.at.give-requires-clause-week c).After-index_mut)

pub give-requires-clause-booked : goal.give-requires-clause-booked
give-requires-clause-booked c =
    let i = c.self.inside in
    let before = (goal.at.give-requires-clause-booked c).After-cancel-line in
    give_booked i.supply i.entries i.rows.items i.made c.self.invariant c.in-Some.place c.cancel-line.result c.in-Some.ensures.within c.cancel-line.ensures.was (stands before) c.index_mut.result.now (row_at (goal.at.give-requires-clause-booked c).After-index_mut)

pub invariant_of-self : goal.invariant_of-self
invariant_of-self c =
    let i = c.self.inside in
    let before = (goal.at.invariant_of-self c).After-cancel-line in
    let few : i.entries < 1000000 = subst (λ b. b.entries < 1000000) (sym c.self.view_is) c.requires.few in
    subst (λ (xs : List Made). KeepsState i.supply (i.entries + 1) (set i.rows.items c.item.result c.give.new.row) xs) (sym c.cancel-line.ensures.after)
    (subst (λ (x : ℕ). KeepsState i.supply (i.entries + 1) (set i.rows.items x c.give.new.row) (set i.made c.in-Some.place (record { booking = c.cancel-line.result.booking; stands = false }))) (sym c.item.ensures)
    (keeps_cancel i.supply i.entries i.rows.items i.made c.self.invariant c.in-Some.place c.cancel-line.result c.in-Some.ensures.within c.cancel-line.ensures.was (stands before) few c.index_mut.result.now c.give.new.row (row_at (goal.at.invariant_of-self c).After-index_mut) c.give.ensures))

pub returns : goal.returns
returns c = λ desk.
    let i = c.self.inside in
    let left : List Booking → BookState = λ (x : List Booking). record { supply = i.supply; entries = i.entries + 1; standing = x } in
    ap left (ap standing_of c.cancel-line.ensures.after ∙ cancel_leaves i.supply i.entries i.rows.items i.made c.self.invariant c.in-Some.place c.cancel-line.result c.in-Some.ensures.within c.cancel-line.ensures.was c.args.number c.in-Some.ensures.found)
    ∙ ap (λ (b : BookState). state_after b desk (call.Cancel c.args.number) reply.Cancelled) c.self.view_is
