use Rattle.std.proofs.Common.{◌≡◌, ◌∙◌, find, Bool, Some, None, subst, sym, ap, if◌then◌else◌}
use Rattle.mrp_book.specs.declared.made.Made.{Made}
use Rattle.mrp_book.proofs.Entries.{found_at}
use Rattle.mrp_book.proofs.Numbers.{find-none, has_number}
use Rattle.mrp_book.proofs.state.BookState.find.Goals as goal

pub returns-in_err-place : goal.returns-in_err-place
returns-in_err-place c =
    subst (λ b. c.from_residual.result ≡ find (has_number c.args.number) b.standing) c.self.view_is
    (c.from_residual.ensures ∙ sym (find-none c.self.inside.made c.args.number c.in_err-place.ensures.none))

pub returns-then-made : goal.returns-then-made
returns-then-made c =
    let found = c.in_ok-place.ensures in
    let i = c.self.inside in
    let m : Made = c.at-made.result in
    subst (λ b. Some m.booking ≡ find (has_number c.args.number) b.standing) c.self.view_is
    (sym (found_at i.supply i.entries i.rows.items i.made c.self.invariant c.in_ok-place.place m found.within c.at-made.ensures c.args.number found.found
    ∙ ap (λ (v : Bool). if v then Some m.booking else None) c.if-made.true))

pub returns-else-made : goal.returns-else-made
returns-else-made c =
    let found = c.in_ok-place.ensures in
    let i = c.self.inside in
    let m : Made = c.at-made.result in
    subst (λ b. None ≡ find (has_number c.args.number) b.standing) c.self.view_is
    (sym (found_at i.supply i.entries i.rows.items i.made c.self.invariant c.in_ok-place.place m found.within c.at-made.ensures c.args.number found.found
    ∙ ap (λ (v : Bool). if v then Some m.booking else None) c.if-made.false))
