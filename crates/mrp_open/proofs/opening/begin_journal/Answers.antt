use Rattle.std.proofs.Common.{Option, inr, subst, sym}
use Rattle.mrp_journal.specs.Held.{Becomes, Held}
use Rattle.mrp_journal.specs.Journal.{BeginsSafely}
use Rattle.mrp_open.specs.Opening.{FailsToBeginJournal, HasFailed, Opening}
use Rattle.mrp_open.proofs.Ended.{failed-behind, passed-on}
use Rattle.mrp_open.proofs.opening.begin_journal.Goals as goal

pub returns-in_err-journal-clause-fails : goal.returns-in_err-journal-clause-fails
returns-in_err-journal-clause-fails g c =
    let opening = g.P.JournalPlace.opening in
    let left = g.P.JournalPlace.left in
    let place = c.open_begun.new.place in
    passed-on c.from_residual.result c.in_err-journal.field-0.0 (FailsToBeginJournal c.args.found.now (opening c.args.place.now) (opening place) (left c.args.place.now) (left place)) c.from_residual.ensures.1
    c.in_err-journal.ensures.fails

pub returns-in-Err-clause-fails : goal.returns-in-Err-clause-fails
returns-in-Err-clause-fails g c =
    let opening = g.P.JournalPlace.opening in
    let found = c.args.found.now in
    let opened = opening c.open_begun.new.place in
    let named = opening c.sync_names.new.self in
    let failed : HasFailed (opening c.args.place.now) named = failed-behind (opening c.args.place.now) opened named c.in_ok-journal.ensures.opened c.in-Err.ensures.failed.1 in
    inr (
      c.in-Err.ensures.failed.0,
      subst (λ (o : Opening). HasFailed (opening c.args.place.now) o) (sym c.take_back.ensures.same) failed,
      inr (subst (λ (h : Option Held). Becomes (BeginsSafely found.script.items found.header.now) (g.P.JournalPlace.left c.args.place.now) h) (sym c.take_back.ensures.left) c.in_ok-journal.ensures.safe),
    )
