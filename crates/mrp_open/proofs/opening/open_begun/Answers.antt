use Rattle.std.proofs.Common.{Option, arith, inr, subst, sym}
use Rattle.mrp_journal.specs.Held.{Becomes, Held}
use Rattle.mrp_journal.specs.Journal.{BeginsSafely}
use Rattle.mrp_open.specs.Opening.{FailsToBeginJournal, HasFailed, Opening}
use Rattle.mrp_open.proofs.Ended.{failed-behind, has-failed, passed-on, unopened-journal}
use Rattle.mrp_open.proofs.opening.open_begun.Goals as goal

pub returns-in_err-journal-clause-fails : goal.returns-in_err-journal-clause-fails
returns-in_err-journal-clause-fails g c =
    let opening = g.P.JournalPlace.opening in
    let left = g.P.JournalPlace.left in
    let found = c.args.found.now in
    let end = c.in_err-journal.field-0.0 in
    passed-on c.from_residual.result end (FailsToBeginJournal found (opening c.args.place.now) (opening c.open_journal.new.self) (left c.args.place.now) (left c.open_journal.new.self)) c.from_residual.ensures.1
    (unopened-journal found (opening c.args.place.now) (opening c.open_journal.new.self) (left c.args.place.now) (left c.open_journal.new.self) end c.in_err-journal.ensures.failed c.in_err-journal.ensures.same)

pub returns-in-Ok-clause-safe : goal.returns-in-Ok-clause-safe
returns-in-Ok-clause-safe g c =
    let found = c.args.found.now in
    let begun = g.P.Journal.Store.held c.begin_store.new.journal in
    subst (λ (h : Option Held). Becomes (BeginsSafely found.script.items found.header.now) h begun) c.in_ok-journal.ensures.left c.begin_store.ensures.safe

pub returns-in-Err-clause-fails : goal.returns-in-Err-clause-fails
returns-in-Err-clause-fails g c =
    let opening = g.P.JournalPlace.opening in
    let found = c.args.found.now in
    let opened = opening c.open_journal.new.self in
    let counted = opening c.count_failed.new.self in
    let begins = λ (before after : Option Held). Becomes (BeginsSafely found.script.items found.header.now) before after in
    let failed : HasFailed (opening c.args.place.now) counted = failed-behind (opening c.args.place.now) opened counted c.in_ok-journal.ensures.opened (has-failed opened counted c.count_failed.ensures) in
    let safe = subst (λ (h : Option Held). begins h (g.P.Journal.Store.held c.begin_store.new.journal)) c.in_ok-journal.ensures.left c.begin_store.ensures.safe in
    inr (
      c.in-Err.ensures.write.0,
      subst (λ (o : Opening). HasFailed (opening c.args.place.now) o) (sym c.take_back.ensures.same) failed,
      inr (subst (λ (h : Option Held). begins (g.P.JournalPlace.left c.args.place.now) h) (sym c.take_back.ensures.left) safe),
    )

pub count_failed-requires : goal.count_failed-requires
count_failed-requires g c = omega (arith, c.in-Err.ensures.write.1)
