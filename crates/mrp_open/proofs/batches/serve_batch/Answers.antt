use Rattle.std.proofs.Common.{◌≡◌, ◌≢◌, ℕ, List, [], Option, Some, None, Err, ap, refl, subst}
use Rattle.std.specs.Prelude.{MatchOption}
use Rattle.mrp_intake.specs.Intake.{BringsKnown, Taken}
use Rattle.mrp_intake.specs.Lines.{told_lines}
use Rattle.mrp_intake.proofs.ToldLines.{told-some}
use Rattle.mrp_commands.specs.declared.ending.Ending.{Ending}
use Rattle.mrp_open.specs.Runs.{Handed, handed_of}
use Rattle.mrp_open.specs.Served.{Advances, Fails, SettlesRuns, Source, Stand, StopsAt, source_of, stand_of}
use Rattle.mrp_open.proofs.Settled.{advances-batch, stops-batch, stops-done, stops-read}
use Rattle.mrp_open.proofs.batches.serve_batch.Goals as goal

-- a batch was settled, or not
batch : (why : Option Ending) (old_intake new_intake : Taken) (lines : List ℕ) (given left : Source) (old new : Stand) (h1 h2 : Handed) → lines ≡ new_intake.batch
    → BringsKnown old_intake new_intake given.left left.left → left.failures ≡ given.failures → new_intake.batch ≢ []
    → MatchOption why (SettlesRuns (told_lines lines) old new h1 h2) (λ end. Fails (told_lines lines) old new end × (h2 ≡ h1))
    → MatchOption why (Advances old_intake.begun given new_intake.begun left old new h1 h2) (λ end. StopsAt old_intake.begun given left old new end × (h2 ≡ h1))
batch None old_intake new_intake lines given left old new h1 h2 is brings heard some s =
    advances-batch old_intake new_intake given left old new h1 h2 brings heard (subst (λ (l : List ℕ). SettlesRuns (told_lines l) old new h1 h2) is s)
batch (Some end) old_intake new_intake lines given left old new h1 h2 is brings heard some (fails, same) =
    (stops-batch old_intake new_intake given left old new end brings heard (told-some new_intake.batch some) (subst (λ (l : List ℕ). Fails (told_lines l) old new end) is fails), same)

pub returns-in-Ok-true-clause-advances : goal.returns-in-Ok-true-clause-advances
returns-in-Ok-true-clause-advances g c =
    let stand = stand_of g.S.Store.held g.S.Store.failures g.W.Write.contents in
    let handed = handed_of g.T.RunTaker.told g.T.RunTaker.given in
    let is = c.in-Ok-true.is in
    let test = c.in-Ok-true.field-0-test in
    batch c.settle_batch.result c.args.intake.now c.next_batch.new.self c.batch.result.now (source_of g.R.Read.remaining c.args.input.now) (source_of g.R.Read.remaining c.next_batch.new.reader)
    (stand c.args.desk.now c.args.journal.now c.args.output.now) (stand c.settle_batch.new.desk c.settle_batch.new.journal c.settle_batch.new.output)
    (handed c.args.taker.now) (handed c.settle_batch.new.taker) c.batch.ensures c.in-Ok-true.ensures.brings c.in-Ok-true.ensures.failures (c.next_batch.ensures.some (cc)) c.settle_batch.ensures

pub returns-in-Ok-true-clause-one : goal.returns-in-Ok-true-clause-one
returns-in-Ok-true-clause-one g c settled =
    let is = c.in-Ok-true.is in
    let test = c.in-Ok-true.field-0-test in
    c.next_batch.ensures.one (cc)

pub returns-in-Ok-false-clause-advances : goal.returns-in-Ok-false-clause-advances
returns-in-Ok-false-clause-advances g c =
    let old = stand_of g.S.Store.held g.S.Store.failures g.W.Write.contents c.args.desk.now c.args.journal.now c.args.output.now in
    let is = c.in-Ok-false.is in
    let test = c.in-Ok-false.field-0-test in
    let end = c.next_batch.ensures.end (cc) in (
      stops-done c.args.intake.now c.next_batch.new.self (source_of g.R.Read.remaining c.args.input.now) (source_of g.R.Read.remaining c.next_batch.new.reader) old
          c.in-Ok-false.ensures.brings end.0 end.1 end.2 c.in-Ok-false.ensures.failures,
      refl,
    )

pub returns-in-Err-clause-advances : goal.returns-in-Err-clause-advances
returns-in-Err-clause-advances g c =
    let old = stand_of g.S.Store.held g.S.Store.failures g.W.Write.contents c.args.desk.now c.args.journal.now c.args.output.now in
    let fault = c.in-Err.fault in
    let end = c.of_read.result in (
      stops-read c.args.intake.now.begun (source_of g.R.Read.remaining c.args.input.now) (source_of g.R.Read.remaining c.next_batch.new.reader) old fault end c.of_read.ensures
          (λ is. c.in-Err.ensures.refused (ap Err is)) (λ is. c.in-Err.ensures.memory (ap Err is)) (λ is. c.in-Err.ensures.left (ap Err is)),
      refl,
    )
