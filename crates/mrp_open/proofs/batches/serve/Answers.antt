use Rattle.std.proofs.Common.{◌≡◌, ℕ, List, [], ap, subst, sym}
use Rattle.mrp_tables.specs.Tables.{Tables}
use Rattle.mrp_intake.specs.Intake.{Taken}
use Rattle.mrp_runs.specs.File.{IsRun}
use Rattle.mrp_open.specs.Runs.{Handed, handed_of}
use Rattle.mrp_open.specs.Served.{Advances, Serves, source_of, stand_of}
use Rattle.mrp_open.proofs.Settled.{advances-both, advances-durable, advances-none, advances-tables, serves}
use Rattle.mrp_open.proofs.batches.serve.Goals as goal

pub serve_batch-requires-clause-taken : goal.serve_batch-requires-clause-taken
serve_batch-requires-clause-taken g c =
    let stand = stand_of g.S.Store.held g.S.Store.failures g.W.Write.contents in
    let handed = handed_of g.T.RunTaker.told g.T.RunTaker.given in
    let same = advances-tables [] c.loop.intake.begun (source_of g.R.Read.remaining c.args.input.now) (source_of g.R.Read.remaining c.loop.input)
    (stand c.args.desk.now c.args.journal.now c.args.output.now) (stand c.loop.desk c.loop.journal c.loop.output) (handed c.args.taker.now) (handed c.loop.taker) c.loop.invariant in
    λ run is. c.requires.taken run (subst (λ (t : Tables). IsRun t run) same is)

pub serve_batch-requires-clause-settled : goal.serve_batch-requires-clause-settled
serve_batch-requires-clause-settled g c =
    let stand = stand_of g.S.Store.held g.S.Store.failures g.W.Write.contents in
    let handed = handed_of g.T.RunTaker.told g.T.RunTaker.given in
    advances-durable [] c.loop.intake.begun (source_of g.R.Read.remaining c.args.input.now) (source_of g.R.Read.remaining c.loop.input)
    (stand c.args.desk.now c.args.journal.now c.args.output.now) (stand c.loop.desk c.loop.journal c.loop.output) (handed c.args.taker.now) (handed c.loop.taker) c.loop.invariant

pub loop-init : goal.loop-init
loop-init g c =
    let old = stand_of g.S.Store.held g.S.Store.failures g.W.Write.contents c.args.desk.now c.args.journal.now c.args.output.now in
    let handed = handed_of g.T.RunTaker.told g.T.RunTaker.given c.args.taker.now in
    let given = source_of g.R.Read.remaining c.args.input.now in
    let none : [] ≡ c.new-intake.result.begun = ap (λ (t : Taken). t.begun) (sym c.new-intake.ensures) in
    subst (λ (b : List ℕ). Advances [] given b given old old handed handed) none (advances-none given old handed c.requires.settled)

pub loop-preserved : goal.loop-preserved
loop-preserved g c =
    let stand = stand_of g.S.Store.held g.S.Store.failures g.W.Write.contents in
    let source = source_of g.R.Read.remaining in
    let handed = handed_of g.T.RunTaker.told g.T.RunTaker.given in
    advances-both [] c.loop.intake.begun c.serve_batch.new.intake.begun (source c.args.input.now) (source c.loop.input) (source c.serve_batch.new.input)
    (stand c.args.desk.now c.args.journal.now c.args.output.now) (stand c.loop.desk c.loop.journal c.loop.output) (stand c.serve_batch.new.desk c.serve_batch.new.journal c.serve_batch.new.output)
    (handed c.args.taker.now) (handed c.loop.taker) (handed c.serve_batch.new.taker) c.loop.invariant c.in-None-serve_batch.ensures.advances

pub returns-in-Some-serve_batch : goal.returns-in-Some-serve_batch
returns-in-Some-serve_batch g c =
    let stand = stand_of g.S.Store.held g.S.Store.failures g.W.Write.contents in
    let source = source_of g.R.Read.remaining in
    let handed = handed_of g.T.RunTaker.told g.T.RunTaker.given in
    let old = stand c.args.desk.now c.args.journal.now c.args.output.now in
    let now = stand c.loop.desk c.loop.journal c.loop.output in
    let new = stand c.serve_batch.new.desk c.serve_batch.new.journal c.serve_batch.new.output in
    let end = c.in-Some-serve_batch.end in
    subst (λ (h : Handed). Serves (source c.args.input.now) (source c.serve_batch.new.input) old new (handed c.args.taker.now) h end) (sym c.in-Some-serve_batch.ensures.advances.1)
    (serves (source c.args.input.now) (source c.loop.input) (source c.serve_batch.new.input) c.loop.intake.begun old now new (handed c.args.taker.now) (handed c.loop.taker) end
    c.loop.invariant c.in-Some-serve_batch.ensures.advances.0)
