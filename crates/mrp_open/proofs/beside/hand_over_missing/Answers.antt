use Rattle.std.proofs.Common.{refl, subst}
use Rattle.std.proofs.lemmas.List.{take_all}
use Rattle.mrp_turn.specs.declared.log.Entry.{Entry}
use Rattle.mrp_book.specs.declared.call.Call.{Call}
use Rattle.mrp_book.specs.declared.reply.Reply.{Reply}
use Rattle.mrp_book.specs.Standing.{History}
use Rattle.mrp_open.specs.Runs.{Handed, HandsAllMissing, HandsMissing, handed_of}
use Rattle.mrp_open.proofs.Runs.{folds-next, run-at}
use Rattle.mrp_open.proofs.beside.hand_over_missing.Goals as goal

pub hand_missing-requires : goal.hand_missing-requires
hand_missing-requires g c = run-at g.T.RunTaker.takes c.args.entries.now c.loop-entry.entry-index c.entry-item.result c.requires c.loop-entry-test.true c.entry-item.is

pub loop-entry-init : goal.loop-entry-init
loop-entry-init g c = refl

pub loop-entry-preserved : goal.loop-entry-preserved
loop-entry-preserved g c =
    let handed = handed_of g.T.RunTaker.told g.T.RunTaker.given in
    folds-next (λ (told : Handed) (e : Entry Call Reply) (next : Handed). HandsMissing (g.F.FileStore.known c.args.files.now) c.args.folder.now e.who e.reply told next)
    (handed c.args.taker.now) (handed c.loop-entry.taker) (handed c.hand_missing.new.taker) c.args.entries.now c.loop-entry.entry-index c.entry-item.result
    c.loop-entry.invariant c.hand_missing.ensures c.loop-entry-test.true c.entry-item.is

pub returns : goal.returns
returns g c =
    let handed = handed_of g.T.RunTaker.told g.T.RunTaker.given in
    subst (λ (es : History). HandsAllMissing (g.F.FileStore.known c.args.files.now) c.args.folder.now es (handed c.args.taker.now) (handed c.loop-entry.taker))
    (take_all c.loop-entry.entry-index c.args.entries.now c.loop-entry-test.false) c.loop-entry.invariant
