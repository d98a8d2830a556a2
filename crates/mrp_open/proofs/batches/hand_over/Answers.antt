use Rattle.std.proofs.Common.{refl, subst}
use Rattle.std.proofs.lemmas.List.{take_all}
use Rattle.mrp_turn.specs.declared.log.Entry.{Entry}
use Rattle.mrp_book.specs.declared.call.Call.{Call}
use Rattle.mrp_book.specs.declared.reply.Reply.{Reply}
use Rattle.mrp_book.specs.Standing.{History}
use Rattle.mrp_open.specs.Runs.{Handed, HandsOver, HandsOverAll, handed_of}
use Rattle.mrp_open.proofs.Runs.{folds-next, run-at}
use Rattle.mrp_open.proofs.batches.hand_over.Goals as goal

pub hand_entry-requires : goal.hand_entry-requires
hand_entry-requires g c = run-at g.T.RunTaker.takes c.args.entries.now c.loop-entry.entry-index c.entry-item.result c.requires c.loop-entry-test.true c.entry-item.is

pub loop-entry-init : goal.loop-entry-init
loop-entry-init g c = refl

pub loop-entry-preserved : goal.loop-entry-preserved
loop-entry-preserved g c =
    let told = g.T.RunTaker.told in
    let given = g.T.RunTaker.given in
    folds-next (λ (handed : Handed) (e : Entry Call Reply) (next : Handed). HandsOver e.who e.reply handed next)
    (handed_of told given c.args.taker.now) (handed_of told given c.loop-entry.taker) (handed_of told given c.hand_entry.new.taker) c.args.entries.now c.loop-entry.entry-index c.entry-item.result
    c.loop-entry.invariant c.hand_entry.ensures c.loop-entry-test.true c.entry-item.is

pub returns : goal.returns
returns g c =
    let told = g.T.RunTaker.told in
    let given = g.T.RunTaker.given in
    subst (λ (es : History). HandsOverAll es (handed_of told given c.args.taker.now) (handed_of told given c.loop-entry.taker))
    (take_all c.loop-entry.entry-index c.args.entries.now c.loop-entry-test.false) c.loop-entry.invariant
