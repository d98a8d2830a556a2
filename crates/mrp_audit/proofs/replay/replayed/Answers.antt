use Rattle.std.proofs.Common.{subst, sym}
use Rattle.std.proofs.lemmas.List.Elements.{All-get_or}
use Rattle.std.specs.List.{slice_index_or}
use Rattle.mrp_master.specs.Supply.{Supply, supply_of}
use Rattle.mrp_book.specs.History.{Fits}
use Rattle.mrp_audit.specs.Replays.{IsTaken}
use Rattle.mrp_audit.proofs.replay.replayed.Goals as goal

pub answer-requires-clause-fits : goal.answer-requires-clause-fits
answer-requires-clause-fits c =
    let taken = All-get_or (IsTaken (supply_of c.args.shop.now.tables)) c.args.script.now c.in-Some.place c.index-script-place-in-loop.result c.in-Some.ensures c.requires.taken in
    subst (λ (s : Supply). Fits s (slice_index_or c.args.script.now c.in-Some.place c.index-script-place-in-loop.result).1) (sym c.loop.invariant.0) taken.fits
