use Rattle.std.proofs.Common.{subst, sym}
use Rattle.mrp_book.specs.Standing.{History}
use Rattle.mrp_commands.specs.Telling.{words_of}
use Rattle.mrp_open.specs.Runs.{Handed, HandsAllMissing, handed_of}
use Rattle.mrp_open.specs.Served.{Serves, source_of, stand_of}
use Rattle.mrp_open.proofs.Runs.{runs-of, same-handed}
use Rattle.mrp_open.proofs.Told.{is-told}
use Rattle.mrp_open.proofs.beside.serve_told.Goals as goal

pub hand_over_missing-requires : goal.hand_over_missing-requires
hand_over_missing-requires g c = runs-of g.T.RunTaker.takes c.args.desk.now.tables c.entries.result.now c.entries.ensures.legal c.requires.taken

pub returns-clause-served : goal.returns-clause-served
returns-clause-served g c =
    let stand = stand_of g.S.Store.held g.S.Store.failures g.W.Write.contents in
    let source = source_of g.I.Read.remaining in
    let handed = handed_of g.T.RunTaker.told g.T.RunTaker.given in
    let old = stand c.args.desk.now c.args.journal.now c.args.output.now in
    let new = stand c.serve-end.new.desk c.serve-end.new.journal c.serve-end.new.output in
    let missing = handed c.hand_over_missing.new.taker in
    let same = same-handed (handed c.close.new.self) (handed c.serve-end.new.taker) c.close.ensures.told c.close.ensures.given in (
      missing,
      subst (λ (h : History). HandsAllMissing (g.F.FileStore.known c.args.files.now) c.args.folder.now h (handed c.args.taker.now) missing) c.entries.ensures.entries c.hand_over_missing.ensures,
      subst (λ (h : Handed). Serves (source c.args.input.now) (source c.serve-end.new.input) old new missing h c.serve-end.result) (sym same) c.serve-end.ensures,
    )

pub returns-clause-told : goal.returns-clause-told
returns-clause-told g c = is-told g.E.Write.contents c.args.errors.now c.tell.new.errors (words_of c.serve-end.result) c.tell.result c.tell.ensures.whole c.tell.ensures.front c.tell.ensures.gave_up
