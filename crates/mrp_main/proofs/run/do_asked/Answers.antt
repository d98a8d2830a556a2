use Rattle.std.proofs.Common.{◌∙◌, subst}
use Rattle.mrp_words.specs.Folder.{nothing_known}
use Rattle.mrp_words.specs.Words.{HasWorkers}
use Rattle.mrp_open.specs.Disk.{opening_of, path_of}
use Rattle.mrp_main.proofs.Done.{desk-done}
use Rattle.mrp_main.proofs.run.do_asked.Goals as goal

pub open_desk-requires-after_bounds : goal.open_desk-requires-after_bounds
open_desk-requires-after_bounds g c κs within =
    let desk = c.in-Ok-Desk-default-Some in
    subst HasWorkers desk.field-0-is (c.requires desk.field-0 desk.is)

pub returns-in-Ok-Desk-default-Some : goal.returns-in-Ok-Desk-default-Some
returns-in-Ok-Desk-default-Some g c =
    let desk = c.in-Ok-Desk-default-Some in
    desk-done nothing_known g.I.Read.remaining g.W.Write.contents g.E.Write.contents c.args.input.now c.open_desk.new.input c.args.output.now c.open_desk.new.output c.args.errors.now c.open_desk.new.errors
    c.args.asked desk.field-0 desk.workers desk.field-0-1 desk.folder (opening_of c.new-place.result) (opening_of c.open_desk.new.place) (path_of c.new-place.result) c.open_desk.result desk.is desk.field-0-is desk.field-0-1-is
    c.new-place.ensures.unopened (c.new-place.ensures.path ∙ c.deref.ensures) c.open_desk.ensures
