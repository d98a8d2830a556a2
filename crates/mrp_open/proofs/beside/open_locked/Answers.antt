use Rattle.std.proofs.Common.{◌∙◌, ℕ, List, refl, inr, subst}
use Rattle.mrp_open.specs.Disk.{opening_of, path_of}
use Rattle.mrp_open.specs.Ends.{FailsWithLock}
use Rattle.mrp_open.specs.Opening.{IsUntouched}
use Rattle.mrp_open.specs.Start.{FailsToOpen, IsPrepared}
use Rattle.mrp_open.proofs.Ended.{is-served, not-begun, not-opened, passed-on}
use Rattle.mrp_open.proofs.beside.open_locked.Goals as goal

pub returns-in_err-prepared-clause-unbegun : goal.returns-in_err-prepared-clause-unbegun
returns-in_err-prepared-clause-unbegun g c =
    let known = g.F.FileStore.known c.args.files.now in
    let folder = path_of c.args.place.now in
    let opened = opening_of c.args.place.now in
    let end = c.in_err-prepared.field-0.0 in
    passed-on c.from_residual.result end (FailsWithLock opened opened known folder) c.from_residual.ensures.1
    (not-opened known folder opened opened end c.requires.held (subst (λ (f : List ℕ). FailsToOpen known f end) c.path-folder.ensures c.in_err-prepared.ensures.unopened))

pub returns-in_err-prepared-clause-untouched : goal.returns-in_err-prepared-clause-untouched
returns-in_err-prepared-clause-untouched g c =
    let opened = opening_of c.args.place.now in
    passed-on c.from_residual.result c.in_err-prepared.field-0.0 (IsUntouched opened opened) c.from_residual.ensures.1 (inr refl)

pub returns-clause-served : goal.returns-clause-served
returns-clause-served g c =
    let known = g.F.FileStore.known c.args.files.now in
    let prepared = c.in_ok-prepared.prepared in
    is-served (opening_of c.args.place.now) (opening_of c.open_prepared.new.place) known (path_of c.args.place.now) g.I.Read.remaining g.W.Write.contents g.E.Write.contents
    c.args.input.now c.open_prepared.new.input c.args.output.now c.open_prepared.new.output c.args.errors.now c.open_prepared.new.errors
    prepared.found prepared.rows.value.tables c.open_prepared.result (c.open_prepared.ensures.held ∙ c.requires.held) c.open_prepared.ensures.lasts
    (subst (λ (f : List ℕ). IsPrepared known f prepared.found prepared.rows.value.tables) c.path-folder.ensures c.in_ok-prepared.ensures.prepared) c.open_prepared.ensures.served c.open_prepared.ensures.fails

pub returns-clause-unbegun : goal.returns-clause-unbegun
returns-clause-unbegun g c =
    let known = g.F.FileStore.known c.args.files.now in
    let prepared = c.in_ok-prepared.prepared in
    not-begun known (path_of c.args.place.now) (opening_of c.args.place.now) (opening_of c.open_prepared.new.place) prepared.found prepared.rows.value.tables c.open_prepared.result
    (c.open_prepared.ensures.held ∙ c.requires.held) (subst (λ (f : List ℕ). IsPrepared known f prepared.found prepared.rows.value.tables) c.path-folder.ensures c.in_ok-prepared.ensures.prepared)
    c.open_prepared.ensures.unbegun
