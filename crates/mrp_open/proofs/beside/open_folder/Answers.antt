use Rattle.std.proofs.Common.{List, ℕ, inl, inr, refl, subst}
use Rattle.std.specs.Prelude.{IfErr, IfOk}
use Rattle.mrp_open.specs.Disk.{opening_of, path_of}
use Rattle.mrp_open.specs.Ends.{FailsToStart, IsServed}
use Rattle.mrp_open.specs.Opening.{Opening}
use Rattle.mrp_open.proofs.Ended.{starts-since}
use Rattle.mrp_open.proofs.beside.open_folder.Goals as goal

pub returns-in-Ok-clause-served : goal.returns-in-Ok-clause-served
returns-in-Ok-clause-served g c =
    let known = g.F.FileStore.known c.args.files.now in
    let opened = opening_of c.open_named-end.new.place in
    let served = λ (before : Opening) (f : List ℕ). IfOk c.open_named-end.result (IsServed before opened known f g.I.Read.remaining g.W.Write.contents g.E.Write.contents
    c.args.input.now c.open_named-end.new.input c.args.output.now c.open_named-end.new.output c.args.errors.now c.open_named-end.new.errors) in
    subst (λ (before : Opening). served before (path_of c.args.place.now)) c.in-Ok.ensures.sound
    (subst (λ (f : List ℕ). served (opening_of c.hold_streams.new.self) f) c.hold_streams.ensures.path c.open_named-end.ensures.served)

pub returns-in-Ok-clause-unbegun : goal.returns-in-Ok-clause-unbegun
returns-in-Ok-clause-unbegun g c =
    let known = g.F.FileStore.known c.args.files.now in
    let first = opening_of c.args.place.now in
    let opened = opening_of c.open_named-end.new.place in
    let held = c.hold_streams.new.self in
    subst (λ (f : List ℕ). IfErr c.open_named-end.result (FailsToStart first opened known f)) c.hold_streams.ensures.path
    (starts-since known (path_of held) first (opening_of held) opened c.open_named-end.result c.in-Ok.ensures.sound c.open_named-end.ensures.unbegun)

pub returns-in-Err-clause-unbegun : goal.returns-in-Err-clause-unbegun
returns-in-Err-clause-unbegun g c = record { untouched = inr c.hold_streams.ensures.unopened; fails = inl (inr (refl, c.in-Err.ensures.failed)) }
