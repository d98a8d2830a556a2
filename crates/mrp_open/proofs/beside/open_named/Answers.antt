use Rattle.std.proofs.Common.{ℕ, List, ap, subst}
use Rattle.std.specs.Prelude.{IfErr, IfOk}
use Rattle.mrp_open.specs.Disk.{opening_of, path_of}
use Rattle.mrp_open.specs.Ends.{FailsWithLock, IsServed}
use Rattle.mrp_open.specs.Opening.{Opening}
use Rattle.mrp_open.proofs.Ended.{served-since, untouched-since, with-lock}
use Rattle.mrp_open.proofs.beside.open_named.Goals as goal

pub returns-in-Ok-clause-served : goal.returns-in-Ok-clause-served
returns-in-Ok-clause-served g c =
    let known = g.F.FileStore.known c.args.files.now in
    let first = opening_of c.args.place.now in
    let before = opening_of c.lock.new.self in
    let opened = opening_of c.open_locked.new.place in
    let served = subst (λ (f : List ℕ). IfOk c.open_locked.result (IsServed before opened known f g.I.Read.remaining g.W.Write.contents g.E.Write.contents
    c.args.input.now c.open_locked.new.input c.args.output.now c.open_locked.new.output c.args.errors.now c.open_locked.new.errors)) c.lock.ensures.path c.open_locked.ensures.served in
    served-since before opened known (path_of c.args.place.now) g.I.Read.remaining g.W.Write.contents g.E.Write.contents
    c.args.input.now c.open_locked.new.input c.args.output.now c.open_locked.new.output c.args.errors.now c.open_locked.new.errors first c.open_locked.result
    (ap (λ (o : Opening). o.failures) c.in-Ok.ensures.told) served

pub returns-in-Ok-clause-unbegun : goal.returns-in-Ok-clause-unbegun
returns-in-Ok-clause-unbegun g c =
    let known = g.F.FileStore.known c.args.files.now in
    let first = opening_of c.args.place.now in
    let before = opening_of c.lock.new.self in
    let opened = opening_of c.open_locked.new.place in
    with-lock known (path_of c.args.place.now) before opened first c.open_locked.result (ap (λ (o : Opening). o.failures) c.in-Ok.ensures.told)
    (untouched-since first before opened c.open_locked.result c.lock.ensures.unopened c.open_locked.ensures.untouched)
    (subst (λ (f : List ℕ). IfErr c.open_locked.result (FailsWithLock before opened known f)) c.lock.ensures.path c.open_locked.ensures.unbegun)
