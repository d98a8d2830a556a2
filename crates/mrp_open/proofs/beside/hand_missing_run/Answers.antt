use Rattle.std.proofs.Common.{ℕ, Bool, false, subst}
use Rattle.std.specs.Path.{path_join}
use Rattle.mrp_words.specs.Folder.{IsThere}
use Rattle.mrp_runs.specs.File.{run_name}
use Rattle.mrp_runs.specs.declared.run.Run.{Run}
use Rattle.mrp_open.specs.Runs.{handed_of}
use Rattle.mrp_open.proofs.Runs.{handed-missing}
use Rattle.mrp_open.proofs.beside.hand_missing_run.Goals as goal

pub returns-in-Ok-false : goal.returns-in-Ok-false
returns-in-Ok-false g c =
    let known = g.F.FileStore.known c.args.files.now in
    let handed = handed_of g.T.RunTaker.told g.T.RunTaker.given in
    let path = λ (front : ℕ). path_join c.args.folder.now (run_name front) in
    let front = c.args.snapshot.now.front in
    let looked : IsThere known (path c.front.result) false = subst (λ (b : Bool). IsThere known (path c.front.result) b) c.in-Ok-false.field-0-test c.in-Ok-false.ensures in
    let absent : IsThere known (path front) false = subst (λ (n : ℕ). IsThere known (path n) false) c.front.ensures looked in
    let run : Run = record { desk = c.args.desk; snapshot = c.args.snapshot.now } in
    handed-missing known (path front) run (handed c.args.taker.now) (handed c.hand_run.new.taker) absent c.hand_run.ensures
