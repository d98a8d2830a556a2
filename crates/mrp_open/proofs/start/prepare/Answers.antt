use Rattle.std.proofs.Common.{ℕ, List, Result, Ok, Err, ap, inl, subst}
use Rattle.std.specs.Prelude.{IfErr}
use Rattle.mrp_words.specs.Folder.{Known}
use Rattle.mrp_commands.specs.declared.ending.Ending.{Ending}
use Rattle.mrp_open.specs.Start.{FailsToOpen, HasFound, TellsRefused}
use Rattle.mrp_open.specs.declared.finding.Found.{Found}
use Rattle.mrp_open.proofs.Starting.{fails-read}
use Rattle.mrp_open.proofs.start.prepare.Goals as goal

-- a folder's bundle was refused
unopened : {X : Type 0} (known : Known) (folder : List ℕ) (found : Found) (bundle : List ℕ) (r : Result X Ending) → HasFound known folder found bundle → IfErr r (TellsRefused bundle) → IfErr r (FailsToOpen known folder)
unopened known folder found bundle (Ok x) has tells = tt
unopened known folder found bundle (Err e) has tells = inl (found, bundle, has, tells)

pub returns-in-Ok-clause-unopened : goal.returns-in-Ok-clause-unopened
returns-in-Ok-clause-unopened g c =
    unopened (g.F.FileStore.known c.args.files.now) c.args.folder.now c.in-Ok.found c.in-Ok.bundle.items c.open_found.result c.in-Ok.ensures.found
    (subst (λ (b : List ℕ). IfErr c.open_found.result (TellsRefused b)) c.deref.ensures.value c.open_found.ensures.refused)

pub returns-in-Err-clause-unopened : goal.returns-in-Err-clause-unopened
returns-in-Err-clause-unopened g c =
    fails-read (g.F.FileStore.known c.args.files.now) c.args.folder.now c.in-Err.fault c.of_read.result c.of_read.ensures (λ e. c.in-Err.ensures.past (ap Err e))
