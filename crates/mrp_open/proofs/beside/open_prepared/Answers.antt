use Rattle.std.proofs.Common.{◌≡◌, ◌∙◌, ◌⊎◌, ◌<◌, ℕ, ◌+◌, List, Option, ap, subst, sym}
use Rattle.std.specs.declared.fs.File.{File}
use Rattle.mrp_tables.specs.Tables.{Tables}
use Rattle.mrp_journal.specs.File.{failures_told}
use Rattle.mrp_journal.specs.declared.file.JournalFile.{JournalFile}
use Rattle.mrp_folder.specs.Sealed.{failures_of_sealed, journal_of}
use Rattle.mrp_folder.specs.declared.sealing.SealedJournal.{SealedJournal}
use Rattle.mrp_runs.specs.File.{IsRun}
use Rattle.mrp_open.specs.Disk.{opening_of, path_of}
use Rattle.mrp_open.specs.Ends.{FailsToBegin, ServesPrepared, TellsEnd, on_disk}
use Rattle.mrp_rows.specs.Told.{failures_of}
use Rattle.mrp_open.specs.Opening.{FailsToAnswer, IsUntouched, Opening}
use Rattle.mrp_open.specs.Runs.{unknown}
use Rattle.mrp_open.specs.Served.{source_of}
use Rattle.mrp_open.proofs.Ended.{passed-on, why-since}
use Rattle.mrp_open.proofs.Settled.{broke}
use Rattle.mrp_open.proofs.beside.open_prepared.Goals as goal

pub returns-in_err-begun-clause-unbegun : goal.returns-in_err-begun-clause-unbegun
returns-in_err-begun-clause-unbegun g c =
    let prepared = c.args.prepared.now in
    let end = c.in_err-begun.field-0.0 in
    let fails = λ (folder : List ℕ).
    FailsToBegin (opening_of c.args.place.now) (opening_of c.begin_desk.new.place) (g.F.FileStore.known c.args.files.now) folder prepared.found prepared.rows.value.tables in
    passed-on c.from_residual.result end (fails (path_of c.args.place.now)) c.from_residual.ensures.1 (subst (λ (folder : List ℕ). fails folder end) c.path-folder.ensures c.in_err-begun.ensures.unbegun)

pub returns-in_err-begun-clause-untouched : goal.returns-in_err-begun-clause-untouched
returns-in_err-begun-clause-untouched g c =
    passed-on c.from_residual.result c.in_err-begun.field-0.0 (IsUntouched (opening_of c.args.place.now) (opening_of c.begin_desk.new.place)) c.from_residual.ensures.1 c.in_err-begun.ensures.untouched

pub serve_begun-end-requires-clause-given : goal.serve_begun-end-requires-clause-given
serve_begun-end-requires-clause-given g c lifetimes lives run is = subst (λ (t : Tables). IsRun t run) (sym c.in_ok-begun.ensures.maker) (c.requires.given run is)

pub serve_begun-end-requires-clause-taken : goal.serve_begun-end-requires-clause-taken
serve_begun-end-requires-clause-taken g c lifetimes lives run is = c.requires.taken run (subst (λ (t : Tables). IsRun t run) c.in_ok-begun.ensures.desk.tables_are is)

-- how many calls of a journal of the operating system failed, with those that put its seal there
abbrev failures_in : {D : Type 0} → SealedJournal (JournalFile File) D → ℕ
failures_in journal = failures_of_sealed journal + failures_told (journal_of journal)

pub returns-clause-served : goal.returns-clause-served
returns-clause-served g c =
    let prepared = c.args.prepared.now in
    let serves = λ (folder : List ℕ). ServesPrepared (g.F.FileStore.known c.args.files.now) folder prepared.found prepared.rows.value.tables g.I.Read.remaining g.W.Write.contents g.E.Write.contents
    c.args.input.now c.serve_begun-end.new.input c.args.output.now c.serve_begun-end.new.output c.args.errors.now c.serve_begun-end.new.errors c.serve_begun-end.result in
    subst serves c.path-folder.ensures (record {
      takes = c.in_ok-begun.ensures.takes;
      old = c.in_ok-begun.begun.desk;
      new = c.serve_begun-end.new.begun.desk;
      sound = failures_in c.in_ok-begun.begun.journal;
      failed = failures_in c.serve_begun-end.new.begun.journal;
      answers = c.in_ok-begun.ensures.desk;
      unchanged = c.in_ok-begun.ensures.unchanged;
      serves = c.serve_begun-end.ensures.served;
      tells = subst (λ (n : Option ℕ). TellsEnd g.E.Write.contents c.args.errors.now c.serve_begun-end.new.errors n c.serve_begun-end.result) c.in_ok-begun.ensures.cut c.serve_begun-end.ensures.told;
    })

pub count_end-requires : goal.count_end-requires
count_end-requires g c is =
    let written = c.serve_begun-end.new.output in
    let journal = c.serve_begun-end.new.begun.journal in
    let why = broke (g.F.FileStore.known c.args.files.now) c.path-folder.result.now (source_of g.I.Read.remaining c.args.input.now) (source_of g.I.Read.remaining c.serve_begun-end.new.input)
    (on_disk g.W.Write.contents c.in_ok-begun.begun.desk (failures_in c.in_ok-begun.begun.journal) c.args.output.now) (on_disk g.W.Write.contents c.serve_begun-end.new.begun.desk (failures_in journal) written)
    unknown unknown c.serve_begun-end.result c.serve_begun-end.ensures.served is in
    subst (λ (n : ℕ). (0 < failures_in journal) ⊎ FailsToAnswer n written) (sym c.failures-failures.ensures) why

pub returns-clause-fails : goal.returns-clause-fails
returns-clause-fails g c =
    let begun = ap (λ (o : Opening). o.failures) c.in_ok-begun.ensures.lasts in
    let written = c.serve_begun-end.new.output in
    let before : c.failures-failures.result ≡ failures_of c.args.output.now = c.failures-failures.ensures in
    record {
      fails = λ is. why-since (opening_of c.args.place.now) (opening_of c.begin_desk.new.place) (opening_of c.count_end.new.place) c.failures-failures.result (failures_of c.args.output.now) written
          begun before (c.count_end.ensures.fails is);
      clear = λ other. ap (λ (o : Opening). o.failures) (c.count_end.ensures.clear other) ∙ begun;
      answering = λ failed. ap (λ (o : Opening). o.failures) (c.count_end.ensures.answering (subst (λ (n : ℕ). FailsToAnswer n written) (sym before) failed)) ∙ begun;
    }

pub returns-clause-lasts : goal.returns-clause-lasts
returns-clause-lasts g c = ap (λ (o : Opening). o.is_lasting) c.count_end.ensures.same.1 ∙ ap (λ (o : Opening). o.is_lasting) c.in_ok-begun.ensures.lasts

pub returns-clause-held : goal.returns-clause-held
returns-clause-held g c = ap (λ (o : Opening). o.is_held) c.count_end.ensures.same.1 ∙ c.begin_desk.ensures.held
