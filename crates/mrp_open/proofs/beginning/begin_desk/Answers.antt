use Rattle.std.proofs.Common.{◌≡◌, ◌∙◌, ◌⊎◌, ℕ, List, None, ap, length, subst, sym}
use Rattle.std.specs.Prelude.{string_bytes}
use Rattle.mrp_turn.specs.declared.log.Entry.{Entry}
use Rattle.mrp_book.specs.declared.call.Call.{Call}
use Rattle.mrp_book.specs.declared.reply.Reply.{Reply}
use Rattle.mrp_script.specs.Script.{script_of}
use Rattle.mrp_open.specs.Ends.{FailsToBegin}
use Rattle.mrp_words.specs.Folder.{IsAt}
use Rattle.mrp_open.specs.Start.{HasOtherSum, sum_path}
use Rattle.mrp_open.specs.Opening.{IsUntouched, IsUnwritten, Opening}
use Rattle.mrp_open.proofs.Ended.{desk-unbegun, held-unbegun, other-sum, passed-on, untouched-unbegun, unwritten-unbegun}
use Rattle.mrp_open.proofs.Starting.{as-many}
use Rattle.mrp_open.proofs.beginning.begin_desk.Goals as goal

pub returns-in_err-sealed-clause-unbegun : goal.returns-in_err-sealed-clause-unbegun
returns-in_err-sealed-clause-unbegun g c =
    let known = g.F.FileStore.known c.args.files.now in
    let found = c.args.prepared.now.found in
    let tables = c.args.prepared.now.rows.value.tables in
    let end = c.in_err-sealed.field-0.0 in
    let records : ℕ = length c.entries-records.result.now in
    let count : records ≡ length (script_of tables) = ap (length {A = Entry Call Reply}) c.entries-records.ensures.entries ∙ as-many c.in_ok-desk.desk.entries tables c.in_ok-desk.ensures.answers.asked_are in
    let other : HasOtherSum known c.args.folder.now records (string_bytes found.sum) end = subst (λ (s : List ℕ). HasOtherSum known c.args.folder.now records s end) c.deref.ensures c.in_err-sealed.ensures.other in
    let opened = g.P.JournalPlace.opening c.args.place.now in
    passed-on c.from_residual-in_err-sealed.result end (FailsToBegin opened opened known c.args.folder.now found tables) c.from_residual-in_err-sealed.ensures.1
    (other-sum opened opened known c.args.folder.now found tables records end c.in_ok-desk.ensures.takes count other)

pub returns-in_err-journal-clause-held : goal.returns-in_err-journal-clause-held
returns-in_err-journal-clause-held g c =
    let opening = g.P.JournalPlace.opening in
    let left = g.P.JournalPlace.left in
    let place = c.begin_journal.new.place in
    held-unbegun c.args.prepared.now.found (opening c.args.place.now) (opening place) (left c.args.place.now) (left place) c.in_err-journal.field-0.0 c.in_err-journal.ensures.fails

pub returns-in_err-journal-clause-unbegun : goal.returns-in_err-journal-clause-unbegun
returns-in_err-journal-clause-unbegun g c =
    let known = g.F.FileStore.known c.args.files.now in
    let found = c.args.prepared.now.found in
    let tables = c.args.prepared.now.rows.value.tables in
    let end = c.in_err-journal.field-0.0 in
    let opening = g.P.JournalPlace.opening in
    let left = g.P.JournalPlace.left in
    let place = c.begin_journal.new.place in
    passed-on c.from_residual-in_err-journal.result end (FailsToBegin (opening c.args.place.now) (opening place) known c.args.folder.now found tables) c.from_residual-in_err-journal.ensures.1
    (desk-unbegun found (opening c.args.place.now) (opening place) (left c.args.place.now) (left place) known c.args.folder.now tables end c.in_ok-desk.ensures.takes c.in_err-journal.ensures.fails)

pub returns-in_err-journal-clause-untouched : goal.returns-in_err-journal-clause-untouched
returns-in_err-journal-clause-untouched g c =
    let end = c.in_err-journal.field-0.0 in
    let opening = g.P.JournalPlace.opening in
    let left = g.P.JournalPlace.left in
    let place = c.begin_journal.new.place in
    passed-on c.from_residual-in_err-journal.result end (IsUntouched (opening c.args.place.now) (opening place)) c.from_residual-in_err-journal.ensures.1
    (untouched-unbegun c.args.prepared.now.found (opening c.args.place.now) (opening place) (left c.args.place.now) (left place) end c.in_err-journal.ensures.fails)

pub returns-in_err-journal-clause-unwritten : goal.returns-in_err-journal-clause-unwritten
returns-in_err-journal-clause-unwritten g c =
    let end = c.in_err-journal.field-0.0 in
    let opening = g.P.JournalPlace.opening in
    let left = g.P.JournalPlace.left in
    let place = c.begin_journal.new.place in
    passed-on c.from_residual-in_err-journal.result end (IsUnwritten c.args.prepared.now.found (left c.args.place.now) (left place)) c.from_residual-in_err-journal.ensures.1
    (unwritten-unbegun c.args.prepared.now.found (opening c.args.place.now) (opening place) (left c.args.place.now) (left place) end c.in_err-journal.ensures.fails)

pub returns-clause-held : goal.returns-clause-held
returns-clause-held g c = ap (λ (o : Opening). o.is_held) c.in_ok-journal.ensures.lasts

pub returns-clause-unsealed : goal.returns-clause-unsealed
returns-clause-unsealed g c is =
    let none = c.in_ok-sealed.ensures.open (sym c.seal_journal.ensures.sealed ∙ is) in
    subst (λ (n : ℕ). (n ≡ 0) ⊎ IsAt (g.F.FileStore.known c.args.files.now) (sum_path c.args.folder.now) None) (ap (length {A = Entry Call Reply}) c.entries-records.ensures.entries) none
