use Rattle.std.proofs.Common.{◌≡◌, ℕ, List, Err, Result, Vec, inl, inr, refl, rules, subst, sym}
use Rattle.std.specs.Result.{result_map_both}
use Rattle.std.specs.declared.alloc.Global.{Global}
use Rattle.mrp_rows.specs.declared.streams.ReadFault.{ReadFault}
use Rattle.mrp_main.specs.CheckEnds.{AreRead}
use Rattle.mrp_main.proofs.CheckEnds.{day-unread}
use Rattle.mrp_main.proofs.check.read_both.Goals as goal

abbrev Both : Type 0
Both = Vec ℕ Global × Vec ℕ Global

abbrev texts_of : Result Both ReadFault → Result (List ℕ × List ℕ) ReadFault
texts_of read = result_map_both (λ (both : Both). (both.0.items, both.1.items)) (λ (fault : ReadFault). fault) read

pub returns-in_err-bundle : goal.returns-in_err-bundle
returns-in_err-bundle g c =
    let fails : c.from_residual.result ≡ Err c.in_err-bundle.field-0.0 = search rules in
    subst (λ (r : Result Both ReadFault). AreRead (g.F.FileStore.known c.args.files.now) c.args.folder.now g.R.Read.remaining c.args.input.now c.args.input.now (texts_of r)) (sym fails) (inl (c.in_err-bundle.ensures, refl))

pub returns-in_err-day : goal.returns-in_err-day
returns-in_err-day g c =
    let fails : c.from_residual-in_err-day.result ≡ Err c.in_err-day.field-0.0 = search rules in
    let day = c.in_err-day.ensures in
    subst (λ (r : Result Both ReadFault). AreRead (g.F.FileStore.known c.args.files.now) c.args.folder.now g.R.Read.remaining c.args.input.now c.read_within.new.reader (texts_of r)) (sym fails)
    (inr (c.in_ok-bundle.bundle.items, c.in_ok-bundle.ensures, (day-unread g.R.Read.remaining c.args.input.now c.read_within.new.reader c.in_err-day.field-0.0 day.refused day.memory, day.front)))

pub returns : goal.returns
returns g c =
    let day = c.in_ok-day.ensures in
    (c.in_ok-bundle.ensures, ((day.bytes, day.end, (day.failures, day.calls)), day.front))
