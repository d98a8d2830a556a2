use Rattle.std.proofs.Common.{◌≡◌, ◌∙◌, Option, Some, None, refl}
use Rattle.std.proofs.lemmas.Result.{IfOk-weaker}
use Rattle.mrp_survey.proofs.CalendarSteps.{calendar-read, calendar-told, unread-dated, unread-told, version-read}
use Rattle.mrp_survey.specs.Survey.{nothing_beside}
use Rattle.mrp_survey.proofs.tables.tell_dates.Goals as goal

pub returns-clause-told : goal.returns-clause-told
returns-clause-told c =
    let rows = rw c.in-Some-2.is at c.in_ok-rows.ensures in
    calendar-told c.args.sources.now c.in_ok-form.form c.args.sheet.now c.in-Some.sheet c.in-Some-2.rows.items c.requires c.in_ok-form.ensures c.in-Some.is rows
    nothing_beside c.args.findings.now.items _ _ c.file.result c.len.result refl c.in_ok-tell_alone.ensures c.file.ensures (c.len.ensures ∙ c.in-Some-2.rows.ok.0) c.in_ok-tell_missing.ensures

pub returns-clause-dated : goal.returns-clause-dated
returns-clause-dated c =
    let rows = rw c.in-Some-2.is at c.in_ok-rows.ensures in
    let version = version-read c.args.sources.now c.in_ok-form.form c.args.sheet.now c.in-Some.sheet c.in-Some-2.rows.items c.requires c.in_ok-form.ensures c.in-Some.is rows in
    let calendar = calendar-read c.args.sources.now c.in_ok-form.form c.args.sheet.now c.in-Some.sheet c.in-Some-2.rows.items c.requires c.in_ok-form.ensures c.in-Some.is rows in
    rw (c.version_in.ensures, c.calendar_in.ensures, c.deref.ensures.value, c.deref-2.ensures.value, version, calendar) refl

none-given : {X : Type 0} (o : Option X) → ((x : X) → o ≡ Some x → ⊥) → o ≡ None
none-given None other = refl
none-given (Some x) other = absurd (other x refl)

pub returns-in_default-2-clause-told : goal.returns-in_default-2-clause-told
returns-in_default-2-clause-told c =
    let unread = rw (none-given _ c.in_default-2.not-Some) at c.in_ok-rows.ensures in
    let told = unread-told c.args.sources.now c.in_ok-form.form c.args.sheet.now c.in-Some.sheet c.requires c.in_ok-form.ensures c.in-Some.is unread c.args.findings.now.items _ c.in_ok-tell_alone.ensures in
    IfOk-weaker c.no_dates-in_default-2.result _ _ (λ dated e. told) c.no_dates-in_default-2.ensures

pub returns-in_default-2-clause-dated : goal.returns-in_default-2-clause-dated
returns-in_default-2-clause-dated c =
    let unread = rw (none-given _ c.in_default-2.not-Some) at c.in_ok-rows.ensures in
    unread-dated c.args.sources.now c.in_ok-form.form c.args.sheet.now c.in-Some.sheet c.requires c.in_ok-form.ensures c.in-Some.is unread c.no_dates-in_default-2.result c.no_dates-in_default-2.ensures
