use Rattle.std.proofs.Common.{◌≡◌, ◌∙◌, ◌<◌, ◌≤◌, ℕ, Ok, Option, Some, length, subst, sym}
use Rattle.std.specs.Prelude.{All}
use Rattle.mrp_tables.specs.Facts.{IsScriptRow}
use Rattle.mrp_tables.specs.Tables.{Tables}
use Rattle.mrp_master.specs.Supply.{Supply, supply_of}
use Rattle.mrp_book.specs.Standing.{History}
use Rattle.mrp_book.specs.History.{IsLegal, asked}
use Rattle.mrp_script.specs.Script.{Script, script_of, with_run}
use Rattle.mrp_report.specs.section.HistoryText.{history_text}
use Rattle.mrp_audit.specs.Parts.{ComparesDesks, ComparesFront}
use Rattle.mrp_audit.specs.Replays.{IsTaken}
use Rattle.mrp_claims.specs.Shape.{EndsHistory}
use Rattle.mrp_audit.proofs.Judged.{all-desks}
use Rattle.mrp_audit.proofs.Replays.{records-few, records-taken}
use Rattle.mrp_audit.proofs.replay.find_history.Goals as goal

pub replayed-requires-clause-taken : goal.replayed-requires-clause-taken
replayed-requires-clause-taken c =
    let t = c.args.shop.now.tables in
    let rows : All (IsScriptRow t.calendar.weeks t.items) t.script = subst (λ (x : Tables). All (IsScriptRow x.calendar.weeks x.items) x.script) c.tables-tables.ensures.value c.keep_limits.ensures.script in
    let script : c.deref.result.now ≡ with_run (script_of t) = c.deref.ensures.value ∙ c.in_ok-script.ensures in
    subst (λ (x : Script). All (IsTaken (supply_of t)) x) (sym script) (records-taken t rows)

pub replayed-requires-clause-few : goal.replayed-requires-clause-few
replayed-requires-clause-few c =
    let t = c.args.shop.now.tables in
    let few : length t.script ≤ 100000 = subst (λ (x : Tables). length x.script ≤ 100000) c.tables-tables.ensures.value c.keep_limits.ensures.script_count in
    let script : c.deref.result.now ≡ with_run (script_of t) = c.deref.ensures.value ∙ c.in_ok-script.ensures in
    subst (λ (x : Script). length x < 1000000) (sym script) (records-few t few)

pub returns-then-is_end : goal.returns-then-is_end
returns-then-is_end c =
    let t = c.args.shop.now.tables in
    let h = c.in_ok-history.history.entries in
    let supply = c.in_ok-history.ensures in
    let legal : IsLegal (supply_of t) h = subst (λ (x : Supply). IsLegal x h) supply (subst (IsLegal c.in_ok-history.history.supply) c.entries.ensures.entries c.entries.ensures.legal) in
    let rows : All (IsScriptRow t.calendar.weeks t.items) t.script = subst (λ (x : Tables). All (IsScriptRow x.calendar.weeks x.items) x.script) c.tables-tables.ensures.value c.keep_limits.ensures.script in
    let script : c.deref-2.result.now ≡ with_run (script_of t) = c.deref-2.ensures.value ∙ c.in_ok-script.ensures in
    let at : ComparesFront (history_text t h) c.args.text.now (Ok (Some c.in-Some.len)) = subst (λ (o : Option ℕ). ComparesFront (history_text t h) c.args.text.now (Ok o)) c.in-Some.is c.in_ok-len.ensures in
    let compared : ComparesDesks (asked h) (with_run (script_of t)) (Ok tt) =
    subst (λ (x : Script). ComparesDesks (asked h) x (Ok tt)) script
    (subst (λ (x : History). ComparesDesks (asked x) c.deref-2.result.now (Ok tt)) c.entries.ensures.entries (c.are_followed.ensures c.if-not-are_followed.false)) in (
      supply,
      record {
        legal = legal;
        by_desk = all-desks t h legal rows compared;
        within = at.0;
        spelled = at.1;
        ends = subst EndsHistory c.split_at.ensures.back (c.is_end.ensures.0 c.if-is_end.true);
      },
    )
