use Rattle.std.proofs.Common.{◌≡◌, ◌∙◌, ◌≤◌, List, length, ap, subst}
use Rattle.mrp_tables.specs.declared.rows.ScriptRow.{ScriptRow}
use Rattle.mrp_tables.specs.Tables.{Tables}
use Rattle.mrp_calls.proofs.Entered.{few-entries}
use Rattle.mrp_calls.proofs.open_desk.OpenDesk.open.Goals as goal

pub invariant_of-result : goal.invariant_of-result
invariant_of-result c =
    let rows : c.script-script.result.now ≡ c.args.shop.now.tables.script = c.script-script.ensures.rows ∙ ap (λ (t : Tables). t.script) c.tables-tables.ensures.value in
    let few : length c.args.shop.now.tables.script ≤ 100000 = subst (λ (script : List ScriptRow). length script ≤ 100000) rows c.script-script.ensures.count in
    record {
      named = c.in_ok-rows.ensures ∙ c.tables-tables.ensures.value;
      supply = c.in_ok-book.ensures.supply;
      few = few-entries c.in_ok-book.book.entries c.args.shop.now.tables.script c.in_ok-book.ensures.asked few;
    }
