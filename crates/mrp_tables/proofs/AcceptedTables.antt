-- Each table of an accepted bundle, read from its own text.
use Rattle.std.proofs.Common.{◌≡◌, ℕ, List, Result, Ok, refl, subst}
use Rattle.mrp_rows.specs.declared.fault.Fault.{Fault}
use Rattle.mrp_rows.specs.declared.fault.Table.TheVariants as t
use Rattle.mrp_rows.proofs.TextLaws.{whole_step}
use Rattle.mrp_tables.specs.Laws.{AreOfTheirTexts}
use Rattle.mrp_tables.specs.Readers.{table_in}
use Rattle.mrp_tables.specs.Tables.{Tables, tables_in}

same_whole : (a b : Tables) (r : Result Tables Fault) → r ≡ Ok a → r ≡ Ok b → a ≡ b
same_whole a b r is e = cc

pub of_their_texts : (texts : List (List ℕ)) (tables : Tables) → tables_in texts ≡ Ok tables → AreOfTheirTexts texts tables
unfolding tables_in
of_their_texts texts tables e =
    let dated = whole_step (table_in texts t.Calendar) _ tables e in
    let items = whole_step (table_in texts t.Items) _ tables dated.2 in
    let centres = whole_step (table_in texts t.Centres) _ tables items.2 in
    let stock = whole_step (table_in texts t.Stock) _ tables centres.2 in
    let receipts = whole_step (table_in texts t.Receipts) _ tables stock.2 in
    let bills = whole_step (table_in texts t.Bills) _ tables receipts.2 in
    let routings = whole_step (table_in texts t.Routings) _ tables bills.2 in
    let master = whole_step (table_in texts t.Master) _ tables routings.2 in
    let script = whole_step (table_in texts t.Script) _ tables master.2 in
    let made : Tables = record {
      version = dated.0.version;
      calendar = dated.0.calendar;
      items = items.0;
      centres = centres.0;
      stock = stock.0;
      receipts = receipts.0;
      bills = bills.0;
      routings = routings.0;
      master = master.0;
      script = script.0;
    } in
    let same = same_whole made tables (Ok made) refl script.2 in
    subst (AreOfTheirTexts texts) same (record {
      calendar = dated.1;
      items = items.1;
      centres = centres.1;
      stock = stock.1;
      receipts = receipts.1;
      bills = bills.1;
      routings = routings.1;
      master = master.1;
      script = script.1;
    })
