use Rattle.std.proofs.Common.{◌≡◌, ◌∙◌, ℕ, ap, inl, length, subst}
use Rattle.mrp_rows.specs.declared.fault.Table.TheVariants as t
use Rattle.mrp_rows.specs.Next.{columns_fault}
use Rattle.mrp_tables.specs.Tables.{Tables}
use Rattle.mrp_bill.specs.Shop.{Shop}
use Rattle.mrp_master.specs.Supply.{supply_of}
use Rattle.mrp_turn.specs.declared.log.Entry.{Entry}
use Rattle.mrp_book.specs.declared.call.Call.{Call}
use Rattle.mrp_book.specs.declared.reply.Reply.{Reply}
use Rattle.mrp_book.specs.History.{IsLegal}
use Rattle.mrp_book.specs.Standing.{History}
use Rattle.mrp_script.specs.Script.{script_of}
use Rattle.mrp_commands.specs.Refusal.{TellsFault}
use Rattle.mrp_open.proofs.Starting.{as-many}
use Rattle.mrp_open.proofs.start.answer_journal.Goals as goal

pub returns-in-Ok-clause-closed : goal.returns-in-Ok-clause-closed
returns-in-Ok-clause-closed c =
    let tables = c.args.prepared.now.rows.value.tables in
    let same : c.deref-2.result.now ≡ c.args.prepared.now.rows.value = c.deref-2.ensures ∙ c.shop.ensures ∙ c.deref.ensures in
    let count : length c.entries-records.result.now ≡ length (script_of tables) =
    ap (length {A = Entry Call Reply}) c.entries-records.ensures.entries ∙ as-many c.in-Ok.desk.entries tables (c.in-Ok.ensures.asked ∙ ap (λ (s : Shop). script_of s.tables) same) in
    inl (c.if-prepared.false, subst (λ (n : ℕ). TellsFault (columns_fault t.Script n) c.no_more.result) count c.no_more.ensures)

pub returns-then-prepared-clause-answers : goal.returns-then-prepared-clause-answers
returns-then-prepared-clause-answers c =
    let desk = c.in-Ok.desk in
    let same : c.deref-2.result.now ≡ c.args.prepared.now.rows.value = c.deref-2.ensures ∙ c.shop.ensures ∙ c.deref.ensures in
    let tables_are : desk.tables ≡ c.args.prepared.now.rows.value.tables = c.in-Ok.ensures.tables ∙ ap (λ (s : Shop). s.tables) same in
    let entered : IsLegal (supply_of desk.tables) desk.entries = subst (λ (h : History). IsLegal (supply_of desk.tables) h) c.entries-records.ensures.entries c.entries-records.ensures.legal in
    record {
      tables_are = tables_are;
      asked_are = c.in-Ok.ensures.asked ∙ ap (λ (s : Shop). script_of s.tables) same;
      legal = subst (λ (t : Tables). IsLegal (supply_of t) desk.entries) tables_are entered;
      room_is = c.in-Ok.ensures.room;
    }
