use Rattle.std.proofs.Common.{◌≡◌, ◌∙◌, ◌++◌, List, ℕ, ap, subst, sym, arith}
use Rattle.std.proofs.lemmas.List.{append-nil}
use Rattle.std.specs.Prelude.{OnOk}
use Rattle.mrp_tables.specs.Items as items
use Rattle.mrp_tables.specs.Tables.{Tables}
use Rattle.mrp_tables.specs.declared.item.Item.{Item}
use Rattle.mrp_net.specs.declared.stock.Stock.{Stock}
use Rattle.mrp_master.specs.Supply.{IsSupply, Supply, supply_of}
use Rattle.mrp_book.specs.Booked.{AreBooked}
use Rattle.mrp_item.specs.Inputs.{Inputs, count, is_master, item_at}
use Rattle.mrp_report.specs.section.Cells.{name_at}
use Rattle.mrp_report.specs.section.PromiseRows.{promises_of}
use Rattle.mrp_report.specs.declared.section.promise_sheet.PromiseSheet.{PromiseSheet}
use Rattle.mrp_report.proofs.lemmas.section.PromiseSheets.{IsPromiseSheetOf, is-promise-sheet, no-promises, promises-text}
use Rattle.mrp_report.proofs.section.promise_item.item_promises.Goals as goal

pub returns-then-not-is_master : goal.returns-then-not-is_master
returns-then-not-is_master c =
    let s = c.args.planned.now.inputs in
    let i = c.args.planned.now.item in
    let entry : c.entry_of-entry.result ≡ item_at s i = c.entry_of-entry.ensures in
    let class : c.is_master.result ≡ is_master s i = c.is_master.ensures ∙ ap (λ (e : Item). items.is_master e.class) entry in
    sym (append-nil c.args.page.now) ∙ ap (λ (t : List ℕ). c.args.page.now ++ t) (no-promises s i (sym class ∙ c.if-not-is_master.true))

pub promises_of-requires : goal.promises_of-requires
promises_of-requires c =
    let s = c.args.planned.now.inputs in
    let i = c.args.planned.now.item in
    let entry : c.entry_of-entry.result ≡ item_at s i = c.entry_of-entry.ensures in
    let class : c.is_master.result ≡ is_master s i = c.is_master.ensures ∙ ap (λ (e : Item). items.is_master e.class) entry in
    let inputs : c.deref.result.now ≡ s = c.deref.ensures ∙ c.inputs.ensures.inputs in
    record {
      supply = c.requires.supply ∙ ap (λ (x : Inputs). supply_of x.tables) (sym inputs);
      kept = c.weeks-weeks.ensures.kept;
      within = omega (arith, ap count inputs, c.item.ensures.within);
      master = ap (λ (x : Inputs). is_master x c.item.result) inputs ∙ ap (is_master s) c.item.ensures.item ∙ sym class ∙ c.if-not-is_master.false;
    }

pub write-requires : goal.write-requires
write-requires c =
    let s = c.args.planned.now.inputs in
    let i = c.args.planned.now.item in
    let entry : c.entry_of-entry.result ≡ item_at s i = c.entry_of-entry.ensures in
    let class : c.is_master.result ≡ is_master s i = c.is_master.ensures ∙ ap (λ (e : Item). items.is_master e.class) entry in
    let inputs : c.deref.result.now ≡ s = c.deref.ensures ∙ c.inputs.ensures.inputs in
    is-promise-sheet _ s i (record {
      weeks_are = c.weeks-weeks.ensures.value ∙ ap (λ (x : Supply). x.weeks) c.requires.supply;
      firm_is = c.as_slice.ensures ∙ ap (λ (k : Stock). k.scheduled) c.in_ok-stock.ensures;
      row_is = c.in_ok-row.ensures.row ∙ ap (λ (x : Inputs). promises_of x c.item.result) inputs ∙ ap (promises_of s) c.item.ensures.item;
      within = omega (arith, ap count inputs, c.item.ensures.within, c.item.ensures.item);
      master = sym class ∙ c.if-not-is_master.false;
      supplied = subst IsSupply c.requires.supply c.weeks-weeks.ensures.kept;
      stands = subst (λ (x : Supply). AreBooked x s.standing) c.requires.supply (subst (λ (x : Inputs). AreBooked c.args.supply.now x.standing) inputs c.in_ok-row.ensures.stands);
    })

pub returns : goal.returns
returns c =
    let s = c.args.planned.now.inputs in
    let i = c.args.planned.now.item in
    let entry : c.entry_of-entry.result ≡ item_at s i = c.entry_of-entry.ensures in
    let class : c.is_master.result ≡ is_master s i = c.is_master.ensures ∙ ap (λ (e : Item). items.is_master e.class) entry in
    let inputs : c.deref.result.now ≡ s = c.deref.ensures ∙ c.inputs.ensures.inputs in
    let sheet : PromiseSheet = record {
      weeks = c.weeks-weeks.result;
      firm = c.as_slice.result;
      row = record { ref_ptr = c.as_slice.result.ref_ptr; now = c.in_ok-row.row };
    } in
    let of : IsPromiseSheetOf sheet s i = record {
      weeks_are = c.weeks-weeks.ensures.value ∙ ap (λ (x : Supply). x.weeks) c.requires.supply;
      firm_is = c.as_slice.ensures ∙ ap (λ (k : Stock). k.scheduled) c.in_ok-stock.ensures;
      row_is = c.in_ok-row.ensures.row ∙ ap (λ (x : Inputs). promises_of x c.item.result) inputs ∙ ap (promises_of s) c.item.ensures.item;
      within = omega (arith, ap count inputs, c.item.ensures.within, c.item.ensures.item);
      master = sym class ∙ c.if-not-is_master.false;
      supplied = subst IsSupply c.requires.supply c.weeks-weeks.ensures.kept;
      stands = subst (λ (x : Supply). AreBooked x s.standing) c.requires.supply (subst (λ (x : Inputs). AreBooked c.args.supply.now x.standing) inputs c.in_ok-row.ensures.stands);
    } in
    let name : c.item-3.result.now ≡ (item_at s i).name =
    c.item-3.ensures ∙ ap (λ (t : Tables). name_at t c.item-2.result) c.requires.names ∙ ap (name_at s.tables) c.item-2.ensures.item in
    let Writes : List ℕ → Type 0 = λ text. OnOk c.write.result (c.write.new.page ≡ c.args.page.now ++ text) in
    subst Writes (promises-text sheet s i c.item-3.result.now of name) c.write.ensures
