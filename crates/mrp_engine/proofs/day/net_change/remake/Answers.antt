use Rattle.std.proofs.Common.{◌≡◌, ◌∙◌, ◌≢◌, List, length, ap, subst, sym, arith}
use Rattle.std.specs.Prelude.{All, slice_index}
use Rattle.std.proofs.lemmas.Bool.{eqb-false}
use Rattle.mrp_tables.specs.Facts.{IsBillLine}
use Rattle.mrp_tables.specs.Tables.{Tables}
use Rattle.mrp_tables.specs.declared.rows.BillLine.{BillLine}
use Rattle.mrp_bill.specs.Bill.{parents_of}
use Rattle.mrp_item.specs.Inputs.{Inputs, count}
use Rattle.mrp_item.specs.NetChange.{IsLeftAlone}
use Rattle.mrp_item.proofs.Untouched.{alone-keeps}
use Rattle.mrp_engine.proofs.lemmas.day.Remade.{marked-alone, marks-fit}
use Rattle.mrp_engine.proofs.day.net_change.remake.Goals as goal

pub are_marked-requires : goal.are_marked-requires
are_marked-requires g c =
    let s = c.args.inputs.now.value in
    let i = c.args.item in
    let tables : c.shop-shop.result.now.tables ≡ s.tables = c.shop-shop.ensures.tables ∙ ap (λ (x : Inputs). x.tables) c.deref.ensures in
    let are : c.parents-parents.result.now ≡ parents_of s.tables.bills (count s) i = c.parents-parents.ensures ∙ ap (λ (t : Tables). parents_of t.bills (length t.items) i) tables in
    marks-fit s.tables.bills (count s) i c.parents-parents.result.now c.args.kept.now are c.requires.size

pub keep-requires-clause-alone : goal.keep-requires-clause-alone
keep-requires-clause-alone g c =
    let old = c.args.old.now.inputs in
    let s = c.args.inputs.now.value in
    let i = c.args.item in
    let parents = c.parents-parents.result.now in
    let tables : c.shop-shop.result.now.tables ≡ s.tables = c.shop-shop.ensures.tables ∙ ap (λ (x : Inputs). x.tables) c.deref.ensures in
    let are : parents ≡ parents_of s.tables.bills (count s) i = c.parents-parents.ensures ∙ ap (λ (t : Tables). parents_of t.bills (length t.items) i) tables in
    let has = rw c.deref.ensures at c.shop-shop.ensures.parents in
    let read : c.tables.result.now ≡ s.tables = c.tables.ensures.value ∙ tables in
    let lines : All (IsBillLine s.tables.items) s.tables.bills =
    subst (λ (t : Tables). All (IsBillLine t.items) t.bills) read (subst (λ (ls : List BillLine). All (IsBillLine c.tables.result.now.items) ls) c.bills-parts.ensures.rows c.bills-parts.ensures.within) in
    let some : length parents ≢ 0 = eqb-false (length parents) 0 (sym c.is_empty.ensures ∙ c.if-not-is_empty.true) in
    marked-alone old s i parents c.args.kept.now c.requires.tables has lines are (omega arith) c.requires.kept (c.are_marked.ensures c.if-are_marked.true)

pub returns-then-are_marked : goal.returns-then-are_marked
returns-then-are_marked g c =
    let old = c.args.old.now.inputs in
    let s = c.args.inputs.now.value in
    let i = c.args.item in
    let parents = c.parents-parents.result.now in
    let tables : c.shop-shop.result.now.tables ≡ s.tables = c.shop-shop.ensures.tables ∙ ap (λ (x : Inputs). x.tables) c.deref.ensures in
    let are : parents ≡ parents_of s.tables.bills (count s) i = c.parents-parents.ensures ∙ ap (λ (t : Tables). parents_of t.bills (length t.items) i) tables in
    let ranked = rw c.deref.ensures at c.shop-shop.ensures.ranked in
    let has = rw c.deref.ensures at c.shop-shop.ensures.parents in
    let read : c.tables.result.now ≡ s.tables = c.tables.ensures.value ∙ tables in
    let lines : All (IsBillLine s.tables.items) s.tables.bills =
    subst (λ (t : Tables). All (IsBillLine t.items) t.bills) read (subst (λ (ls : List BillLine). All (IsBillLine c.tables.result.now.items) ls) c.bills-parts.ensures.rows c.bills-parts.ensures.within) in
    let some : length parents ≢ 0 = eqb-false (length parents) 0 (sym c.is_empty.ensures ∙ c.if-not-is_empty.true) in
    let alone : IsLeftAlone old s i = marked-alone old s i parents c.args.kept.now c.requires.tables has lines are (omega arith) c.requires.kept (c.are_marked.ensures c.if-are_marked.true) in
    record {
      own = c.in_ok-keep.ensures.outcome;
      keeps = λ e. alone-keeps old s (slice_index c.shop-shop.result.now.codes) _ ranked has c.inputs-whole.ensures.plan i c.requires.item alone;
      uncounted = λ e. c.keep.ensures.planned;
      counted = λ e. absurd (cc);
      touched = λ e. absurd (cc);
    }
