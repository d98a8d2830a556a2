use Rattle.std.proofs.Common.{rules, arith, ◌≡◌, ◌∙◌, ◌<◌, ℕ, List, length, Option, ap, sym, subst, true, false}
use Rattle.std.specs.Prelude.{IfOk, IfSome}
use Rattle.mrp_tables.specs.declared.rows.BillLine.{BillLine}
use Rattle.mrp_tables.specs.Tables.{Tables}
use Rattle.mrp_item.specs.Inputs.{Inputs, count}
use Rattle.mrp_peg.specs.declared.peg.Peg.{Peg}
use Rattle.mrp_peg.specs.Causes.{is_need_of, order_for, order_pegs}
use Rattle.mrp_peg.proofs.Sourced.{order_small, sources-absent, sources-there}
use Rattle.mrp_peg.proofs.sourcing.sources.Goals as goal

pub returns-then-not-branch : goal.returns-then-not-branch
returns-then-not-branch c =
    let none : is_need_of c.args.plan.now.inputs c.args.need.now ≡ false = search rules in
    c.new.ensures.items ∙ sym (sources-absent c.args.plan.now.inputs c.args.need.now none)

pub pegs_for-requires : goal.pegs_for-requires
pegs_for-requires c =
    let s = c.args.plan.now.inputs in
    let e : c.deref.result.now ≡ s = c.deref.ensures ∙ c.inputs.ensures.inputs in
    let t : c.tables.result.now ≡ s.tables = c.tables.ensures.value ∙ c.shop.ensures.tables ∙ ap (λ (x : Inputs). x.tables) e in
    let size : length c.tables.result.now.items ≡ count s = ap (λ (x : Tables). length x.items) t in
    let P : Option (ℕ × ℕ) → Type 0 = λ o. IfSome o (λ x. x.0 < count s) in
    subst P (sym c.order_for.ensures) (order_small c.bills-bills.result.now (count s) (λ k d h. let small = (c.bills-bills.ensures.within k d h).parent in omega (arith, small, size)) c.args.need.now.kind)

pub returns : goal.returns
returns c =
    let s = c.args.plan.now.inputs in
    let n = c.args.need.now in
    let e : c.deref.result.now ≡ s = c.deref.ensures ∙ c.inputs.ensures.inputs in
    let bills : c.bills-bills.result.now ≡ s.tables.bills = c.bills-bills.ensures.rows ∙ ap (λ (t : Tables). t.bills) (c.tables.ensures.value ∙ c.shop.ensures.tables ∙ ap (λ (x : Inputs). x.tables) e) in
    let has : is_need_of s n ≡ true = search rules in
    let order : c.order_for.result ≡ order_for s.tables.bills n.kind = c.order_for.ensures ∙ ap (λ (b : List BillLine). order_for b n.kind) bills in
    let Q : List Peg → Type 0 = λ l. IfOk c.pegs_for.result (λ pegs. pegs.items ≡ l) in
    subst Q (ap (order_pegs s) order ∙ sym (sources-there s n has)) c.pegs_for.ensures
