use Rattle.std.proofs.Common.{◌∙◌, ◌++◌, ℕ, List, sym, ap, arith}
use Rattle.std.specs.Prelude.{filter, flat_map}
use Rattle.std.proofs.lemmas.List.{append-nil, take_all}
use Rattle.mrp_bill.specs.Bill.{lines_of}
use Rattle.mrp_item.specs.Inputs.{Inputs}
use Rattle.mrp_peg.specs.Rows.{line_requirements}
use Rattle.mrp_peg.specs.declared.matching.Requirement.{Requirement}
use Rattle.mrp_peg.proofs.Lists.{filter-flat_map}
use Rattle.mrp_peg.proofs.Loops.{one_line}
use Rattle.mrp_peg.proofs.Released.{in_the}
use Rattle.mrp_peg.proofs.Totals.{used_within}
use Rattle.mrp_peg.proofs.where_used.WhereUsed.required_in.Goals as goal

-- the requirements that parents make by a line in a week
abbrev line_required : Inputs → ℕ → ℕ → ℕ → List Requirement
line_required s i week place = filter (in_the week) (line_requirements s i place)

pub line-by-requires : goal.line-by-requires
line-by-requires c = omega (arith, c.loop-at-test.true, c.len-at-end.ensures)

pub add_released-requires : goal.add_released-requires
add_released-requires c =
    let used = c.args.self.now in
    record {
      rising = c.line-by.ensures.rising;
      small = used_within used.plan.now.inputs used.item c.requires.own c.requires.part c.requires.within c.loop-at.at c.line-by.result.per c.line-by.result.orders.now (omega (arith, c.loop-at-test.true, c.len-at-end.ensures)) c.line-by.ensures.per c.line-by.ensures.orders;
    }

pub loop-at-init : goal.loop-at-init
loop-at-init c = sym (append-nil c.args.needs.now.items)

pub loop-at-preserved : goal.loop-at-preserved
loop-at-preserved c =
    let used = c.args.self.now in
    let s = used.plan.now.inputs in
    one_line (line_required s used.item c.args.week) c.args.needs.now.items (lines_of s.tables.bills used.item) c.loop-at.at c.loop-at.needs.items c.add_released.new.needs.items (omega (arith, c.loop-at-test.true, c.len-at-end.ensures)) c.loop-at.invariant
    (c.in_ok-behind.ensures ∙ ap (λ (l : List Requirement). c.loop-at.needs.items ++ filter (in_the c.args.week) l) (sym c.line-by.ensures.required))

pub returns : goal.returns
returns c =
    let used = c.args.self.now in
    let s = used.plan.now.inputs in
    let places = lines_of s.tables.bills used.item in
    c.loop-at.invariant
    ∙ ap (λ (ps : List ℕ). c.args.needs.now.items ++ flat_map (line_required s used.item c.args.week) ps) (take_all c.loop-at.at places (omega (arith, c.loop-at-test.false, c.len-at-end.ensures)))
    ∙ ap (λ (l : List Requirement). c.args.needs.now.items ++ l) (sym (filter-flat_map (in_the c.args.week) (line_requirements s used.item) places))
