use Rattle.std.proofs.Common.{◌∙◌, ℕ, List, ◌+◌, ◌<◌, ◌≤◌, ◌++◌, length, map, take, drop, take_all, ap, sym, subst, arith}
use Rattle.std.specs.Prelude.{flat_map}
use Rattle.std.specs.List.{enumerate_from}
use Rattle.std.proofs.lemmas.List.{append-nil, drop_all}
use Rattle.mrp_bill.specs.Bill.{lines_of}
use Rattle.mrp_peg.specs.declared.matching.Requirement.{Requirement}
use Rattle.mrp_peg.specs.Placed.{ArePut}
use Rattle.mrp_peg.specs.Rows.{line_requirements, order_requirement}
use Rattle.mrp_peg.proofs.Placed.{lines_left, lines_next}
use Rattle.mrp_peg.proofs.Totals.{used_within}
use Rattle.mrp_peg.proofs.where_used.WhereUsed.put_required.Goals as goal

pub line-requires : goal.line-requires
line-requires c = omega (arith, c.loop-at-test.true, c.len-at-end.ensures)

pub put_all-requires : goal.put_all-requires
put_all-requires c =
    let used = c.args.self.now in
    used_within used.plan.now.inputs used.item c.requires.own c.requires.part c.requires.within c.loop-at.at c.line.result.per c.line.result.orders.now (omega (arith, c.loop-at-test.true, c.len-at-end.ensures)) c.line.ensures.per c.line.ensures.orders

pub loop-at-init : goal.loop-at-init
loop-at-init c = λ count placed rest are.
    let used = c.args.self.now in
    let s = used.plan.now.inputs in
    subst (λ (l : List Requirement). ArePut count l (flat_map (line_requirements s used.item) (lines_of s.tables.bills used.item) ++ rest) c.args.next.now c.args.needs.now) (sym (append-nil placed)) are

pub loop-at-preserved : goal.loop-at-preserved
loop-at-preserved c = λ count placed rest are.
    let used = c.args.self.now in
    let s = used.plan.now.inputs in
    let places = lines_of s.tables.bills used.item in
    let k = c.loop-at.at in
    let f = line_requirements s used.item in
    let own = map (order_requirement used.item c.line.result.line c.line.result.per) (enumerate_from 1 c.line.result.orders.now) in
    let front = placed ++ flat_map f (take k places) in
    let behind = flat_map f (drop (k + 1) places) ++ rest in
    let there : k < length places = omega (arith, c.loop-at-test.true, c.len-at-end.ensures) in
    let before : ArePut count front (own ++ behind) c.loop-at.next c.loop-at.needs =
    subst (λ (l : List Requirement). ArePut count front l c.loop-at.next c.loop-at.needs)
    (lines_left f rest places k there ∙ ap (λ (l : List Requirement). l ++ behind) c.line.ensures.required) (c.loop-at.invariant count placed rest are) in
    subst (λ (l : List Requirement). ArePut count l behind c.put_all.new.next c.put_all.new.needs)
    (ap (λ (l : List Requirement). front ++ l) (sym c.line.ensures.required) ∙ lines_next f placed places k there)
    (c.put_all.ensures count front behind before)

pub returns : goal.returns
returns c = λ count placed rest are.
    let used = c.args.self.now in
    let s = used.plan.now.inputs in
    let places = lines_of s.tables.bills used.item in
    let f = line_requirements s used.item in
    let past : length places ≤ c.loop-at.at = omega (arith, c.loop-at-test.false, c.len-at-end.ensures) in
    subst (λ (ps : List ℕ). ArePut count (placed ++ flat_map f places) (flat_map f ps ++ rest) c.loop-at.next c.loop-at.needs) (drop_all c.loop-at.at places past)
    (subst (λ (ps : List ℕ). ArePut count (placed ++ flat_map f ps) (flat_map f (drop c.loop-at.at places) ++ rest) c.loop-at.next c.loop-at.needs) (take_all c.loop-at.at places past)
    (c.loop-at.invariant count placed rest are))
