use Rattle.std.proofs.Common.{◌∙◌, ℕ, List, ◌++◌, take, take_all, ap, sym, subst, arith}
use Rattle.std.specs.Prelude.{flat_map}
use Rattle.std.proofs.lemmas.List.{append-nil}
use Rattle.mrp_bill.specs.Bill.{lines_of}
use Rattle.mrp_peg.specs.declared.matching.Requirement.{Requirement}
use Rattle.mrp_peg.specs.Placed.{AreCounted}
use Rattle.mrp_peg.specs.Rows.{line_requirements}
use Rattle.mrp_peg.proofs.Placed.{lines_next}
use Rattle.mrp_peg.proofs.where_used.WhereUsed.count_required.Goals as goal

pub line-requires : goal.line-requires
line-requires c = omega (arith, c.loop-at-test.true, c.len-at-end.ensures)

pub loop-at-init : goal.loop-at-init
loop-at-init c = λ count counted are. subst (λ (l : List Requirement). AreCounted count l c.args.counts.now) (sym (append-nil counted)) are

pub loop-at-preserved : goal.loop-at-preserved
loop-at-preserved c = λ count counted are.
    let used = c.args.self.now in
    let s = used.plan.now.inputs in
    let places = lines_of s.tables.bills used.item in
    let f = line_requirements s used.item in
    let front = counted ++ flat_map f (take c.loop-at.at places) in
    subst (λ (l : List Requirement). AreCounted count l c.count_all.new.counts)
    (ap (λ (l : List Requirement). front ++ l) (sym c.line.ensures.required) ∙ lines_next f counted places c.loop-at.at (omega (arith, c.loop-at-test.true, c.len-at-end.ensures)))
    (c.in_ok-count_all.ensures count used.item c.line.result.line c.line.result.per front (c.loop-at.invariant count counted are))

pub returns : goal.returns
returns c = λ count counted are.
    let used = c.args.self.now in
    let s = used.plan.now.inputs in
    let places = lines_of s.tables.bills used.item in
    subst (λ (ps : List ℕ). AreCounted count (counted ++ flat_map (line_requirements s used.item) ps) c.loop-at.counts)
    (take_all c.loop-at.at places (omega (arith, c.loop-at-test.false, c.len-at-end.ensures)))
    (c.loop-at.invariant count counted are)
