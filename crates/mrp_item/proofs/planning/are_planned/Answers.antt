use Rattle.std.proofs.Common.{◌≡◌, ◌∙◌, Bool, true, false, get_or, length, take, take_all, ap, sym}
use Rattle.std.specs.Prelude.{◌&&◌}
use Rattle.std.specs.List.{list_all}
use Rattle.std.proofs.lemmas.List.Folds.{list_all_at, list_all_more}
use Rattle.mrp_tables.specs.Tables.{Tables}
use Rattle.mrp_bill.specs.Bill.{parents_of}
use Rattle.mrp_item.specs.Inputs.{count}
use Rattle.mrp_item.specs.Places.{ItemOf}
use Rattle.mrp_item.specs.Plan.{is_planned, outcome_of}
use Rattle.mrp_item.proofs.Parents.{next-there}
use Rattle.mrp_item.proofs.planning.are_planned.Goals as goal

pub outcome-requires : goal.outcome-requires
outcome-requires g c =
    let s = c.args.inputs.now in
    let i = c.args.item in
    let above = c.parents-above.result.now in
    let are : above ≡ parents_of s.tables.bills (count s) i = c.parents-above.ensures ∙ ap (λ (t : Tables). parents_of t.bills (length t.items) i) c.shop.ensures.tables in
    (s, next-there g.P.ParentOutcomes.has c.args.parents.now s i c.loop-parent.parent-index above c.requires.parents are c.loop-parent-test.true)

pub loop-parent-preserved : goal.loop-parent-preserved
loop-parent-preserved g c =
    let s = c.args.inputs.now in
    let i = c.args.item in
    let k = c.loop-parent.parent-index in
    let above = c.parents-above.result.now in
    let are : above ≡ parents_of s.tables.bills (count s) i = c.parents-above.ensures ∙ ap (λ (t : Tables). parents_of t.bills (length t.items) i) c.shop.ensures.tables in
    let item = c.outcome.ensures s (next-there g.P.ParentOutcomes.has c.args.parents.now s i k above c.requires.parents are c.loop-parent-test.true) in
    let here : is_planned (outcome_of s (get_or above k 0)) ≡ true =
    sym (ap (λ (o : ItemOf). is_planned (outcome_of o.inputs o.item)) item) ∙ sym c.is_planned.ensures ∙ c.if-not-is_planned.false in
    list_all_more (λ p. is_planned (outcome_of s p)) above k 0 c.loop-parent-test.true
    ∙ ap (λ (b : Bool). b && is_planned (outcome_of s (get_or above k 0))) c.loop-parent.invariant ∙ here

pub returns-then-not-is_planned : goal.returns-then-not-is_planned
returns-then-not-is_planned g c =
    let s = c.args.inputs.now in
    let i = c.args.item in
    let k = c.loop-parent.parent-index in
    let above = c.parents-above.result.now in
    let are : above ≡ parents_of s.tables.bills (count s) i = c.parents-above.ensures ∙ ap (λ (t : Tables). parents_of t.bills (length t.items) i) c.shop.ensures.tables in
    let item = c.outcome.ensures s (next-there g.P.ParentOutcomes.has c.args.parents.now s i k above c.requires.parents are c.loop-parent-test.true) in
    let here : is_planned (outcome_of s (get_or above k 0)) ≡ false =
    sym (ap (λ (o : ItemOf). is_planned (outcome_of o.inputs o.item)) item) ∙ sym c.is_planned.ensures ∙ c.if-not-is_planned.true in
    sym (ap (list_all (λ p. is_planned (outcome_of s p))) (sym are) ∙ list_all_at (λ p. is_planned (outcome_of s p)) above k 0 c.loop-parent-test.true here)

pub returns : goal.returns
returns g c =
    let s = c.args.inputs.now in
    let i = c.args.item in
    let above = c.parents-above.result.now in
    let are : above ≡ parents_of s.tables.bills (count s) i = c.parents-above.ensures ∙ ap (λ (t : Tables). parents_of t.bills (length t.items) i) c.shop.ensures.tables in
    let whole : take c.loop-parent.parent-index above ≡ above = take_all c.loop-parent.parent-index above c.loop-parent-test.false in
    sym (ap (list_all (λ p. is_planned (outcome_of s p))) (sym (whole ∙ are)) ∙ c.loop-parent.invariant)
