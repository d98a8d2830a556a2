use Rattle.std.proofs.Common.{◌≡◌, ◌∙◌, List, [], ◌∷◌, ◌++◌, ℕ, take, take_all, map, ap}
use Rattle.mrp_tables.specs.Tables.{Tables}
use Rattle.mrp_tables.specs.declared.rows.BillLine.{BillLine}
use Rattle.mrp_bill.specs.Bill.{IsParent, lines_of}
use Rattle.mrp_phase.specs.Weeks.{row}
use Rattle.mrp_item.specs.DependentDemand.{LineStarts}
use Rattle.mrp_item.specs.Inputs.{horizon}
use Rattle.mrp_item.specs.Made.{item_from}
use Rattle.mrp_item.specs.Orders.{started_in}
use Rattle.mrp_item.specs.Places.{ItemOf}
use Rattle.mrp_item.specs.Plan.{is_planned, outcome_of, plan_in}
use Rattle.mrp_item.proofs.DependentDemand.{starts_all, starts_at, starts_more}
use Rattle.mrp_item.proofs.Outcomes.{parent-planned}
use Rattle.mrp_item.proofs.Parents.{from-parent, parent-there, to_item}
use Rattle.mrp_item.proofs.dependent.lines_with_starts.Goals as goal

pub line_of-line-requires : goal.line_of-line-requires
line_of-line-requires g c =
    let s = c.args.inputs.now in
    let i = c.args.item in
    let bills : c.bills-bills.result.now ≡ s.tables.bills = c.bills-bills.ensures.rows ∙ ap (λ (t : Tables). t.bills) (c.tables.ensures.value ∙ c.shop.ensures.tables) in
    let places : c.lines_to-places.result.now ≡ lines_of s.tables.bills i = c.lines_to-places.ensures ∙ ap (λ (t : Tables). lines_of t.bills i) c.shop-2.ensures.tables in
    rw bills (to_item s.tables.bills i c.loop-place.place-index c.lines_to-places.result.now places c.loop-place-test.true).0

pub outcome-requires : goal.outcome-requires
outcome-requires g c =
    let s = c.args.inputs.now in
    let i = c.args.item in
    let p = c.line_of-line.result.parent in
    let bills : c.bills-bills.result.now ≡ s.tables.bills = c.bills-bills.ensures.rows ∙ ap (λ (t : Tables). t.bills) (c.tables.ensures.value ∙ c.shop.ensures.tables) in
    let places : c.lines_to-places.result.now ≡ lines_of s.tables.bills i = c.lines_to-places.ensures ∙ ap (λ (t : Tables). lines_of t.bills i) c.shop-2.ensures.tables in
    let parent : IsParent s.tables.bills p i = from-parent s i c.loop-place.place-index c.bills-bills.result.now c.lines_to-places.result.now c.line_of-line.result bills places c.loop-place-test.true c.line_of-line.ensures in
    (s, parent-there g.P.ParentOutcomes.has c.args.parents.now s i p c.requires.parents (c.shop.ensures.parents p i parent) parent)

pub started_by-started-requires : goal.started_by-started-requires
started_by-started-requires g c =
    let s = c.args.inputs.now in
    let i = c.args.item in
    let p = c.line_of-line.result.parent in
    let bills : c.bills-bills.result.now ≡ s.tables.bills = c.bills-bills.ensures.rows ∙ ap (λ (t : Tables). t.bills) (c.tables.ensures.value ∙ c.shop.ensures.tables) in
    let places : c.lines_to-places.result.now ≡ lines_of s.tables.bills i = c.lines_to-places.ensures ∙ ap (λ (t : Tables). lines_of t.bills i) c.shop-2.ensures.tables in
    let parent : IsParent s.tables.bills p i = from-parent s i c.loop-place.place-index c.bills-bills.result.now c.lines_to-places.result.now c.line_of-line.result bills places c.loop-place-test.true c.line_of-line.ensures in
    let within = c.shop.ensures.parents p i parent in
    let item : c.outcome.result.now ≡ item_from s p = c.outcome.ensures s (parent-there g.P.ParentOutcomes.has c.args.parents.now s i p c.requires.parents within parent) in
    ap (λ (x : ItemOf). is_planned (outcome_of x.inputs x.item)) item ∙ parent-planned s i p c.requires.ready within parent

pub loop-place-preserved : goal.loop-place-preserved
loop-place-preserved g c =
    let s = c.args.inputs.now in
    let i = c.args.item in
    let p = c.line_of-line.result.parent in
    let bills : c.bills-bills.result.now ≡ s.tables.bills = c.bills-bills.ensures.rows ∙ ap (λ (t : Tables). t.bills) (c.tables.ensures.value ∙ c.shop.ensures.tables) in
    let places : c.lines_to-places.result.now ≡ lines_of s.tables.bills i = c.lines_to-places.ensures ∙ ap (λ (t : Tables). lines_of t.bills i) c.shop-2.ensures.tables in
    let parent : IsParent s.tables.bills p i = from-parent s i c.loop-place.place-index c.bills-bills.result.now c.lines_to-places.result.now c.line_of-line.result bills places c.loop-place-test.true c.line_of-line.ensures in
    let item : c.outcome.result.now ≡ item_from s p = c.outcome.ensures s (parent-there g.P.ParentOutcomes.has c.args.parents.now s i p c.requires.parents (c.shop.ensures.parents p i parent) parent) in
    let starts : c.started_by-started.result.now ≡ row (horizon s) (started_in (plan_in (outcome_of s p)).orders) =
    c.started_by-started.ensures ∙ ap (λ (x : ItemOf). row (horizon x.inputs) (started_in (plan_in (outcome_of x.inputs x.item)).orders)) item in
    let more = starts_more s c.bills-bills.result.now c.lines_to-places.result.now c.loop-place.place-index c.line_of-line.result c.loop-place.lines.items c.started_by-started.result.now
    c.loop-place-test.true c.line_of-line.ensures c.loop-place.invariant starts in
    c.in_ok-push.ensures.items ∙ ap (λ (x : LineStarts). c.loop-place.lines.items ++ x ∷ []) c.new.ensures ∙ more

pub returns : goal.returns
returns g c =
    let s = c.args.inputs.now in
    let i = c.args.item in
    let k = c.loop-place.place-index in
    let all = c.lines_to-places.result.now in
    let bills : c.bills-bills.result.now ≡ s.tables.bills = c.bills-bills.ensures.rows ∙ ap (λ (t : Tables). t.bills) (c.tables.ensures.value ∙ c.shop.ensures.tables) in
    let places : all ≡ lines_of s.tables.bills i = c.lines_to-places.ensures ∙ ap (λ (t : Tables). lines_of t.bills i) c.shop-2.ensures.tables in
    let whole : take k all ≡ all = take_all k all c.loop-place-test.false in
    c.loop-place.invariant
    ∙ ap (λ (ls : List BillLine). map (starts_at s ls) (take k all)) bills
    ∙ ap (λ (ps : List ℕ). map (starts_at s s.tables.bills) ps) (whole ∙ places)
    ∙ starts_all s i
