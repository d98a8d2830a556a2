use Rattle.std.proofs.Common.{◌≡◌, ◌∙◌, ◌&&◌, true, ap, sym, arith, length, lt-ltb}
use Rattle.std.specs.Prelude.{nat_lt}
use Rattle.std.specs.List.{list_any}
use Rattle.mrp_tables.specs.Tables.{Tables}
use Rattle.mrp_tables.specs.declared.item.Item.{Item}
use Rattle.mrp_item.specs.Inputs.{Inputs, count}
use Rattle.mrp_peg.specs.declared.matching.Requirement.{Requirement}
use Rattle.mrp_peg.specs.declared.peg.Need.{Need}
use Rattle.mrp_peg.specs.Causes.{same_need}
use Rattle.mrp_peg.specs.Pegging.{requirements}
use Rattle.mrp_peg.specs.Units.{Amount}
use Rattle.mrp_peg.proofs.Sourced.{any_required}
use Rattle.mrp_peg.proofs.sourcing.has_need.Goals as goal

pub returns : goal.returns
returns c =
    let s = c.args.plan.now.inputs in
    let n = c.args.need.now in
    let items = c.items.ensures.rows ∙ ap (λ (t : Tables). t.items) (c.tables.ensures.value ∙ c.shop.ensures.tables ∙ ap (λ (x : Inputs). x.tables) (c.deref.ensures ∙ c.inputs.ensures.inputs)) in
    let small : nat_lt n.item (count s) ≡ true = lt-ltb n.item (count s) (omega (arith, c.if-need-items.false, ap (length {A = Item}) items)) in
    let among : c.is_required.result ≡ list_any (λ (a : Amount Need). same_need a.of n) (requirements s n.item) =
    c.is_required.ensures ∙ ap (list_any (λ (w : Requirement). same_need w.need n)) c.deref-2.ensures.value
    ∙ sym (any_required (λ (m : Need). same_need m n) c.in_ok-needs.needs.items) ∙ ap (list_any (λ (a : Amount Need). same_need a.of n)) c.in_ok-needs.ensures.needs in
    among ∙ sym (ap (λ b. b && list_any (λ (a : Amount Need). same_need a.of n) (requirements s n.item)) small)
