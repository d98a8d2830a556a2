use Rattle.std.proofs.Common.{◌≡◌, ◌∙◌, ap, subst}
use Rattle.std.specs.Prelude.{slice_index}
use Rattle.mrp_tables.specs.Tables.{Tables}
use Rattle.mrp_bill.specs.Bill.{lines_of}
use Rattle.mrp_item.specs.Inputs.{Inputs}
use Rattle.mrp_item.specs.Plan.{HasParents, IsRanked}
use Rattle.mrp_peg.proofs.Released.{all_rising}
use Rattle.mrp_peg.proofs.where_used.WhereUsed.of.Goals as goal

pub invariant_of-result : goal.invariant_of-result
invariant_of-result c =
    let s = c.args.plan.now.inputs in
    let code = slice_index c.shop-shop.result.now.codes in
    let e : c.deref-inputs.result.now ≡ s = c.deref-inputs.ensures ∙ c.inputs.ensures.inputs in
    let R : Inputs → Type 0 = λ x. IsRanked x code in
    let tables : c.shop-shop.result.now.tables ≡ s.tables = c.shop-shop.ensures.tables ∙ ap (λ (x : Inputs). x.tables) e in
    record {
      parents = subst HasParents e c.shop-shop.ensures.parents;
      rising = all_rising s code (subst R e c.shop-shop.ensures.ranked);
      table = c.bills-bills.ensures.rows ∙ ap (λ (t : Tables). t.bills) (c.tables.ensures.value ∙ tables);
      lines = c.lines_to-places.ensures ∙ ap (λ (t : Tables). lines_of t.bills c.args.item) tables;
      few = c.bills-bills.ensures.count;
    }
