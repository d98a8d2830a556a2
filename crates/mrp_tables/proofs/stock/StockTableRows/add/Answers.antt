use Rattle.std.proofs.Common.{rules, arith, ◌≡◌, ◌++◌, ◌∷◌, [], ◌∙◌, sym, ap, false}
use Rattle.std.specs.Prelude.{nat_eq}
use Rattle.std.proofs.lemmas.Grind.{common_steps}
use Rattle.std.specs.Cmp.{nat_eq_equiv}
use Rattle.std.specs.List.{list_any}
use Rattle.mrp_tables.specs.Stock.{items_in_stock}
use Rattle.mrp_tables.proofs.Distinct.{grown_field}
use Rattle.mrp_tables.proofs.stock.StockTableRows.add.Goals as goal

pub invariant_of-self-else-is_err-2 : goal.invariant_of-self-else-is_err-2
invariant_of-self-else-is_err-2 c =
    let old = c.self.inside.rows.items in
    let row = c.in_ok-stock.stock in
    let pushed : c.push.new.self.items ≡ old ++ row ∷ [] = search rules in
    let fresh : list_any (nat_eq row.item) (items_in_stock old) ≡ false =
    sym (ap (list_any (nat_eq row.item)) c.self.invariant.keys) ∙ sym c.contains.ensures ∙ c.if-contains.false in
    record {
      keys = grind (arith, common_steps);
      within = grind (arith, common_steps);
      distinct = grown_field nat_eq_equiv (λ s. s.item) old c.push.new.self.items row pushed c.self.invariant.distinct fresh;
    }
