use Rattle.std.proofs.Common.{rules}
use Rattle.std.specs.Prelude.{nat_lt}
use Rattle.std.proofs.lemmas.List.Elements.{filter_from_retain}
use Rattle.mrp_tables.proofs.receipts.that_count.Goals as goal

pub returns : goal.returns
returns c = filter_from_retain _ (λ row. nat_lt 0 row.quantity) (λ p x b q h. search rules) _ _ _ c.retain.ensures.filtered
