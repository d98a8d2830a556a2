use Rattle.std.proofs.Common.{rules, ◌≡◌, ◌++◌, ◌∷◌, [], ◌∙◌, sym, ap, false, true, ℕ, List}
use Rattle.std.specs.Prelude.{is_err}
use Rattle.std.proofs.lemmas.List.{map-append}
use Rattle.std.proofs.lemmas.List.Elements.{All-append, All-cons, All-nil}
use Rattle.mrp_tables.specs.declared.rows.Receipt.{Receipt}
use Rattle.std.specs.List.{list_any}
use Rattle.mrp_tables.specs.Receipts.{orders_of, same_order}
use Rattle.mrp_tables.specs.Facts.{IsReceiptIfAny}
use Rattle.mrp_tables.proofs.Distinct.{added_key, grown_field, popped, same_order_equiv, where_refused}
use Rattle.mrp_tables.proofs.receipts.ReceiptsTableRows.add.Goals as goal

pub invariant_of-self-else-is_err-2 : goal.invariant_of-self-else-is_err-2
invariant_of-self-else-is_err-2 c =
    let old = c.self.inside.rows.items in
    let row = c.in_ok-receipt.receipt in
    let pushed : c.push.new.self.items ≡ old ++ row ∷ [] = search rules in
    let fresh : list_any (same_order (row.item, row.order)) (orders_of old) ≡ false =
    sym (ap (list_any (same_order (row.item, row.order))) c.self.invariant.keys) ∙ c.in_ok-receipt.ensures.fresh in
    let named : ℕ × List ℕ = (row.item, row.order) in
    let keys = added_key same_order c.insert.result c.self.inside.seen.keys c.insert.new.self.keys named (sym c.is_err-2.ensures.value ∙ c.if-is_err-2.false) c.insert.ensures.keys c.in_ok-receipt.ensures.fresh in
    let Any : Receipt → Type 0 = IsReceiptIfAny c.self.inside.calendar.now.weeks c.self.inside.items.now in
    record {
      keys = keys ∙ ap (λ ks. ks ++ named ∷ []) c.self.invariant.keys ∙ sym (ap orders_of pushed ∙ map-append (λ (r : Receipt). (r.item, r.order)) old (row ∷ []));
      within = rw pushed (All-append Any old (row ∷ []) c.self.invariant.within (All-cons Any row [] c.in_ok-receipt.ensures.within (All-nil Any)));
      distinct = grown_field same_order_equiv (λ (r : Receipt). (r.item, r.order)) old c.push.new.self.items row pushed c.self.invariant.distinct fresh;
    }

pub invariant_of-self-then-is_err-2 : goal.invariant_of-self-then-is_err-2
invariant_of-self-then-is_err-2 c =
    let old = c.self.inside.rows.items in
    let pushed : c.push.new.self.items ≡ old ++ c.in_ok-receipt.receipt ∷ [] = search rules in
    let kept : c.pop.new.self.items ≡ old = popped old c.push.new.self.items c.pop.new.self.items c.in_ok-receipt.receipt c.push.new.self.len pushed c.push.new.self.ok.0 c.pop.ensures.rest in
    let refused : is_err c.insert.result ≡ true = sym c.is_err-2.ensures.value ∙ c.if-is_err-2.true in
    record {
      keys = where_refused c.insert.result refused c.insert.ensures.err ∙ c.self.invariant.keys ∙ ap orders_of (sym kept);
      within = rw kept c.self.invariant.within;
      distinct = rw kept c.self.invariant.distinct;
    }
