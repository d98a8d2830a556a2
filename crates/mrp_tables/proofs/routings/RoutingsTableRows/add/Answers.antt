use Rattle.std.proofs.Common.{rules, ◌≡◌, ◌++◌, ◌∷◌, [], ◌∙◌, sym, ap, false, true, ℕ}
use Rattle.std.specs.Prelude.{is_err}
use Rattle.std.proofs.lemmas.List.{map-append}
use Rattle.std.proofs.lemmas.List.Elements.{All-append, All-cons, All-nil}
use Rattle.mrp_tables.specs.declared.rows.Operation.{Operation}
use Rattle.std.specs.List.{list_any}
use Rattle.mrp_tables.specs.Routings.{operations_of, same_operation}
use Rattle.mrp_tables.specs.Facts.{IsOperation}
use Rattle.mrp_tables.proofs.Distinct.{added_key, grown_field, popped, same_operation_equiv, where_refused}
use Rattle.mrp_tables.proofs.routings.RoutingsTableRows.add.Goals as goal

pub invariant_of-self-else-is_err-2 : goal.invariant_of-self-else-is_err-2
invariant_of-self-else-is_err-2 c =
    let old = c.self.inside.rows.items in
    let row = c.in_ok-operation.operation in
    let pushed : c.push.new.self.items ≡ old ++ row ∷ [] = search rules in
    let fresh : list_any (same_operation (row.item, row.operation)) (operations_of old) ≡ false =
    sym (ap (list_any (same_operation (row.item, row.operation))) c.self.invariant.keys) ∙ c.in_ok-operation.ensures.fresh in
    let numbered : ℕ × ℕ = (row.item, row.operation) in
    let keys = added_key same_operation c.insert.result c.self.inside.seen.keys c.insert.new.self.keys numbered (sym c.is_err-2.ensures.value ∙ c.if-is_err-2.false) c.insert.ensures.keys c.in_ok-operation.ensures.fresh in
    let Is : Operation → Type 0 = IsOperation c.self.inside.items.now c.self.inside.centres.now in
    record {
      keys = keys ∙ ap (λ ks. ks ++ numbered ∷ []) c.self.invariant.keys ∙ sym (ap operations_of pushed ∙ map-append (λ (o : Operation). (o.item, o.operation)) old (row ∷ []));
      within = rw pushed (All-append Is old (row ∷ []) c.self.invariant.within (All-cons Is row [] c.in_ok-operation.ensures.within (All-nil Is)));
      distinct = grown_field same_operation_equiv (λ (o : Operation). (o.item, o.operation)) old c.push.new.self.items row pushed c.self.invariant.distinct fresh;
    }

pub invariant_of-self-then-is_err-2 : goal.invariant_of-self-then-is_err-2
invariant_of-self-then-is_err-2 c =
    let old = c.self.inside.rows.items in
    let pushed : c.push.new.self.items ≡ old ++ c.in_ok-operation.operation ∷ [] = search rules in
    let kept : c.pop.new.self.items ≡ old = popped old c.push.new.self.items c.pop.new.self.items c.in_ok-operation.operation c.push.new.self.len pushed c.push.new.self.ok.0 c.pop.ensures.rest in
    let refused : is_err c.insert.result ≡ true = sym c.is_err-2.ensures.value ∙ c.if-is_err-2.true in
    record {
      keys = where_refused c.insert.result refused c.insert.ensures.err ∙ c.self.invariant.keys ∙ ap operations_of (sym kept);
      within = rw kept c.self.invariant.within;
      distinct = rw kept c.self.invariant.distinct;
    }
