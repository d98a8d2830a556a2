use Rattle.std.proofs.Common.{ℕ, ◌<◌, ◌^◌, arith, rules}
use Rattle.std.proofs.lemmas.List.Sorted.{IsNonDecreasingBy-from_sort, answers_always}
use Rattle.mrp_risk.specs.Chains.{weeks_late}
use Rattle.mrp_risk.proofs.LateRows.{early, sorted-rows}
use Rattle.mrp_risk.proofs.late.late_orders.Goals as goal

pub returns : goal.returns
returns c =
    let small : (order : ℕ) → weeks_late c.args.lateness.now order < 2 ^ 64 = λ order. omega (arith, c.type_inv.lateness order) in
    sorted-rows c.args.lateness.now c.in_ok-late.late.items c.sort_by_key.new.self.items small c.in_ok-late.ensures c.sort_by_key.ensures.permutation
    (IsNonDecreasingBy-from_sort early c.sort_by_key.new.self.items (c.in_ok-sort_by_key.ensures.sorted early (answers_always _ _ _ (λ f a r g h. search rules))))
    (c.sort_by_key.ensures.stable early (answers_always _ _ _ (λ f a r g h. search rules)))
