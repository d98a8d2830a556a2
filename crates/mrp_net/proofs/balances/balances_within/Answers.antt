use Rattle.std.proofs.Common.{◌<◌, ◌≤◌, ◌+◌, ℕ, List, length, ap, arith}
use Rattle.std.proofs.lemmas.Grind.{get_or_default_zero}
use Rattle.mrp_phase.specs.Weeks.{in_week, sum_to}
use Rattle.mrp_phase.proofs.WeekRows.{in_week_next, sum_to_rises, sum_to_next}
use Rattle.mrp_net.proofs.balances.balances_within.Goals as goal

-- what is received in a week is in the sum up to each later one
sum_to_past : (xs : List ℕ) (i weeks : ℕ) → i < weeks → sum_to xs i + in_week xs (i + 1) ≤ sum_to xs weeks
sum_to_past xs i weeks h = omega (arith, sum_to_next xs i, sum_to_rises xs (i + 1) weeks (omega arith))

pub balance-requires : goal.balance-requires
balance-requires c =
    let scheduled = c.as_slice-scheduled.result.now in
    let received = c.as_slice-received.result.now in
    let i = c.loop-i.i in
    let weeks = length c.args.gross.now in
    let in_weeks : i < weeks = omega (arith, c.loop-i-test.true, ap length c.as_slice-gross.ensures) in
    let in_scheduled : i < length scheduled = omega (arith, ap length c.as_slice-scheduled.ensures, c.requires.scheduled) in
    let in_received : i < length received = omega (arith, ap length c.as_slice-received.ensures, c.requires.receipts) in
    omega (
      arith,
      c.with-so_far.ensures.supplied,
      c.loop-i.invariant.supplied,
      c.requires.supplies,
      sum_to_past scheduled i weeks in_weeks,
      ap (λ xs. sum_to xs weeks) c.as_slice-scheduled.ensures,
      in_week_next scheduled i,
      c.index-scheduled-i.is,
      get_or_default_zero scheduled i c.index-scheduled-i.result in_scheduled,
      c.requires.rises (i + 1) weeks (omega arith) (omega arith),
      ap (λ xs. in_week xs (i + 1)) c.as_slice-received.ensures,
      in_week_next received i,
      c.index-received-i.is,
      get_or_default_zero received i c.index-received-i.result in_received,
    )
