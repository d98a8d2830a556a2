-- Laws of net requirements.
use Rattle.std.proofs.Common.{◌≡◌, ◌⊎◌, inl, inr, ℕ, zero, suc, ◌+◌, ◌<◌, ◌≤◌, List, length, sym, ap, arith}
use Rattle.std.proofs.lemmas.Bool.{cases_lt}
use Rattle.mrp_phase.specs.Weeks.{row, in_week, sum_to}
use Rattle.mrp_phase.proofs.WeekRows.{in_week_row, length-row, greatest_none, greatest_suc, greatest_rises, sum_to_suc}
use Rattle.mrp_net.specs.declared.stock.Stock.{Stock}
use Rattle.mrp_net.specs.Need.{shortage, need, net_to, running_balance, balance, IsNeed}

-- week after week, the balances and the net requirements add up
record AddsUp (stock : Stock) (gross : List ℕ) (t : ℕ) : Type 0 where
  needs : net_to stock gross t ≡ need stock gross t
  balances : running_balance stock gross t + sum_to gross t ≡ stock.on_hand + sum_to stock.scheduled t + need stock gross t

adds_up : (stock : Stock) (gross : List ℕ) (t : ℕ) → AddsUp stock gross t
adds_up stock gross zero = record {
  needs = sym (greatest_none (shortage stock gross));
  balances = omega (arith, greatest_none (shortage stock gross));
}
adds_up stock gross (suc t) =
    let before = adds_up stock gross t in
    let more = greatest_suc (shortage stock gross) t in
    let requirements = sum_to_suc gross t in
    let supplies = sum_to_suc stock.scheduled t in
    record {
      needs = omega (arith, before.needs, before.balances, more, requirements, supplies);
      balances = omega (arith, before.needs, before.balances, more, requirements, supplies);
    }

pub recurrence : (stock : Stock) (gross : List ℕ) (t : ℕ) → net_to stock gross t ≡ need stock gross t
recurrence stock gross t = (adds_up stock gross t).needs

pub recurrence_balance : (stock : Stock) (gross : List ℕ) (t : ℕ) → running_balance stock gross t ≡ balance stock gross (need stock gross t) t
recurrence_balance stock gross t = omega (arith, (adds_up stock gross t).balances)

pub need_rises : (stock : Stock) (gross : List ℕ) (horizon : ℕ) → IsNeed horizon (need stock gross)
need_rises stock gross horizon s t h within = greatest_rises (shortage stock gross) s t h

-- a row of cumulative net requirements has them in its weeks, and does not fall
pub row_rises : (f : ℕ → ℕ) (horizon : ℕ) → IsNeed horizon f → IsNeed horizon (in_week (row horizon f))
unfolding in_week
row_rises f horizon rises zero t h within = omega arith
row_rises f horizon rises (suc s) t h within =
    omega (arith, in_week_row f horizon (suc s) (omega arith) (omega arith), in_week_row f horizon t (omega arith) within, rises (suc s) t h within)

pub is_row-rises : (xs : List ℕ) (f : ℕ → ℕ) (n : ℕ) → xs ≡ row n f → IsNeed n f → IsNeed (length xs) (in_week xs)
is_row-rises xs f n e rises = rw (e, length-row f n) (row_rises f n rises)

-- a row that does not fall, with one more week
pub rises_more : (xs : List ℕ) (n : ℕ) → IsNeed n (in_week xs) → in_week xs n ≤ in_week xs (n + 1) → IsNeed (n + 1) (in_week xs)
rises_more xs n before next s t h within = by (cases_lt t (n + 1)) (cases_lt s (n + 1))
  where
    by : (t < n + 1) ⊎ (n + 1 ≤ t) → (s < n + 1) ⊎ (n + 1 ≤ s) → in_week xs s ≤ in_week xs t
    by (inl lt) side = before s t h (omega arith)
    by (inr ge) (inl lt) =
        let last : t ≡ n + 1 = omega arith in
        omega (arith, ap (in_week xs) last, before s n (omega arith) (omega arith))
    by (inr ge) (inr last) =
        let same : s ≡ t = omega arith in
        omega (arith, ap (in_week xs) same)
