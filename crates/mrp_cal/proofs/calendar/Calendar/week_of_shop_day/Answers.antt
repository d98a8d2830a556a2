use Rattle.std.proofs.Common.{rules, ◌≡◌, ◌≤◌, ℕ, take, refl, sym, ◌∙◌, ap, arith}
use Rattle.std.specs.Prelude.{nat_le}
use Rattle.std.specs.List.Sorted.{IsNonDecreasingBy}
use Rattle.std.proofs.lemmas.List.Sorted.{IsPartitionPoint-from_clause, IsPartitionedBy-leb}
use Rattle.mrp_cal.specs.Releases.{first_days, week_of_shop_day}
use Rattle.mrp_cal.proofs.FirstDays.{count_by-parted, first_days-rise, first_days-taken}
use Rattle.mrp_cal.proofs.calendar.Calendar.week_of_shop_day.Goals as goal

pub returns : goal.returns
unfolding week_of_shop_day
returns c =
    let own = c.self.inside.horizon in
    let days = c.self.inside.first_shop_days in
    let last = c.args.last in
    let day = c.args.day in
    let at : c.from.result ≡ last = c.from.ensures in
    let within : last ≤ own.weeks = omega (arith, c.requires, ap (λ s. s.weeks) c.self.view_is) in
    let taken : take c.from.result days ≡ first_days own last = rw at (first_days-taken own days own.weeks last c.self.invariant.numbered within) in
    let rising : IsNonDecreasingBy (λ (first : ℕ). first) (take c.from.result days) = rw taken (first_days-rise own last) in
    let parted = IsPartitionPoint-from_clause (λ (first : ℕ). nat_le first day) (take c.from.result days) c.partition_point.result c.partition_point.ensures.partitioned
    (IsPartitionedBy-leb (λ (first : ℕ). first) (take c.from.result days) day rising) (λ a r f called. search rules) in
    sym (count_by-parted (λ (first : ℕ). nat_le first day) (take c.from.result days) c.partition_point.result c.partition_point.ensures.bound parted)
    ∙ rw (taken, c.self.view_is) refl
