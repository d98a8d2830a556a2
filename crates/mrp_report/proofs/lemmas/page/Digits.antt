-- The digits of numbers from a thousand on.
use Rattle.std.proofs.Common.{◌≡◌, ℕ, ◌/◌, ◌%◌, ◌^◌, ◌<◌, ◌≤◌, ◌++◌, arith, append_assoc}
use Rattle.std.proofs.lemmas.Fmt.{decimal_step}
use Rattle.std.specs.Fmt.{decimal}
use Rattle.mrp_report.specs.page.Groups.{group}

pub more : (n : ℕ) → 1000 ≤ n → n < 2 ^ 64 → decimal n ≡ decimal (n / 1000) ++ group (n % 1000)
more n lo hi =
    let a : n / 10 / 10 ≡ n / 100 = omega arith in
    let a2 : n / 100 / 10 ≡ n / 1000 = omega arith in
    let b : n / 100 % 10 ≡ n % 1000 / 100 = omega arith in
    let c : n / 10 % 10 ≡ n % 1000 / 10 % 10 = omega arith in
    let d : n % 10 ≡ n % 1000 % 10 = omega arith in
    rw (decimal_step n (omega arith) hi, decimal_step (n / 10) (omega arith) (omega arith), a, decimal_step (n / 100) (omega arith) (omega arith), a2, append_assoc, append_assoc, b, c, d)
