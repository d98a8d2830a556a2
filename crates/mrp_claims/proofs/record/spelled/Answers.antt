use Rattle.std.proofs.Common.{◌≡◌, ◌∙◌, ◌≤◌, sym, ap, refl, arith, ℕ, List, length, ◌++◌, drop}
use Rattle.csv.specs.Records.{fields_of}
use Rattle.mrp_report.specs.page.Rows.{row}
use Rattle.mrp_claims.proofs.Rows.{begins}
use Rattle.mrp_claims.proofs.record.spelled.Goals as goal

pub returns-then-starts_with : goal.returns-then-starts_with
returns-then-starts_with c =
    let text = c.args.text.now in
    let own = c.as_slice.result.now in
    let is : own ≡ row (fields_of c.args.cells) = c.as_slice.ensures.value ∙ c.in_ok-own.ensures in
    let size : c.len.result ≡ length own = omega (arith, c.len.ensures, c.as_slice.ensures.len) in
    let stands = (begins text own c.starts_with.result c.starts_with.ensures.value).0 c.if-starts_with.true in
    let within : length own ≤ length text = c.starts_with.ensures.bound c.if-starts_with.true in
    (refl, omega (arith, size, within), stands ∙ ap (λ (x : List ℕ). x ++ drop (length own) text) is ∙ ap (λ (k : ℕ). row (fields_of c.args.cells) ++ drop k text) (sym size))

pub returns-else-starts_with : goal.returns-else-starts_with
returns-else-starts_with c = λ rest is.
    let text = c.args.text.now in
    let own = c.as_slice.result.now in
    let own-is : own ≡ row (fields_of c.args.cells) = c.as_slice.ensures.value ∙ c.in_ok-own.ensures in
    let so = (begins text own c.starts_with.result c.starts_with.ensures.value).1 rest (is ∙ ap (λ (x : List ℕ). x ++ rest) (sym own-is)) in
    let other = c.if-starts_with.false in
    absurd cc
