use Rattle.std.proofs.Common.{◌≡◌, ◌∙◌, ℕ, Option, List, ap, drop, length, not, unwrap_or}
use Rattle.std.specs.List.{position_or_len}
use Rattle.mrp_page.specs.Row.{RowView, is_of}
use Rattle.mrp_page.specs.declared.places.Stretch.{Stretch}
use Rattle.mrp_page.proofs.RowLists.{position_or}
use Rattle.mrp_page.proofs.places.stretch_at.Goals as goal

pub returns : goal.returns
returns c =
    let other = λ (r : RowView). not (is_of c.args.name.now r) in
    let rest : List RowView = c.split_at.result.1.now in
    let count : c.unwrap_or-count.result ≡ position_or_len other (drop c.args.first c.args.rows.now) =
    c.unwrap_or-count.ensures ∙ ap (λ (o : Option ℕ). unwrap_or o (length rest)) c.first_other.ensures ∙ position_or other rest ∙ ap (position_or_len other) c.split_at.ensures.back in
    let stretch : ℕ → Stretch = λ n. record { first = c.args.first; count = n } in
    ap stretch count
