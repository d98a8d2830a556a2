use Rattle.std.proofs.Common.{◌≡◌, ◌∙◌, sym, ap, arith, nat_eq}
use Rattle.std.specs.Prelude.{decimal, not}
use Rattle.std.specs.Cmp.Lexicographic.{nat_list_eq_equiv, pointwise}
use Rattle.mrp_claims.proofs.Cells.{number-there, number-read}
use Rattle.mrp_claims.proofs.cell.number_in.Goals as goal
use Rattle.mrp_claims.proofs.cell.number_in.Goals.{then-number-least-via-then-number-least, then-number-least-via-else-number-least+then-ne}

pub returns-in_default : goal.returns-in_default
returns-in_default c = λ n within spelled.
    c.in_default.not-Ok n (c.read_number.ensures ∙ number-there c.args.least c.args.most n c.args.cell.now (omega (arith, c.ranges.most.fits)) within spelled)

pub returns-then-number-least : goal.returns-then-number-least
returns-then-number-least c = λ n within spelled.
    let same = number-read c.args.least c.args.most n c.in-Ok.number c.args.cell.now (omega (arith, c.ranges.most.fits)) within spelled (sym c.read_number.ensures ∙ c.in-Ok.is) in
    elim c.then-number-least.branch [
      | then-number-least-via-then-number-least w ↦ absurd (omega (arith, same, w.if-number-least.true, within.0))
      | then-number-least-via-else-number-least+then-ne w ↦
          let text = w.as_bytes.result.now in
          let equal : text ≡ c.args.cell.now = w.as_bytes.ensures.value ∙ w.format.ensures.text ∙ ap decimal same ∙ sym spelled in
          let so = sym w.if-ne.true ∙ w.ne.ensures ∙ ap not (ap (pointwise nat_eq text) (sym equal) ∙ nat_list_eq_equiv.refl text) in
          absurd cc
    ]
