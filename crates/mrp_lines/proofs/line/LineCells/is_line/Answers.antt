use Rattle.std.proofs.Common.{◌∙◌, ◌≡◌, ◌+◌, ap, arith, length, subst, suc, sym, ℕ}
use Rattle.std.proofs.Math.Dec.{leb}
use Rattle.std.proofs.lemmas.List.{length-take-le}
use Rattle.mrp_lines.specs.Lines.{IsPlainLine}
use Rattle.mrp_lines.specs.declared.line.TheConstants.{LONGEST_LINE}
use Rattle.mrp_lines.proofs.Sizes.{plain-line}
use Rattle.mrp_lines.proofs.line.LineCells.is_line.Goals as goal

pub returns : goal.returns
returns c =
    let line = subst IsPlainLine c.self.view_is c.self.invariant.line in
    let long : length c.args.self.now + 1 ≡ suc c.self.inside.len =
    omega (arith, ap length c.self.view_is, length-take-le c.self.inside.len c.self.inside.text.now (omega (arith, c.self.invariant.within))) in
    ap (λ (n : ℕ). leb n LONGEST_LINE) (sym long) ∙ sym (plain-line c.args.self.now line.plain line.one)
