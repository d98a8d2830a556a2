use Rattle.std.proofs.lemmas.Result.{IfOk-weaker}
use Rattle.mrp_inspect.proofs.warning.groups_of.Goals as goal

pub returns : goal.returns
returns g c =
    IfOk-weaker c.warnings.result _ _
    (λ groups are. record {
      tables = c.args.shop.now.tables;
      accepted = c.requires;
      texts = c.sections_of-sections.result;
      split = c.sections_of-sections.ensures;
      seen = c.in_ok-inspection.inspection;
      inspects = c.in_ok-inspection.ensures;
      warnings = are;
    })
    c.warnings.ensures
