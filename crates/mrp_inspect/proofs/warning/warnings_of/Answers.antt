use Rattle.std.proofs.Common.{◌∙◌, ap₂, List, Result, Vec, subst}
use Rattle.std.specs.Prelude.{IfOk}
use Rattle.std.specs.declared.alloc.Global.{Global}
use Rattle.std.proofs.lemmas.Result.{IfOk-weaker}
use Rattle.mrp_qty.specs.declared.memory.NoMemory.{NoMemory}
use Rattle.mrp_warn.specs.declared.sheets.Sheet.{Sheet}
use Rattle.mrp_warn.specs.declared.telling.Group.{Group}
use Rattle.mrp_warn.specs.Words.{text_of}
use Rattle.mrp_inspect.specs.Sheets.{AreSheets}
use Rattle.mrp_inspect.specs.Warned.{AreGroupsOf}
use Rattle.mrp_inspect.proofs.warning.warnings_of.Goals as goal

pub returns : goal.returns
returns g c =
    let both = c.groups_and_sheets-groups in
    let own : AreGroupsOf c.args.bundle.now c.in_ok-groups.groups.items = subst (λ (r : Result (Vec Group Global) NoMemory). IfOk r (λ groups. AreGroupsOf c.args.bundle.now groups.items)) c.in_ok-groups.was both.ensures.groups in
    let places : AreSheets c.args.sources.now c.in_ok-sheets.sheets.items = subst (λ (r : Result (Vec Sheet Global) NoMemory). IfOk r (λ sheets. AreSheets c.args.sources.now sheets.items)) c.in_ok-sheets.was both.ensures.sheets in
    IfOk-weaker c.warnings_text.result _ _
    (λ text is. record {
      tables = own.tables;
      accepted = own.accepted;
      texts = own.texts;
      split = own.split;
      seen = own.seen;
      inspects = own.inspects;
      groups = c.in_ok-groups.groups.items;
      warnings = own.warnings;
      sheets = c.in_ok-sheets.sheets.items;
      places = places;
      text_is = is ∙ ap₂ (λ (ss : List Sheet) (gs : List Group). text_of ss gs) c.as_slice.ensures.value c.as_slice-2.ensures.value;
    })
    c.warnings_text.ensures
