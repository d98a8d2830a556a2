use Rattle.std.proofs.Common.{◌∙◌, ap, rules, sym, tests}
use Rattle.std.specs.Prelude.{[], unwrap_or}
use Rattle.std.proofs.lemmas.Iterator.Consumers.{nth_from_yields_List}
use Rattle.std.proofs.lemmas.Iterator.Splits.{YieldsList-from_slice_split}
use Rattle.std.proofs.lemmas.Option.{get_or_from_slice_get, unwrap_or-slice_get}
use Rattle.mrp_lines.specs.Lines.{cells_of, is_comma}
use Rattle.mrp_lines.proofs.line.nth_cell.Goals as goal

pub returns-in-Some : goal.returns-in-Some
returns-in-Some c =
    let found = nth_from_yields_List _ _ c.args.column c.nth.ensures.ran (YieldsList-from_slice_split _ is_comma c.args.line.now c.split.ensures.rest c.split.ensures.done c.split.ensures.closure (λ x r q k. search (rules, tests))) in
    sym (get_or_from_slice_get (cells_of c.args.line.now) c.args.column c.in-Some.cell.now [] (sym (rw c.in-Some.is at found)))

pub returns-in-None : goal.returns-in-None
returns-in-None c =
    let found = nth_from_yields_List _ _ c.args.column c.nth.ensures.ran (YieldsList-from_slice_split _ is_comma c.args.line.now c.split.ensures.rest c.split.ensures.done c.split.ensures.closure (λ x r q k. search (rules, tests))) in
    ap (λ o. unwrap_or o []) (rw c.in-None.is at found) ∙ unwrap_or-slice_get (cells_of c.args.line.now) c.args.column []
