use Rattle.std.proofs.Common.{sym, ◌∙◌, inr}
use Rattle.std.proofs.lemmas.Result.{err_from_is_err_and}
use Rattle.mrp_rows.proofs.FirstRecords.{first-refused, opens, opens-not}
use Rattle.mrp_rows.proofs.cursor.Cursor.over.Goals as goal

pub returns-in-Err : goal.returns-in-Err
returns-in-Err c = first-refused _ c.args.text.now c.after_mark.result.now c.in-Err.fault c.as_header.result c.next.new.self c.after_mark.ensures c.in-Err.ensures c.as_header.ensures

pub returns-in_err-headed : goal.returns-in_err-headed
returns-in_err-headed c =
    let p = err_from_is_err_and c.from_residual.result c.from_residual.ensures.1 in
    rw (p.1, p.2) (inr (opens-not _ c.args.text.now c.after_mark.result.now c.in-Ok.first _ c.next.new.self c.after_mark.ensures c.in-Ok.ensures (sym c.headed.ensures ∙ c.in_err-headed.was)))

pub returns : goal.returns
returns c = opens _ c.args.text.now c.after_mark.result.now c.in-Ok.first c.next.new.self c.after_mark.ensures c.in-Ok.ensures (sym c.headed.ensures ∙ c.in_ok-headed.was)
