use Rattle.std.proofs.lemmas.Result.{err_from_is_err_and}
use Rattle.mrp_tables.proofs.PartsRead.{all_tables, before_master}
use Rattle.mrp_tables.proofs.tables.Tables.read.Goals as goal

pub returns-in_err-first : goal.returns-in_err-first
returns-in_err-first c =
    let p = err_from_is_err_and c.from_residual.result c.from_residual.ensures.1 in
    rw (p.1, p.2) c.in_err-first.ensures

pub returns-in_err-rows : goal.returns-in_err-rows
returns-in_err-rows c =
    let p = err_from_is_err_and c.from_residual-in_err-rows.result c.from_residual-in_err-rows.ensures.1 in
    rw (p.1, p.2) c.in_err-rows.ensures

pub returns-in_err-last : goal.returns-in_err-last
returns-in_err-last c =
    let p = err_from_is_err_and c.from_residual-in_err-last.result c.from_residual-in_err-last.ensures.1 in
    rw (p.1, p.2) (c.in_err-last.ensures (before_master c.args.sections.now _ _ c.in_ok-first.ensures c.in_ok-rows.ensures))

pub of-requires : goal.of-requires
of-requires c = (c.args.sections.now, c.in_ok-first.ensures, c.in_ok-rows.ensures, c.in_ok-last.ensures)

pub returns : goal.returns
returns c = rw (c.of.ensures) (all_tables c.args.sections.now _ _ _ c.in_ok-first.ensures c.in_ok-rows.ensures c.in_ok-last.ensures)
