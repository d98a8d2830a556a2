use Rattle.std.proofs.Common.{subst}
use Rattle.mrp_book.specs.History.{IsLegal}
use Rattle.mrp_audit.proofs.Traces.{claim-judged}
use Rattle.mrp_audit.proofs.history.retrace.Goals as goal

pub returns-in-Ok : goal.returns-in-Ok
returns-in-Ok c =
    let book = c.args.book.now in
    claim-judged book c.args.claim.now c.in-Ok.entry c.in-Ok.reply c.call.new.self c.judge.result (subst (IsLegal book.supply) c.entries-legal.ensures.entries c.entries-legal.ensures.legal)
    c.in-Ok.ensures.number c.in-Ok.ensures.reply c.in-Ok.ensures.entry c.judge.ensures
