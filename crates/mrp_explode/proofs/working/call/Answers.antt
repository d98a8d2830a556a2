use Rattle.std.proofs.Common.{◌∙◌, ℕ, ap, sym}
use Rattle.mrp_turn.specs.Log.{entries_by}
use Rattle.mrp_board.proofs.LegalLogs.{logs-legal}
use Rattle.mrp_explode.proofs.working.call.Goals as goal

pub returns-clause-goes_on : goal.returns-clause-goes_on
returns-clause-goes_on g c = c.call-result.ensures.told.goes_on

pub returns-clause-sees : goal.returns-clause-sees
returns-clause-sees g c =
    let new = c.call-result.new.seat in
    let told = c.call-result.ensures.told in
    record {
      legal = logs-legal c.args.board.now.about.object new.seen told.legal;
      own = told.exact ∙ ap (λ (n : ℕ). entries_by n new.seen) (sym c.call-result.ensures.same.1);
    }
