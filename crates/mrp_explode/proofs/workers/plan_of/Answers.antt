use Rattle.std.proofs.Common.{◌∙◌, ap, subst, sym}
use Rattle.mrp_item.specs.Inputs.{Inputs}
use Rattle.mrp_item.specs.Made.{all_from}
use Rattle.mrp_board.specs.BoardState.{AreOwn}
use Rattle.mrp_explode.proofs.Taken.{all-own}
use Rattle.mrp_explode.proofs.workers.plan_of.Goals as goal

pub plan_from-requires : goal.plan_from-requires
plan_from-requires c =
    all-own c.args.inputs.now.value c.into_outcomes.result.items c.in_ok-all.all.items
    (subst (λ (s : Inputs). AreOwn s c.into_outcomes.result.items) c.requires.inputs c.into_outcomes.ensures.own) c.in_ok-all.ensures
    ∙ ap all_from (sym c.in_ok-share.ensures)
