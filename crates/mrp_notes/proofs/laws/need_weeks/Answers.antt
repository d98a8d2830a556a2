use Rattle.std.proofs.Common.{arith}
use Rattle.mrp_notes.proofs.NeedWeeks.{need_week_first, need_week_short, need_week_before, need_week_all, need_week_rises}
use Rattle.mrp_notes.proofs.laws.need_weeks.Goals as goal

pub returns-clause-within : goal.returns-clause-within
returns-clause-within c = λ gross safety supplied week e.
    let found = need_week_first gross safety supplied week e in
    (omega (arith, found.low), omega (arith, found.high))

pub returns-clause-short : goal.returns-clause-short
returns-clause-short c = need_week_short

pub returns-clause-first : goal.returns-clause-first
returns-clause-first c = need_week_before

pub returns-clause-none : goal.returns-clause-none
returns-clause-none c = need_week_all

pub returns-clause-rises : goal.returns-clause-rises
returns-clause-rises c = need_week_rises
