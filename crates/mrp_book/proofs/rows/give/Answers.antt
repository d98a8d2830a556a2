use Rattle.mrp_book.proofs.rows.give.Goals as goal

pub give-requires-clause-week : goal.give-requires-clause-week
give-requires-clause-week c = rw c.week.ensures (c.requires.week _ c.in-Some.is)
