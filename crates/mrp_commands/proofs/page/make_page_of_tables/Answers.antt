use Rattle.std.proofs.Common.{inl, inr, refl}
use Rattle.mrp_commands.proofs.page.make_page_of_tables.Goals as goal

pub returns-in-Ok : goal.returns-in-Ok
returns-in-Ok g c = inr (c.in-Ok.facts, c.in-Ok.ensures.tables, c.in-Ok.ensures.dates, c.make_page_with.ensures)

pub returns-in-Err : goal.returns-in-Err
returns-in-Err g c = inl (refl, refl, refl)
