use Rattle.std.proofs.Common.{inl, inr, refl, subst, sym}
use Rattle.mrp_tables.specs.Tables.{Tables}
use Rattle.mrp_script.specs.Opened.{IsAccepted}
use Rattle.mrp_commands.proofs.PageEnds.{unopened}
use Rattle.mrp_commands.proofs.page.make_page_of_bundle.Goals as goal

pub returns-in-Ok : goal.returns-in-Ok
returns-in-Ok g c = inr (c.tables.result.now, subst (λ (t : Tables). IsAccepted c.args.bundle.now t) (sym c.tables.ensures.value) c.in-Ok.ensures, c.make_page_of_tables.ensures)

pub returns-in-Err : goal.returns-in-Err
returns-in-Err g c = inl (refl, refl, unopened c.args.bundle.now c.in-Err.fault c.of_open.result c.in-Err.ensures c.of_open.ensures)
