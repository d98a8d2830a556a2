use Rattle.std.proofs.Common.{◌≡◌, ◌∙◌, Ok, ap, sym, refl}
use Rattle.mrp_tables.specs.declared.calendar.First.TheVariants as first
use Rattle.mrp_tables.specs.declared.calendar.Entry.TheVariants.{OfVersion, Start}
use Rattle.mrp_tables.specs.Calendar.{first_cells}
use Rattle.mrp_tables.proofs.Entries.{first_added}
use Rattle.mrp_tables.proofs.calendar.EntriesTableRows.add.Goals as goal

pub returns-in-OfVersion-clause-added : goal.returns-in-OfVersion-clause-added
returns-in-OfVersion-clause-added c =
    let reads : first_cells c.args.row.now ≡ Ok (first.OfVersion c.in-OfVersion.version) = sym c.in_ok-version.ensures.cells ∙ ap (λ x. Ok x) c.in-OfVersion.is in
    let added = first_added c.self.inside.version c.self.inside.dated c.args.self.now c.args.row.now (first.OfVersion c.in-OfVersion.version)
    (sym c.is_some.ensures ∙ c.if-is_some.false) (sym c.is_empty.ensures.none ∙ c.if-not-is_empty.false) c.self.view_is reads in
    (OfVersion c.in-OfVersion.version, added.reads, rw (added.dated_none, added.own_none) refl)

pub returns-in-Start-clause-added : goal.returns-in-Start-clause-added
returns-in-Start-clause-added c =
    let reads : first_cells c.args.row.now ≡ Ok (first.Start c.in-Start.date) = sym c.in_ok-version.ensures.cells ∙ ap (λ x. Ok x) c.in-Start.is in
    let added = first_added c.self.inside.version c.self.inside.dated c.args.self.now c.args.row.now (first.Start c.in-Start.date)
    (sym c.is_some.ensures ∙ c.if-is_some.false) (sym c.is_empty.ensures.none ∙ c.if-not-is_empty.false) c.self.view_is reads in
    (Start c.in-Start.date, added.reads, rw (added.version_none, added.own_none) c.begin.ensures.added)
