use Rattle.std.proofs.Common.{◌≡◌, ◌∙◌, arith, ap, refl, subst, sym}
use Rattle.mrp_rows.specs.Bundle.{text_in}
use Rattle.mrp_rows.specs.Columns.{Layout, width}
use Rattle.mrp_rows.specs.declared.fault.Table.TheVariants as t
use Rattle.mrp_rows.specs.Records.{records_of}
use Rattle.mrp_tables.specs.declared.limits.TheConstants as limits
use Rattle.mrp_tables.specs.declared.version.Version.{Version}
use Rattle.mrp_tables.specs.declared.version.Version.TheVariants.{One, Two, Three}
use Rattle.mrp_tables.specs.Items.{AreItemCells}
use Rattle.mrp_tables.specs.Versions.{items_layout, most_lead}
use Rattle.mrp_tables.proofs.Opening.{after_header-layout}
use Rattle.mrp_tables.proofs.items.Items.read.Goals as goal

-- the columns of a version's items are as many as their cells
as_wide : (version : Version) → AreItemCells version (width (items_layout version))
as_wide One = record { seven = omega arith; steps = λ e. absurd cc }
as_wide Two = record { seven = omega arith; steps = λ e. absurd cc }
as_wide Three = record { seven = omega arith; steps = λ e. omega arith }

pub read_records-requires-clause-takes : goal.read_records-requires-clause-takes
read_records-requires-clause-takes c =
    let own = after_header-layout (items_layout c.args.version) (records_of (text_in c.args.sections.now t.Items)) c.in_ok-cursor.cursor c.in_ok-cursor.ensures in
    let Takes : Layout → Type 0 = λ layout. AreItemCells c.args.version (width layout) in
    rw c.new.ensures (subst Takes (sym own) (as_wide c.args.version))

pub returns-clause-count : goal.returns-clause-count
returns-clause-count c = rw c.into_items.ensures.rows (c.in_ok-rows.ensures.count (items_layout c.args.version) (text_in c.args.sections.now t.Items) c.in_ok-cursor.ensures limits.MOST_ITEMS (omega arith) (λ before. refl))

pub returns-clause-leads : goal.returns-clause-leads
returns-clause-leads c =
    let same : most_lead c.in_ok-rows.rows.version ≡ most_lead c.args.version = ap (λ b. most_lead b.version) c.in_ok-rows.ensures.beside ∙ ap (λ t. most_lead t.version) c.new.ensures in
    rw same at c.into_items.ensures.leads
