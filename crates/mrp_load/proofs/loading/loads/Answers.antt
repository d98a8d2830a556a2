use Rattle.std.proofs.Common.{◌≡◌, ◌∙◌, List, length, sym, subst, ap}
use Rattle.std.specs.Prelude.{All, Vec, filter}
use Rattle.std.specs.declared.alloc.Global.{Global}
use Rattle.mrp_tables.specs.Facts.{IsOperation}
use Rattle.mrp_tables.specs.Tables.{Tables}
use Rattle.mrp_tables.specs.declared.rows.Centre.{Centre}
use Rattle.mrp_tables.specs.declared.rows.Operation.{Operation}
use Rattle.mrp_item.specs.Inputs.{Inputs}
use Rattle.mrp_load.specs.Bounds.{AreOperations}
use Rattle.mrp_bill.specs.Lists.{listed}
use Rattle.mrp_load.proofs.Grouped.{at_centre, centres-within, grouped-each}
use Rattle.mrp_load.proofs.loading.loads.Goals as goal

pub operations_by_centre-requires : goal.operations_by_centre-requires
operations_by_centre-requires g c =
    let s = c.args.plan.now.inputs in
    let tables : c.tables-tables.result.now ≡ s.tables = c.tables-tables.ensures.value ∙ c.shop.ensures.tables ∙ ap (λ (x : Inputs). x.tables) (c.deref.ensures ∙ c.inputs.ensures.inputs) in
    let each : All (IsOperation s.tables.items s.tables.centres) c.routings.result.now =
    subst (λ (t : Tables). All (IsOperation t.items t.centres) c.routings.result.now) tables c.routings.ensures.within in
    let size : length c.centres-count.result.now ≡ length s.tables.centres = ap (length {A = Centre}) (c.centres-count.ensures.rows ∙ ap (λ (t : Tables). t.centres) tables) in
    centres-within s c.routings.result.now (length c.centres-count.result.now) each size

pub load_rows-requires-clause-size : goal.load_rows-requires-clause-size
load_rows-requires-clause-size g c κs live =
    let s = c.args.plan.now.inputs in
    let tables : c.tables-tables.result.now ≡ s.tables = c.tables-tables.ensures.value ∙ c.shop.ensures.tables ∙ ap (λ (x : Inputs). x.tables) (c.deref.ensures ∙ c.inputs.ensures.inputs) in
    ap (length {A = Vec Operation Global}) c.deref-2.ensures.value ∙ c.in_ok-groups.ensures.size
    ∙ ap (length {A = Centre}) (c.centres-count.ensures.rows ∙ ap (λ (t : Tables). t.centres) tables)

pub load_rows-requires-clause-groups : goal.load_rows-requires-clause-groups
load_rows-requires-clause-groups g c κs live = λ centre.
    let s = c.args.plan.now.inputs in
    let tables : c.tables-tables.result.now ≡ s.tables = c.tables-tables.ensures.value ∙ c.shop.ensures.tables ∙ ap (λ (x : Inputs). x.tables) (c.deref.ensures ∙ c.inputs.ensures.inputs) in
    ap (λ (gs : List (Vec Operation Global)). listed gs centre) c.deref-2.ensures.value ∙ c.in_ok-groups.ensures.groups centre
    ∙ ap (filter (at_centre centre)) (c.routings.ensures.rows ∙ ap (λ (t : Tables). t.routings) tables)

pub load_rows-requires-clause-within : goal.load_rows-requires-clause-within
load_rows-requires-clause-within g c κs live =
    let s = c.args.plan.now.inputs in
    let tables : c.tables-tables.result.now ≡ s.tables = c.tables-tables.ensures.value ∙ c.shop.ensures.tables ∙ ap (λ (x : Inputs). x.tables) (c.deref.ensures ∙ c.inputs.ensures.inputs) in
    let each : All (IsOperation s.tables.items s.tables.centres) c.routings.result.now =
    subst (λ (t : Tables). All (IsOperation t.items t.centres) c.routings.result.now) tables c.routings.ensures.within in
    let are : AreOperations s c.routings.result.now = record { each = each; few = c.routings.ensures.count } in
    subst (All (λ (v : Vec Operation Global). AreOperations s v.items)) (sym c.deref-2.ensures.value) (grouped-each s c.routings.result.now c.in_ok-groups.groups.items are c.in_ok-groups.ensures.groups)
