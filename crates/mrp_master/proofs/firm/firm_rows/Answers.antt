use Rattle.std.proofs.Common.{◌∙◌, ◌<◌, List, sym, subst}
use Rattle.std.specs.Prelude.{All, filter}
use Rattle.std.proofs.lemmas.List.Elements.{All-map, All-filter}
use Rattle.mrp_tables.specs.declared.rows.MasterRow.{MasterRow}
use Rattle.mrp_tables.specs.Master.{is_firm}
use Rattle.mrp_bill.specs.declared.groups.Numbered.{Numbered}
use Rattle.mrp_master.specs.declared.line.Line.{Line}
use Rattle.mrp_master.specs.Numbered.{line_of}
use Rattle.mrp_master.proofs.ByItem.{firm_grouped}
use Rattle.mrp_master.proofs.firm.firm_rows.Goals as goal

pub of-requires : goal.of-requires
of-requires c =
    let is = c.deref.ensures.value ∙ c.in_ok-lines.ensures in
    subst (λ (lines : List (Numbered Line)). All (λ l. l.number < c.args.count) lines) (sym is)
    (All-map (λ (l : Numbered Line). l.number < c.args.count) line_of (filter (λ (r : MasterRow). is_firm r.kind) c.args.rows.now) (All-filter (λ (r : MasterRow). is_firm r.kind) (λ (r : MasterRow). (line_of r).number < c.args.count) c.args.rows.now c.requires))

pub returns : goal.returns
returns c = firm_grouped c.args.rows.now c.deref.result.now c.of.result c.args.count (c.deref.ensures.value ∙ c.in_ok-lines.ensures) c.of.ensures.size c.of.ensures.groups
