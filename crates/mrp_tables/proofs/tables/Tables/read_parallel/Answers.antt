use Rattle.std.proofs.Common.{List, Result, ℕ, subst}
use Rattle.std.specs.Global.{Vec}
use Rattle.std.proofs.lemmas.Result.{err_from_is_err_and}
use Rattle.mrp_rows.specs.declared.fault.Fault.{Fault}
use Rattle.mrp_rows.specs.declared.fault.Table.TheVariants as t
use Rattle.mrp_tables.specs.declared.rows.MasterRow.{MasterRow}
use Rattle.mrp_tables.specs.declared.rows.ScriptRow.{ScriptRow}
use Rattle.mrp_tables.specs.Parts.{GivesStockToRoutings}
use Rattle.mrp_tables.specs.Readers.{GivesTable}
use Rattle.mrp_tables.proofs.PartsRead.{all_tables, before_master}
use Rattle.mrp_tables.proofs.Refused.{refused}
use Rattle.mrp_tables.proofs.TableLaws.{before_script}
use Rattle.mrp_tables.proofs.tables.Tables.read_parallel.Goals as goal

-- what the reading of the master schedule, and of the script, returned
abbrev GivesMaster : List (List ℕ) → Result (Vec MasterRow) Fault → Type 0
GivesMaster texts result = GivesTable texts t.Master result (λ rows. rows.items)

abbrev GivesScript : List (List ℕ) → Result (Vec ScriptRow) Fault → Type 0
GivesScript texts result = GivesTable texts t.Script result (λ rows. rows.items)

pub returns-in_err-first : goal.returns-in_err-first
returns-in_err-first g c =
    let p = err_from_is_err_and c.from_residual.result c.from_residual.ensures.1 in
    rw (p.1, p.2) c.in_err-first.ensures

pub returns-in_err-rows : goal.returns-in_err-rows
returns-in_err-rows g c =
    let p = err_from_is_err_and c.from_residual-in_err-rows.result c.from_residual-in_err-rows.ensures.1 in
    rw (p.1, p.2) (subst (GivesStockToRoutings c.args.sections.now) c.in_err-rows.was c.join-script.ensures.second.0)

pub returns-in_err-master : goal.returns-in_err-master
returns-in_err-master g c =
    let texts = c.args.sections.now in
    let p = err_from_is_err_and c.from_residual-in_err-master.result c.from_residual-in_err-master.ensures.1 in
    let rows = subst (GivesStockToRoutings texts) c.in_ok-rows.was c.join-script.ensures.second.0 in
    let master = subst (GivesMaster texts) c.in_err-master.was c.join-script.ensures.second.1 in
    rw (p.1, p.2) (refused texts t.Master _ (before_master texts _ _ c.in_ok-first.ensures rows) master)

pub returns-in_err-script : goal.returns-in_err-script
returns-in_err-script g c =
    let texts = c.args.sections.now in
    let p = err_from_is_err_and c.from_residual-in_err-script.result c.from_residual-in_err-script.ensures.1 in
    let rows = subst (GivesStockToRoutings texts) c.in_ok-rows.was c.join-script.ensures.second.0 in
    let master = subst (GivesMaster texts) c.in_ok-master.was c.join-script.ensures.second.1 in
    let script = subst (GivesScript texts) c.in_err-script.was c.join-script.ensures.first in
    rw (p.1, p.2) (refused texts t.Script _ (before_script texts _ (before_master texts _ _ c.in_ok-first.ensures rows) master) script)

pub of-requires : goal.of-requires
of-requires g c = (
  c.args.sections.now,
  c.in_ok-first.ensures,
  subst (GivesStockToRoutings c.args.sections.now) c.in_ok-rows.was c.join-script.ensures.second.0,
  record {
    master = subst (GivesMaster c.args.sections.now) c.in_ok-master.was c.join-script.ensures.second.1;
    script = subst (GivesScript c.args.sections.now) c.in_ok-script.was c.join-script.ensures.first;
  },
)

pub returns : goal.returns
returns g c =
    rw (c.of.ensures) (all_tables c.args.sections.now _ _ (record { master = c.in_ok-master.master; script = c.in_ok-script.script }) c.in_ok-first.ensures
    (subst (GivesStockToRoutings c.args.sections.now) c.in_ok-rows.was c.join-script.ensures.second.0)
    (record {
      master = subst (GivesMaster c.args.sections.now) c.in_ok-master.was c.join-script.ensures.second.1;
      script = subst (GivesScript c.args.sections.now) c.in_ok-script.was c.join-script.ensures.first;
    }))
