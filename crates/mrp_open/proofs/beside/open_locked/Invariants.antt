use Rattle.mrp_runs.specs.File.{IsRun}
use Rattle.mrp_open.proofs.beside.open_locked.Given as goal

abbrev pub ghosts-open_prepared : goal.ghosts-open_prepared
ghosts-open_prepared g a = record { holds = IsRun a.prepared.now.rows.value.tables }
