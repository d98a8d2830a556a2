use Rattle.std.proofs.Common.{◌∙◌, sym}
use Rattle.mrp_script.proofs.ScriptCalls.{has-no-run, has-run}
use Rattle.mrp_script.proofs.script.added_run.Goals as goal

pub returns-then-has_run-clause-none : goal.returns-then-has_run-clause-none
returns-then-has_run-clause-none c none = sym (has-run c.args.script.now (sym c.has_run.ensures ∙ c.if-has_run.true))

pub returns-else-has_run-clause-added : goal.returns-else-has_run-clause-added
returns-else-has_run-clause-added c = sym (has-no-run c.args.script.now (sym c.has_run.ensures ∙ c.if-has_run.false))
