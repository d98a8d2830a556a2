use Rattle.std.proofs.Common.{◌∙◌, ap}
use Rattle.mrp_commands.specs.Status.{code_of}
use Rattle.mrp_words.specs.Words.{HasWorkers}
use Rattle.mrp_words.proofs.Asked.{for-ok}
use Rattle.mrp_main.proofs.run.run_words.Goals as goal

pub do_asked-end-requires-after_bounds : goal.do_asked-end-requires-after_bounds
do_asked-end-requires-after_bounds g c κs within = for-ok HasWorkers c.read_words.result c.read_words.ensures.workers

pub returns-clause-done : goal.returns-clause-done
returns-clause-done g c = record {
  asked = c.read_words.result;
  asks = c.read_words.ensures.asks;
  end = c.do_asked-end.result;
  done = c.do_asked-end.ensures;
  code = c.code.ensures ∙ ap code_of c.status.ensures;
}
