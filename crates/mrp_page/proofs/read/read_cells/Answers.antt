use Rattle.std.proofs.Common.{◌∙◌, inl}
use Rattle.mrp_page.proofs.read.read_cells.Goals as goal

pub returns-in-Ok-clause-reads : goal.returns-in-Ok-clause-reads
returns-in-Ok-clause-reads g c = c.in-Ok.ensures.reads c.requires.trim c.requires.ready

pub returns-in-Ok-clause-reading : goal.returns-in-Ok-clause-reading
returns-in-Ok-clause-reading g c =
    let r = c.requires in
    let read = c.in-Ok.ensures.reads r.trim r.ready in
    record {
      config = read.2 ∙ r.config;
      trim = read.3 ∙ r.trim;
      flexible = c.in-Ok.ensures.flexible ∙ r.flexible;
      ready = inl (c.in-Ok.ensures.ready r.trim);
    }
