use Rattle.mrp_open.proofs.beside.serve_begun.Goals as goal

pub returns-clause-told : goal.returns-clause-told
returns-clause-told g c = record { between = c.tell_cut.new.errors; first = c.tell_cut.ensures; second = c.serve_and_make.ensures.told }
