use Rattle.std.proofs.Common.{◌≡◌, ◌∙◌, ◌∷◌, ◌++◌, List, [], ap, arith}
use Rattle.mrp_explode.specs.Work.{Worker}
use Rattle.low_tests.proofs.OneWorker.{all-workers}
use Rattle.low_tests.proofs.tests.workers.log_of_one.Goals as goal

pub close-state-requires-clause-all : goal.close-state-requires-clause-all
close-state-requires-clause-all g c n least most =
    let made = c.one_worker-board.ensures in
    let worker = c.work.new.worker in
    let all : c.push_reserved.new.self.items ≡ worker ∷ [] = c.push_reserved.ensures.items ∙ ap (λ (xs : List Worker). xs ++ worker ∷ []) c.in-Ok.ensures.items in
    all-workers c.push_reserved.new.self.items worker all (c.work.ensures.same.1 ∙ ap (λ (w : Worker). w.number) made.worker) n least (omega (arith, most, made.seats))
