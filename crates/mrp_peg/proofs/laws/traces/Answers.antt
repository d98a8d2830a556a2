use Rattle.std.proofs.Common.{ap, arith}
use Rattle.mrp_peg.specs.Causes.{place_of}
use Rattle.mrp_peg.proofs.Ordered.{one_list}
use Rattle.mrp_peg.proofs.laws.traces.Goals as goal

pub returns-clause-one : goal.returns-clause-one
returns-clause-one c = λ s n one other a b.
    one_list (place_of s) one other a.order b.order (λ d inside. (b.each d).1 ((a.each d).0 inside)) (λ d inside. (a.each d).1 ((b.each d).0 inside))

pub returns-clause-once : goal.returns-clause-once
returns-clause-once c = λ s n causes is i j d before within same. omega (arith, is.order i j d before within, ap (place_of s) same)
