use Rattle.std.proofs.Common.{◌≡◌, ◌∙◌, Some, arith}
use Rattle.mrp_words.proofs.command.workers_taken.Goals as goal

pub returns-in-Some-clause-asked : goal.returns-in-Some-clause-asked
returns-in-Some-clause-asked c asked p =
    let found : c.workers_of.result ≡ Some asked = c.workers_of.ensures asked p in
    let same : c.in-Some.workers ≡ asked = cc in
    c.taken.ensures.same (omega (arith, same, p.value, p.number.2), omega (arith, same, p.value, p.number.3)) ∙ same

pub returns-in-None-clause-asked : goal.returns-in-None-clause-asked
returns-in-None-clause-asked c asked p =
    let found : c.workers_of.result ≡ Some asked = c.workers_of.ensures asked p in
    absurd (cc)
