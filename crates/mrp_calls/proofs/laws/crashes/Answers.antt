use Rattle.mrp_calls.proofs.Crashes.{left-open}
use Rattle.mrp_calls.proofs.laws.crashes.Goals as goal

pub returns : goal.returns
returns c = λ earlier lines others bytes left first old new said written answers records on before given f g.
    left-open c.accepted_tables_are_of_their_texts.ensures earlier lines others bytes left first old new said written answers records on before given f g
