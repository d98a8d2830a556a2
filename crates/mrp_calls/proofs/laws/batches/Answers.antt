use Rattle.mrp_calls.proofs.Answered.{are-answered}
use Rattle.mrp_calls.proofs.OnJournals.{records-on}
use Rattle.mrp_calls.proofs.laws.batches.Goals as goal

pub returns : goal.returns
returns c = record {
  answered = λ lines old new answers records given. are-answered lines old answers records new given;
  journal = λ lines journal old new answers records on given. records-on lines journal old answers records new on given;
}
