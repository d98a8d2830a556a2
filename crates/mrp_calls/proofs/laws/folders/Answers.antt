use Rattle.mrp_calls.proofs.OnFolders.{folder-on, goes-on}
use Rattle.mrp_calls.proofs.laws.folders.Goals as goal

pub returns : goal.returns
returns c = record {
  bundle = λ lines others journal old new answers records on given. folder-on c.accepted_tables_are_of_their_texts.ensures lines others journal old answers records new on given;
  history = λ others journal d on h answers. goes-on others journal d on h answers;
}
