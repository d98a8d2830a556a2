use Rattle.mrp_engine.proofs.lemmas.day.RefusedItem.{over-within}
use Rattle.mrp_engine.proofs.day.planning.name_of.Goals as goal

pub entry-requires : goal.entry-requires
entry-requires c = over-within c.args.inputs.now c.args.item c.requires
