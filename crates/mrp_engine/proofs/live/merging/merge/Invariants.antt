use Rattle.mrp_engine.proofs.lemmas.live.Merging.{AreMerged, KeepLacking}
use Rattle.mrp_engine.proofs.live.merging.merge.Given as goal

abbrev pub invariant-loop-entry : goal.invariant-loop-entry
invariant-loop-entry l = record {
  merged : AreMerged l.fn.rows.value.tables l.entry-items l.entry-index l.queues.items l.all.items;
  keeps : KeepLacking l.fn.runs.items l.queues.items l.all.items;
}
