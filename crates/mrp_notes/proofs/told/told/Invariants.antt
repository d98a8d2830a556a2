use Rattle.std.proofs.Common.{◌≡◌, min, take}
use Rattle.std.specs.Prelude.{flat_map}
use Rattle.std.specs.List.{enumerate_from}
use Rattle.mrp_notes.specs.Told.{supplied_before, told_of}
use Rattle.mrp_notes.specs.Walk.{IsCovered}
use Rattle.mrp_notes.proofs.Tellings.{most}
use Rattle.mrp_notes.proofs.told.told.Given as goal

abbrev pub invariant-loop-supply : goal.invariant-loop-supply
invariant-loop-supply l = record {
  messages : l.messages.items ≡ flat_map (λ x. told_of l.item l.gross l.stock l.supplies x.0 x.1) (take l.supply-index (enumerate_from 0 l.supplies));
  supplied : l.covered.supplied ≡ min (supplied_before l.stock l.supplies l.supply-index) most;
  covered : IsCovered l.gross l.stock.safety l.covered;
}
