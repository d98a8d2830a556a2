use Rattle.std.proofs.Common.{◌≡◌}
use Rattle.mrp_notes.specs.Walk.{IsCovered}
use Rattle.mrp_notes.proofs.covered.Covered.need_week.Given as goal

abbrev pub invariant-loop-place : goal.invariant-loop-place
invariant-loop-place l = record {
  place : l.self.weeks ≡ l.place;
  covered : IsCovered l.gross l.safety l.self;
  supplied : l.self.supplied ≡ l.initial.self.supplied;
}
