use Rattle.std.proofs.Common.{◌≡◌, take}
use Rattle.std.specs.Prelude.{position}
use Rattle.indexmap.specs.IndexMap.{get}
use Rattle.mrp_warn.proofs.Firsts.{firsts_up_to}
use Rattle.mrp_warn.proofs.earlier.earlier.Given as goal

abbrev pub invariant-loop-place : goal.invariant-loop-place
invariant-loop-place g l = record {
  firsts : (q : _) → get g.K.PartialEq.eq l.firsts q ≡ position (g.K.PartialEq.eq q) (take l.place l.keys);
  places : l.places.items ≡ firsts_up_to g.K.PartialEq.eq l.keys l.place;
}
