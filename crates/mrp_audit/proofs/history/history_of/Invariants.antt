use Rattle.std.proofs.Common.{◌≡◌, take}
use Rattle.std.specs.Prelude.{map}
use Rattle.mrp_master.specs.Supply.{supply_of}
use Rattle.mrp_claims.specs.Claims.{claim_of}
use Rattle.mrp_audit.proofs.history.history_of.Given as goal

abbrev pub invariant-loop-claim : goal.invariant-loop-claim
invariant-loop-claim l = (l.book.supply ≡ supply_of l.shop.tables) × (map claim_of l.book.entries ≡ take l.claim-index l.claims)
