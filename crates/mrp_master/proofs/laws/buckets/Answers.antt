-- The lemmas state the clauses.
use Rattle.mrp_master.proofs.Carried.{buckets_available}
use Rattle.mrp_master.proofs.ItemRows.{buckets_promised, empty_bucket}
use Rattle.mrp_master.proofs.NextOpening.{opening-bucket, overdrawn-bucket, none-lacking}
use Rattle.mrp_master.proofs.laws.buckets.Goals as goal

pub returns : goal.returns
returns c = record {
  available = λ r week is w. buckets_available r is.same is.covered week w;
  promised = λ s lines item week k m first covered w. buckets_promised s k item m lines first covered week w;
  empty = empty_bucket;
  opening = opening-bucket;
  overdrawn = overdrawn-bucket;
  last = none-lacking;
}
