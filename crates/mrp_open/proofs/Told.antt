-- What an order desk tells.
use Rattle.std.proofs.Common.{ℕ, List, Option, Result}
use Rattle.std.specs.Prelude.{OnErr, OnOk}
use Rattle.mrp_rows.specs.declared.told.Told.{Told}
use Rattle.mrp_rows.specs.declared.streams.TheConstants.{WRITE_TRIES}
use Rattle.mrp_report.specs.Taken.{HasTakenAll}
use Rattle.mrp_report.specs.Written.{HasGivenUp, HasTakenFront}
use Rattle.mrp_words.proofs.Asked.{was-told}
use Rattle.mrp_open.specs.Ends.{IsTold}

module _ {E T X : Type 0} (contents : E → Option (List ℕ)) where
  -- a text is told, or a prefix of it
  pub is-told : (old new : Told E) (text : List ℕ) (r : Result T X) → OnOk r (HasTakenAll contents old new text) → OnErr r (HasTakenFront contents old new text) → OnErr r (HasGivenUp old new WRITE_TRIES) → IsTold contents old new text
  is-told old new text r whole front gave_up =
      was-told r (HasTakenAll contents old new text) (HasGivenUp old new WRITE_TRIES) (HasTakenFront contents old new text) whole gave_up front
