use Rattle.std.proofs.Common.{◌∙◌, ◌++◌, List, ℕ, ap}
use Rattle.std.specs.Prelude.{string_bytes}
use Rattle.mrp_advice.proofs.Pieces.{last-three}
use Rattle.mrp_advice.proofs.header.push_in_place.Goals as goal

pub returns : goal.returns
returns c = last-three c.push_str-3.result _ _ _ _ _ _ _ c.in_ok-push_str.ensures.bytes (c.in_ok-push_str-2.ensures.bytes ∙ ap (λ (t : List ℕ). string_bytes c.push_str.new.self ++ t) c.column_at.ensures) c.push_str-3.ensures.bytes
