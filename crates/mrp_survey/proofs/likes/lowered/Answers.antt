use Rattle.std.proofs.Common.{◌∙◌, Option, List, ℕ, ap, arith, sym}
use Rattle.std.specs.Prelude.{unwrap_or}
use Rattle.mrp_survey.specs.Likes.{lowered}
use Rattle.mrp_survey.proofs.LikeNames.{all-written, named-lower, none-some, short-name, written}
use Rattle.mrp_survey.proofs.likes.lowered.Goals as goal

pub loop-place-preserved : goal.loop-place-preserved
loop-place-preserved c =
    let text = c.as_bytes-text.result.now in
    let step = written text c.loop-place.bytes c.loop-place.place c.loop-place-test.true (omega (arith, short-name text c.as_bytes-text.ensures.name, c.loop-place-test.true)) c.loop-place.invariant in
    rw c.to_ascii_lowercase.ensures.value step

pub unreachable-requires : goal.unreachable-requires
unreachable-requires c =
    let text = c.as_bytes-text.result.now in
    let all = all-written text c.loop-place.bytes c.loop-place.place c.loop-place.auto.place-end c.loop-place-test.false c.loop-place.invariant in
    none-some (lowered text) c.new.result (named-lower text _ c.new.result c.as_bytes-text.ensures.name all c.new.ensures) c.in-None.is

pub returns : goal.returns
returns c =
    let text = c.as_bytes-text.result.now in
    let all = all-written text c.loop-place.bytes c.loop-place.place c.loop-place.auto.place-end c.loop-place-test.false c.loop-place.invariant in
    let read = named-lower text _ c.new.result c.as_bytes-text.ensures.name all c.new.ensures in
    ap (λ (o : Option (List ℕ)). unwrap_or o c.in-Some.lowered) (sym c.in-Some.is ∙ read) ∙ ap lowered c.as_bytes-text.ensures.text
