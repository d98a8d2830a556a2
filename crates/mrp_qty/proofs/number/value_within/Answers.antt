use Rattle.std.proofs.Common.{arith, ◌≡◌, ◌<◌, ◌≤◌, ◌∙◌, ◌+◌, ◌*◌, ◌-◌, get_or, drop, refl}
use Rattle.std.proofs.lemmas.Bool.{lt-leb}
use Rattle.mrp_qty.specs.Digits.{value_after, value_of}
use Rattle.mrp_qty.proofs.Values.{value_after-least, value_after-next}
use Rattle.mrp_qty.proofs.number.value_within.Goals as goal

pub returns-then-more-from : goal.returns-then-more-from
returns-then-more-from c =
    let digits = c.args.digits.now in
    let i = c.loop-digit.digit-index in
    let value = c.loop-digit.value in
    let more = value * 10 + (get_or digits i 0 - 48) in
    let rest = drop (i + 1) digits in
    let whole : value_of digits ≡ value_after more rest = c.loop-digit.invariant.so_far ∙ value_after-next value i digits c.loop-digit-test.true in
    let grows : more ≤ value_after more rest = value_after-least more rest in
    let large : c.args.max < value_of digits = omega arith in
    rw (lt-leb (value_of digits) c.args.max large) refl
