use Rattle.std.proofs.Common.{◌≡◌, ◌∙◌, ◌+◌, ◌-◌, ◌*◌, ap, arith}
use Rattle.std.specs.Prelude.{encode_utf8}
use Rattle.mrp_advice.proofs.Signs.{letter-encode}
use Rattle.mrp_advice.proofs.sign.letter.Goals as goal

pub returns : goal.returns
returns c =
    let code : c.in-Some.letter ≡ (c.args.first - 0xC0) * 64 + (c.args.second - 0x80) = omega (arith, c.in-Some.ensures.value.1, c.from.ensures, c.from-2.ensures) in
    ap encode_utf8 code ∙ letter-encode c.args.first c.args.second c.requires
