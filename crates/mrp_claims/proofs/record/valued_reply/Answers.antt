use Rattle.std.proofs.Common.{arith}
use Rattle.mrp_claims.proofs.ReplyWords.{no-valued, not-word}
use Rattle.mrp_claims.proofs.record.valued_reply.Goals as goal

pub returns : goal.returns
returns c =
    no-valued c.args.word.now c.args.value (omega (arith, c.ranges.value.fits)) (not-word c.is_word.result c.is_word.ensures.1 c.if-is_word.false) (not-word c.is_word-2.result c.is_word-2.ensures.1 c.if-is_word-2.false)
    (not-word c.is_word-3.result c.is_word-3.ensures.1 c.if-is_word-3.false) (not-word c.is_word-4.result c.is_word-4.ensures.1 c.if-is_word-4.false)
