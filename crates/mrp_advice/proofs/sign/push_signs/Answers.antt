use Rattle.std.specs.Prelude.{string_bytes}
use Rattle.mrp_advice.specs.declared.sign.TheConstants.{MOST_SIGNS}
use Rattle.mrp_advice.specs.Shown.{signs}
use Rattle.mrp_advice.proofs.Signs.{signed-all, signed-cut, signed-next}
use Rattle.mrp_advice.proofs.sign.push_signs.Goals as goal

pub returns-then-left-eq0 : goal.returns-then-left-eq0
returns-then-left-eq0 c = signed-cut c.push_str.result (string_bytes c.loop-rest.text) _ (string_bytes c.args.text.now) c.loop-rest.rest.now (signs MOST_SIGNS c.args.bytes.now) c.loop-rest.left c.in-len1-up.len_at_least c.if-left-eq0.true c.push_str.ensures.bytes c.loop-rest.invariant

pub loop-rest-preserved : goal.loop-rest-preserved
loop-rest-preserved c = signed-next (string_bytes c.loop-rest.text) _ (string_bytes c.args.text.now) c.loop-rest.rest.now c.in_ok-rest.rest.now (signs MOST_SIGNS c.args.bytes.now) c.loop-rest.left c.in-len1-up.len_at_least c.if-left-eq0.false c.in_ok-rest.ensures.sign c.in_ok-rest.ensures.behind c.loop-rest.invariant

pub returns : goal.returns
returns c = signed-all (string_bytes c.loop-rest.text) (string_bytes c.args.text.now) c.loop-rest.rest.now (signs MOST_SIGNS c.args.bytes.now) c.loop-rest.left c.in_default.len_below c.loop-rest.invariant
