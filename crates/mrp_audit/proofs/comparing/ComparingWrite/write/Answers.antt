use Rattle.std.proofs.Common.{◌∙◌, take, sym, ap, arith}
use Rattle.mrp_engine.proofs.lemmas.event_core.CoreSteps.{is-none}
use Rattle.mrp_audit.proofs.Comparisons.{wrote-other, wrote-same}
use Rattle.mrp_audit.proofs.comparing.ComparingWrite.write.Goals as goal

pub returns-then-equal-buf-clause-bytes : goal.returns-then-equal-buf-clause-bytes
returns-then-equal-buf-clause-bytes c =
    let n = c.common_front-equal.result in
    let none = is-none c.self.inside.other (sym c.is_some.ensures ∙ c.if-is_some.false) in
    let same = ap (take n) (sym c.split_at.ensures.back) ∙ c.common_front-equal.ensures.same in
    wrote-other c.args.self.now c.self.inside.text.now c.args.buf.now c.self.inside.equal n c.self.inside.other c.self.view_is none same (omega (arith, c.if-equal-buf.true))

pub returns-else-equal-buf-clause-bytes : goal.returns-else-equal-buf-clause-bytes
returns-else-equal-buf-clause-bytes c =
    let n = c.common_front-equal.result in
    let none = is-none c.self.inside.other (sym c.is_some.ensures ∙ c.if-is_some.false) in
    let same = ap (take n) (sym c.split_at.ensures.back) ∙ c.common_front-equal.ensures.same in
    wrote-same c.args.self.now c.self.inside.text.now c.args.buf.now c.self.inside.equal n c.self.inside.other c.self.view_is none same
