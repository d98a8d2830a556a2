use Rattle.std.proofs.Common.{◌≡◌, ◌∙◌, ◌<◌, length, get_or, sym, ap, arith}
use Rattle.std.proofs.lemmas.Grind.{get_or_default_zero}
use Rattle.mrp_phase.specs.Weeks.{sum_to}
use Rattle.mrp_phase.proofs.WeekRows.{sum_to_next, in_week_next}
use Rattle.mrp_notes.proofs.NeedWeeks.{need_week_found, need_week_none}
use Rattle.mrp_notes.proofs.covered.Covered.need_week.Goals as goal

pub returns-then-required-value-clause-week : goal.returns-then-required-value-clause-week
returns-then-required-value-clause-week c =
    let gross = c.args.gross.now in
    let k = c.loop-place.place in
    let known = c.loop-place.invariant in
    let there : k < length gross = omega (arith, c.loop-place-test.true, c.requires.weeks) in
    let pieces = c.index-gross-from.result in
    let here : pieces ≡ get_or gross k 0 = c.index-gross-from.is ∙ ap (λ n. get_or gross n pieces) c.from.ensures ∙ get_or_default_zero gross k pieces there in
    let required : c.loop-place.self.required ≡ sum_to gross k = known.covered.required ∙ ap (sum_to gross) known.place in
    sym (need_week_found gross c.args.safety c.args.self.now.supplied k there
    (λ week first last. omega (arith, known.supplied, known.covered.covered week first (omega (arith, known.place))))
    (omega (arith, required, here, c.if-required-value.true, known.supplied, c.value.ensures.pieces, c.value-in-loop-place.ensures.pieces, sum_to_next gross k, in_week_next gross k)))

pub returns-clause-week : goal.returns-clause-week
returns-clause-week c =
    let gross = c.args.gross.now in
    let known = c.loop-place.invariant in
    sym (need_week_none gross c.args.safety c.args.self.now.supplied
    (λ week first last. omega (arith, known.supplied, known.covered.covered week first (omega (arith, known.place, c.requires.weeks, c.loop-place-test.false)))))
