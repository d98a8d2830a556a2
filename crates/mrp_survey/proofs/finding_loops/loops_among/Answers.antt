use Rattle.std.proofs.Common.{◌≡◌, ◌∙◌, ap, map}
use Rattle.std.proofs.lemmas.List.{take_all}
use Rattle.mrp_survey.specs.Loops.{edges_of, loop_told}
use Rattle.mrp_survey.proofs.finding_loops.loops_among.Goals as goal

pub returns : goal.returns
returns c =
    let told = c.in_ok-sets.ensures in
    let edges : c.deref.result.now ≡ edges_of c.args.lines.now = c.deref.ensures.value ∙ c.in_ok-edges.ensures in
    let all = take_all c.loop-own.own-index c.deref-own-items.result.now c.loop-own-test.false ∙ c.deref-own-items.ensures.value in
    record {
      own = c.in_ok-sets.sets.items;
      named = c.loop-own.invariant ∙ ap (map (loop_told c.args.items.now c.args.sheet.now c.args.lines.now)) all;
      ways = rw edges at told.ways;
      firsts = rw edges at told.firsts;
      rising = told.rising;
      all = rw edges at told.all;
    }
