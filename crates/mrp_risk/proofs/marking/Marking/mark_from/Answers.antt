use Rattle.std.proofs.Common.{refl}
use Rattle.std.proofs.lemmas.Result.{on_ok_weaker}
use Rattle.mrp_risk.proofs.Marked.{grows-on, marked-on, marks-new, round-begins}
use Rattle.mrp_risk.proofs.marking.Marking.mark_from.Goals as goal

pub spread-requires-clause-round : goal.spread-requires-clause-round
spread-requires-clause-round c =
    let begins = round-begins c.args.pegs.now c.args.late c.args.self.now c.requires.queue c.requires.all in
    (marks-new c.args.pegs.now c.args.late c.args.late c.args.self.now c.mark_new.new.self c.in_ok-mark_new.ensures c.requires.late (0, refl) begins).round

pub returns-clause-grows : goal.returns-clause-grows
returns-clause-grows c =
    let begins = round-begins c.args.pegs.now c.args.late c.args.self.now c.requires.queue c.requires.all in
    let more = marks-new c.args.pegs.now c.args.late c.args.late c.args.self.now c.mark_new.new.self c.in_ok-mark_new.ensures c.requires.late (0, refl) begins in
    on_ok_weaker c.spread.result (grows-on c.args.pegs.now c.args.late c.args.self.now c.mark_new.new.self c.spread.new.self more.grows) c.spread.ensures.grows

pub returns-clause-late : goal.returns-clause-late
returns-clause-late c =
    let begins = round-begins c.args.pegs.now c.args.late c.args.self.now c.requires.queue c.requires.all in
    let more = marks-new c.args.pegs.now c.args.late c.args.late c.args.self.now c.mark_new.new.self c.in_ok-mark_new.ensures c.requires.late (0, refl) begins in
    on_ok_weaker c.spread.result (λ grows. marked-on c.args.pegs.now c.args.late c.mark_new.new.self c.spread.new.self grows c.args.late (more.marked c.args.late refl)) c.spread.ensures.grows
