use Rattle.std.proofs.Common.{◌≡◌, ◌+◌, ◌<◌, ◌∙◌, ℕ, length, sym, ap, subst, arith}
use Rattle.std.specs.Prelude.{Some, slice_index}
use Rattle.std.proofs.lemmas.List.{get_or_default}
use Rattle.mrp_loops.specs.declared.search.Met.{Met}
use Rattle.mrp_loops.specs.Links.{IsLastTo}
use Rattle.mrp_loops.specs.Needs.{line_at}
use Rattle.mrp_loops.specs.Search.{IsPassed, MeetsNew, met_at}
use Rattle.mrp_loops.proofs.Listed.{AreDone, done-more}
use Rattle.mrp_loops.proofs.Searches.{extends-on, meets-more}
use Rattle.mrp_loops.proofs.search.Search.meet_parents.Goals as goal

pub loop-line-preserved : goal.loop-line-preserved
loop-line-preserved c =
    let lines = c.args.links.now.lines.items in
    let ranks = c.args.ranks.now in
    let from = c.args.from in
    let next = c.args.next in
    let place = c.in-Some.place in
    let s = c.loop-line.self in
    let t = c.meet_new.new.self in
    let before = c.loop-line.invariant in
    let at : c.args.next < length c.loop-line.self.met.items = omega (arith, c.requires.next, before.extends.longer) in
    let is : met_at c.loop-line.self.met.items c.args.next ≡ c.index.result.now =
    before.extends.kept next c.requires.next ∙ get_or_default c.args.self.now.met.items next (record { item = 0; far = 0 }) c.index.result.now c.requires.next ∙ sym c.index.ensures in
    let here : AreDone (IsPassed c.args.links.now.lines.items c.args.ranks.now c.args.from c.loop-line.self.far.items (c.index.result.now.far + 1)) c.args.links.now.lines.items c.index.result.now.item (Some c.in-Some.place) =
    subst (AreDone (IsPassed lines ranks from s.far.items (c.index.result.now.far + 1)) lines c.index.result.now.item) c.in-Some.is before.done in
    let meets : MeetsNew c.args.ranks.now (slice_index c.args.ranks.now c.args.from) c.loop-line.self c.meet_new.new.self (line_at c.args.links.now.lines.items c.in-Some.place).parent (c.index.result.now.far + 1) =
    subst (λ (i : ℕ). MeetsNew ranks (slice_index ranks from) s t i (c.index.result.now.far + 1)) c.parent.ensures c.in_ok-meet_new.ensures in
    let more = meets-more lines ranks from next (c.index.result.now.far + 1) place s t before.search at (ap (λ (m : Met). m.far + 1) (sym is)) here.0 (here.1 ∙ ap (λ (m : Met). m.item) (sym is))
    ((c.requires.links.within place (record { parent = 0; component = 0 }) here.0).0) meets in
    record {
      search = more.search;
      extends = extends-on c.args.self.now s t before.extends more.extends;
      done = done-more (IsPassed lines ranks from s.far.items (c.index.result.now.far + 1)) (IsPassed lines ranks from t.far.items (c.index.result.now.far + 1)) lines c.index.result.now.item place c.previous-line.result here
          (λ k after. more.stays k) more.here
          (subst (IsLastTo lines (line_at lines place).component place) (sym c.previous-line.ensures) (c.requires.links.lists.of_lines place here.0));
    }
