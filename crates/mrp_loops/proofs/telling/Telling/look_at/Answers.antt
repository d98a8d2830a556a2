use Rattle.std.proofs.Common.{◌≡◌, ◌<◌, ◌∙◌, ℕ, List, false, length, sym, ap, subst, arith}
use Rattle.std.specs.Prelude.{slice_index_or}
use Rattle.std.proofs.lemmas.List.{get_or_default}
use Rattle.mrp_loops.specs.declared.line.Line.{Line}
use Rattle.mrp_loops.specs.declared.search.Search.{Search}
use Rattle.mrp_loops.specs.Search.{AreListed, AreNearest, IsClear, IsSearched}
use Rattle.mrp_loops.proofs.Nearest.{nearest, same-up, searched-listed}
use Rattle.mrp_loops.proofs.Tellings.{above-kept, telling-more}
use Rattle.mrp_loops.proofs.telling.Telling.look_at.Goals as goal

pub tell_if_any-requires-clause-far : goal.tell_if_any-requires-clause-far
tell_if_any-requires-clause-far c =
    let searched = subst (λ (l : List Line). IsSearched l c.args.ranks.now c.args.item c.run.new.self) c.requires.same c.in_ok-run.ensures in
    nearest c.args.lines.now c.args.ranks.now c.args.item c.run.new.self (same-up c.args.lines.now c.args.ranks.now c.requires.ranks) searched

pub clear-requires : goal.clear-requires
clear-requires c =
    let searched = subst (λ (l : List Line). IsSearched l c.args.ranks.now c.args.item c.run.new.self) c.requires.same c.in_ok-run.ensures in
    subst AreListed (sym (above-kept c.args.lines.now (length c.args.ranks.now) c.args.item _ c.tell_if_any.new.self c.in_ok-tell_if_any.ensures))
    (searched-listed c.args.lines.now c.args.ranks.now c.args.item c.run.new.self (same-up c.args.lines.now c.args.ranks.now c.requires.ranks) searched)

pub returns : goal.returns
returns c =
    let searched = subst (λ (l : List Line). IsSearched l c.args.ranks.now c.args.item c.run.new.self) c.requires.same c.in_ok-run.ensures in
    let near : AreNearest c.args.lines.now c.args.item c.run.new.self.far.items = nearest c.args.lines.now c.args.ranks.now c.args.item c.run.new.self (same-up c.args.lines.now c.args.ranks.now c.requires.ranks) searched in
    let kept = above-kept c.args.lines.now (length c.args.ranks.now) c.args.item _ c.tell_if_any.new.self c.in_ok-tell_if_any.ensures in
    let clear : IsClear (length c.args.ranks.now) c.clear.new.self = subst (λ (n : ℕ). IsClear n c.clear.new.self) (ap (λ (s : Search). length s.far.items) kept ∙ searched.size) c.clear.ensures in
    let inside : c.args.item < length c.args.self.now.told.items = omega (arith, c.requires.item, c.requires.telling.size) in
    let free : slice_index_or c.args.self.now.told.items c.args.item false ≡ false = get_or_default c.args.self.now.told.items c.args.item false c.index.result.now inside ∙ sym c.index.ensures ∙ c.if-index.false in
    telling-more c.args.lines.now (length c.args.ranks.now) c.args.item c.args.self.now c.run.new.self c.clear.new.self c.requires.telling clear c.tell_if_any.new.self near free c.in_ok-tell_if_any.ensures
