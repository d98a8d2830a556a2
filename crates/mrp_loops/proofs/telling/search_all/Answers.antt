use Rattle.std.proofs.Common.{◌≡◌, ℕ, subst, arith}
use Rattle.std.specs.Prelude.{length}
use Rattle.std.proofs.lemmas.List.Elements.{All-weaker}
use Rattle.mrp_loops.specs.declared.line.Loop.{Loop}
use Rattle.mrp_loops.specs.Loops.{IsWayBack, IsWithin}
use Rattle.mrp_loops.specs.Telling.{IsTelling}
use Rattle.mrp_loops.proofs.Tellings.{all-told, loop-within}
use Rattle.mrp_loops.proofs.telling.search_all.Goals as goal

pub returns-clause-all : goal.returns-clause-all
returns-clause-all c =
    let end : c.loop-item.item ≡ c.args.count = omega arith in
    all-told c.args.lines.now c.args.count c.loop-item.telling c.requires.lines (subst (λ (n : ℕ). IsTelling c.args.lines.now c.args.count n c.loop-item.telling) end c.loop-item.invariant)

pub returns-clause-within : goal.returns-clause-within
returns-clause-within c =
    All-weaker (λ (told : Loop). IsWayBack c.args.lines.now told.item told.way.items) (IsWithin c.args.count (length c.args.lines.now)) (loop-within c.args.lines.now c.args.count c.requires.lines) c.loop-item.telling.loops.items c.loop-item.invariant.ways
