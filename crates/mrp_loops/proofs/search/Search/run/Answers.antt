use Rattle.std.proofs.Common.{refl, arith}
use Rattle.mrp_loops.proofs.Searches.{search-begins}
use Rattle.mrp_loops.proofs.search.Search.run.Goals as goal

pub loop-next-init : goal.loop-next-init
loop-next-init c = record {
  search = search-begins c.args.self.now c.meet.new.self c.args.from 0 c.in_ok-meet.ensures c.args.links.now.lines.items c.args.ranks.now c.requires.clear c.requires.from refl;
  within = omega arith;
}
