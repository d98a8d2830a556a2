use Rattle.std.proofs.Common.{◌≡◌}
use Rattle.mrp_open.specs.Made.{MakesFirst}
use Rattle.mrp_open.proofs.handing.make_all.Given as goal

abbrev pub invariant-loop : goal.invariant-loop
invariant-loop g l = record {
  same : l.maker ≡ l.fn.maker;
  made : MakesFirst g.row.D-Part.Denot g.N.Write.contents l.fn.maker (g.G.RunSource.left l.fn.from) (g.G.RunSource.left l.from) (g.D.Folder.failures l.fn.files) (g.D.Folder.failures l.files) (g.D.Folder.named l.fn.files) (g.D.Folder.named l.files) l.fn.notes l.notes;
}
