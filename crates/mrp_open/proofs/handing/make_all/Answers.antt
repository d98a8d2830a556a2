use Rattle.std.proofs.Common.{◌∙◌, refl, subst, sym}
use Rattle.std.proofs.Crossing.{crosses}
use Rattle.std.proofs.Math.Logic.{∥∥₁_map}
use denote.Param.Send.{sendable}
use Rattle.mrp_tables.specs.Tables.{Tables}
use Rattle.mrp_runs.specs.File.{IsRun}
use Rattle.mrp_open.specs.Made.{MakesRun}
use Rattle.mrp_open.proofs.Making.{makes-all, makes-next, makes-none}
use Rattle.mrp_open.proofs.handing.make_all.Goals as goal

pub make_one-requires : goal.make_one-requires
make_one-requires g c = (
  search (c.type_bounds.sync-R, sendable, crosses) depth 40,
  ∥∥₁_map c.in-Some-next_run.ensures.given (λ h. subst (λ (t : Tables). IsRun t c.in-Some-next_run.run') (sym c.loop.invariant.same) (c.requires c.in-Some-next_run.run' h)),
)

pub loop-init : goal.loop-init
loop-init g c = record {
  same = refl;
  made = makes-none g.N.Write.contents g.row.D-Part.Denot c.args.maker.now (g.G.RunSource.left c.args.from.now) (g.D.Folder.failures c.args.files.now) (g.D.Folder.named c.args.files.now) c.args.notes.now;
}

pub loop-preserved : goal.loop-preserved
loop-preserved g c = record {
  same = c.make_one.ensures.same ∙ c.loop.invariant.same;
  made = makes-next g.N.Write.contents g.row.D-Part.Denot c.args.maker.now (g.G.RunSource.left c.args.from.now) (g.G.RunSource.left c.loop.from) (g.G.RunSource.left c.next_run.new.self) c.in-Some-next_run.run'
      (g.D.Folder.failures c.args.files.now) (g.D.Folder.failures c.loop.files) (g.D.Folder.failures c.make_one.new.files)
      (g.D.Folder.named c.args.files.now) (g.D.Folder.named c.loop.files) (g.D.Folder.named c.make_one.new.files) c.args.notes.now c.loop.notes c.make_one.new.notes c.loop.invariant.made c.in-Some-next_run.ensures.next
      (subst (λ (t : Tables). MakesRun g.row.D-Part.Denot g.N.Write.contents t c.in-Some-next_run.run' (g.D.Folder.failures c.loop.files) (g.D.Folder.failures c.make_one.new.files) (g.D.Folder.named c.loop.files) (g.D.Folder.named c.make_one.new.files) c.loop.notes c.make_one.new.notes) c.loop.invariant.same c.make_one.ensures.made);
}

pub returns-in-None-next_run-clause-made : goal.returns-in-None-next_run-clause-made
returns-in-None-next_run-clause-made g c =
    makes-all g.N.Write.contents g.row.D-Part.Denot c.args.maker.now (g.G.RunSource.left c.args.from.now) (g.G.RunSource.left c.loop.from) (g.G.RunSource.left c.next_run.new.self)
    (g.D.Folder.failures c.args.files.now) (g.D.Folder.failures c.loop.files)
    (g.D.Folder.named c.args.files.now) (g.D.Folder.named c.loop.files) c.args.notes.now c.loop.notes c.loop.invariant.made c.in-None-next_run.ensures.next
