use Rattle.mrp_open.proofs.OpenFolders.{left-served, opens-on, stays-on}
use Rattle.mrp_open.proofs.laws.open_desks.Goals as goal

pub returns : goal.returns
returns c = record {
  opened = λ known folder found tables d prepared takes answers. opens-on c.beginnings.ensures known folder found tables d prepared takes answers;
  served = λ known folder records given left old new handed_old handed_new end on serves.
      stays-on c.folders.ensures.bundle known folder records given left old new handed_old handed_new end on serves;
  crashed = λ known folder given left old new handed_old handed_new end on serves was held is bytes can.
      left-served c.crashes.ensures known folder given left old new handed_old handed_new end on serves was held is bytes can;
}
