use Rattle.std.proofs.Common.{◌++◌, List, Result, Vec, subst, sym}
use Rattle.std.specs.Prelude.{IfOk}
use Rattle.std.specs.declared.alloc.Global.{Global}
use Rattle.mrp_qty.specs.declared.memory.NoMemory.{NoMemory}
use Rattle.mrp_warn.specs.declared.telling.Group.{Group}
use Rattle.mrp_warn.specs.Tells.{AreGroups}
use Rattle.mrp_warn.proofs.Grouped.{groups-both}
use Rattle.mrp_warn.proofs.telling.groups_of_both.Goals as goal

pub returns : goal.returns
returns g c =
    let seen = c.args.inspection.now in
    let front = c.args.front.now in
    let back = c.args.back.now in
    let first : AreGroups seen front c.in_ok-groups.groups.items = subst (λ (r : Result (Vec Group Global) NoMemory). IfOk r (λ groups. AreGroups seen front groups.items)) c.in_ok-groups.was c.join-first.ensures.first in
    let second : AreGroups seen back c.in_ok-others.others.items = subst (λ (r : Result (Vec Group Global) NoMemory). IfOk r (λ groups. AreGroups seen back groups.items)) c.in_ok-others.was c.join-first.ensures.second in
    subst (λ (all : List Group). AreGroups seen (front ++ back) all) (sym c.in_ok-append.ensures.items) (groups-both seen front back c.in_ok-groups.groups.items c.in_ok-others.others.items first second)
