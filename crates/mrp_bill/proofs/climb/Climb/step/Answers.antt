use Rattle.std.proofs.Common.{◌≡◌, ◌<◌, ◌-◌, ℕ, suc, length, get_or, subst, ◌∙◌, ap, arith}
use Rattle.std.proofs.lemmas.Result.{on_ok_weaker}
use Rattle.mrp_bill.specs.declared.climb.Stage.TheVariants.{New, Placed}
use Rattle.mrp_bill.specs.Climb.{stage_at}
use Rattle.mrp_bill.specs.Grouped.{IsListed}
use Rattle.mrp_bill.proofs.Climbs.{climb-place, climb-visit, climb-passes, climb-closes, climb-close, top-inside, left-is, left-fits, parent-is, work-visit, stage-read}
use Rattle.mrp_bill.proofs.climb.Climb.step.Goals as goal

pub returns-then-left-eq0-clause-climb : goal.returns-then-left-eq0-clause-climb
returns-then-left-eq0-clause-climb c =
    let inside = top-inside c.args.parents.now c.args.self.now c.args.item c.requires.climb c.requires.some c.requires.top in
    let left = left-is c.args.parents.now c.args.self.now c.args.item c.index-left.result.now c.requires.climb inside c.index-left.ensures in
    on_ok_weaker c.place.result (λ placed. climb-place c.args.parents.now c.args.self.now _ c.args.item c.requires.climb placed c.requires.some c.requires.top (left ∙ c.if-left-eq0.true) c.requires.within) c.place.ensures

pub index-requires : goal.index-requires
index-requires c =
    let inside = top-inside c.args.parents.now c.args.self.now c.args.item c.requires.climb c.requires.some c.requires.top in
    let fits = left-fits c.args.parents.now c.args.self.now c.args.item c.index-left.result.now c.requires.climb inside c.index-left.ensures in
    let parent = parent-is c.args.parents.now c.args.item (c.index-left.result.now - 1) c.group-above.result.now c.group-above.ensures (omega (arith, fits, ap length c.group-above.ensures)) in
    omega (arith, c.requires.within _ _ parent.1, c.requires.climb.size)

pub visit-requires : goal.visit-requires
visit-requires c =
    let inside = top-inside c.args.parents.now c.args.self.now c.args.item c.requires.climb c.requires.some c.requires.top in
    let fits = left-fits c.args.parents.now c.args.self.now c.args.item c.index-left.result.now c.requires.climb inside c.index-left.ensures in
    let parent = parent-is c.args.parents.now c.args.item (c.index-left.result.now - 1) c.group-above.result.now c.group-above.ensures (omega (arith, fits, ap length c.group-above.ensures)) in
    omega (arith, c.requires.within _ _ parent.1, c.requires.climb.size)

pub returns-in-New-clause-climb : goal.returns-in-New-clause-climb
returns-in-New-clause-climb c =
    let inside = top-inside c.args.parents.now c.args.self.now c.args.item c.requires.climb c.requires.some c.requires.top in
    let fits = left-fits c.args.parents.now c.args.self.now c.args.item c.index-left.result.now c.requires.climb inside c.index-left.ensures in
    let parent = parent-is c.args.parents.now c.args.item (c.index-left.result.now - 1) c.group-above.result.now c.group-above.ensures (omega (arith, fits, ap length c.group-above.ensures)) in
    let within : (get_or c.group-above.result.now (c.index-left.result.now - 1) 0) < length c.args.self.now.stages.items = omega (arith, c.requires.within _ _ parent.1, c.requires.climb.size) in
    let new : stage_at c.args.self.now.stages.items (get_or c.group-above.result.now (c.index-left.result.now - 1) 0) ≡ New = stage-read c.args.self.now.stages.items (get_or c.group-above.result.now (c.index-left.result.now - 1) 0) c.index.result.now within c.index.ensures ∙ c.in-New.is in
    on_ok_weaker c.visit.result (λ opens. climb-visit c.args.parents.now c.args.self.now _ (get_or c.group-above.result.now (c.index-left.result.now - 1) 0) c.requires.climb opens within new
    (λ _. subst (λ (x : ℕ). IsListed c.args.parents.now (get_or c.group-above.result.now (c.index-left.result.now - 1) 0) x) c.requires.top parent.1))
    c.visit.ensures

pub returns-in-New-clause-nearer : goal.returns-in-New-clause-nearer
returns-in-New-clause-nearer c =
    let inside = top-inside c.args.parents.now c.args.self.now c.args.item c.requires.climb c.requires.some c.requires.top in
    let fits = left-fits c.args.parents.now c.args.self.now c.args.item c.index-left.result.now c.requires.climb inside c.index-left.ensures in
    let parent = parent-is c.args.parents.now c.args.item (c.index-left.result.now - 1) c.group-above.result.now c.group-above.ensures (omega (arith, fits, ap length c.group-above.ensures)) in
    let within : (get_or c.group-above.result.now (c.index-left.result.now - 1) 0) < length c.args.self.now.stages.items = omega (arith, c.requires.within _ _ parent.1, c.requires.climb.size) in
    let new : stage_at c.args.self.now.stages.items (get_or c.group-above.result.now (c.index-left.result.now - 1) 0) ≡ New = stage-read c.args.self.now.stages.items (get_or c.group-above.result.now (c.index-left.result.now - 1) 0) c.index.result.now within c.index.ensures ∙ c.in-New.is in
    on_ok_weaker c.visit.result (λ opens. work-visit c.args.self.now _ (get_or c.group-above.result.now (c.index-left.result.now - 1) 0) opens within new) c.visit.ensures

pub returns-in-Open-clause-climb : goal.returns-in-Open-clause-climb
returns-in-Open-clause-climb c =
    let inside = top-inside c.args.parents.now c.args.self.now c.args.item c.requires.climb c.requires.some c.requires.top in
    let fits = left-fits c.args.parents.now c.args.self.now c.args.item c.index-left.result.now c.requires.climb inside c.index-left.ensures in
    let parent = parent-is c.args.parents.now c.args.item (c.index-left.result.now - 1) c.group-above.result.now c.group-above.ensures (omega (arith, fits, ap length c.group-above.ensures)) in
    let within : (get_or c.group-above.result.now (c.index-left.result.now - 1) 0) < length c.args.self.now.stages.items = omega (arith, c.requires.within _ _ parent.1, c.requires.climb.size) in
    let was : get_or c.args.self.now.left.items c.args.item 0 ≡ suc (c.index-left.result.now - 1) = omega (arith, left-is c.args.parents.now c.args.self.now c.args.item c.index-left.result.now c.requires.climb inside c.index-left.ensures) in
    let shut = stage-read c.args.self.now.stages.items (get_or c.group-above.result.now (c.index-left.result.now - 1) 0) c.index.result.now within c.index.ensures ∙ c.in-Open.is in
    climb-closes c.args.parents.now c.args.self.now c.pass.new.self c.args.item (c.index-left.result.now - 1) c.requires.climb inside was c.pass.ensures
    (climb-close c.args.parents.now c.args.self.now c.args.item (get_or c.group-above.result.now (c.index-left.result.now - 1) 0) c.in-Open.field-0 c.requires.climb c.requires.some c.requires.top within shut parent.1)

pub returns-in-Placed-clause-climb : goal.returns-in-Placed-clause-climb
returns-in-Placed-clause-climb c =
    let inside = top-inside c.args.parents.now c.args.self.now c.args.item c.requires.climb c.requires.some c.requires.top in
    let fits = left-fits c.args.parents.now c.args.self.now c.args.item c.index-left.result.now c.requires.climb inside c.index-left.ensures in
    let parent = parent-is c.args.parents.now c.args.item (c.index-left.result.now - 1) c.group-above.result.now c.group-above.ensures (omega (arith, fits, ap length c.group-above.ensures)) in
    let within : (get_or c.group-above.result.now (c.index-left.result.now - 1) 0) < length c.args.self.now.stages.items = omega (arith, c.requires.within _ _ parent.1, c.requires.climb.size) in
    let was : get_or c.args.self.now.left.items c.args.item 0 ≡ suc (c.index-left.result.now - 1) = omega (arith, left-is c.args.parents.now c.args.self.now c.args.item c.index-left.result.now c.requires.climb inside c.index-left.ensures) in
    let placed = stage-read c.args.self.now.stages.items (get_or c.group-above.result.now (c.index-left.result.now - 1) 0) c.index.result.now within c.index.ensures ∙ c.in-Placed.is in
    climb-passes c.args.parents.now c.args.self.now c.pass-in-Placed.new.self c.args.item (c.index-left.result.now - 1) c.in-Placed.field-0 c.requires.climb inside was c.pass-in-Placed.ensures
    (subst (λ (x : ℕ). stage_at c.args.self.now.stages.items x ≡ Placed c.in-Placed.field-0) parent.0 placed)
