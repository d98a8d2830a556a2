use Rattle.std.proofs.Common.{◌≡◌, ◌∙◌, Bor, List, ap, subst}
use Rattle.std.specs.Prelude.{IfOk, Vec, ℕ}
use Rattle.std.specs.List.{AllZip}
use Rattle.std.specs.declared.alloc.Global.{Global}
use Rattle.rayon.proofs.ListFacts.{IfOk-then}
use Rattle.rayon.proofs.ToStd.{slice-AllZip}
use Rattle.mrp_tables.specs.declared.rows.Operation.{Operation}
use Rattle.mrp_item.specs.declared.plan.Plan.{Plan}
use Rattle.mrp_item.proofs.Gathered.{gathered}
use Rattle.mrp_load.specs.Loads.{loads_by}
use Rattle.mrp_load.proofs.Grouped.{loads-are}
use Rattle.mrp_load.proofs.loading.load_rows.Goals as goal

pub returns : goal.returns
returns g c =
    let slice = ap (λ it. it.base.slice.now) c.map.ensures.base ∙ ap (λ it. it.slice.now) c.with_min_len.ensures.base ∙ c.par_iter.ensures in
    let (results, (refs, shown, each), all) = c.in_ok-collect.ensures in
    let s = c.args.plan.now.inputs in
    let captured : c.map.result.f.1 ≡ c.args.plan = ap (λ (f : Bor Global × Bor Plan). f.1) c.map.ensures.f in
    let own =
    subst (λ (p : Bor Plan). AllZip (λ (z : Bor (Vec Operation Global)) r. IfOk r (λ (y : Vec ℕ Global). y.items ≡ loads_by p.now.inputs z.now.items)) refs results) captured each in
    let made : Vec Operation Global → List ℕ = λ group. loads_by s group.items in
    let loads : Vec ℕ Global → List ℕ = λ v. v.items in
    let each-group = slice-AllZip refs c.args.groups.now (shown ∙ slice) (λ group r. IfOk r (λ v. loads v ≡ made group)) results own in
    IfOk-then c.in_ok-collect.field-0 _ _ (gathered loads made c.args.groups.now results c.in_ok-collect.field-0 each-group all)
    (λ v h. loads-are s c.args.groups.now v.items c.requires.size c.requires.groups h)
