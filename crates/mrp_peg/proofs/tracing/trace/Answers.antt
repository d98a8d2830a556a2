use Rattle.std.proofs.Common.{rules, ◌≡◌, ◌∙◌, ◌<◌, List, length, ap, arith, inr, sym, subst, true, false, Some, None}
use Rattle.std.specs.Prelude.{Vec}
use Rattle.std.specs.declared.alloc.Global.{Global}
use Rattle.std.proofs.lemmas.Result.{IfOk-weaker}
use Rattle.mrp_item.specs.Inputs.{Inputs}
use Rattle.mrp_peg.specs.declared.peg.Need.{Need}
use Rattle.mrp_peg.specs.declared.peg.Cause.{Cause}
use Rattle.mrp_peg.specs.Causes.{is_need_of, own_cause, IsCause, IsTrace}
use Rattle.mrp_peg.proofs.Traced.{own_trace, traced, untraced}
use Rattle.mrp_peg.proofs.tracing.trace.Goals as goal

pub returns-then-not-branch-clause-causes : goal.returns-then-not-branch-clause-causes
returns-then-not-branch-clause-causes c =
    let s = c.args.plan.now.inputs in
    let n = c.args.need.now in
    let none : is_need_of s n ≡ false = search rules in
    subst (IsTrace s n) (sym c.new.ensures.items) (untraced s n none)

pub returns-in-Some-clause-causes : goal.returns-in-Some-clause-causes
returns-in-Some-clause-causes c =
    let s = c.args.plan.now.inputs in
    let n = c.args.need.now in
    let has : is_need_of s n ≡ true = search rules in
    let own : own_cause n n.kind ≡ Some c.in-Some.cause = sym c.own_cause.ensures ∙ c.in-Some.is in
    IfOk-weaker c.alone.result _ _ (λ (v : Vec Cause Global) e. subst (IsTrace s n) (sym e) (own_trace s n c.in-Some.cause has own)) c.alone.ensures

pub returns-in_ok-ends-in-None-clause-causes : goal.returns-in_ok-ends-in-None-clause-causes
returns-in_ok-ends-in-None-clause-causes c =
    let s = c.args.plan.now.inputs in
    let n = c.args.need.now in
    let has : is_need_of s n ≡ true = search rules in
    let alone : own_cause n n.kind ≡ None = sym c.own_cause.ensures ∙ c.in-None.is in
    IfOk-weaker c.in_order.result _ _ (λ (v : Vec Cause Global) e. subst (IsTrace s n) (sym e) (traced s n _ has alone c.in_ok-ends-in-None.ensures.ends)) c.in_order.ensures

pub returns-then-not-branch-clause-some : goal.returns-then-not-branch-clause-some
returns-then-not-branch-clause-some c = λ has.
    let none : is_need_of c.args.plan.now.inputs c.args.need.now ≡ false = search rules in
    let e : true ≡ false = sym has ∙ none in
    absurd (cc)

pub returns-in-Some-clause-some : goal.returns-in-Some-clause-some
returns-in-Some-clause-some c =
    IfOk-weaker c.alone.result _ _ (λ (v : Vec Cause Global) e has. omega (arith, ap length e)) c.alone.ensures

-- a list that has all causes is not empty if there is one
not_empty : (s : Inputs) (n : Need) (causes : List Cause) (x : Cause) → IsTrace s n causes → IsCause s n x → 0 < length causes
not_empty s n causes x trace why = let (k, within, is) = (trace.each x).1 why in omega (arith, within)

pub returns-in_ok-ends-in-None-clause-some : goal.returns-in_ok-ends-in-None-clause-some
returns-in_ok-ends-in-None-clause-some c =
    let s = c.args.plan.now.inputs in
    let n = c.args.need.now in
    let has : is_need_of s n ≡ true = search rules in
    let alone : own_cause n n.kind ≡ None = sym c.own_cause.ensures ∙ c.in-None.is in
    let (x, inside) = c.in_ok-ends-in-None.ensures.some alone in
    let why : IsCause s n x = (has, inr (c.in_ok-ends-in-None.ensures.ends.ended x inside)) in
    IfOk-weaker c.in_order.result _ _ (λ (v : Vec Cause Global) e there. not_empty s n v.items x (subst (IsTrace s n) (sym e) (traced s n _ has alone c.in_ok-ends-in-None.ensures.ends)) why) c.in_order.ensures
