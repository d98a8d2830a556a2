use Rattle.std.proofs.Common.{◌≡◌, ◌∙◌, ◌-◌, ◌++◌, ◌∷◌, [], ℕ, List, ap, arith, map, subst, sym}
use Rattle.std.specs.Prelude.{All}
use Rattle.std.proofs.lemmas.List.{append_assoc, map-append}
use Rattle.std.proofs.lemmas.List.Elements.{All-push}
use Rattle.mrp_desk.specs.Offices.{Desk}
use Rattle.mrp_engine.specs.declared.live.ready.Ready.{Ready}
use Rattle.mrp_engine.specs.live.Begun.{IsReady}
use Rattle.mrp_engine.specs.live.DeskCalls.{calls_at}
use Rattle.mrp_engine.specs.live.Runs.{runs_in}
use Rattle.mrp_engine.proofs.lemmas.live.OneByOne.{next-has}
use Rattle.mrp_engine.proofs.live.ready.make_ready.Goals as goal

pub loop-desk-preserved : goal.loop-desk-preserved
loop-desk-preserved c =
    let lists = c.args.lists.now in
    let d = c.in-Some.desk in
    let old = c.loop-desk.all.items in
    let left = c.next.new.self.rest.items in
    let one : Ready = record { desk = d; runs = c.in_ok-runs.runs } in
    let adds = c.in_ok-push.ensures.items in
    let desks : List Desk = map (λ (r : Ready). r.desk) old in
    let same : c.runs_in-room.result ≡ runs_in (calls_at lists (d.number - 1)) = c.runs_in-room.ensures ∙ ap runs_in (c.list_of.ensures ∙ ap (λ (n : ℕ). calls_at lists (n - 1)) c.number.ensures) in
    let are : c.args.desks.items ≡ desks ++ d ∷ left = c.loop-desk.invariant.desks ∙ ap (λ (r : List Desk). desks ++ r) c.in-Some.ensures.steps.0 in
    let exact = c.in_ok-runs.ensures.exact in
    let new : d.mine ≡ [] = next-has (λ (x : Desk). x.mine ≡ []) c.args.desks.items desks left d are c.requires.new in
    record {
      desks = are ∙ sym (append_assoc desks (d ∷ []) left)
          ∙ ap (λ (ds : List Desk). ds ++ left) (sym (ap (map (λ (r : Ready). r.desk)) adds ∙ map-append (λ (r : Ready). r.desk) old (one ∷ [])));
      ready = subst (All (λ (r : Ready). IsReady (calls_at lists (r.desk.number - 1)) r)) (sym adds)
          (All-push (λ (r : Ready). IsReady (calls_at lists (r.desk.number - 1)) r) old one c.loop-desk.invariant.ready (record { new = new; none = c.in_ok-runs.ensures.items; room = omega (arith, same, exact) }));
    }
