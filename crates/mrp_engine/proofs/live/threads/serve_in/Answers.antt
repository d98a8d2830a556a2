use Rattle.std.proofs.Common.{rules, ◌∙◌, ◌<◌, ◌-◌, ℕ, List, ap, arith, length, refl, subst, sym}
use Rattle.std.specs.Prelude.{slice_index_or}
use Rattle.std.proofs.Crossing.{crosses}
use denote.Param.Send.{sendable}
use Rattle.std.proofs.lemmas.Result.{MatchResult-weaker}
use Rattle.mrp_book.specs.declared.call.Call.{Call}
use Rattle.mrp_desk.specs.Offices.{Desk}
use Rattle.mrp_engine.specs.declared.live.ready.Ready.{Ready}
use Rattle.mrp_engine.specs.declared.live.serving.Served.{Served}
use Rattle.mrp_engine.specs.live.Begun.{CanServe, HasDone}
use Rattle.mrp_engine.specs.live.DeskCalls.{calls_at}
use Rattle.mrp_engine.proofs.lemmas.live.Crossing.{captures-send, served-send}
use Rattle.mrp_engine.proofs.lemmas.live.OneByOne.{all-done, one-done, room-left}
use Rattle.mrp_engine.proofs.lemmas.live.Duties.{IsBegun, IsWorkOf, begun-as, can-serve, left-can, serves-all, some-of}
use Rattle.mrp_engine.proofs.live.threads.serve_in.Goals as goal

pub spawn_with-one-requires-send-F : goal.spawn_with-one-requires-send-F
spawn_with-one-requires-send-F g c κs within = search (captures-send, c.type_bounds.sync-D, c.type_bounds.sync-I, c.type_bounds.sync-R, sendable) depth 12

pub spawn_with-one-requires-send-T : goal.spawn_with-one-requires-send-T
spawn_with-one-requires-send-T g c κs within = search (served-send, sendable, crosses) depth 40

pub loop-ready-preserved : goal.loop-ready-preserved
loop-ready-preserved g c =
    let office = c.args.shared.office.now in
    let lists = c.args.lists.now in
    let IsOf = IsWorkOf office lists c.args.shared.rows.now c.args.shared.workers in
    let r = c.in-Some.ready in
    let begun = c.spawn_with-one.result in
    let calls = c.list_of-calls.ensures ∙ ap (λ n. calls_at lists (n - 1)) c.number.ensures in
    let does = λ (s : Served) (done : HasDone office c.list_of-calls.result.now c.of.result.value s).
    subst (λ (x : Desk). HasDone office (calls_at lists (r.desk.number - 1)) x s) c.of.ensures (subst (λ (xs : List Call). HasDone office xs c.of.result.value s) calls done) in
    let is_begun = begun-as office lists IsOf r begun _ _ c.spawn_with-one.ensures.ok c.spawn_with-one.ensures.err does (refl, refl, refl, calls, refl) in
    let is = c.in-Some.ensures.steps.0 in
    let more = c.push_reserved.ensures.items in (
      one-done (IsBegun office lists IsOf) c.args.desks.items c.loop-ready.ready-iterator.rest.items c.next.new.self.rest.items c.loop-ready.begun.items c.push_reserved.new.self.items r begun
          c.loop-ready.invariant.0 is more is_begun,
      room-left c.loop-ready.ready-iterator.rest.items c.next.new.self.rest.items c.loop-ready.begun.items c.push_reserved.new.self.items r begun _ _ is more c.push_reserved.ensures.capacity c.loop-ready.invariant.1,
    )

pub do_left-requires-clause-left : goal.do_left-requires-clause-left
do_left-requires-clause-left g c k e within =
    let office = c.args.shared.office.now in
    let lists = c.args.lists.now in
    let IsOf = IsWorkOf office lists c.args.shared.rows.now c.args.shared.workers in
    let desks = c.args.desks.items in
    let rest = c.loop-ready.ready-iterator.rest in
    let none = c.in-None.ensures.steps.0 in
    let begun = all-done (IsBegun office lists IsOf) desks rest.items c.loop-ready.begun.items c.loop-ready.invariant.0 (omega (arith, none, rest.ok.0)) in
    let count = begun.0 in
    let ended = c.join_all.ensures.count in
    let low : k < length c.loop-ready.begun.items = omega (arith, within, ended) in
    let here : k < length desks = omega (arith, low, count) in
    let b = some-of c.loop-ready.begun.items k low in
    let d = some-of desks k here in
    let at = slice_index_or desks k d in
    let can = can-serve office lists c.args.shared.rows.now.value c.args.shared.workers desks k d here c.requires.shop c.requires.workers c.requires.lists in
    let done = left-can office lists IsOf _ at (slice_index_or c.loop-ready.begun.items k b) (slice_index_or c.join_all.result.items k e)
    (begun.1 k d b here) (c.join_all.ensures.each k b e low) (λ work of.
    let a = subst (λ o. CanServe o c.args.shared.rows.now.value c.args.shared.workers (calls_at lists (at.desk.number - 1)) at) (sym of.0) can in
    let b = subst (λ rows. CanServe work.0.now rows.value c.args.shared.workers (calls_at lists (at.desk.number - 1)) at) (sym of.1) a in
    let c' = subst (λ (n : ℕ). CanServe work.0.now work.1.now.value n (calls_at lists (at.desk.number - 1)) at) (sym of.2) b in
    let d' = subst (λ (xs : List Call). CanServe work.0.now work.1.now.value work.2 xs at) (sym of.3) c' in
    subst (λ (r : Ready). CanServe work.0.now work.1.now.value work.2 work.7.now r) (sym of.4) d') in
    MatchResult-weaker (slice_index_or c.join_all.result.items k e) done (λ x p. p) (λ left can. (can, (search (c.type_bounds.sync-R, sendable) depth 40, search (c.type_bounds.sync-D, sendable) depth 40, search (c.type_bounds.sync-I, sendable) depth 40)))

pub returns : goal.returns
returns g c =
    let office = c.args.shared.office.now in
    let lists = c.args.lists.now in
    let IsOf = IsWorkOf office lists c.args.shared.rows.now c.args.shared.workers in
    let desks = c.args.desks.items in
    let rest = c.loop-ready.ready-iterator.rest in
    let none = c.in-None.ensures.steps.0 in
    let begun = all-done (IsBegun office lists IsOf) desks rest.items c.loop-ready.begun.items c.loop-ready.invariant.0 (omega (arith, none, rest.ok.0)) in
    let count = begun.0 in
    let ended = c.join_all.ensures.count in
    let done = c.do_left.ensures.count in record {
      count = omega (arith, count, ended, done);
      each = λ k d s here.
          let low : k < length c.loop-ready.begun.items = omega (arith, here, count) in
          let b = some-of c.loop-ready.begun.items k low in
          let e = some-of c.join_all.result.items k (omega (arith, low, ended)) in
          let at = slice_index_or desks k d in
          let served = slice_index_or c.do_left.result.items k s in
          serves-all office lists IsOf _ at (slice_index_or c.loop-ready.begun.items k b) (slice_index_or c.join_all.result.items k e) served
          (begun.1 k d b here) (c.join_all.ensures.each k b e low) (c.do_left.ensures.each k e s (omega (arith, low, ended)))
          (λ work of gives.
          let own : HasDone work.0.now work.7.now work.8.desk served = search rules in
          let at_office = subst (λ o. HasDone o work.7.now work.8.desk served) of.0 own in
          let of_list = subst (λ (xs : List Call). HasDone office xs work.8.desk served) of.3 at_office in
          subst (λ (x : Ready). HasDone office (calls_at lists (at.desk.number - 1)) x.desk served) of.4 of_list);
    }
