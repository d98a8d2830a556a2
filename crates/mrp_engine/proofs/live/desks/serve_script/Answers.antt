use Rattle.std.proofs.Common.{◌≡◌, ◌∙◌, ◌-◌, ◌≤◌, List, Vec, ap, arith, length, map, subst, sym}
use Rattle.std.specs.Prelude.{All}
use Rattle.std.specs.declared.alloc.Global.{Global}
use Rattle.mrp_book.specs.declared.call.Call.{Call}
use Rattle.mrp_book.specs.History.{Fits}
use Rattle.mrp_bill.specs.Shop.{Shop}
use Rattle.mrp_master.specs.Supply.{supply_of}
use Rattle.mrp_desk.specs.Offices.{Desk, supply_at}
use Rattle.mrp_engine.specs.live.Begun.{IsReady}
use Rattle.mrp_engine.specs.live.DeskCalls.{AreCallsOf, calls_at}
use Rattle.mrp_script.specs.Script.{call_of, record_of}
use Rattle.mrp_engine.proofs.lemmas.live.DeskCalls.{lists-fit}
use Rattle.mrp_engine.proofs.lemmas.live.DeskLists.{followed-each, if-parted-desks, if-parted-served}
use Rattle.mrp_engine.proofs.lemmas.live.DeskRuns.{if-have-runs, ready-all, served-each}
use Rattle.mrp_engine.proofs.live.desks.serve_script.Goals as goal

pub calls_by_desk-requires-clause-desks : goal.calls_by_desk-requires-clause-desks
calls_by_desk-requires-clause-desks g c = λ k d within.
    let count = c.requires.desks.count in
    let most = c.requires.count.all k d within in
    (c.requires.rows k d within, omega (arith, count, most, c.args.desks.ok.0))

pub calls_by_desk-requires-clause-fits : goal.calls_by_desk-requires-clause-fits
calls_by_desk-requires-clause-fits g c =
    let is = c.deref.ensures ∙ c.shop.ensures in
    subst (λ (x : Shop). All (λ r. Fits (supply_of x.tables) (call_of r.call)) c.args.script.now) (sym is) c.requires.fits

pub make_ready-requires-clause-listed : goal.make_ready-requires-clause-listed
make_ready-requires-clause-listed g c = λ k d within.
    let long : length c.as_slice.result.now ≡ length c.in_ok-lists.lists.items = ap (length {A = Vec Call Global}) c.as_slice.ensures.value in
    let size = c.in_ok-lists.ensures.size in
    let count = c.len.ensures in
    let number = c.requires.desks.numbers k d within in
    (omega (arith, number), omega (arith, number, within, long, size, count, c.args.desks.ok.0))

pub serve_all-requires-clause-lists : goal.serve_all-requires-clause-lists
serve_all-requires-clause-lists g c = λ κs alive.
    let office = c.args.shared.office.now in
    let supply = supply_at office in
    let desks = c.args.desks.items in
    let ready = c.in_ok-ready.ready.items in
    let made = c.in_ok-ready.ensures in
    let long : length c.as_slice-2.result.now ≡ length c.in_ok-lists.lists.items = ap (length {A = Vec Call Global}) c.as_slice-2.ensures.value in
    let size = c.in_ok-lists.ensures.size in
    let count = c.len.ensures in
    let same = c.as_slice.ensures.value ∙ sym c.as_slice-2.ensures.value in
    let listed : All (λ (d : Desk). (1 ≤ d.number) × (d.number ≤ length c.as_slice-2.result.now)) desks = λ k d within.
    let number = c.requires.desks.numbers k d within in
    (omega (arith, number), omega (arith, number, within, long, size, count, c.args.desks.ok.0)) in
    record {
      of_office = ready-all (λ (d : Desk). d.turn ≡ office) ready desks made.desks c.requires.desks.of_office;
      listed = ready-all (λ (d : Desk). (1 ≤ d.number) × (d.number ≤ length c.as_slice-2.result.now)) ready desks made.desks listed;
      fits = λ place.
          subst (λ (lists : List (Vec Call Global)). All (Fits supply) (calls_at lists place)) (sym c.as_slice-2.ensures.value)
          (lists-fit supply c.args.script.now c.in_ok-lists.lists.items c.in_ok-lists.ensures.calls c.requires.fits place);
      ready = subst (λ (lists : List (Vec Call Global)). All (λ r. IsReady (calls_at lists (r.desk.number - 1)) r) ready) same made.ready;
    }

pub returns-clause-desks : goal.returns-clause-desks
returns-clause-desks g c =
    let office = c.args.shared.office.now in
    let records = map record_of c.args.script.now in
    let desks = c.args.desks.items in
    let all = c.in_ok-all.all.items in
    let served = served-each office c.as_slice-2.result.now c.in_ok-ready.ready.items desks all c.in_ok-ready.ensures.desks c.in_ok-all.ensures in
    let calls = subst (AreCallsOf records) (sym c.as_slice-2.ensures.value) c.in_ok-lists.ensures.calls in
    if-parted-desks office records desks all c.requires.desks c.requires.new served.0 (followed-each office (supply_at office) records c.as_slice-2.result.now desks all c.requires.desks calls served.1)
    c.parted.result c.parted.ensures.desks

pub returns-clause-served : goal.returns-clause-served
returns-clause-served g c =
    let office = c.args.shared.office.now in
    let records = map record_of c.args.script.now in
    let desks = c.args.desks.items in
    let all = c.in_ok-all.all.items in
    let served = served-each office c.as_slice-2.result.now c.in_ok-ready.ready.items desks all c.in_ok-ready.ensures.desks c.in_ok-all.ensures in
    let calls = subst (AreCallsOf records) (sym c.as_slice-2.ensures.value) c.in_ok-lists.ensures.calls in
    if-parted-served office records desks all c.requires.desks c.requires.new served.0 (followed-each office (supply_at office) records c.as_slice-2.result.now desks all c.requires.desks calls served.1)
    c.parted.result c.parted.ensures.desks c.parted.ensures.end

pub returns-clause-runs : goal.returns-clause-runs
returns-clause-runs g c =
    if-have-runs c.args.shared.office.now c.as_slice-2.result.now c.in_ok-ready.ready.items c.in_ok-all.all.items c.in_ok-all.ensures c.parted.result c.parted.ensures.desks c.parted.ensures.runs
