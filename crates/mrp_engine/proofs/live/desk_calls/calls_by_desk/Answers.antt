use Rattle.std.proofs.Common.{◌≤◌, ◌-◌, ◌+◌, ◌∙◌, List, ap, arith, map, subst, sym, take_all}
use Rattle.mrp_tables.specs.declared.rows.ScriptRow.{ScriptRow}
use Rattle.mrp_bill.specs.Lists.{Appends}
use Rattle.mrp_book.specs.declared.call.Call.{Call}
use Rattle.mrp_book.specs.History.{Fits}
use Rattle.mrp_master.specs.Supply.{supply_of}
use Rattle.mrp_engine.specs.live.DeskCalls.{AreCallsOf, asks}
use Rattle.mrp_script.specs.Script.{call_of, record_of}
use Rattle.mrp_engine.proofs.lemmas.live.DeskCalls.{count-none, listed-more}
use Rattle.mrp_engine.proofs.live.desk_calls.calls_by_desk.Goals as goal

pub loop-row-init : goal.loop-row-init
loop-row-init c = record {
  size = c.in_ok-lists.ensures.size;
  calls = record { each = λ place. ap (asks (place + 1)) (c.in_ok-lists.ensures.empty place); count = count-none c.in_ok-lists.lists.items c.in_ok-lists.ensures.empty };
}

pub append_call-requires : goal.append_call-requires
append_call-requires c =
    let (some, most) = subst (λ (r : ScriptRow). (1 ≤ r.desk) × (r.desk ≤ c.args.desks)) (sym c.row-item.is) (c.requires.desks c.loop-row.row-index c.row-item.result c.loop-row-test.true) in
    let size = c.loop-row.invariant.size in
    (some, omega (arith, most, size))

pub call_of-requires : goal.call_of-requires
call_of-requires c = subst (λ (r : ScriptRow). Fits (supply_of c.args.shop.now.tables) (call_of r.call)) (sym c.row-item.is) (c.requires.fits c.loop-row.row-index c.row-item.result c.loop-row-test.true)

pub loop-row-preserved : goal.loop-row-preserved
loop-row-preserved c =
    let row = c.row-item.result in
    let (some, most) = subst (λ (r : ScriptRow). (1 ≤ r.desk) × (r.desk ≤ c.args.desks)) (sym c.row-item.is) (c.requires.desks c.loop-row.row-index row c.loop-row-test.true) in
    let puts = subst (λ (call : Call). Appends c.loop-row.lists.items c.append_call.new.lists.items (row.desk - 1) call) c.call_of.ensures c.in_ok-append_call.ensures in
    let size = c.loop-row.invariant.size in
    record {
      size = puts.size ∙ c.loop-row.invariant.size;
      calls = listed-more c.args.script.now c.loop-row.row-index row c.loop-row.lists.items c.append_call.new.lists.items c.loop-row-test.true c.row-item.is some (omega (arith, most, size)) puts c.loop-row.invariant.calls;
    }

pub returns-clause-calls : goal.returns-clause-calls
returns-clause-calls c =
    subst (λ (rows : List ScriptRow). AreCallsOf (map record_of rows) c.loop-row.lists.items) (take_all c.loop-row.row-index c.args.script.now c.loop-row-test.false) c.loop-row.invariant.calls
