use Rattle.std.proofs.Common.{◌≡◌, ◌∙◌, ◌+◌, ◌++◌, ℕ, List, ap, subst, arith, rules, length}
use Rattle.mrp_turn.specs.declared.log.Entry.{Entry}
use Rattle.mrp_book.specs.declared.call.Call.{Call}
use Rattle.mrp_book.specs.declared.reply.Reply.{Reply}
use Rattle.mrp_report.specs.section.HistoryText.{history_head, history_text}
use Rattle.mrp_report.proofs.lemmas.section.HistoryTexts.{so_far, so_far-none, to-come, whole, entry-written}
use Rattle.mrp_report.proofs.Progress.{IsWritten, ends-at_once, ends-failed, ends-of_call, ends-refused, ends-whole, written-none, written-passed}
use Rattle.mrp_report.proofs.section.history.write_history.Given as given
use Rattle.mrp_report.proofs.section.history.write_history.Goals as goal
use Rattle.mrp_report.proofs.section.history.write_history.Goals.{After-loop-place, In_ok-entry_row}

pub loop-place-init : goal.loop-place-init
loop-place-init g c =
    let t = c.args.shop.now.tables in
    let h = c.args.history.now.entries in
    let head : c.begin.new.self ≡ history_head = c.in_ok-begin.ensures ∙ ap (λ (page : List ℕ). page ++ history_head) c.new-page.ensures in
    written-none g.W.Write.contents c.args.writer.now 1000000 c.new-tries.result c.begin.new.self (so_far t h 0) c.new-tries.ensures (head ∙ so_far-none t h)

pub returns-in_err-names : goal.returns-in_err-names
returns-in_err-names g c =
    ends-of_call (ends-at_once g.W.Write.contents c.args.writer.now 1000000 (history_text c.args.shop.now.tables c.args.history.now.entries) c.from_residual.result (search rules))

pub returns-in_err-begin : goal.returns-in_err-begin
returns-in_err-begin g c =
    ends-of_call (ends-at_once g.W.Write.contents c.args.writer.now 1000000 (history_text c.args.shop.now.tables c.args.history.now.entries) c.from_residual-in_err-begin.result (search rules))

pub returns-in_err-entry_row : goal.returns-in_err-entry_row
returns-in_err-entry_row g c =
    let t = c.args.shop.now.tables in
    let h = c.args.history.now.entries in
    let (rest, is) = to-come t h c.loop-place.place in
    ends-of_call (ends-refused g.W.Write.contents c.args.writer.now c.loop-place.writer 1000000 c.loop-place.tries c.loop-place.page (so_far t h c.loop-place.place) rest (history_text t h) c.from_residual-in_err-entry_row.result
    c.loop-place.invariant is (search rules))

-- one more entry is on the page
stepped : (g : given.Over) (c : In_ok-entry_row g)
    → IsWritten g.W.Write.contents c.args.writer.now c.loop-place.writer 1000000 c.loop-place.tries c.entry_row.new.page (so_far c.args.shop.now.tables c.args.history.now.entries (c.loop-place.place + 1))
stepped g c =
    entry-written g.W.Write.contents c.args.writer.now c.loop-place.writer c.loop-place.tries c.loop-place.page c.entry_row.new.page c.in_ok-names.names.tables.now c.args.shop.now.tables
    c.entries-entry-items.result.now c.args.history.now.entries c.loop-place.place c.entry-item.result
    c.loop-place.invariant (c.in_ok-names.ensures ∙ c.tables.ensures.value) c.entries-entry-items.ensures.entries c.loop-place-test.true c.entry-item.is c.in_ok-entry_row.ensures

pub returns-in_err-pass_on : goal.returns-in_err-pass_on
returns-in_err-pass_on g c =
    let t = c.args.shop.now.tables in
    let h = c.args.history.now.entries in
    let k = c.loop-place.place in
    let next = stepped g (goal.at.returns-in_err-pass_on g c).In_ok-entry_row in
    let (rest, is) = to-come t h (k + 1) in
    ends-of_call (ends-failed g.W.Write.contents c.args.writer.now c.loop-place.writer c.pass_on.new.writer 1000000 c.loop-place.tries c.pass_on.new.tries c.entry_row.new.page (so_far t h (k + 1)) rest (history_text t h)
    _ c.from_residual-in_err-pass_on.result next is c.in_err-pass_on.ensures (search rules))

pub loop-place-preserved : goal.loop-place-preserved
loop-place-preserved g c =
    let t = c.args.shop.now.tables in
    let h = c.args.history.now.entries in
    let k = c.loop-place.place in
    let next = stepped g (goal.at.loop-place-preserved g c).In_ok-entry_row in
    written-passed g.W.Write.contents c.args.writer.now c.loop-place.writer c.pass_on.new.writer 1000000 c.loop-place.tries c.pass_on.new.tries c.entry_row.new.page c.pass_on.new.self (so_far t h (k + 1)) next
    c.in_ok-pass_on.ensures.tries c.in_ok-pass_on.ensures.whole

-- all entries are
written : (g : given.Over) (c : After-loop-place g)
    → IsWritten g.W.Write.contents c.args.writer.now c.loop-place.writer 1000000 c.loop-place.tries c.loop-place.page (history_text c.args.shop.now.tables c.args.history.now.entries)
written g c =
    let t = c.args.shop.now.tables in
    let h = c.args.history.now.entries in
    let same : length c.entries-entry-items.result.now ≡ length h = ap (length {A = Entry Call Reply}) c.entries-entry-items.ensures.entries in
    let all : c.loop-place.place ≡ length h = omega (arith, same, c.loop-place-test.false, c.loop-place.auto.place-end) in
    subst (λ (text : List ℕ). IsWritten g.W.Write.contents c.args.writer.now c.loop-place.writer 1000000 c.loop-place.tries c.loop-place.page text) (whole t h c.loop-place.place all) c.loop-place.invariant

pub returns : goal.returns
returns g c =
    let t = c.args.shop.now.tables in
    let h = c.args.history.now.entries in
    ends-whole g.W.Write.contents c.args.writer.now c.loop-place.writer c.hand_over.new.writer c.loop-place.tries c.hand_over.new.tries c.loop-place.page (history_text t h) c.hand_over.result
    (written g (goal.at.returns g c).After-loop-place) c.hand_over.ensures.written
