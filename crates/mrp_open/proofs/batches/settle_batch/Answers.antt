use Rattle.std.proofs.Common.{◌≡◌, ◌≤◌, ◌-◌, ℕ, ap, arith, drop, length, subst, sym, take}
use Rattle.std.specs.List.{All}
use Rattle.std.proofs.lemmas.List.{length-drop, take_all}
use Rattle.std.proofs.lemmas.List.Elements.{All-drop}
use Rattle.mrp_tables.specs.Tables.{Tables}
use Rattle.mrp_turn.specs.declared.log.Entry.{Entry}
use Rattle.mrp_book.specs.declared.call.Call.{Call}
use Rattle.mrp_book.specs.declared.reply.Reply.{Reply}
use Rattle.mrp_book.specs.Standing.{History}
use Rattle.mrp_intake.specs.Lines.{told_lines}
use Rattle.mrp_runs.specs.File.{IsRun}
use Rattle.mrp_open.specs.Runs.{HandsOverAll, IsRunOf, handed_of}
use Rattle.mrp_open.specs.Served.{stand_of}
use Rattle.mrp_open.proofs.Runs.{runs-of}
use Rattle.mrp_open.proofs.Settled.{at-least, same-tables, settles-runs}
use Rattle.mrp_open.proofs.batches.settle_batch.Goals as goal

-- the whole rest of a list
rest-of : (h : History) (n : ℕ) → n ≤ length h → take (length h - n) (drop n h) ≡ drop n h
rest-of h n within = take_all (length h - n) (drop n h) (omega (arith, length-drop n h))

pub slice_bounds-hand_over-count : goal.slice_bounds-hand_over-count
slice_bounds-hand_over-count g c =
    let stand = stand_of g.S.Store.held g.S.Store.failures g.W.Write.contents in
    let old = stand c.args.desk.now c.args.journal.now c.args.output.now in
    let new = stand c.answer_batch.new.desk c.answer_batch.new.journal c.answer_batch.new.output in
    omega (
      arith,
      at-least (told_lines c.args.batch.now) old new c.in-Ok.ensures.settled,
      ap (length {A = Entry Call Reply}) c.entries-before.ensures.entries,
      ap (length {A = Entry Call Reply}) c.entries.ensures.entries,
    )

pub slice_bounds-hand_over-start : goal.slice_bounds-hand_over-start
slice_bounds-hand_over-start g c =
    let stand = stand_of g.S.Store.held g.S.Store.failures g.W.Write.contents in
    let old = stand c.args.desk.now c.args.journal.now c.args.output.now in
    let new = stand c.answer_batch.new.desk c.answer_batch.new.journal c.answer_batch.new.output in
    let within : length c.entries-before.result.now ≤ length c.entries.result.now = omega (
      arith,
      at-least (told_lines c.args.batch.now) old new c.in-Ok.ensures.settled,
      ap (length {A = Entry Call Reply}) c.entries-before.ensures.entries,
      ap (length {A = Entry Call Reply}) c.entries.ensures.entries,
    ) in
    within

pub hand_over-requires : goal.hand_over-requires
hand_over-requires g c =
    let stand = stand_of g.S.Store.held g.S.Store.failures g.W.Write.contents in
    let old = stand c.args.desk.now c.args.journal.now c.args.output.now in
    let new = stand c.answer_batch.new.desk c.answer_batch.new.journal c.answer_batch.new.output in
    let n : ℕ = length c.entries-before.result.now in
    let h : History = c.entries.result.now in
    let within : n ≤ length h = omega (
      arith,
      at-least (told_lines c.args.batch.now) old new c.in-Ok.ensures.settled,
      ap (length {A = Entry Call Reply}) c.entries-before.ensures.entries,
      ap (length {A = Entry Call Reply}) c.entries.ensures.entries,
    ) in
    let same = same-tables (told_lines c.args.batch.now) old new c.in-Ok.ensures.settled in
    let all : All (IsRunOf g.T.RunTaker.takes) h =
    runs-of g.T.RunTaker.takes c.answer_batch.new.desk.tables h c.entries.ensures.legal (λ run is. c.requires.taken run (subst (λ (t : Tables). IsRun t run) same is)) in
    subst (λ (es : History). All (IsRunOf g.T.RunTaker.takes) es) (sym (rest-of h n within)) (All-drop (IsRunOf g.T.RunTaker.takes) n h all)

pub returns-in-Ok : goal.returns-in-Ok
returns-in-Ok g c =
    let stand = stand_of g.S.Store.held g.S.Store.failures g.W.Write.contents in
    let old = stand c.args.desk.now c.args.journal.now c.args.output.now in
    let new = stand c.answer_batch.new.desk c.answer_batch.new.journal c.answer_batch.new.output in
    let n : ℕ = length c.entries-before.result.now in
    let h : History = c.entries.result.now in
    let first : n ≡ length old.desk.entries = ap (length {A = Entry Call Reply}) c.entries-before.ensures.entries in
    let within : n ≤ length h = omega (
      arith,
      at-least (told_lines c.args.batch.now) old new c.in-Ok.ensures.settled,
      first,
      ap (length {A = Entry Call Reply}) c.entries.ensures.entries,
    ) in
    let handed = handed_of g.T.RunTaker.told g.T.RunTaker.given in
    let told = λ (es : History). HandsOverAll es (handed c.args.taker.now) (handed c.hand_over.new.taker) in
    let rest : told (drop n h) = subst told (rest-of h n within) c.hand_over.ensures in
    let here : told (drop n new.desk.entries) = subst (λ (es : History). told (drop n es)) c.entries.ensures.entries rest in
    settles-runs (told_lines c.args.batch.now) old new (handed c.args.taker.now) (handed c.hand_over.new.taker) c.in-Ok.ensures.settled
    (subst (λ (k : ℕ). told (drop k new.desk.entries)) first here)
