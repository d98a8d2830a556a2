-- The runs that desks' entries start, and what came of them.
use Rattle.std.proofs.Common.{◌≡◌, ◌≢◌, ◌∙◌, ℕ, ◌+◌, ◌-◌, ◌<◌, ◌≤◌, ◌++◌, List, [], ◌∷◌, IfOk, Result, Vec, Ok, Err, cond, drop, get_or, length, map, set, ap, arith, inl, inr, refl, subst, sym}
use Rattle.std.specs.Prelude.{All}
use Rattle.std.specs.List.{AllZip}
use Rattle.std.specs.declared.alloc.Global.{Global}
use Rattle.std.proofs.lemmas.Bool.{cases_lt}
use Rattle.std.proofs.lemmas.List.{append-nil, drop_more, get_or-map, get_or-set_other, get_or-set_same, length-map, length-set}
use Rattle.std.proofs.lemmas.List.Concat.{flat_map-append}
use Rattle.std.proofs.lemmas.List.Sums.{sum_by-cons}
use Rattle.mrp_bill.specs.Lists.{listed}
use Rattle.mrp_bill.specs.Shop.{Shop}
use Rattle.mrp_bill.proofs.Listed.{listed-read, listed-set_other, listed-set_same}
use Rattle.mrp_turn.specs.declared.log.Entry.{Entry}
use Rattle.mrp_turn.specs.Log.{entries_by, entry}
use Rattle.mrp_turn.specs.Seen.{HasNumber, TurnId}
use Rattle.mrp_tables.specs.Tables.{Tables}
use Rattle.mrp_master.specs.Supply.{Supply}
use Rattle.mrp_book.specs.Booked.{AreBooked}
use Rattle.mrp_book.specs.declared.call.Call.{Call}
use Rattle.mrp_book.specs.declared.call.Call.TheVariants as call
use Rattle.mrp_book.specs.declared.reply.Reply.{Reply}
use Rattle.mrp_book.specs.declared.reply.Reply.TheVariants as reply
use Rattle.mrp_book.specs.History.{IsLegal}
use Rattle.mrp_book.specs.Snapshot.{Snapshot}
use Rattle.mrp_book.specs.Standing.{History}
use Rattle.mrp_book.proofs.SnapshotBookings.{taken-booked}
use Rattle.mrp_desk.specs.Calls.{Tells}
use Rattle.mrp_desk.specs.Offices.{Desk, supply_at}
use Rattle.mrp_item.specs.Inputs.{Inputs, inputs_of}
use Rattle.mrp_engine.specs.declared.live.desks.AllServed.{AllServed}
use Rattle.mrp_engine.specs.declared.live.ready.Ready.{Ready}
use Rattle.mrp_engine.specs.declared.live.serving.Served.{Served}
use Rattle.mrp_engine.specs.day.Day.{planned_from, runs_of}
use Rattle.mrp_engine.specs.day.Planned.{PlansRun}
use Rattle.mrp_script.specs.Script.{is_run}
use Rattle.mrp_engine.specs.live.Begun.{EachServes}
use Rattle.mrp_engine.specs.live.DeskCalls.{calls_at}
use Rattle.mrp_engine.specs.live.Desks.{AreDesksOf, HasServed}
use Rattle.mrp_engine.specs.live.Runs.{AreRunsOf, HaveRuns, RunResult, runs_at, runs_in}
use Rattle.mrp_script.proofs.Zipped.{zip-push}
use Rattle.mrp_engine.proofs.lemmas.day.RunsPlanned.{not-a-run}
use Rattle.mrp_engine.proofs.lemmas.live.DeskHistories.{numbered}
use Rattle.mrp_engine.proofs.lemmas.live.Duties.{some-of}
use Rattle.mrp_engine.proofs.lemmas.threads.Days.{taken}

-- the runs that calls start, of which one call may start one
pub runs-left : (calls : List Call) (k : ℕ) (c : Call) → k < length calls → c ≡ get_or calls k c → runs_in (drop k calls) ≡ cond (is_run c) 1 0 + runs_in (drop (k + 1) calls)
runs-left calls k c within is =
    ap runs_in (drop_more calls k c within ∙ ap (λ (x : Call). x ∷ drop (k + 1) calls) (sym is)) ∙ sum_by-cons (λ (x : Call). cond (is_run x) 1 0) c (drop (k + 1) calls)

-- the runs of a history with one more entry
pub runs-push : (t : Tables) (h : History) (e : Entry Call Reply) → runs_of t (h ++ e ∷ []) ≡ runs_of t h ++ planned_from t e.reply
runs-push t h e =
    flat_map-append (λ (x : Entry Call Reply). planned_from t x.reply) h (e ∷ []) ∙ ap (λ (r : List Inputs). runs_of t h ++ r) (append-nil (planned_from t e.reply))

-- one more entry, which starts a run, and what came of that
pub run-started : (t : Tables) (h new : History) (e : Entry Call Reply) (snapshot : Snapshot) (old now : List RunResult) (planned : RunResult) → new ≡ h ++ e ∷ [] → e.reply ≡ reply.Taken snapshot → now ≡ old ++ planned ∷ []
    → AllZip PlansRun (runs_of t h) old → PlansRun (inputs_of t snapshot) planned → AllZip PlansRun (runs_of t new) now
run-started t h new e snapshot old now planned adds is more before ends =
    let runs : runs_of t new ≡ runs_of t h ++ inputs_of t snapshot ∷ [] = ap (runs_of t) adds ∙ runs-push t h e ∙ ap (λ (x : Reply). runs_of t h ++ planned_from t x) is in
    subst (λ (rs : List Inputs). AllZip PlansRun rs now) (sym runs)
    (subst (AllZip PlansRun (runs_of t h ++ inputs_of t snapshot ∷ [])) (sym more) (zip-push PlansRun (runs_of t h) old (inputs_of t snapshot) planned before ends))

-- one more entry, which starts none
pub none-started : (t : Tables) (h new : History) (e : Entry Call Reply) (results : List RunResult) → new ≡ h ++ e ∷ [] → ((snapshot : Snapshot) → e.reply ≡ reply.Taken snapshot → ⊥) → AllZip PlansRun (runs_of t h) results
    → AllZip PlansRun (runs_of t new) results
none-started t h new e results adds other before =
    let runs : runs_of t new ≡ runs_of t h = ap (runs_of t) adds ∙ runs-push t h e ∙ ap (λ (r : List Inputs). runs_of t h ++ r) (not-a-run t e.reply other) ∙ append-nil (runs_of t h) in
    subst (λ (rs : List Inputs). AllZip PlansRun rs results) (sym runs) before

-- a snapshot is the reply to a call for one, and has bookings of the shop
pub run-taken : (s : Supply) (c : Call) (old new : Desk) (answer : ℕ × Reply) (snapshot : Snapshot) → Tells s c old (Ok answer) new → answer.1 ≡ reply.Taken snapshot → (c ≡ call.Snapshot) × AreBooked s snapshot.standing
run-taken s c old new answer snapshot tells is =
    let (before, grows, from) = tells.last in
    let legal : IsLegal s (before ++ entry old.number c answer.1 ∷ []) = subst (IsLegal s) grows tells.legal in (
      (taken s before old.number c answer.1 snapshot (legal before (entry old.number c answer.1) [] refl).1 is).0,
      taken-booked s before [] old.number c snapshot (subst (λ (r : Reply). IsLegal s (before ++ entry old.number c r ∷ [])) is legal),
    )

-- what desks leave has what came of their runs
pub have-runs : (office : TurnId Shop) (lists : List (Vec Call Global)) (ready : List Ready) (all : List Served) (desks : List Desk) (runs : List (Vec RunResult Global)) → EachServes office lists ready all
    → desks ≡ map (λ (s : Served). s.desk) all → runs ≡ map (λ (s : Served). s.runs) all → HaveRuns office desks runs
have-runs office lists ready all desks runs serves desks_are runs_are =
    let many : length desks ≡ length all = ap (length {A = Desk}) desks_are ∙ length-map {B = Desk} all (λ s. s.desk) in
    let size : length runs ≡ length all = ap (length {A = Vec RunResult Global}) runs_are ∙ length-map {B = Vec RunResult Global} all (λ s. s.runs) in
    record {
      count = size ∙ sym many;
      each = λ k d within.
          let here : k < length all = omega (arith, within, many) in
          let s = get_or all k (some-of all k here) in
          let desk : get_or desks k d ≡ s.desk = ap (λ (ds : List Desk). get_or ds k d) desks_are ∙ get_or-map (λ (x : Served). x.desk) all k (some-of all k here) d here in
          let list : listed runs k ≡ s.runs.items =
          listed-read runs k s.runs (omega (arith, here, size)) ∙ ap (λ (rs : List (Vec RunResult Global)). (get_or rs k s.runs).items) runs_are
          ∙ ap (λ (v : Vec RunResult Global). v.items) (get_or-map (λ (x : Served). x.runs) all k (some-of all k here) s.runs here) in
          let count = serves.count in
          let low : k < length ready = omega (arith, here, count) in
          subst (λ (x : Desk). AllZip PlansRun (runs_at office x.mine) (listed runs k)) (sym desk)
          (subst (AllZip PlansRun (runs_at office s.desk.mine)) (sym list) (serves.each k (some-of ready k low) (some-of all k here) low).planned);
    }

-- the same of what parting gives, if it gives anything
pub if-have-runs : {E : Type 0} (office : TurnId Shop) (lists : List (Vec Call Global)) (ready : List Ready) (all : List Served) → EachServes office lists ready all → (r : Result AllServed E)
    → IfOk r (λ p. p.desks.items ≡ map (λ (s : Served). s.desk) all) → IfOk r (λ p. p.runs.items ≡ map (λ (s : Served). s.runs) all) → IfOk r (λ p. HaveRuns office p.desks.items p.runs.items)
if-have-runs office lists ready all serves (Ok p) desks_are runs_are = have-runs office lists ready all p.desks.items p.runs.items serves desks_are runs_are
if-have-runs office lists ready all serves (Err e) desks_are runs_are = tt

-- what all desks have, they have when they are ready
pub ready-all : (P : Desk → Type 0) (ready : List Ready) (desks : List Desk) → map (λ (r : Ready). r.desk) ready ≡ desks → All P desks → All (λ (r : Ready). P r.desk) ready
ready-all P ready desks same all = λ k d within.
    let long = length-map {B = Desk} ready (λ r. r.desk) in
    subst P (get_or-map (λ (r : Ready). r.desk) ready k d d.desk within) (subst (All P) (sym same) all k d.desk (omega (arith, within, long)))

-- desks that are ready have made the calls of their lists, and so have these desks
pub served-each : (office : TurnId Shop) (lists : List (Vec Call Global)) (ready : List Ready) (desks : List Desk) (all : List Served) → map (λ (r : Ready). r.desk) ready ≡ desks → EachServes office lists ready all
    → (length all ≡ length desks) × ((k : ℕ) (d : Desk) (s : Served) → k < length desks → HasServed (supply_at office) (calls_at lists ((get_or desks k d).number - 1)) (get_or desks k d) {U = Unit {0}} (get_or all k s).end (get_or all k s).desk)
served-each office lists ready desks all same serves =
    let long : length desks ≡ length ready = ap (length {A = Desk}) (sym same) ∙ length-map {B = Desk} ready (λ r. r.desk) in (
      serves.count ∙ sym long,
      λ k d s within.
          let here : k < length ready = omega (arith, within, long) in
          let r = some-of ready k here in
          let own : (get_or ready k r).desk ≡ get_or desks k d = sym (get_or-map (λ (x : Ready). x.desk) ready k r d here) ∙ ap (λ (ds : List Desk). get_or ds k d) same in
          subst (λ (x : Desk). HasServed (supply_at office) (calls_at lists (x.number - 1)) x {U = Unit {0}} (get_or all k s).end (get_or all k s).desk) own (serves.each k r s here).made,
    )

-- the first desk's list has more room, and the same in it
pub first-same : (office : TurnId Shop) (desks : List Desk) (runs : List (Vec RunResult Global)) (old list : Vec RunResult Global) → 1 ≤ length desks → list.items ≡ (get_or runs 0 old).items → HaveRuns office desks runs
    → HaveRuns office desks (set runs 0 list)
first-same office desks runs old list some same have =
    let count = have.count in
    record {
      count = length-set runs 0 list ∙ count;
      each = λ k d within. elim (cases_lt 0 k) [
        | inl more ↦
            let apart : k ≢ 0 = λ e. absurd (omega (arith, e, more)) in
            subst (AllZip PlansRun (runs_at office (get_or desks k d).mine)) (sym (listed-set_other runs 0 k list apart)) (have.each k d within)
        | inr none ↦
            let zero : k ≡ 0 = omega (arith, none) in
            let here : listed (set runs 0 list) k ≡ listed runs k =
            ap (listed (set runs 0 list)) zero ∙ listed-set_same runs 0 list (omega (arith, some, count)) ∙ same ∙ sym (listed-read runs 0 old (omega (arith, some, count))) ∙ ap (listed runs) (sym zero) in
            subst (AllZip PlansRun (runs_at office (get_or desks k d).mine)) (sym here) (have.each k d within)
      ];
    }

-- the first desk has one more of its runs
pub first-more : (office : TurnId Shop) (desks : List Desk) (new : Desk) (runs : List (Vec RunResult Global)) (list : Vec RunResult Global) → 1 ≤ length desks → HaveRuns office desks runs
    → AllZip PlansRun (runs_at office new.mine) list.items → HaveRuns office (set desks 0 new) (set runs 0 list)
first-more office desks new runs list some have own =
    let count = have.count in
    record {
      count = length-set runs 0 list ∙ count ∙ sym (length-set desks 0 new);
      each = λ k d within. elim (cases_lt 0 k) [
        | inl more ↦
            let apart : k ≢ 0 = λ e. absurd (omega (arith, e, more)) in
            subst (λ (x : Desk). AllZip PlansRun (runs_at office x.mine) (listed (set runs 0 list) k)) (sym (get_or-set_other desks 0 k new d apart))
            (subst (AllZip PlansRun (runs_at office (get_or desks k d).mine)) (sym (listed-set_other runs 0 k list apart)) (have.each k d (omega (arith, within, length-set desks 0 new))))
        | inr none ↦
            let zero : k ≡ 0 = omega (arith, none) in
            let desk : get_or (set desks 0 new) k d ≡ new = ap (λ (i : ℕ). get_or (set desks 0 new) i d) zero ∙ get_or-set_same desks 0 new d (omega (arith, some)) in
            let here : listed (set runs 0 list) k ≡ list.items = ap (listed (set runs 0 list)) zero ∙ listed-set_same runs 0 list (omega (arith, some, count)) in
            subst (λ (x : Desk). AllZip PlansRun (runs_at office x.mine) (listed (set runs 0 list) k)) (sym desk) (subst (AllZip PlansRun (runs_at office new.mine)) (sym here) own)
      ];
    }

-- the runs of an office's history, desk by desk
pub runs-of-history : (office : TurnId Shop) (desks : List Desk) (h : History) (runs : List (Vec RunResult Global)) → AreDesksOf office desks → HaveRuns office desks runs → All (λ d. d.mine ≡ entries_by d.number h) desks
    → All (λ e. HasNumber desks e.who) h → AreRunsOf office.about.object.tables h runs
runs-of-history office desks h runs are have mine callers =
    let count = have.count in
    record {
      each = λ place within.
          let here : place < length desks = omega (arith, within, count) in
          let d = some-of desks place here in
          let own : (get_or desks place d).mine ≡ entries_by (place + 1) h = mine place d here ∙ ap (λ (n : ℕ). entries_by n h) (are.numbers place d here) in
          subst (λ (m : History). AllZip PlansRun (runs_at office m) (listed runs place)) own (have.each place d here);
      callers = λ k e within.
          let r = numbered office desks are (get_or h k e).who (callers k e within) in
          let seats = are.count in
          (r.0, omega (arith, r.1, count, seats));
    }
