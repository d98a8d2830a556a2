-- What a legal history keeps, and so one that answers a script.
use Rattle.std.proofs.Common.{◌≡◌, ◌∙◌, ℕ, ◌≤◌, Bool, true, false, if◌then◌else◌, nat_le, [], ◌∷◌, ◌++◌, Option, Some, None, sym, ap, subst, refl, arith}
use Rattle.std.proofs.lemmas.Bool.Decides.{nat_tests}
use Rattle.std.proofs.lemmas.List.Elements.{All-nil, All-cons}
use Rattle.std.specs.Prelude.{All, ◌==◌, find}
use Rattle.mrp_turn.specs.declared.log.Entry.{Entry}
use Rattle.mrp_tables.specs.Tables.{Tables}
use Rattle.mrp_master.specs.declared.line.Line.{Line}
use Rattle.mrp_master.specs.Supply.{IsAvailable, Supply, supply_of}
use Rattle.mrp_book.specs.declared.booking.Booking.{Booking}
use Rattle.mrp_book.specs.declared.call.Call.{Call}
use Rattle.mrp_book.specs.declared.call.Call.TheVariants as call
use Rattle.mrp_book.specs.declared.reply.Reply.{Reply}
use Rattle.mrp_book.specs.declared.reply.Reply.TheVariants as reply
use Rattle.mrp_book.specs.Snapshot.{Snapshot}
use Rattle.mrp_book.specs.Standing.{History, booked, standing}
use Rattle.mrp_book.specs.History.{IsLegal, IsReply, cancel_reply, next_number, week_reply}
use Rattle.mrp_turn.proofs.Logs.{one_more}
use Rattle.mrp_book.proofs.Histories.{prefix-covered}
use Rattle.mrp_item.specs.Inputs.{inputs_of}
use Rattle.mrp_engine.specs.day.Day.{planned_from, runs_of}
use Rattle.mrp_engine.specs.Laws.{BooksWithin, IsRunOf, PlansWhatStood, StaysCovered}

not-booking : (b : Bool) (n a : ℕ) (snapshot : Snapshot) → (if b then reply.Booked n else reply.Short a) ≡ reply.Taken snapshot → ⊥
not-booking true n a snapshot e = cc
not-booking false n a snapshot e = cc

not-own : (b : Bool) (snapshot : Snapshot) → (if b then reply.Cancelled else reply.NotYours) ≡ reply.Taken snapshot → ⊥
not-own true snapshot e = cc
not-own false snapshot e = cc

not-cancel : (desk : ℕ) (b : Option Booking) (snapshot : Snapshot) → cancel_reply desk b ≡ reply.Taken snapshot → ⊥
not-cancel desk None snapshot e = cc
not-cancel desk (Some b) snapshot e = not-own (b.desk == desk) snapshot e

not-week : (week : Option ℕ) (snapshot : Snapshot) → week_reply week ≡ reply.Taken snapshot → ⊥
not-week None snapshot e = cc
not-week (Some week) snapshot e = cc

abbrev IsTaken : Supply → History → Call → Snapshot → Type 0
IsTaken s h c snapshot = (c ≡ call.Snapshot) × (snapshot ≡ record { front = next_number h; weeks = s.weeks; standing = standing h })

-- a snapshot is the reply to a call for one, and has what stands
taken : (s : Supply) (h : History) (desk : ℕ) (c : Call) (r : Reply) (snapshot : Snapshot) → IsReply s h desk c r → r ≡ reply.Taken snapshot → IsTaken s h c snapshot
taken s h desk (call.Book l) r snapshot (a, available, e) is = absurd (not-booking (nat_le l.quantity a) (next_number h) a snapshot (sym e ∙ is))
taken s h desk (call.Cancel n) r snapshot e is = absurd (not-cancel desk (find (λ b. b.number == n) (standing h)) snapshot (sym e ∙ is))
taken s h desk (call.Ask p) r snapshot (a, available, e) is = absurd (cc)
taken s h desk (call.When w) r snapshot (week, earliest, e) is = absurd (not-week week snapshot (sym e ∙ is))
taken s h desk call.Snapshot r snapshot e is =
    let same : snapshot ≡ record { front = next_number h; weeks = s.weeks; standing = standing h } = cc in
    (refl, same)
taken s h desk call.Front r snapshot e is = absurd (cc)

-- an entry's run, and the runs of the entries after it
run-at : (t : Tables) (h before : History) (e : Entry Call Reply) (later : History) → h ≡ before ++ e ∷ later → IsReply (supply_of t) before e.who e.call e.reply
    → (r : Reply) → e.reply ≡ r → All (IsRunOf t h) (runs_of t later) → All (IsRunOf t h) (planned_from t r ++ runs_of t later)
run-at t h before e later cut is (reply.Taken snapshot) same rest =
    let (called, from) = taken (supply_of t) before e.who e.call e.reply snapshot is same in
    All-cons (IsRunOf t h) (inputs_of t snapshot) (runs_of t later) (record {
      before = before;
      entry = e;
      after = later;
      place = cut;
      called = called;
      source = ap (inputs_of t) from;
    }) rest
run-at t h before e later cut is (reply.Booked n) same rest = rest
run-at t h before e later cut is (reply.Short a) same rest = rest
run-at t h before e later cut is reply.Cancelled same rest = rest
run-at t h before e later cut is reply.NotStanding same rest = rest
run-at t h before e later cut is reply.NotYours same rest = rest
run-at t h before e later cut is (reply.Available a) same rest = rest
run-at t h before e later cut is (reply.Week w) same rest = rest
run-at t h before e later cut is reply.NoWeek same rest = rest
run-at t h before e later cut is (reply.Front n) same rest = rest

runs-from : (t : Tables) (h before later : History) → IsLegal (supply_of t) h → h ≡ before ++ later → All (IsRunOf t h) (runs_of t later)
runs-from t h before [] legal cut = All-nil (IsRunOf t h)
runs-from t h before (e ∷ later) legal cut =
    run-at t h before e later cut (legal before e later cut).1 e.reply refl (runs-from t h (before ++ e ∷ []) later legal (cut ∙ one_more before e later))

pub plans-what-stood : (t : Tables) (h : History) → IsLegal (supply_of t) h → PlansWhatStood t h
plans-what-stood t h legal = runs-from t h [] h legal refl

-- a booking is answered so only within what is available
within : (b : Bool) (q a n m : ℕ) → nat_le q a ≡ b → reply.Booked n ≡ (if b then reply.Booked m else reply.Short a) → q ≤ a
within true q a n m test e = grind (arith, nat_tests)
within false q a n m test e = absurd (cc)

booked-within : (s : Supply) (h : History) (desk : ℕ) (c : Call) (r : Reply) (l : Line) (n : ℕ) → IsReply s h desk c r → c ≡ call.Book l → r ≡ reply.Booked n
    → (available : ℕ) × IsAvailable s (booked h) l.item l.week available × (l.quantity ≤ available)
booked-within s h desk c r l n is called replied =
    let (a, available, e) = subst (λ (x : Call). IsReply s h desk x r) called is in
    (a, available, within (nat_le l.quantity a) l.quantity a n (next_number h) refl (sym replied ∙ e))

pub books-within : (t : Tables) (h : History) → IsLegal (supply_of t) h → BooksWithin t h
books-within t h legal before e after l n cut called replied =
    booked-within (supply_of t) before e.who e.call e.reply l n (legal before e after cut).1 called replied

pub stays-covered : (t : Tables) (h : History) → IsLegal (supply_of t) h → StaysCovered t h
stays-covered t h legal before after cut = prefix-covered (supply_of t) before after (subst (IsLegal (supply_of t)) cut legal)
