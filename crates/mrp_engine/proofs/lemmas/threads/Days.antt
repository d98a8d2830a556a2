-- What the runs of a day are planned from are what runs of its snapshots plan from, in their order.
use Rattle.std.proofs.Common.{◌≡◌, ◌∙◌, ℕ, ◌<◌, ◌≤◌, ◌+◌, length, take, List, Bool, true, false, if◌then◌else◌, nat_le, [], ◌∷◌, ◌++◌, Option, Some, None, sym, ap, subst, refl, arith}
use Rattle.std.proofs.lemmas.List.Elements.{All-nil, All-cons, All-weaker}
use Rattle.std.proofs.lemmas.List.Kept.{AllPairs-cons}
use Rattle.std.proofs.lemmas.List.{length-append, take-append-le, take_all}
use Rattle.std.specs.Prelude.{All, AllPairs, ◌==◌, find}
use Rattle.mrp_turn.specs.declared.log.Entry.{Entry}
use Rattle.mrp_tables.specs.Tables.{Tables}
use Rattle.mrp_master.specs.Supply.{Supply, supply_of}
use Rattle.mrp_book.specs.declared.booking.Booking.{Booking}
use Rattle.mrp_book.specs.declared.call.Call.{Call}
use Rattle.mrp_book.specs.declared.call.Call.TheVariants as call
use Rattle.mrp_book.specs.declared.reply.Reply.{Reply}
use Rattle.mrp_book.specs.declared.reply.Reply.TheVariants as reply
use Rattle.mrp_book.specs.Snapshot.{Snapshot}
use Rattle.mrp_book.specs.Standing.{History, standing}
use Rattle.mrp_book.specs.History.{IsLegal, IsReply, cancel_reply, next_number, week_reply}
use Rattle.mrp_turn.proofs.Logs.{one_more}
use Rattle.mrp_item.specs.Inputs.{Inputs, inputs_of}
use Rattle.mrp_engine.specs.day.Day.{planned_from, runs_of}
use Rattle.mrp_turn.specs.Log.{entry}
use Rattle.mrp_book.proofs.Standings.{standing_after}
use Rattle.mrp_engine.specs.event_core.Threads.{AreOfSnapshots, IsOfSnapshot}

not-booking : (b : Bool) (n a : ℕ) (snapshot : Snapshot) → (if b then reply.Booked n else reply.Short a) ≡ reply.Taken snapshot → ⊥
not-booking true n a snapshot e = cc
not-booking false n a snapshot e = cc

not-own : (b : Bool) (snapshot : Snapshot) → (if b then reply.Cancelled else reply.NotYours) ≡ reply.Taken snapshot → ⊥
not-own true snapshot e = cc
not-own false snapshot e = cc

not-cancel : (desk : ℕ) (b : Option Booking) (snapshot : Snapshot) → cancel_reply desk b ≡ reply.Taken snapshot → ⊥
not-cancel desk None snapshot e = cc
not-cancel desk (Some b) snapshot e = not-own (b.desk == desk) snapshot e

not-week : (week : Option ℕ) (snapshot : Snapshot) → week_reply week ≡ reply.Taken snapshot → ⊥
not-week None snapshot e = cc
not-week (Some week) snapshot e = cc

abbrev pub IsTaken : Supply → History → Call → Snapshot → Type 0
IsTaken s h c snapshot = (c ≡ call.Snapshot) × (snapshot ≡ record { front = next_number h; weeks = s.weeks; standing = standing h })

-- a snapshot is the reply to a call for one, and has what stands
pub taken : (s : Supply) (h : History) (desk : ℕ) (c : Call) (r : Reply) (snapshot : Snapshot) → IsReply s h desk c r → r ≡ reply.Taken snapshot → IsTaken s h c snapshot
taken s h desk (call.Book l) r snapshot (a, available, e) is = absurd (not-booking (nat_le l.quantity a) (next_number h) a snapshot (sym e ∙ is))
taken s h desk (call.Cancel n) r snapshot e is = absurd (not-cancel desk (find (λ b. b.number == n) (standing h)) snapshot (sym e ∙ is))
taken s h desk (call.Ask p) r snapshot (a, available, e) is = absurd (cc)
taken s h desk (call.When w) r snapshot (week, earliest, e) is = absurd (not-week week snapshot (sym e ∙ is))
taken s h desk call.Snapshot r snapshot e is =
    let same : snapshot ≡ record { front = next_number h; weeks = s.weeks; standing = standing h } = cc in
    (refl, same)
taken s h desk call.Front r snapshot e is = absurd (cc)

-- what stands up to a snapshot is what stood before it
stands-at : (h before : History) (e : Entry Call Reply) (later : History) → h ≡ before ++ e ∷ later → e.call ≡ call.Snapshot → standing (take (next_number before) h) ≡ standing before
stands-at h before e later cut called =
    let long : length (before ++ e ∷ []) ≡ next_number before = length-append before (e ∷ []) in
    ap (λ (l : History). standing (take (next_number before) l)) (cut ∙ one_more before e later)
    ∙ ap standing (take-append-le (next_number before) (before ++ e ∷ []) later (omega (arith, long)) ∙ take_all (next_number before) (before ++ e ∷ []) (omega (arith, long)))
    ∙ ap (λ (c : Call). standing (before ++ entry e.who c e.reply ∷ [])) called
    ∙ standing_after before e.who call.Snapshot e.reply

-- the runs of the entries to come
record Come (t : Tables) (h : History) (number : ℕ) (runs : List Inputs) : Type 0 where
  rise : AllPairs (λ (a b : Inputs). a.front < b.front) runs
  each : All (IsOfSnapshot t h) runs
  late : All (λ (s : Inputs). number ≤ s.front) runs

later-come : (t : Tables) (h : History) (number : ℕ) (runs : List Inputs) → Come t h (number + 1) runs → Come t h number runs
later-come t h number runs c = record {
  rise = c.rise;
  each = c.each;
  late = All-weaker (λ (s : Inputs). number + 1 ≤ s.front) (λ (s : Inputs). number ≤ s.front) (λ s up. omega (arith, up)) runs c.late;
}

one-come : (t : Tables) (h : History) (number : ℕ) (s : Inputs) (runs : List Inputs) → IsOfSnapshot t h s → s.front ≡ number → Come t h (number + 1) runs → Come t h number (s ∷ runs)
one-come t h number s runs of_one front c = record {
  rise = AllPairs-cons (λ (a b : Inputs). a.front < b.front) s runs (All-weaker (λ (x : Inputs). number + 1 ≤ x.front) (λ (x : Inputs). s.front < x.front) (λ x up. omega (arith, up, front)) runs c.late) c.rise;
  each = All-cons (IsOfSnapshot t h) s runs of_one c.each;
  late = All-cons (λ (x : Inputs). number ≤ x.front) s runs (omega (arith, front)) (later-come t h number runs c).late;
}

come-at : (t : Tables) (h before : History) (e : Entry Call Reply) (later : History) → h ≡ before ++ e ∷ later → IsReply (supply_of t) before e.who e.call e.reply → (r : Reply) → e.reply ≡ r
    → Come t h (next_number before + 1) (runs_of t later) → Come t h (next_number before) (planned_from t r ++ runs_of t later)
come-at t h before e later cut is (reply.Taken snapshot) same rest =
    let (called, from) = taken (supply_of t) before e.who e.call e.reply snapshot is same in
    let front : snapshot.front ≡ next_number before = ap (λ (x : Snapshot). x.front) from in
    one-come t h (next_number before) (inputs_of t snapshot) (runs_of t later) (record {
      snapshot = record {
        desk = e.who;
        reply = e.reply;
        is = record { before = before; after = later; place = cut ∙ ap (λ (c : Call). before ++ entry e.who c e.reply ∷ later) called; counted = front };
      };
      inputs = ap (λ (x : List Booking). record { tables = t; front = snapshot.front; standing = x })
          (ap (λ (x : Snapshot). x.standing) from ∙ sym (stands-at h before e later cut called) ∙ ap (λ (n : ℕ). standing (take n h)) (sym front));
    }) front rest
come-at t h before e later cut is (reply.Booked n) same rest = later-come t h (next_number before) (runs_of t later) rest
come-at t h before e later cut is (reply.Short a) same rest = later-come t h (next_number before) (runs_of t later) rest
come-at t h before e later cut is reply.Cancelled same rest = later-come t h (next_number before) (runs_of t later) rest
come-at t h before e later cut is reply.NotStanding same rest = later-come t h (next_number before) (runs_of t later) rest
come-at t h before e later cut is reply.NotYours same rest = later-come t h (next_number before) (runs_of t later) rest
come-at t h before e later cut is (reply.Available a) same rest = later-come t h (next_number before) (runs_of t later) rest
come-at t h before e later cut is (reply.Week w) same rest = later-come t h (next_number before) (runs_of t later) rest
come-at t h before e later cut is reply.NoWeek same rest = later-come t h (next_number before) (runs_of t later) rest
come-at t h before e later cut is (reply.Front n) same rest = later-come t h (next_number before) (runs_of t later) rest

come : (t : Tables) (h before later : History) (number : ℕ) → number ≡ next_number before → IsLegal (supply_of t) h → h ≡ before ++ later → Come t h number (runs_of t later)
come t h before [] number at legal cut = record {
  rise = λ i j d below within. absurd (omega (arith, within));
  each = All-nil (IsOfSnapshot t h);
  late = All-nil (λ (s : Inputs). number ≤ s.front);
}
come t h before (e ∷ later) number at legal cut =
    let rest : Come t h (next_number before + 1) (runs_of t later) =
    come t h (before ++ e ∷ []) later (next_number before + 1) (omega (arith, length-append before (e ∷ []))) legal (cut ∙ one_more before e later) in
    subst (λ (n : ℕ). Come t h n (runs_of t (e ∷ later))) (sym at) (come-at t h before e later cut (legal before e later cut).1 e.reply refl rest)

pub of-snapshots : (t : Tables) (h : History) → IsLegal (supply_of t) h → AreOfSnapshots t h
of-snapshots t h legal = let all = come t h [] h 1 refl legal refl in record { rise = all.rise; each = all.each }
