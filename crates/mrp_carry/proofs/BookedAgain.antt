-- Carried bookings that are booked again: the entries of their records, and what stands behind them.
use Rattle.std.specs.Prelude.{All, map, nat_le, if◌then◌else◌}
use Rattle.std.specs.List.{AllZip, enumerate_from}
use Rattle.std.proofs.Common.{◌≡◌, ◌∙◌, ◌⊎◌, inl, inr, ℕ, ◌+◌, ◌≤◌, Bool, true, false, List, [], ◌∷◌, ◌++◌, append_assoc, append-nil, length, take, ap, arith, refl, subst, sym}
use Rattle.std.proofs.lemmas.Bool.Decides.{nat_tests}
use Rattle.std.proofs.lemmas.List.{length_push, map-append}
use Rattle.std.proofs.lemmas.List.Elements.{All-append, All-cons, All-filter, All-head, All-nil, All-tail}
use Rattle.mrp_turn.specs.declared.log.Entry.{Entry}
use Rattle.mrp_turn.specs.Log.{IsSeatNumber, entry}
use Rattle.mrp_turn.proofs.Logs.{InTurn-from_Each, one_more}
use Rattle.mrp_tables.specs.declared.rows.ScriptRow.{ScriptRow}
use Rattle.mrp_tables.specs.Tables.{Tables}
use Rattle.mrp_master.specs.declared.line.Line.{Line}
use Rattle.mrp_master.specs.Supply.{IsCovered, Supply}
use Rattle.mrp_book.specs.declared.booking.Booking.{Booking}
use Rattle.mrp_book.specs.declared.call.Call.{Call}
use Rattle.mrp_book.specs.declared.call.Call.TheVariants as call
use Rattle.mrp_book.specs.declared.reply.Reply.{Reply}
use Rattle.mrp_book.specs.declared.reply.Reply.TheVariants as reply
use Rattle.mrp_book.specs.Bookings.{lines_of}
use Rattle.mrp_book.specs.Standing.{History, booked, booking_of, kept, standing}
use Rattle.mrp_book.specs.History.{IsLegal, IsReply, MayFollow, asked}
use Rattle.mrp_book.proofs.Histories.{IsLegalFrom}
use Rattle.mrp_book.proofs.Standings.{due_by-append, not_cancelled, standing-more, standing_after}
use Rattle.mrp_script.specs.Script.{record_of}
use Rattle.mrp_carry.specs.Periods.{BooksAgain, IsBooked, StandsAgain}
use Rattle.mrp_carry.proofs.RowsRead.{ReadsAgain}

abbrev E : Type 0
E = Entry Call Reply

abbrev called : E → ℕ × Call
called e = (e.who, e.call)

-- The desks of bookings that stand.

abbrev HasDesk : Booking → Type 0
HasDesk b = IsSeatNumber b.desk

made-by-desk : (desk : ℕ) (c : Call) (r : Reply) → IsSeatNumber desk → All HasDesk (kept [] (booking_of desk c r))
made-by-desk desk (call.Book l) (reply.Booked n) is = All-cons HasDesk _ [] is (All-nil HasDesk)
made-by-desk desk c r is = All-nil HasDesk

desks-from : (s : Supply) (before h : History) → IsLegalFrom s before h → All HasDesk (standing before) → All HasDesk (standing (before ++ h))
desks-from s before [] w all = subst (λ x. All HasDesk (standing x)) (sym (append-nil before)) all
desks-from s before (e ∷ h) w all =
    let more : All HasDesk (standing (before ++ e ∷ [])) =
    subst (All HasDesk) (sym (standing-more before e))
    (All-append HasDesk _ _ (All-filter (not_cancelled e.call e.reply) HasDesk (standing before) all) (made-by-desk e.who e.call e.reply w.0.0)) in
    subst (λ x. All HasDesk (standing x)) (sym (one_more before e h)) (desks-from s (before ++ e ∷ []) h w.1 more)

none-stand : All HasDesk (standing [])
unfolding standing
none-stand = All-nil HasDesk

-- each is one that calls
pub standing-desks : (s : Supply) (h : History) → IsLegal s h → All HasDesk (standing h)
standing-desks s h legal = desks-from s [] h (InTurn-from_Each (MayFollow s) [] h legal) none-stand

-- Entries, by what was asked.

pub asked-front : (calls more : List (ℕ × Call)) (h : History) → asked h ≡ calls ++ more → asked (take (length calls) h) ≡ calls
asked-front [] more h same = refl
asked-front (a ∷ calls) more [] same = absurd cc
asked-front (a ∷ calls) more (e ∷ h) same =
    let first : called e ≡ a = cc in
    let rest : asked h ≡ calls ++ more = cc in
    λ i. first i ∷ asked-front calls more h rest i

-- the record of a row that books again
again-record : (old new : Tables) (b : Booking) (x : ScriptRow) (again : ReadsAgain old new b x) → record_of x ≡ (b.desk, call.Book again.line)
again-record old new b x again = ap record_of again.is

-- the reply to a booking
answered : (s : Supply) (before : History) (desk : ℕ) (l : Line) (r : Reply) → IsReply s before desk (call.Book l) r → (r ≡ reply.Booked (length before + 1)) ⊎ ((available : ℕ) × (r ≡ reply.Short available))
answered s before desk l r (available, is, e) = by (nat_le l.quantity available) e
  where
    by : (b : Bool) → r ≡ (if b then reply.Booked (length before + 1) else reply.Short available) → (r ≡ reply.Booked (length before + 1)) ⊎ ((available : ℕ) × (r ≡ reply.Short available))
    by true e = inl e
    by false e = inr (available, e)

module _ (s : Supply) (old new : Tables) where
  -- an entry for the record of a booking
  entry-again : (before : History) (b : Booking) (x : ScriptRow) (e : E) → ReadsAgain old new b x → called e ≡ record_of x → MayFollow s before e → BooksAgain old new (length before + 1, b) e
  entry-again before b x e again same follows =
      let is : called e ≡ (b.desk, call.Book again.line) = same ∙ again-record old new b x again in
      let calls : e.call ≡ call.Book again.line = ap (λ (a : ℕ × Call). a.1) is in
      record {
        desk = ap (λ (a : ℕ × Call). a.0) is;
        line = again.line;
        call = calls;
        same = again.same;
        answer = answered s before e.who again.line e.reply (subst (λ (c : Call). IsReply s before e.who c e.reply) calls follows.1);
      }

  pub entries-again : (before : History) (bookings : List Booking) (rows : List ScriptRow) (h : History) → AllZip (ReadsAgain old new) bookings rows → asked h ≡ map record_of rows → IsLegalFrom s before h
      → AllZip (BooksAgain old new) (enumerate_from (length before + 1) bookings) h
  entries-again before [] [] [] are same legal = tt
  entries-again before [] [] (e ∷ h) are same legal = absurd cc
  entries-again before [] (x ∷ rows) h are same legal = absurd are
  entries-again before (b ∷ bookings) [] h are same legal = absurd are
  entries-again before (b ∷ bookings) (x ∷ rows) [] are same legal = absurd cc
  entries-again before (b ∷ bookings) (x ∷ rows) (e ∷ h) (again, are) same (follows, legal) =
      let first : called e ≡ record_of x = cc in
      let rest : asked h ≡ map record_of rows = cc in
      let next : length (before ++ e ∷ []) + 1 ≡ length before + 1 + 1 = ap (λ (n : ℕ). n + 1) (length_push before e) in (
        entry-again before b x e again first follows,
        subst (λ (n : ℕ). AllZip (BooksAgain old new) (enumerate_from n bookings) h) next (entries-again (before ++ e ∷ []) bookings rows h are rest legal),
      )

-- an entry that books again, answered with its number
is-entry : (old new : Tables) (number : ℕ) (b : Booking) (e : E) (again : BooksAgain old new (number, b) e) → IsBooked e → e ≡ entry b.desk (call.Book again.line) (reply.Booked number)
is-entry old new number b e again (n, is) = by again.answer
  where
    by : (e.reply ≡ reply.Booked number) ⊎ ((available : ℕ) × (e.reply ≡ reply.Short available)) → e ≡ entry b.desk (call.Book again.line) (reply.Booked number)
    by (inl made) = λ i. record { who = again.desk i; call = again.call i; reply = made i }
    by (inr (available, short)) = absurd (let both : reply.Booked n ≡ reply.Short available = sym is ∙ short in cc)

-- what stands behind entries that book again
record StandBehind (old new : Tables) (number : ℕ) (bookings : List Booking) (before after : List Booking) : Type 0 where
  own : List Booking
  stand : AllZip (StandsAgain old new) (enumerate_from number bookings) own
  parts : after ≡ before ++ own

stand-behind : (old new : Tables) (before : History) (number : ℕ) (bookings : List Booking) (h : History) → AllZip (BooksAgain old new) (enumerate_from number bookings) h → All IsBooked h
    → StandBehind old new number bookings (standing before) (standing (before ++ h))
stand-behind old new before number [] [] are all = record { own = []; stand = tt; parts = ap standing (append-nil before) ∙ sym (append-nil (standing before)) }
stand-behind old new before number [] (e ∷ h) are all = absurd are
stand-behind old new before number (b ∷ bookings) [] are all = absurd are
stand-behind old new before number (b ∷ bookings) (e ∷ h) (again, are) all =
    let made : Booking = record { number = number; desk = b.desk; line = again.line } in
    let is = is-entry old new number b e again (All-head IsBooked e h all) in
    let more : standing (before ++ e ∷ []) ≡ standing before ++ made ∷ [] =
    ap (λ (x : E). standing (before ++ x ∷ [])) is ∙ standing_after before b.desk (call.Book again.line) (reply.Booked number) in
    let rest = stand-behind old new (before ++ e ∷ []) (number + 1) bookings h are (All-tail IsBooked e h all) in
    record {
      own = made ∷ rest.own;
      stand = (record { number = refl; desk = refl; same = again.same }, rest.stand);
      parts = ap standing (one_more before e h) ∙ rest.parts ∙ ap (λ (x : List Booking). x ++ rest.own) more ∙ append_assoc (standing before) (made ∷ []) rest.own;
    }

pub nothing-stands : standing [] ≡ []
unfolding standing
nothing-stands = refl

pub stand-again : (old new : Tables) (bookings : List Booking) (h : History) → AllZip (BooksAgain old new) (enumerate_from 1 bookings) h → All IsBooked h → AllZip (StandsAgain old new) (enumerate_from 1 bookings) (standing h)
stand-again old new bookings h are all =
    let behind = stand-behind old new [] 1 bookings h are all in
    let own : standing h ≡ behind.own = behind.parts ∙ ap (λ (x : List Booking). x ++ behind.own) nothing-stands in
    subst (AllZip (StandsAgain old new) (enumerate_from 1 bookings)) (sym own) behind.stand

-- Where the lines are covered, none is short.

covered-front : (s : Supply) (lines more : List Line) → IsCovered s (lines ++ more) → IsCovered s lines
covered-front s lines more covered item master week inside = omega (arith, covered item master week inside, due_by-append item week lines more)

-- a booking whose line is covered with what was booked before is not short
not-short : (s : Supply) (before : History) (desk : ℕ) (l : Line) (r : Reply) → IsCovered s (booked before ++ l ∷ []) → IsReply s before desk (call.Book l) r → r ≡ reply.Booked (length before + 1)
not-short s before desk l r covered (available, is, e) =
    let enough : l.quantity ≤ available = is.greatest l.quantity covered in
    let yes : nat_le l.quantity available ≡ true = grind (arith, nat_tests) in
    e ∙ ap (λ (b : Bool). if b then reply.Booked (length before + 1) else reply.Short available) yes

pub none-short : (s : Supply) (calls : List Line) (before h : History) → AllZip (λ (e : E) (l : Line). e.call ≡ call.Book l) h calls → IsCovered s (booked before ++ calls) → IsLegalFrom s before h → All IsBooked h
none-short s [] before [] are covered legal = All-nil IsBooked
none-short s (l ∷ calls) before [] are covered legal = absurd are
none-short s [] before (e ∷ h) are covered legal = absurd are
none-short s (l ∷ calls) before (e ∷ h) (is, are) covered (follows, legal) =
    let n = length before + 1 in
    let one : IsCovered s (booked before ++ l ∷ []) = covered-front s (booked before ++ l ∷ []) calls (subst (IsCovered s) (sym (append_assoc (booked before) (l ∷ []) calls)) covered) in
    let yes : e.reply ≡ reply.Booked n = not-short s before e.who l e.reply one (subst (λ (c : Call). IsReply s before e.who c e.reply) is follows.1) in
    let same : e ≡ entry e.who (call.Book l) (reply.Booked n) = λ i. record { who = e.who; call = is i; reply = yes i } in
    let made : Booking = record { number = n; desk = e.who; line = l } in
    let more : booked (before ++ e ∷ []) ≡ booked before ++ l ∷ [] =
    ap (λ (x : E). booked (before ++ x ∷ [])) same ∙ ap lines_of (standing_after before e.who (call.Book l) (reply.Booked n)) ∙ map-append (λ (b : Booking). b.line) (standing before) (made ∷ []) in
    let rest : IsCovered s (booked (before ++ e ∷ []) ++ calls) = subst (IsCovered s) (sym (ap (λ (x : List Line). x ++ calls) more ∙ append_assoc (booked before) (l ∷ []) calls)) covered in
    All-cons IsBooked e h (n, yes) (none-short s calls (before ++ e ∷ []) h are rest legal)
