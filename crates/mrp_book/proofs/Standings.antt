-- The standing bookings after one more entry.
use Rattle.std.specs.Prelude.{filter, not}
use Rattle.std.specs.List.{list_any}
use Rattle.std.proofs.Common.{ℕ, ◌≡◌, ◌≤◌, ◌+◌, ◌==◌, ◌&&◌, ◌||◌, Bool, true, false, if◌then◌else◌, nat_le, List, [], ◌∷◌, ◌++◌, Option, Some, None, arith, refl, sym, ◌∙◌, ap, append_assoc}
use Rattle.std.proofs.Math.Bool.{or-false}
use Rattle.std.proofs.lemmas.List.{append-nil, map-append}
use Rattle.std.proofs.lemmas.List.Elements.{filter-append}
use Rattle.std.proofs.lemmas.List.Folds.{list_any-append}
use Rattle.std.proofs.lemmas.List.Sums.{sum_by-cons, sum_by-append}
use Rattle.mrp_turn.specs.declared.log.Entry.{Entry}
use Rattle.mrp_master.specs.declared.line.Line.{Line}
use Rattle.mrp_book.specs.declared.booking.Booking.{Booking}
use Rattle.mrp_book.specs.declared.call.Call.{Call}
use Rattle.mrp_book.specs.declared.call.Call.TheVariants as call
use Rattle.mrp_book.specs.declared.reply.Reply.{Reply}
use Rattle.mrp_book.specs.declared.reply.Reply.TheVariants as reply
use Rattle.mrp_turn.specs.Log.{entry}
use Rattle.mrp_master.specs.Supply.{Supply, due_by, supply, IsCovered}
use Rattle.mrp_book.specs.Standing.{History, standing, kept, booking_of, is_cancel_of, is_cancelled_in, stands_after}
use Rattle.mrp_book.specs.Bookings.{lines_of}

-- the bookings after an entry
abbrev pub not_cancelled : Call → Reply → Booking → Bool
not_cancelled c r b = not (is_cancel_of b.number c r)

-- whether one of a list and one more passes a test
pub any-more : {A : Type 0} (p : A → Bool) (xs : List A) (x : A) → list_any p (xs ++ x ∷ []) ≡ (list_any p xs || p x)
any-more p xs x = list_any-append p xs (x ∷ []) ∙ ap (λ v. list_any p xs || v) (or-false (p x))

filter-step : (c : Call) (r : Reply) (b : Booking) (gone : Bool)
    → (if gone || is_cancel_of b.number c r then [] else b ∷ []) ≡ filter (not_cancelled c r) (if gone then [] else b ∷ [])
filter-step c r b true = refl
filter-step c r b false = elim (is_cancel_of b.number c r) as (λ v. (if v then [] else b ∷ []) ≡ (if not v then b ∷ [] else [])) [ true ↦ refl | false ↦ refl ]

kept-more : (h : History) (x : Entry Call Reply) (o : Option Booking) → kept (h ++ x ∷ []) o ≡ filter (not_cancelled x.call x.reply) (kept h o)
kept-more h x None = refl
kept-more h x (Some b) =
    ap (λ v. if v then [] else b ∷ []) (any-more (λ e. is_cancel_of b.number e.call e.reply) h x) ∙ filter-step x.call x.reply b (is_cancelled_in h b.number)

pub standing-more : (h : History) (x : Entry Call Reply) → standing (h ++ x ∷ []) ≡ filter (not_cancelled x.call x.reply) (standing h) ++ kept [] (booking_of x.who x.call x.reply)
unfolding standing
standing-more [] x = append-nil (kept [] (booking_of x.who x.call x.reply))
standing-more (e ∷ h) x =
    ap (λ v. v ++ standing (h ++ x ∷ [])) (kept-more h x (booking_of e.who e.call e.reply))
    ∙ ap (λ v. filter (not_cancelled x.call x.reply) (kept h (booking_of e.who e.call e.reply)) ++ v) (standing-more h x)
    ∙ sym (append_assoc (filter (not_cancelled x.call x.reply) (kept h (booking_of e.who e.call e.reply))) (filter (not_cancelled x.call x.reply) (standing h)) (kept [] (booking_of x.who x.call x.reply)))
    ∙ ap (λ v. v ++ kept [] (booking_of x.who x.call x.reply)) (sym (filter-append (not_cancelled x.call x.reply) (kept h (booking_of e.who e.call e.reply)) (standing h)))

all-kept : (bs : List Booking) → filter (λ b. true) bs ≡ bs
all-kept [] = refl
all-kept (b ∷ bs) = ap (λ x. b ∷ x) (all-kept bs)

nothing-changed : (bs : List Booking) → filter (λ b. true) bs ++ [] ≡ bs
nothing-changed bs = append-nil (filter (λ b. true) bs) ∙ all-kept bs

-- the standing bookings after one more entry, call by call
pub standing_after : (h : History) (desk : ℕ) (c : Call) (r : Reply) → standing (h ++ entry desk c r ∷ []) ≡ stands_after desk c r (standing h)
standing_after h desk (call.Book l) (reply.Booked n) = standing-more h (entry desk (call.Book l) (reply.Booked n)) ∙ ap (λ x. x ++ record { number = n; desk = desk; line = l } ∷ []) (all-kept (standing h))
standing_after h desk (call.Book l) (reply.Short q) = standing-more h (entry desk (call.Book l) (reply.Short q)) ∙ nothing-changed (standing h)
standing_after h desk (call.Book l) reply.Cancelled = standing-more h (entry desk (call.Book l) reply.Cancelled) ∙ nothing-changed (standing h)
standing_after h desk (call.Book l) reply.NotStanding = standing-more h (entry desk (call.Book l) reply.NotStanding) ∙ nothing-changed (standing h)
standing_after h desk (call.Book l) reply.NotYours = standing-more h (entry desk (call.Book l) reply.NotYours) ∙ nothing-changed (standing h)
standing_after h desk (call.Book l) (reply.Available q) = standing-more h (entry desk (call.Book l) (reply.Available q)) ∙ nothing-changed (standing h)
standing_after h desk (call.Book l) (reply.Week w) = standing-more h (entry desk (call.Book l) (reply.Week w)) ∙ nothing-changed (standing h)
standing_after h desk (call.Book l) reply.NoWeek = standing-more h (entry desk (call.Book l) reply.NoWeek) ∙ nothing-changed (standing h)
standing_after h desk (call.Book l) (reply.Taken t) = standing-more h (entry desk (call.Book l) (reply.Taken t)) ∙ nothing-changed (standing h)
standing_after h desk (call.Book l) (reply.Front n) = standing-more h (entry desk (call.Book l) (reply.Front n)) ∙ nothing-changed (standing h)
standing_after h desk (call.Cancel n) reply.Cancelled = standing-more h (entry desk (call.Cancel n) reply.Cancelled) ∙ append-nil (filter (not_cancelled (call.Cancel n) reply.Cancelled) (standing h))
standing_after h desk (call.Cancel n) (reply.Booked m) = standing-more h (entry desk (call.Cancel n) (reply.Booked m)) ∙ nothing-changed (standing h)
standing_after h desk (call.Cancel n) (reply.Short q) = standing-more h (entry desk (call.Cancel n) (reply.Short q)) ∙ nothing-changed (standing h)
standing_after h desk (call.Cancel n) reply.NotStanding = standing-more h (entry desk (call.Cancel n) reply.NotStanding) ∙ nothing-changed (standing h)
standing_after h desk (call.Cancel n) reply.NotYours = standing-more h (entry desk (call.Cancel n) reply.NotYours) ∙ nothing-changed (standing h)
standing_after h desk (call.Cancel n) (reply.Available q) = standing-more h (entry desk (call.Cancel n) (reply.Available q)) ∙ nothing-changed (standing h)
standing_after h desk (call.Cancel n) (reply.Week w) = standing-more h (entry desk (call.Cancel n) (reply.Week w)) ∙ nothing-changed (standing h)
standing_after h desk (call.Cancel n) reply.NoWeek = standing-more h (entry desk (call.Cancel n) reply.NoWeek) ∙ nothing-changed (standing h)
standing_after h desk (call.Cancel n) (reply.Taken t) = standing-more h (entry desk (call.Cancel n) (reply.Taken t)) ∙ nothing-changed (standing h)
standing_after h desk (call.Cancel n) (reply.Front m) = standing-more h (entry desk (call.Cancel n) (reply.Front m)) ∙ nothing-changed (standing h)
standing_after h desk (call.Ask p) r = standing-more h (entry desk (call.Ask p) r) ∙ nothing-changed (standing h)
standing_after h desk (call.When w) r = standing-more h (entry desk (call.When w) r) ∙ nothing-changed (standing h)
standing_after h desk call.Snapshot r = standing-more h (entry desk call.Snapshot r) ∙ nothing-changed (standing h)
standing_after h desk call.Front r = standing-more h (entry desk call.Front r) ∙ nothing-changed (standing h)

pub due_by-append : (item week : ℕ) (xs ys : List Line) → due_by item week (xs ++ ys) ≡ due_by item week xs + due_by item week ys
due_by-append item week xs ys = sum_by-append (λ l. if (l.item == item) && nat_le l.week week then l.quantity else 0) xs ys

-- no more is due by a part of the bookings
due_by-fewer : (item week : ℕ) (p : Booking → Bool) (bs : List Booking) → due_by item week (lines_of (filter p bs)) ≤ due_by item week (lines_of bs)
due_by-fewer item week p [] = omega arith
due_by-fewer item week p (b ∷ bs) =
    let rest : due_by item week (lines_of (filter p bs)) ≤ due_by item week (lines_of bs) = due_by-fewer item week p bs in
    let f : Line → ℕ = λ l. if (l.item == item) && nat_le l.week week then l.quantity else 0 in
    let e : due_by item week (lines_of (b ∷ bs)) ≡ f b.line + due_by item week (lines_of bs) = sum_by-cons f b.line (lines_of bs) in
    let g : due_by item week (lines_of (b ∷ filter p bs)) ≡ f b.line + due_by item week (lines_of (filter p bs)) = sum_by-cons f b.line (lines_of (filter p bs)) in
    elim (p b) as (λ v. due_by item week (lines_of (if v then b ∷ filter p bs else filter p bs)) ≤ due_by item week (lines_of (b ∷ bs))) [
      | true ↦ omega arith
      | false ↦ omega arith
    ]

pub covered-fewer : (s : Supply) (p : Booking → Bool) (bs more : List Booking) → IsCovered s (lines_of (bs ++ more)) → IsCovered s (lines_of (filter p bs ++ more))
covered-fewer s p bs more c i m t w =
    let a : due_by i t (lines_of (bs ++ more)) ≤ supply s i t = c i m t w in
    let e : due_by i t (lines_of (bs ++ more)) ≡ due_by i t (lines_of bs) + due_by i t (lines_of more) = ap (due_by i t) (map-append (λ b. b.line) bs more) ∙ due_by-append i t (lines_of bs) (lines_of more) in
    let f : due_by i t (lines_of (filter p bs ++ more)) ≡ due_by i t (lines_of (filter p bs)) + due_by i t (lines_of more) = ap (due_by i t) (map-append (λ b. b.line) (filter p bs) more) ∙ due_by-append i t (lines_of (filter p bs)) (lines_of more) in
    let g = due_by-fewer i t p bs in
    omega arith
