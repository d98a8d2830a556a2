-- The standing bookings of a legal history, and of its snapshots, are such as a book of the shop may have.
use Rattle.std.proofs.Common.{◌≡◌, ◌∙◌, ℕ, ◌+◌, ◌<◌, List, ◌∷◌, ◌++◌, length, take, drop, get_or, sym, ap, subst}
use Rattle.std.proofs.lemmas.List.{drop_more, take-append-drop}
use Rattle.mrp_turn.specs.declared.log.Entry.{Entry}
use Rattle.mrp_turn.specs.Log.{entry}
use Rattle.mrp_master.specs.Supply.{Supply}
use Rattle.mrp_book.specs.declared.booking.Booking.{Booking}
use Rattle.mrp_book.specs.declared.call.Call.{Call}
use Rattle.mrp_book.specs.declared.reply.Reply.{Reply}
use Rattle.mrp_book.specs.declared.reply.Reply.TheVariants as reply
use Rattle.mrp_book.specs.Booked.{AreBooked}
use Rattle.mrp_book.specs.History.{IsLegal}
use Rattle.mrp_book.specs.Snapshot.{Snapshot}
use Rattle.mrp_book.specs.Standing.{History, standing}
use Rattle.mrp_book.proofs.Histories.{legal-covered, legal-front, legal-lines}
use Rattle.mrp_book.proofs.Promised.{rising, snapped}

pub standing-booked : (s : Supply) (h : History) → IsLegal s h → AreBooked s (standing h)
standing-booked s h legal = record {
  lines = legal-lines s h legal;
  covered = legal-covered s h legal;
  rising = (rising s h legal).0;
}

-- a snapshot's bookings are of the shop, covered, and by rising numbers
pub taken-booked : (s : Supply) (before after : History) (desk : ℕ) (c : Call) (t : Snapshot) → IsLegal s (before ++ entry desk c (reply.Taken t) ∷ after) → AreBooked s t.standing
taken-booked s before after desk c t legal =
    let stands : t.standing ≡ standing before = (snapped s before after desk c t legal).1 in
    subst (λ (bs : List Booking). AreBooked s bs) (sym stands) (standing-booked s before (legal-front s before (entry desk c (reply.Taken t) ∷ after) legal))

pub snapshot-booked : (s : Supply) (h : History) (k : ℕ) (e : Entry Call Reply) (t : Snapshot) → IsLegal s h → k < length h → e ≡ get_or h k e → e.reply ≡ reply.Taken t → AreBooked s t.standing
snapshot-booked s h k e t legal within is taken =
    let here : e ≡ entry e.who e.call (reply.Taken t) = (λ j. record { who = e.who; call = e.call; reply = taken j }) in
    let split : h ≡ take k h ++ entry e.who e.call (reply.Taken t) ∷ drop (k + 1) h =
    sym (take-append-drop k h) ∙ ap (λ (r : History). take k h ++ r) (drop_more h k e within ∙ ap (λ (x : Entry Call Reply). x ∷ drop (k + 1) h) (sym is ∙ here)) in
    let cut : IsLegal s (take k h ++ entry e.who e.call (reply.Taken t) ∷ drop (k + 1) h) = subst (IsLegal s) split legal in
    taken-booked s (take k h) (drop (k + 1) h) e.who e.call t cut
