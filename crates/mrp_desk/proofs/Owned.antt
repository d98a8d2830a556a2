-- A desk's own standing bookings are those that its own entries leave, since no other desk can cancel them.
use Rattle.std.specs.Prelude.{filter, find}
use Rattle.std.proofs.Common.{◌≡◌, ◌≢◌, ℕ, ◌+◌, ◌==◌, ◌≤◌, inl, inr, Bool, true, false, if◌then◌else◌, List, [], ◌∷◌, ◌++◌, length, Option, Some, None, refl, sym, ap, subst, ◌∙◌, arith}
use Rattle.std.proofs.lemmas.Bool.{cases_eq, eq-eqb, ne_eqb}
use Rattle.std.proofs.lemmas.List.{append-nil, length_push}
use Rattle.std.proofs.lemmas.List.Elements.{filter-append}
use Rattle.mrp_turn.specs.declared.log.Entry.{Entry}
use Rattle.mrp_turn.specs.Log.{entries_by}
use Rattle.mrp_master.specs.Supply.{Supply}
use Rattle.mrp_book.specs.declared.booking.Booking.{Booking}
use Rattle.mrp_book.specs.declared.call.Call.{Call}
use Rattle.mrp_book.specs.declared.call.Call.TheVariants as call
use Rattle.mrp_book.specs.declared.reply.Reply.{Reply}
use Rattle.mrp_book.specs.declared.reply.Reply.TheVariants as reply
use Rattle.mrp_book.specs.Standing.{History, booking_of, kept, standing}
use Rattle.mrp_book.specs.History.{IsLegal, IsReply, MayFollow, cancel_reply, state_of}
use Rattle.mrp_turn.proofs.Logs.{InTurn, InTurn-from_Each, one_more}
use Rattle.mrp_book.proofs.Numbers.{has_number}
use Rattle.mrp_book.proofs.Replies.{accepted}
use Rattle.mrp_book.proofs.Standings.{not_cancelled, standing-more}
use Rattle.mrp_desk.proofs.Bookings.{Rise, is_of, keeps_all, kept_head, others_stay, rise_kept, rise_push, rise_wider, tests_commute}

-- the booking that an entry makes
abbrev made : ℕ → Call → Reply → List Booking
made desk c r = kept [] (booking_of desk c r)

-- is of the desk that called
made_own : (desk : ℕ) (c : Call) (r : Reply) → filter (is_of desk) (made desk c r) ≡ made desk c r
made_own desk (call.Book l) (reply.Booked n) = kept_head (is_of desk) (record { number = n; desk = desk; line = l }) [] true (eq-eqb desk desk refl)
made_own desk c r = refl

made_other : (desk other : ℕ) (c : Call) (r : Reply) → other ≢ desk → filter (is_of desk) (made other c r) ≡ []
made_other desk other (call.Book l) (reply.Booked n) ne = kept_head (is_of desk) (record { number = n; desk = other; line = l }) [] false (ne_eqb other desk ne)
made_other desk other c r ne = refl

-- a booking is cancelled by its desk
cancelled_by : (desk : ℕ) (found : Option Booking) → reply.Cancelled ≡ cancel_reply desk found → (b : Booking) × (found ≡ Some b) × (b.desk ≡ desk)
cancelled_by desk None e = absurd cc
cancelled_by desk (Some b) e = elim (cases_eq b.desk desk) [
  | inl own ↦ (b, refl, own)
  | inr other ↦
      let no : reply.Cancelled ≡ reply.NotYours = e ∙ ap (λ (v : Bool). if v then reply.Cancelled else reply.NotYours) (ne_eqb b.desk desk other) in
      absurd cc
]

module _ (s : Supply) where
  -- The bookings that stand are in order of their numbers.

  abbrev IsRising : History → Type 0
  IsRising h = Rise 0 (length h) (standing h)

  rising_made : (h : History) (desk : ℕ) (c : Call) (r : Reply) (bs : List Booking) → IsReply s h desk c r → Rise 0 (length h) bs → Rise 0 (length h + 1) (bs ++ made desk c r)
  rising_made h desk (call.Book l) (reply.Booked n) bs is rise =
      let next : n ≡ length h + 1 = (accepted (state_of s h) desk n l is).1 in
      let b : Booking = record { number = n; desk = desk; line = l } in
      subst (λ (x : ℕ). Rise 0 x (bs ++ b ∷ [])) next (rise_push 0 (length h) bs b (omega (arith, next)) rise)
  rising_made h desk c r bs is rise = subst (Rise 0 (length h + 1)) (sym (append-nil bs)) (rise_wider 0 (length h) (length h + 1) bs (omega arith) rise)

  rising_more : (h : History) (e : Entry Call Reply) → MayFollow s h e → IsRising h → IsRising (h ++ e ∷ [])
  rising_more h e follows rise =
      subst (λ (x : List Booking). Rise 0 (length (h ++ e ∷ [])) x) (sym (standing-more h e))
      (subst (λ (x : ℕ). Rise 0 x (filter (not_cancelled e.call e.reply) (standing h) ++ made e.who e.call e.reply)) (sym (length_push h e))
      (rising_made h e.who e.call e.reply (filter (not_cancelled e.call e.reply) (standing h)) follows.1 (rise_kept (not_cancelled e.call e.reply) 0 (length h) (standing h) rise)))

  -- One more entry.

  module _ (desk : ℕ) where
    abbrev IsOwned : History → Type 0
    IsOwned h = filter (is_of desk) (standing h) ≡ standing (entries_by desk h)

    -- another desk's entry removes none of the desk's bookings
    unmoved : (h : History) (other : ℕ) (c : Call) (r : Reply) → other ≢ desk → IsReply s h other c r → IsRising h
        → filter (is_of desk) (filter (not_cancelled c r) (standing h)) ≡ filter (is_of desk) (standing h)
    unmoved h other (call.Cancel n) reply.Cancelled ne is rise =
        let gone = cancelled_by other (find (has_number n) (standing h)) is in
        others_stay desk n 0 (length h) (standing h) gone.0 rise gone.1 (λ (e : gone.0.desk ≡ desk). ne (sym gone.2 ∙ e))
    unmoved h other c r ne is rise = ap (filter (is_of desk)) (keeps_all (standing h))

    -- the desk's bookings after one more entry
    parted : (h : History) (e : Entry Call Reply)
        → filter (is_of desk) (standing (h ++ e ∷ [])) ≡ filter (is_of desk) (filter (not_cancelled e.call e.reply) (standing h)) ++ filter (is_of desk) (made e.who e.call e.reply)
    parted h e = ap (filter (is_of desk)) (standing-more h e) ∙ filter-append (is_of desk) (filter (not_cancelled e.call e.reply) (standing h)) (made e.who e.call e.reply)

    by_desk : (h : History) (e : Entry Call Reply) (v : Bool) → (e.who == desk) ≡ v → entries_by desk (h ++ e ∷ []) ≡ entries_by desk h ++ (if v then e ∷ [] else [])
    by_desk h e v t = filter-append (λ x. x.who == desk) h (e ∷ []) ∙ ap (λ (xs : History). entries_by desk h ++ xs) (kept_head (λ x. x.who == desk) e [] v t)

    owned_more : (h : History) (e : Entry Call Reply) → MayFollow s h e → IsRising h → IsOwned h → IsOwned (h ++ e ∷ [])
    owned_more h e follows rise owned =
        let left : Booking → Bool = not_cancelled e.call e.reply in
        let new : List Booking = made e.who e.call e.reply in
        elim (cases_eq e.who desk) [
          | inl own ↦
              let of_desk : filter (is_of desk) new ≡ new = subst (λ (d : ℕ). filter (is_of d) new ≡ new) own (made_own e.who e.call e.reply) in
              let old : filter (is_of desk) (filter left (standing h)) ≡ filter left (standing (entries_by desk h)) = tests_commute (is_of desk) left (standing h) ∙ ap (filter left) owned in
              parted h e ∙ ap (λ (xs : List Booking). xs ++ filter (is_of desk) new) old ∙ ap (λ (xs : List Booking). filter left (standing (entries_by desk h)) ++ xs) of_desk
              ∙ sym (standing-more (entries_by desk h) e) ∙ ap standing (sym (by_desk h e true (eq-eqb e.who desk own)))
          | inr other ↦
              let of_desk : filter (is_of desk) new ≡ [] = made_other desk e.who e.call e.reply other in
              parted h e ∙ ap (λ (xs : List Booking). xs ++ filter (is_of desk) new) (unmoved h e.who e.call e.reply other follows.1 rise) ∙ ap (λ (xs : List Booking). filter (is_of desk) (standing h) ++ xs) of_desk
              ∙ append-nil (filter (is_of desk) (standing h)) ∙ owned ∙ ap standing (sym (by_desk h e false (ne_eqb e.who desk other) ∙ append-nil (entries_by desk h)))
        ]

    owned_from : (before h : History) → InTurn (MayFollow s) before h → IsRising before → IsOwned before → IsOwned (before ++ h)
    owned_from before [] w rise owned = subst IsOwned (sym (append-nil before)) owned
    owned_from before (e ∷ h) w rise owned =
        subst IsOwned (sym (one_more before e h)) (owned_from (before ++ e ∷ []) h w.1 (rising_more before e w.0 rise) (owned_more before e w.0 rise owned))

    nothing_rises : IsRising []
    unfolding standing
    nothing_rises = omega arith

    nothing_owned : IsOwned []
    unfolding standing
    nothing_owned = refl

    -- in a legal history, a desk's bookings that stand are those that its own entries leave
    pub own_stand : (h : History) → IsLegal s h → IsOwned h
    own_stand h legal = owned_from [] h (InTurn-from_Each (MayFollow s) [] h legal) nothing_rises nothing_owned
