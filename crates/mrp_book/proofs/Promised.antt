-- What holds of legal histories: what was promised, under which numbers, the snapshots, and who called.
use Rattle.std.specs.Prelude.{All, AllPairs, filter}
use Rattle.std.proofs.Common.{ℕ, ◌≡◌, ◌<◌, ◌+◌, ◌==◌, inl, inr, true, false, if◌then◌else◌, nat_le, List, [], ◌∷◌, ◌++◌, find, take, length, get_or, Option, Some, None, arith, refl, sym, ◌∙◌, ap, subst}
use Rattle.std.proofs.lemmas.Bool.{cases_lt}
use Rattle.std.proofs.lemmas.Bool.Decides.{nat_tests}
use Rattle.std.proofs.lemmas.List.{append-nil, length_push, take_at}
use Rattle.std.proofs.lemmas.List.Elements.{All-filter, All-get_or, All-nil, All-push, All-weaker}
use Rattle.std.proofs.lemmas.List.Kept.{AllPairs-filter}
use Rattle.std.proofs.lemmas.List.Quantifiers.{all_pairs_push}
use Rattle.mrp_turn.specs.declared.log.Entry.{Entry}
use Rattle.mrp_turn.specs.Log.{entry, AreFrom}
use Rattle.mrp_master.specs.declared.line.Line.{Line}
use Rattle.mrp_master.specs.Supply.{CanPromise, Supply}
use Rattle.mrp_book.specs.declared.booking.Booking.{Booking}
use Rattle.mrp_book.specs.declared.call.Call.{Call}
use Rattle.mrp_book.specs.declared.call.Call.TheVariants as call
use Rattle.mrp_book.specs.declared.reply.Reply.{Reply}
use Rattle.mrp_book.specs.declared.reply.Reply.TheVariants as reply
use Rattle.mrp_book.specs.Snapshot.{Snapshot}
use Rattle.mrp_book.specs.Standing.{History, standing, kept, booking_of, booked}
use Rattle.mrp_book.specs.History.{next_number, cancel_reply, week_reply, IsReply, IsLegal, MayFollow}
use Rattle.mrp_turn.proofs.Logs.{InTurn-from_Each, one_more}
use Rattle.mrp_book.proofs.Standings.{standing_after, standing-more, not_cancelled}
use Rattle.mrp_book.proofs.Entries.{IsBefore}
use Rattle.mrp_book.proofs.Histories.{IsLegalFrom}

module _ (s : Supply) where
  accepted : (h : History) (desk number : ℕ) (l : Line) → IsReply s h desk (call.Book l) (reply.Booked number) → CanPromise s (booked h) l.item l.quantity l.week × (number ≡ next_number h)
  accepted h desk number l (a, available, e) = elim (cases_lt a l.quantity) [
    | inr enough ↦
        let t : nat_le l.quantity a ≡ true = grind (arith, nat_tests) in
        let same : reply.Booked number ≡ reply.Booked (next_number h) = e ∙ ap (λ v. if v then reply.Booked (next_number h) else reply.Short a) t in
        ((a, available, enough), cc)
    | inl short ↦
        let t : nat_le l.quantity a ≡ false = grind (arith, nat_tests) in
        let same : reply.Booked number ≡ reply.Short a = e ∙ ap (λ v. if v then reply.Booked (next_number h) else reply.Short a) t in
        absurd cc
  ]

  -- no accepted booking exceeded what was then available
  pub booked_within : (before after : History) (desk number : ℕ) (l : Line) → IsLegal s (before ++ entry desk (call.Book l) (reply.Booked number) ∷ after) → CanPromise s (booked before) l.item l.quantity l.week × (number ≡ next_number before)
  booked_within before after desk number l legal = accepted before desk number l (legal before (entry desk (call.Book l) (reply.Booked number)) after refl).1

  cancel_takes_none : (desk : ℕ) (o : Option Booking) (t : Snapshot) → reply.Taken t ≡ cancel_reply desk o → ⊥
  cancel_takes_none desk None t e = cc
  cancel_takes_none desk (Some b) t e = (elim (b.desk == desk) as (λ v. reply.Taken t ≡ (if v then reply.Cancelled else reply.NotYours) → ⊥) [ true ↦ λ e. cc | false ↦ λ e. cc ]) e

  when_takes_none : (o : Option ℕ) (t : Snapshot) → reply.Taken t ≡ week_reply o → ⊥
  when_takes_none None t e = cc
  when_takes_none (Some w) t e = cc

  -- only a call for a snapshot is answered with a snapshot
  taken : (h : History) (desk : ℕ) (c : Call) (t : Snapshot) → IsReply s h desk c (reply.Taken t) → (c ≡ call.Snapshot) × (t ≡ record { front = next_number h; weeks = s.weeks; standing = standing h })
  taken h desk (call.Book l) t (a, available, e) = absurd ((elim (nat_le l.quantity a) as (λ v. reply.Taken t ≡ (if v then reply.Booked (next_number h) else reply.Short a) → ⊥) [ true ↦ λ e. cc | false ↦ λ e. cc ]) e)
  taken h desk (call.Cancel n) t e = absurd (cancel_takes_none desk (find (λ b. b.number == n) (standing h)) t e)
  taken h desk (call.Ask p) t (a, available, e) = absurd cc
  taken h desk (call.When w) t (week, earliest, e) = absurd (when_takes_none week t e)
  taken h desk call.Snapshot t e = (refl, cc)
  taken h desk call.Front t e = absurd cc

  front_stands : (before after : History) (desk : ℕ) (c : Call) (r : Reply) → c ≡ call.Snapshot → standing (take (next_number before) (before ++ entry desk c r ∷ after)) ≡ standing before
  front_stands before after desk c r is =
      let e = entry desk c r in
      let long : length (before ++ e ∷ []) ≡ length before + 1 = length_push before e in
      ap (λ x. standing (take (next_number before) x)) (one_more before e after)
      ∙ ap standing (take_at (before ++ e ∷ []) after (next_number before) long)
      ∙ ap (λ x. standing (before ++ entry desk x r ∷ [])) is
      ∙ standing_after before desk call.Snapshot r

  pub snapped : (before after : History) (desk : ℕ) (c : Call) (t : Snapshot) → IsLegal s (before ++ entry desk c (reply.Taken t) ∷ after)
      → (t.front ≡ next_number before) × (t.standing ≡ standing before) × (t.standing ≡ standing (take t.front (before ++ entry desk c (reply.Taken t) ∷ after)))
  snapped before after desk c t legal =
      let h = before ++ entry desk c (reply.Taken t) ∷ after in
      let is = taken before desk c t (legal before (entry desk c (reply.Taken t)) after refl).1 in
      let front : t.front ≡ next_number before = ap (λ x. x.front) is.1 in
      let stands : t.standing ≡ standing before = ap (λ x. x.standing) is.1 in
      (front, stands, stands ∙ sym (front_stands before after desk c (reply.Taken t) is.0) ∙ ap (λ n. standing (take n h)) (sym front))

  desks_from : (before h : History) → IsLegalFrom s before h → AreFrom 64 h
  desks_from before [] w = tt
  desks_from before (e ∷ h) w = (w.0.0, desks_from (before ++ e ∷ []) h w.1)

  pub desks : (h : History) → IsLegal s h → AreFrom 64 h
  desks h legal = desks_from [] h (InTurn-from_Each (MayFollow s) [] h legal)

  -- The numbers of the standing bookings rise, none after the last entry.

  abbrev Rises : ℕ → List Booking → Type 0
  Rises next bs = AllPairs IsBefore bs × All (λ b. b.number < next) bs

  later : (n : ℕ) (bs : List Booking) → All (λ b. b.number < n) bs → All (λ b. b.number < n + 1) bs
  later n bs all = All-weaker (λ b. b.number < n) (λ b. b.number < n + 1) (λ b h. omega arith) bs all

  one_longer : (h : History) (e : Entry Call Reply) → next_number h + 1 ≡ next_number (h ++ e ∷ [])
  one_longer h e = let long : length (h ++ e ∷ []) ≡ length h + 1 = length_push h e in omega arith

  -- a booking that is made has the next number
  rises-made : (h : History) (bs : List Booking) (desk : ℕ) (c : Call) (r : Reply) → IsReply s h desk c r → Rises (next_number h) bs
      → Rises (next_number h + 1) (bs ++ kept [] (booking_of desk c r))
  rises-made h bs desk (call.Book l) (reply.Booked n) answered (pairs, below) =
      let own : n ≡ next_number h = (accepted h desk n l answered).1 in
      let b : Booking = record { number = n; desk = desk; line = l } in (
        all_pairs_push IsBefore bs b pairs (λ k d within.
            let less : (get_or bs k d).number < next_number h = All-get_or (λ b. b.number < next_number h) bs k d within below in
            omega arith),
        All-push (λ b. b.number < next_number h + 1) bs b (later (next_number h) bs below) (omega arith),
      )
  rises-made h bs desk c r answered (pairs, below) =
      (subst (AllPairs IsBefore) (sym (append-nil bs)) pairs, subst (All (λ b. b.number < next_number h + 1)) (sym (append-nil bs)) (later (next_number h) bs below))

  rises-more : (h : History) (e : Entry Call Reply) → MayFollow s h e → Rises (next_number h) (standing h) → Rises (next_number (h ++ e ∷ [])) (standing (h ++ e ∷ []))
  rises-more h e m (pairs, below) =
      let p = not_cancelled e.call e.reply in
      subst (λ n. Rises n (standing (h ++ e ∷ []))) (one_longer h e)
      (subst (Rises (next_number h + 1)) (sym (standing-more h e))
      (rises-made h (filter p (standing h)) e.who e.call e.reply m.1
      (AllPairs-filter IsBefore p (standing h) pairs, All-filter p (λ b. b.number < next_number h) (standing h) below)))

  rises-from : (before h : History) → IsLegalFrom s before h → Rises (next_number before) (standing before) → Rises (next_number (before ++ h)) (standing (before ++ h))
  rises-from before [] w rises = subst (λ x. Rises (next_number x) (standing x)) (sym (append-nil before)) rises
  rises-from before (e ∷ h) w rises =
      subst (λ x. Rises (next_number x) (standing x)) (sym (one_more before e h)) (rises-from (before ++ e ∷ []) h w.1 (rises-more before e w.0 rises))

  nothing-rises : Rises 1 (standing [])
  unfolding standing
  nothing-rises = (λ i j d before within. absurd (omega arith), All-nil (λ b. b.number < 1))

  pub rising : (h : History) → IsLegal s h → Rises (next_number h) (standing h)
  rising h legal = rises-from [] h (InTurn-from_Each (MayFollow s) [] h legal) nothing-rises
