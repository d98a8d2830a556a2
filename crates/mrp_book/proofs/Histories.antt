-- Legal histories: each prefix is covered, and the calls decide the replies.
use Rattle.std.proofs.Common.{ℕ, ◌≡◌, inl, inr, true, false, if◌then◌else◌, nat_le, List, [], ◌∷◌, ◌++◌, arith, refl, sym, ◌∙◌, ap, subst}
use Rattle.std.proofs.lemmas.Bool.{cases_lt}
use Rattle.std.proofs.lemmas.Bool.Decides.{nat_tests}
use Rattle.std.specs.Prelude.{All, ◌==◌, filter, find}
use Rattle.std.proofs.lemmas.List.{append-nil, map-append}
use Rattle.std.proofs.lemmas.List.Elements.{All-append, All-cons, All-filter, All-head, All-nil, All-tail}
use Rattle.mrp_turn.specs.declared.log.Entry.{Entry}
use Rattle.mrp_book.specs.declared.booking.Booking.{Booking}
use Rattle.mrp_book.specs.declared.call.Call.{Call}
use Rattle.mrp_book.specs.declared.call.Call.TheVariants as call
use Rattle.mrp_book.specs.declared.reply.Reply.{Reply}
use Rattle.mrp_book.specs.declared.reply.Reply.TheVariants as reply
use Rattle.mrp_master.specs.Lines.{IsLine}
use Rattle.mrp_master.specs.Supply.{Supply, IsCovered, available}
use Rattle.mrp_book.specs.Bookings.{lines_of}
use Rattle.mrp_turn.specs.Log.{IsSeatNumber, entry}
use Rattle.mrp_book.specs.Standing.{History, standing, kept, booking_of, booked}
use Rattle.mrp_book.specs.History.{next_number, Fits, cancel_reply, week_reply, IsReply, MayFollow, IsLegal, asked}
use Rattle.mrp_master.proofs.Available.{available_unique, covered-less}
use Rattle.mrp_master.proofs.Promises.{available_is, earliest_is, earliest_unique}
use Rattle.mrp_turn.proofs.Logs.{EachFollows-front, EachFollows-more, EachFollows-nil, InTurn, InTurn-from_Each, one_more}
use Rattle.mrp_book.proofs.Standings.{standing-more, not_cancelled, covered-fewer}

abbrev pub E : Type 0
E = Entry Call Reply

-- the entries in order
abbrev pub IsLegalFrom : Supply → History → History → Type 0
IsLegalFrom s before h = InTurn (MayFollow s) before h

module _ (s : Supply) where
  -- a history without entries is legal, and one more entry that may follow keeps it legal
  pub legal-none : IsLegal s []
  legal-none = EachFollows-nil (MayFollow s)

  pub legal-more : (h : History) (e : E) → IsLegal s h → MayFollow s h e → IsLegal s (h ++ e ∷ [])
  legal-more h e legal m = EachFollows-more (MayFollow s) h e legal m

  -- a prefix of a legal history is legal
  pub legal-front : (h more : History) → IsLegal s (h ++ more) → IsLegal s h
  legal-front h more legal = EachFollows-front (MayFollow s) h more legal

  -- Each prefix is covered.

  made : (h : History) (desk : ℕ) (c : Call) (r : Reply) → IsReply s h desk c r → IsCovered s (booked h) → IsCovered s (lines_of (standing h ++ kept [] (booking_of desk c r)))
  made h desk (call.Book l) r (a, available, e) covered =
      let P : Reply → Type 0 = λ r. IsCovered s (lines_of (standing h ++ kept [] (booking_of desk (call.Book l) r))) in
      subst P (sym e) (elim (cases_lt a l.quantity) [
        | inr enough ↦
            let t : nat_le l.quantity a ≡ true = grind (arith, nat_tests) in
            let yes : P (reply.Booked (next_number h)) = subst (IsCovered s) (sym (map-append (λ b. b.line) (standing h) (record { number = next_number h; desk = desk; line = l } ∷ []))) (covered-less s (booked h) l.item l.week l.quantity a enough available.fits) in
            subst (λ v. P (if v then reply.Booked (next_number h) else reply.Short a)) (sym t) yes
        | inl short ↦
            let t : nat_le l.quantity a ≡ false = grind (arith, nat_tests) in
            let no : P (reply.Short a) = subst (λ x. IsCovered s (lines_of x)) (sym (append-nil (standing h))) covered in
            subst (λ v. P (if v then reply.Booked (next_number h) else reply.Short a)) (sym t) no
      ])
  made h desk (call.Cancel n) r e covered = subst (λ x. IsCovered s (lines_of x)) (sym (append-nil (standing h))) covered
  made h desk (call.Ask p) r e covered = subst (λ x. IsCovered s (lines_of x)) (sym (append-nil (standing h))) covered
  made h desk (call.When w) r e covered = subst (λ x. IsCovered s (lines_of x)) (sym (append-nil (standing h))) covered
  made h desk call.Snapshot r e covered = subst (λ x. IsCovered s (lines_of x)) (sym (append-nil (standing h))) covered
  made h desk call.Front r e covered = subst (λ x. IsCovered s (lines_of x)) (sym (append-nil (standing h))) covered

  pub covered-more : (h : History) (e : E) → MayFollow s h e → IsCovered s (booked h) → IsCovered s (booked (h ++ e ∷ []))
  covered-more h e m covered =
      subst (λ x. IsCovered s (lines_of x)) (sym (standing-more h e))
      (covered-fewer s (not_cancelled e.call e.reply) (standing h) (kept [] (booking_of e.who e.call e.reply)) (made h e.who e.call e.reply m.1 covered))

  covered-from : (before h : History) → IsLegalFrom s before h → IsCovered s (booked before) → IsCovered s (booked (before ++ h))
  covered-from before [] w covered = subst (λ x. IsCovered s (booked x)) (sym (append-nil before)) covered
  covered-from before (e ∷ h) w covered = subst (λ x. IsCovered s (booked x)) (sym (one_more before e h)) (covered-from (before ++ e ∷ []) h w.1 (covered-more before e w.0 covered))

  nothing-covered : IsCovered s (booked [])
  unfolding standing
  nothing-covered i m t w = omega arith

  -- a legal history is covered, and so is each prefix of it
  pub legal-covered : (h : History) → IsLegal s h → IsCovered s (booked h)
  legal-covered h legal = covered-from [] h (InTurn-from_Each (MayFollow s) [] h legal) nothing-covered

  pub prefix-covered : (h more : History) → IsLegal s (h ++ more) → IsCovered s (booked h)
  prefix-covered h more legal = legal-covered h (legal-front h more legal)

  -- The standing bookings are of the shop.

  abbrev pub IsOfShop : Booking → Type 0
  IsOfShop b = IsLine s b.line

  made_of_shop : (desk : ℕ) (c : Call) (r : Reply) → Fits s c → All IsOfShop (kept [] (booking_of desk c r))
  made_of_shop desk (call.Book l) (reply.Booked n) fits = All-cons IsOfShop _ [] fits (All-nil IsOfShop)
  made_of_shop desk c r fits = All-nil IsOfShop

  lines-more : (h : History) (e : E) → MayFollow s h e → All IsOfShop (standing h) → All IsOfShop (standing (h ++ e ∷ []))
  lines-more h e m all =
      subst (All IsOfShop) (sym (standing-more h e))
      (All-append IsOfShop (filter (not_cancelled e.call e.reply) (standing h)) (kept [] (booking_of e.who e.call e.reply))
      (All-filter (not_cancelled e.call e.reply) IsOfShop (standing h) all) (made_of_shop e.who e.call e.reply m.2))

  lines-from : (before h : History) → IsLegalFrom s before h → All IsOfShop (standing before) → All IsOfShop (standing (before ++ h))
  lines-from before [] w all = subst (λ x. All IsOfShop (standing x)) (sym (append-nil before)) all
  lines-from before (e ∷ h) w all = subst (λ x. All IsOfShop (standing x)) (sym (one_more before e h)) (lines-from (before ++ e ∷ []) h w.1 (lines-more before e w.0 all))

  nothing-of-shop : All IsOfShop (standing [])
  unfolding standing
  nothing-of-shop = All-nil IsOfShop

  pub legal-lines : (h : History) → IsLegal s h → All IsOfShop (standing h)
  legal-lines h legal = lines-from [] h (InTurn-from_Each (MayFollow s) [] h legal) nothing-of-shop

  -- The calls decide the replies.

  pub reply-unique : (h : History) (desk : ℕ) (c : Call) (q r : Reply) → IsReply s h desk c q → IsReply s h desk c r → q ≡ r
  reply-unique h desk (call.Book l) q r (a, x, e) (b, y, f) =
      e ∙ ap (λ n. if nat_le l.quantity n then reply.Booked (next_number h) else reply.Short n) (available_unique s (booked h) l.item l.week a b x y) ∙ sym f
  reply-unique h desk (call.Cancel n) q r e f = e ∙ sym f
  reply-unique h desk (call.Ask p) q r (a, x, e) (b, y, f) = e ∙ ap reply.Available (available_unique s (booked h) p.item p.week a b x y) ∙ sym f
  reply-unique h desk (call.When w) q r (a, x, e) (b, y, f) = e ∙ ap week_reply (earliest_unique s (booked h) w.item w.quantity a b x y) ∙ sym f
  reply-unique h desk call.Snapshot q r e f = e ∙ sym f
  reply-unique h desk call.Front q r e f = e ∙ sym f

  -- each call that fits has a reply
  pub reply-some : (h : History) (desk : ℕ) (c : Call) → IsLegal s h → Fits s c → (r : Reply) × IsReply s h desk c r
  reply-some h desk (call.Book l) legal fits =
      let a : ℕ = available s (booked h) l.item l.week in
      ((if nat_le l.quantity a then reply.Booked (next_number h) else reply.Short a), (a, available_is s (booked h) l.item fits.item (legal-covered h legal) l.week fits.week, refl))
  reply-some h desk (call.Cancel n) legal fits = (cancel_reply desk (find (λ b. b.number == n) (standing h)), refl)
  reply-some h desk (call.Ask p) legal fits =
      let a : ℕ = available s (booked h) p.item p.week in
      (reply.Available a, (a, available_is s (booked h) p.item fits.item (legal-covered h legal) p.week fits.week, refl))
  reply-some h desk (call.When w) legal fits =
      let first = earliest_is s (booked h) w.item fits.item (legal-covered h legal) w.quantity in
      (week_reply first.0, (first.0, first.1, refl))
  reply-some h desk call.Snapshot legal fits = (reply.Taken (record { front = next_number h; weeks = s.weeks; standing = standing h }), refl)
  reply-some h desk call.Front legal fits = (reply.Front (next_number h), refl)

  -- desks' calls that fit, after a history
  abbrev pub MayCall : ℕ × Call → Type 0
  MayCall a = IsSeatNumber a.0 × Fits s a.1

  some-from : (before : History) (calls : List (ℕ × Call)) → IsLegal s before → All MayCall calls → (h : History) × IsLegal s h × (asked h ≡ asked before ++ calls)
  some-from before [] legal all = (before, legal, sym (append-nil (asked before)))
  some-from before (a ∷ calls) legal all =
      let may : MayCall a = All-head MayCall a calls all in
      let r = reply-some before a.0 a.1 legal may.1 in
      let e : E = entry a.0 a.1 r.0 in
      let rest = some-from (before ++ e ∷ []) calls (legal-more before e legal (may.0, r.1, may.1)) (All-tail MayCall a calls all) in
      (rest.0, rest.1, rest.2 ∙ ap (λ (x : List (ℕ × Call)). x ++ calls) (map-append (λ (x : E). (x.who, x.call)) before (e ∷ [])) ∙ sym (one_more (asked before) a calls))

  -- calls that fit have a legal history
  pub history-some : (calls : List (ℕ × Call)) → All MayCall calls → (h : History) × IsLegal s h × (asked h ≡ calls)
  history-some calls all = some-from [] calls legal-none all

  abbrev one_asked : E → ℕ × Call
  one_asked e = (e.who, e.call)

  unique-from : (before g h : History) → IsLegalFrom s before g → IsLegalFrom s before h → asked g ≡ asked h → g ≡ h
  unique-from before [] [] v w same = refl
  unique-from before [] (f ∷ h) v w same = cc
  unique-from before (e ∷ g) [] v w same = cc
  unique-from before (e ∷ g) (f ∷ h) v w same =
      let p : one_asked e ≡ one_asked f = cc in
      let rest : asked g ≡ asked h = cc in
      let P : ℕ × Call → Type 0 = λ a. IsReply s before a.0 a.1 f.reply in
      let r : e.reply ≡ f.reply = reply-unique before e.who e.call e.reply f.reply v.0.1 (subst P (sym p) w.0.1) in
      let ef : e ≡ f = λ i. record { who = (p i).0; call = (p i).1; reply = r i } in
      let more : g ≡ h = unique-from (before ++ e ∷ []) g h v.1 (subst (λ x. IsLegalFrom s (before ++ x ∷ []) h) (sym ef) w.1) rest in
      λ i. ef i ∷ more i

  -- legal histories with the same calls are the same
  pub history-unique : (g h : History) → IsLegal s g → IsLegal s h → asked g ≡ asked h → g ≡ h
  history-unique g h v w same = unique-from [] g h (InTurn-from_Each (MayFollow s) [] g v) (InTurn-from_Each (MayFollow s) [] h w) same
