-- What the lock's contract says of a call, said of a desk.
use Rattle.std.proofs.Common.{◌≡◌, ◌≢◌, ℕ, ◌+◌, ◌==◌, ◌≤◌, ◌⊎◌, inl, inr, true, [], ◌∷◌, ◌++◌, length, Result, Ok, Err, IfOk, IfErr, refl, sym, ap, subst, ◌∙◌, arith}
use Rattle.std.proofs.lemmas.Bool.{eq-eqb}
use Rattle.std.proofs.lemmas.List.{append_cancel_right, length_push}
use Rattle.std.proofs.lemmas.List.Elements.{filter-append}
use Rattle.mrp_bill.specs.Shop.{Shop}
use Rattle.mrp_turn.specs.declared.turn.CallFault.{CallFault}
use Rattle.mrp_turn.specs.declared.turn.CallFault.TheVariants as fault
use Rattle.mrp_turn.specs.Calls as lock
use Rattle.mrp_turn.specs.Log.{LeadsTo, entry, entries_by}
use Rattle.mrp_turn.specs.Seen.{TurnId}
use Rattle.mrp_master.specs.Supply.{Supply}
use Rattle.mrp_book.specs.declared.call.Call.{Call}
use Rattle.mrp_book.specs.declared.call.Call.TheVariants as call
use Rattle.mrp_book.specs.declared.reply.Reply.{Reply}
use Rattle.mrp_book.specs.declared.refused.Refused.{Refused}
use Rattle.mrp_book.specs.declared.refused.Refused.TheVariants.{Full, NoMemory}
use Rattle.mrp_book.specs.BookState.{BookState}
use Rattle.mrp_book.specs.declared.reply.Reply.TheVariants as reply
use Rattle.mrp_book.specs.Standing.{History, standing}
use Rattle.mrp_book.specs.History.{IsLegal, IsLimit, TakesMemory}
use Rattle.mrp_book.proofs.Histories.{legal-front}
use Rattle.mrp_desk.specs.Calls.{HasCause, IsAnswerOf, IsSnapshot, Tells}
use Rattle.mrp_desk.specs.Offices.{Desk, supply_at}
use Rattle.mrp_desk.specs.ShopBook.{Answers, Opens, Refuses, IsOutOfMemory}
use Rattle.mrp_desk.proofs.Bookings.{kept_head}
use Rattle.mrp_desk.proofs.Legal.{is_history}
use Rattle.mrp_desk.proofs.Owned.{own_stand}

module _ (office : TurnId Shop) (c : Call) (old new : Desk) where
  abbrev shop : Shop
  shop = office.about.object

  -- what the lock's contract says
  abbrev pub LockTells : Result (ℕ × Reply) (CallFault Refused) → Type 0
  LockTells given = lock.Tells (Opens shop) (Answers shop) (λ b _ _ e. Refuses b e) (λ b _ c e. IsOutOfMemory b c e) office.about.room old.number c old.seen old.mine given new.seen new.mine

  -- the log had a place
  pub roomy : (given : Result (ℕ × Reply) (CallFault Refused)) → office.about.room ≡ 1000001 → LockTells given → IfErr given (λ f. f ≢ fault.NoMemory)
  roomy (Ok a) room told = tt
  roomy (Err f) room told = λ (is : f ≡ fault.NoMemory).
      let few : length new.seen ≤ 1000000 = (is_history shop new.seen told.legal.0 told.legal.1).few in
      let full : office.about.room ≤ length new.seen =
      subst (lock.HasCause (Opens shop) (Answers shop) (λ b _ _ e. Refuses b e) (λ b _ c e. IsOutOfMemory b c e) office.about.room old.number c new.seen) is told.cause in
      absurd (omega (arith, room, few, full))

  entries_seen : (b : BookState) → LeadsTo (Answers shop) (Opens shop) new.seen b → b.entries ≡ length new.seen
  entries_seen b leads = ap (λ (x : BookState). x.entries) (is_history shop new.seen b leads).left

  -- why the book refused
  cause : (e : Refused) → (b : BookState) × LeadsTo (Answers shop) (Opens shop) new.seen b × (IsOutOfMemory b c e ⊎ Refuses b e) → HasCause (supply_at office) c new.seen e
  cause Full (b, leads, inl never) = absurd never
  cause Full (b, leads, inr limit) = subst IsLimit (entries_seen b leads) limit
  cause NoMemory (b, leads, inl (takes, within)) = (subst (λ (x : BookState). TakesMemory x c) (is_history shop new.seen b leads).left takes, λ full. within (subst IsLimit (sym (entries_seen b leads)) full))
  cause NoMemory (b, leads, inr never) = absurd never

  pub tells : (given : Result (ℕ × Reply) (CallFault Refused)) (result : Result (ℕ × Reply) Refused) → IsAnswerOf given result → new.turn ≡ old.turn → new.number ≡ old.number
      → LockTells given → Tells (supply_at office) c old result new
  tells (Ok answer) result is office_is desk_is told =
      let h = is_history shop new.seen told.legal.0 told.legal.1 in
      subst (λ (x : Result (ℕ × Reply) Refused). Tells (supply_at office) c old x new) (sym is) (record {
        office = office_is;
        desk = desk_is;
        legal = h.legal;
        few = h.few;
        goes_on = told.goes_on;
        exact = told.exact;
        last = told.last;
        number = told.number;
        added = told.added;
        unchanged = tt;
        cause = tt;
      })
  tells (Err (fault.Refused e)) result is office_is desk_is told =
      let h = is_history shop new.seen told.legal.0 told.legal.1 in
      subst (λ (x : Result (ℕ × Reply) Refused). Tells (supply_at office) c old x new) (sym is) (record {
        office = office_is;
        desk = desk_is;
        legal = h.legal;
        few = h.few;
        goes_on = told.goes_on;
        exact = told.exact;
        last = tt;
        number = tt;
        added = tt;
        unchanged = told.unchanged;
        cause = cause e told.cause;
      })
  tells (Err fault.NoMemory) result is office_is desk_is told = absurd is

-- a snapshot has the bookings that stand in all that was seen before its entry
pub snapped : (s : Supply) (old new : Desk) (result : Result (ℕ × Reply) Refused) → Tells s call.Snapshot old result new → IfOk result (IsSnapshot s old new)
snapped s old new (Err e) told = tt
snapped s old new (Ok answer) told =
    let before : History = told.last.0 in
    let e = entry old.number call.Snapshot answer.1 in
    let saw : new.seen ≡ before ++ e ∷ [] = told.last.1 in
    let legal : IsLegal s (before ++ e ∷ []) = subst (IsLegal s) saw told.legal in
    let number : answer.0 ≡ length before + 1 = told.number ∙ ap length saw ∙ length_push before e in
    let mine : entries_by old.number new.seen ≡ entries_by old.number before ++ e ∷ [] =
    ap (entries_by old.number) saw ∙ filter-append (λ x. x.who == old.number) before (e ∷ []) ∙ ap (λ (xs : History). entries_by old.number before ++ xs) (kept_head (λ x. x.who == old.number) e [] true (eq-eqb old.number old.number refl)) in
    record {
      before = before;
      reply = (legal before e [] refl).1 ∙ ap (λ (n : ℕ). reply.Taken (record { front = n; weeks = s.weeks; standing = standing before })) (sym number);
      saw = saw;
      goes_on = told.last.2;
      own = own_stand s old.number before (legal-front s before (e ∷ []) legal) ∙ ap standing (append_cancel_right (entries_by old.number before) old.mine (e ∷ []) (sym mine ∙ sym told.exact ∙ told.added));
    }
