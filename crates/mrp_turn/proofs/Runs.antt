-- One call, between a take and a give.
use Rattle.std.proofs.Common.{◌≡◌, ℕ, ◌≤◌, List, [], ◌∷◌, ◌++◌, length, Option, Result, Ok, Err, MatchResult, false, vec_capacity, sym, refl, ap, ◌∙◌, subst, arith, append-nil, eqb}
use Rattle.std.proofs.lemmas.List.Elements.{filter-append}
use Rattle.atomic_table.specs.Table.{Me}
use Rattle.mrp_turn.specs.declared.log.Entry.{Entry}
use Rattle.mrp_turn.specs.declared.log.Held.{Held}
use Rattle.mrp_turn.specs.declared.views.About.{About}
use Rattle.mrp_turn.specs.declared.views.LiveSeat.{LiveSeat}
use Rattle.mrp_turn.specs.declared.turn.CallFault.{CallFault}
use Rattle.mrp_turn.specs.declared.turn.CallFault.TheVariants.{NoMemory, Refused}
use Rattle.mrp_turn.specs.declared.views.View.{View}
use Rattle.mrp_turn.specs.declared.views.View.TheVariants.{Spent, Live}
use Rattle.mrp_turn.specs.Lists.{Each, StartsWith}
use Rattle.mrp_turn.specs.Log.{entry, entries_by, Leads, LeadsTo}
use Rattle.mrp_turn.specs.Rule.{live, account, alone, IsTrueOf}
use Rattle.mrp_turn.specs.Steps.{holding, given, Opens, MayGive}
use Rattle.mrp_turn.specs.Calls.{Explains, HasCause, Tells, IsAt}
use Rattle.mrp_turn.proofs.Lists.{starts_more, Each-map}
use Rattle.mrp_turn.proofs.Names.{own_all}

module _ {S C R : Type 0} (answers : S → ℕ → C → R → S → Type 0) where
  pub Leads-snoc : (s : S) (log : List (Entry C R)) (t : S) (e : Entry C R) (u : S) → Leads answers s log t → answers t e.who e.call e.reply u → Leads answers s (log ++ e ∷ []) u
  Leads-snoc s [] t e u h a = (u, subst (λ (x : S). answers x e.who e.call e.reply u) (sym h) a, refl)
  Leads-snoc s (x ∷ xs) t e u h a = (h.0, h.1, Leads-snoc h.0 xs t e u h.2 a)

module _ {O S C R E : Type 0} (opens : O → S → Type 0) (answers : O → S → ℕ → C → R → S → Type 0) (refuses out_of_memory : O → S → ℕ → C → E → Type 0) where
  -- what `answer` ensures
  abbrev pub Answered : O → ℕ → C → Held S C R → Result (ℕ × R) (CallFault E) → Held S C R → Type 0
  Answered o who call old result new = MatchResult result
      (λ r. (new.log.items ≡ old.log.items ++ entry who call r.1 ∷ []) × (r.0 ≡ length new.log.items) × answers o old.state who call r.1 new.state)
      (λ f. (new.log.items ≡ old.log.items) × (new.state ≡ old.state) × Explains (refuses o old.state who call) (out_of_memory o old.state who call) (vec_capacity old.log) (length old.log.items) f)

  -- the log is the one that was found, with or without the entry after it
  pub ends : (s : LiveSeat O C R) (call : C) (old : Held S C R) (log : List (Entry C R)) (new : Held S C R) (result : Result (ℕ × R) (CallFault E)) → Opens opens answers s old log → vec_capacity old.log ≤ vec_capacity new.log
      → Each (λ p. p.number ≡ 0) s.kept → Answered s.about.object s.own.number call old result new → MayGive opens answers (holding s log) new
  ends s call old log new (Ok r) o cap notes a =
      let e : Entry C R = entry s.own.number call r.1 in
      let grows : new.log.items ≡ log ++ e ∷ [] = a.0 ∙ ap (λ l. l ++ e ∷ []) o.log_is in
      record {
        holds = refl;
        added = e ∷ [];
        goes_on = grows;
        own = (refl, tt);
        notes = notes;
        legal = subst (λ (l : List (Entry C R)). LeadsTo (answers s.about.object) (opens s.about.object) l new.state) (sym grows) (o.legal.0, o.legal.1, Leads-snoc (answers s.about.object) o.legal.0 log old.state e new.state o.legal.2 a.2);
        room = omega (arith, o.room, cap);
      }
  ends s call old log new (Err f) o cap notes a =
      let same : new.log.items ≡ log = a.0 ∙ o.log_is in
      record {
        holds = refl;
        added = [];
        goes_on = same ∙ sym (append-nil log);
        own = tt;
        notes = notes;
        legal = subst (λ (x : List (Entry C R) × S). LeadsTo (answers s.about.object) (opens s.about.object) x.0 x.1) (λ i. (sym same i, sym a.1 i)) o.legal;
        room = omega (arith, o.room, cap);
      }

  pub starts_later : (log seen' seen : List (Entry C R)) (new : List (Entry C R)) → seen' ≡ log ++ new → StartsWith log seen → StartsWith seen' seen
  starts_later log seen' seen new e h = subst (λ (l : List (Entry C R)). StartsWith l seen) (sym e) (starts_more log new seen h)

  -- the cause that `answer` gives, seen from the log
  why : (s : LiveSeat O C R) (call : C) (old : Held S C R) (log : List (Entry C R)) (new : Held S C R) (f : CallFault E) → Opens opens answers s old log → new.log.items ≡ log
      → Explains (refuses s.about.object old.state s.own.number call) (out_of_memory s.about.object old.state s.own.number call) (vec_capacity old.log) (length old.log.items) f
      → HasCause (opens s.about.object) (answers s.about.object) (refuses s.about.object) (out_of_memory s.about.object) s.about.room s.own.number call new.log.items f
  why s call old log new NoMemory o same h = omega (arith, h, o.room, ap length o.log_is, ap length same)
  why s call old log new (Refused f) o same h =
      (old.state, subst (λ (l : List (Entry C R)). LeadsTo (answers s.about.object) (opens s.about.object) l old.state) (sym same) o.legal, h)

  -- what the call's contract says, of the log with or without its entry
  pub outcome : (s : LiveSeat O C R) (call : C) (old : Held S C R) (log : List (Entry C R)) (new : Held S C R) (result : Result (ℕ × R) (CallFault E)) → Opens opens answers s old log → vec_capacity old.log ≤ vec_capacity new.log
      → Each (λ p. p.number ≡ 0) s.kept → Answered s.about.object s.own.number call old result new
      → Tells (opens s.about.object) (answers s.about.object) (refuses s.about.object) (out_of_memory s.about.object) s.about.room s.own.number call s.own.seen s.own.mine result new.log.items (entries_by s.own.number new.log.items)
  outcome s call old log new (Ok r) o cap notes a = let e : Entry C R = entry s.own.number call r.1 in let n : ℕ = s.own.number in let grows : new.log.items ≡ log ++ e ∷ [] = a.0 ∙ ap (λ l. l ++ e ∷ []) o.log_is in
      let may = ends s call old log new (Ok r) o cap notes a in record {
        legal = (new.state, may.legal);
        goes_on = starts_later log new.log.items s.own.seen may.added may.goes_on o.seen.0.0;
        exact = refl;
        last = (log, grows, o.seen.0.0);
        number = a.1;
        added = ap (entries_by n) grows ∙ (filter-append (λ x. eqb x.who n) log (e ∷ []) ∙ (ap (λ l. l ++ entries_by n (e ∷ [])) (sym o.seen.0.1) ∙ ap (λ l. s.own.mine ++ l) (own_all (e ∷ []) n (refl, tt))));
        unchanged = tt;
        cause = tt;
      }
  outcome s call old log new (Err f) o cap notes a = let same : new.log.items ≡ log = a.0 ∙ o.log_is in
      let may = ends s call old log new (Err f) o cap notes a in record {
        legal = (new.state, may.legal);
        goes_on = starts_later log new.log.items s.own.seen may.added may.goes_on o.seen.0.0;
        exact = refl;
        last = tt;
        number = tt;
        added = tt;
        unchanged = ap (entries_by s.own.number) same ∙ sym o.seen.0.1;
        cause = why s call old log new f o same a.2;
      }

  -- what the call's contract says, once the value is given back
  pub tells : (s : LiveSeat O C R) (call : C) (old : Held S C R) (log : List (Entry C R)) (new : Held S C R) (result : Result (ℕ × R) (CallFault E)) → Opens opens answers s old log → vec_capacity old.log ≤ vec_capacity new.log
      → Each (λ p. p.number ≡ 0) s.kept → Answered s.about.object s.own.number call old result new
      → (n : Me (Option (Held S C R)) (View O C R)) → n ≡ (live (given (holding s log) new.log.items), [])
      → (seen : List (Entry C R)) × (mine : List (Entry C R)) × (n ≡ (live (alone s.about (account s.own.number seen mine)), []))
      × Tells (opens s.about.object) (answers s.about.object) (refuses s.about.object) (out_of_memory s.about.object) s.about.room s.own.number call s.own.seen s.own.mine result seen mine × Each (λ p. StartsWith seen p.seen) s.kept
  tells s call old log new result o cap notes a n is = let may = ends s call old log new result o cap notes a in (
    new.log.items,
    entries_by s.own.number new.log.items,
    is,
    outcome s call old log new result o cap notes a,
    Each-map (IsTrueOf log) (λ p. StartsWith new.log.items p.seen) s.kept (λ p f. starts_later log new.log.items p.seen may.added may.goes_on f.0) o.seen.1,
  )

module _ {O C R : Type 0} where
  abbrev pub seat_of : LiveSeat O C R → View O C R → LiveSeat O C R
  seat_of d Spent = d
  seat_of d (Live s) = s

  abbrev pub IsIdleAt : About O → ℕ → LiveSeat O C R → Type 0
  IsIdleAt key n s = (s.holds ≡ false) × (s.about ≡ key) × (s.own.number ≡ n) × Each (λ p. p.number ≡ 0) s.kept

module _ {O S C R : Type 0} where
  pub is_at : (key : About O) (n : ℕ) (m : Me (Option (Held S C R)) (View O C R)) → IsAt key n m → (s : LiveSeat O C R) → m ≡ (live s, []) → IsIdleAt key n s
  is_at key n m at s e = subst (IsIdleAt key n) (ap (λ (x : Me (Option (Held S C R)) (View O C R)). seat_of s x.0) (sym at.is ∙ e)) (at.rests, at.about, at.number, at.notes)
