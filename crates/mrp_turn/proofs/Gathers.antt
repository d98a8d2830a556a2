-- All seats in one place, and the take that then wins.
use Rattle.std.proofs.Common.{◌≡◌, ℕ, ◌≤◌, List, [], ◌∷◌, ◌++◌, sym, refl, ap, ◌∙◌, subst, arith, inl, inr, ⊎_elim, All}
use Rattle.mrp_turn.specs.declared.log.Entry.{Entry}
use Rattle.mrp_turn.specs.declared.log.Held.{Held}
use Rattle.mrp_turn.specs.declared.views.About.{About}
use Rattle.mrp_turn.specs.declared.views.Account.{Account}
use Rattle.mrp_turn.specs.declared.views.LiveSeat.{LiveSeat}
use Rattle.mrp_turn.specs.Lists.{Each, total, Has, StartsWith}
use Rattle.mrp_turn.specs.Log.{entries_by, AreFrom, LeadsTo}
use Rattle.mrp_turn.specs.Rule.{live, account, alone, is_named, IsTrueOf}
use Rattle.mrp_turn.specs.Steps.{joined, IsIdle, Lost, Taken}
use Rattle.mrp_turn.specs.Seen.{TurnId, Seated, HasNumber}
use Rattle.mrp_turn.specs.Calls.{StandsFor}
use Rattle.mrp_turn.proofs.Lists.{Each-map, Each-append, All-from_Each}
use Rattle.mrp_turn.proofs.Names.{is_named-self}
use Rattle.mrp_turn.proofs.Seats.{M}

module _ {A : Type 0} where
  pub Has-left : (xs ys : List A) (x : A) → Has xs x → Has (xs ++ ys) x
  Has-left [] ys x h = absurd h
  Has-left (z ∷ zs) ys x h = ⊎_elim inl (λ k. inr (Has-left zs ys x k)) h

  pub Has-right : (xs ys : List A) (x : A) → Has ys x → Has (xs ++ ys) x
  Has-right [] ys x h = h
  Has-right (z ∷ zs) ys x h = inr (Has-right zs ys x h)

  module _ (P : A → Type 0) where
    pub Each-right : (xs ys : List A) → Each P (xs ++ ys) → Each P ys
    Each-right [] ys h = h
    Each-right (x ∷ xs) ys h = Each-right xs ys h.1

    pub Each-left : (xs ys : List A) → Each P (xs ++ ys) → Each P xs
    Each-left [] ys h = tt
    Each-left (x ∷ xs) ys h = (h.0, Each-left xs ys h.1)

    pub Each-Has : (xs : List A) (x : A) → Each P xs → Has xs x → P x
    Each-Has [] x h k = absurd k
    Each-Has (y ∷ ys) x h k = ⊎_elim (λ (e : y ≡ x). subst P e h.0) (λ l. Each-Has ys x h.1 l) k

pub named : {C R : Type 0} (ps : List (Account C R)) (p : Account C R) (n : ℕ) → Has ps p → p.number ≡ n → 1 ≤ total (is_named n) ps
named [] p n h e = absurd h
named (q ∷ qs) p n h e = ⊎_elim
    (λ (s : q ≡ p). let one : is_named n q ≡ 1 = is_named-self q n (ap (λ x. x.number) s ∙ e) in omega (arith, one))
    (λ k. omega (arith, named qs p n k e)) h

module _ {O S C R : Type 0} where
  pub begins : (key : About O) (x : Seated O C R) (m : M O S C R) → m ≡ (live (alone x.turn.about (account x.number x.seen x.mine)), []) → 1 ≤ x.number → x.turn.about ≡ key → StandsFor key (x ∷ []) m
  begins key x m e one k = record { seat = alone x.turn.about (account x.number x.seen x.mine); is = e; rests = refl; about = k; numbered = one; all = (inl refl, tt) }

  pub gathers : (key key' : About O) (first x : Seated O C R) (done : List (Seated O C R)) (m n m' : M O S C R) → StandsFor key (first ∷ done) m → n ≡ (live (alone key' (account x.number x.seen x.mine)), [])
      → m' ≡ (joined m.0 n.0, m.1) → StandsFor key (first ∷ x ∷ done) m'
  gathers key key' first x done m n m' h e is = let s : LiveSeat O C R = h.seat in let own : Account C R = account x.number x.seen x.mine in let ps : List (Account C R) = s.own ∷ s.kept in
      let w : LiveSeat O C R = record s { kept = s.kept ++ own ∷ [] } in
      let more : (y : Seated O C R) → Has ps (account y.number y.seen y.mine) → Has (ps ++ own ∷ []) (account y.number y.seen y.mine) = λ y k. Has-left ps (own ∷ []) (account y.number y.seen y.mine) k in record {
        seat = w;
        is = is ∙ (λ i. (joined (h.is i).0 (e i).0, (h.is i).1));
        rests = h.rests;
        about = h.about;
        numbered = h.numbered;
        all = (more first h.all.0, (Has-right ps (own ∷ []) own (inl refl), Each-map (λ y. Has ps (account y.number y.seen y.mine)) (λ y. Has (ps ++ own ∷ []) (account y.number y.seen y.mine)) done more h.all.1));
      }

  -- such a seat is idle
  pub idles : (key : About O) (seats : List (Seated O C R)) (m : M O S C R) → StandsFor key seats m → IsIdle key m
  idles key seats m h = record { seat = h.seat; is = h.is; rests = h.rests; about = h.about; numbered = h.numbered }

module _ {O C R : Type 0} where
  -- the seat that was popped is of the turn that all seats are of
  pub moved : (turn : TurnId O) (all now done rest : List (Seated O C R)) (x : Seated O C R) → all ≡ now ++ done → now ≡ rest ++ x ∷ [] → Each (λ s. s.turn ≡ turn) all → x.turn ≡ turn
  moved turn all now done rest x e f h = (Each-right (λ s. s.turn ≡ turn) rest (x ∷ []) (subst (Each (λ s. s.turn ≡ turn)) f (Each-left (λ s. s.turn ≡ turn) now done (subst (Each (λ s. s.turn ≡ turn)) e h)))).0

  pub first_rest : (turn : TurnId O) (all rest : List (Seated O C R)) (x : Seated O C R) → all ≡ rest ++ x ∷ [] → Each (λ s. s.turn ≡ turn) all → (x.turn ≡ turn) × Each (λ s. s.turn ≡ turn) rest
  first_rest turn all rest x e h = let k = subst (Each (λ (s : Seated O C R). s.turn ≡ turn)) e h in ((Each-right (λ s. s.turn ≡ turn) rest (x ∷ []) k).0, Each-left (λ s. s.turn ≡ turn) rest (x ∷ []) k)

module _ {O C R : Type 0} where
  last_first : (rest : List (Seated O C R)) (first x : Seated O C R) → Has (rest ++ first ∷ []) x → Has (first ∷ rest) x
  last_first [] first x h = h
  last_first (y ∷ ys) first x h = ⊎_elim (λ e. inr (inl e)) (λ k. ⊎_elim inl (λ l. inr (inr l)) (last_first ys first x k)) h

-- what the contract of a close says
pub record Closed {O S C R : Type 0} (opens : S → Type 0) (answers : S → ℕ → C → R → S → Type 0) (count : ℕ) (seats : List (Seated O C R)) (log : List (Entry C R)) (state : S) : Type 0 where
  pub legal : LeadsTo answers opens log state
  pub seen : All (λ s. StartsWith log s.seen) seats
  pub mine : All (λ s. s.mine ≡ entries_by s.number log) seats
  pub in_range : All (λ e. (1 ≤ e.who) × (e.who ≤ count)) log
  pub callers : All (λ e. HasNumber seats e.who) log

module _ {O S C R : Type 0} (opens : O → S → Type 0) (answers : O → S → ℕ → C → R → S → Type 0) where
  -- the seat that keeps all seats cannot lose
  pub never_lost : (key : About O) (seats rest : List (Seated O C R)) (first : Seated O C R) (m n : M O S C R) → seats ≡ rest ++ first ∷ [] → StandsFor key (first ∷ rest) m
      → ((n : ℕ) → 1 ≤ n → n ≤ key.seats → (x : Seated O C R) × Has seats x × (x.number ≡ n)) → Lost opens answers m n → ⊥
  never_lost key seats rest first m n e h all lost = lost.1 h.seat h.is (λ k one most.
      let x = all k one (subst (λ (a : About O). k ≤ a.seats) h.about most) in
      let there : Has (first ∷ rest) x.0 = last_first rest first x.0 (subst (λ (l : List (Seated O C R)). Has l x.0) e x.1) in
      let kept : Has (h.seat.own ∷ h.seat.kept) (account x.0.number x.0.seen x.0.mine) = Each-Has (λ y. Has (h.seat.own ∷ h.seat.kept) (account y.number y.seen y.mine)) (first ∷ rest) x.0 h.all there in
      named (h.seat.own ∷ h.seat.kept) (account x.0.number x.0.seen x.0.mine) k kept x.2)

  -- what the contract of the take then says, of the log that is returned
  pub closes : (key : About O) (seats rest : List (Seated O C R)) (first : Seated O C R) (m n : M O S C R) (held : Held S C R) (log : List (Entry C R)) → seats ≡ rest ++ first ∷ [] → log ≡ held.log.items
      → StandsFor key (first ∷ rest) m → Taken opens answers m held n → ((n : ℕ) → 1 ≤ n → n ≤ key.seats → HasNumber seats n)
      → Closed (opens key.object) (answers key.object) key.seats seats log held.state
  closes key seats rest first m n held log shape same h taken all =
      let t = taken h.seat h.is in let found : List (Entry C R) = t.0 in let ps : List (Account C R) = h.seat.own ∷ h.seat.kept in
      let is : found ≡ log = sym t.2.log_is ∙ sym same in
      let each : Each (λ x. IsTrueOf found (account x.number x.seen x.mine)) (first ∷ rest) = Each-map (λ x. Has ps (account x.number x.seen x.mine)) (λ x. IsTrueOf found (account x.number x.seen x.mine)) (first ∷ rest) (λ x k. Each-Has (IsTrueOf found) ps (account x.number x.seen x.mine) t.2.seen k) h.all in
      let told : Each (λ x. IsTrueOf log (account x.number x.seen x.mine)) seats = subst (λ (x : List (Seated O C R) × List (Entry C R)). Each (λ y. IsTrueOf x.1 (account y.number y.seen y.mine)) x.0) (λ i. (sym shape i, is i)) (Each-append (λ x. IsTrueOf found (account x.number x.seen x.mine)) rest (first ∷ []) each.1 (each.0, tt)) in
      let from : AreFrom key.seats log = subst (λ (x : About O × List (Entry C R)). AreFrom x.0.seats x.1) (λ i. (h.about i, is i)) t.2.numbered in record {
        legal = subst (λ (x : About O × List (Entry C R)). LeadsTo (answers x.0.object) (opens x.0.object) x.1 held.state) (λ i. (h.about i, is i)) t.2.legal;
        seen = All-from_Each (λ x. StartsWith log x.seen) seats (Each-map (λ x. IsTrueOf log (account x.number x.seen x.mine)) (λ x. StartsWith log x.seen) seats (λ x k. k.0) told);
        mine = All-from_Each (λ x. x.mine ≡ entries_by x.number log) seats (Each-map (λ x. IsTrueOf log (account x.number x.seen x.mine)) (λ x. x.mine ≡ entries_by x.number log) seats (λ x k. k.1) told);
        in_range = All-from_Each (λ e. (1 ≤ e.who) × (e.who ≤ key.seats)) log from;
        callers = All-from_Each (λ e. HasNumber seats e.who) log (Each-map (λ e. (1 ≤ e.who) × (e.who ≤ key.seats)) (λ e. HasNumber seats e.who) log (λ e k. all e.who k.0 k.1) from);
      }
