-- Each step keeps the rule.
use Rattle.std.proofs.Common.{◌≡◌, ◌≢◌, ℕ, ◌+◌, ◌<◌, ◌≤◌, ◌⊎◌, true, false, List, [], ◌∷◌, ◌++◌, get_or, set, max, sym, refl, ap, ◌∙◌, subst, ⊎_elim, inl, inr, arith, Option, Some, length-set, get_or-set_same, vec_capacity, true≢false}
use mathlib.Core.Logic.{dite}
use mathlib.Core.Option.{none, some, some-injective}
use native.Mathlib.Decide.{ℕ_discrete, dec_le}
use Rattle.std.proofs.lemmas.Bool.{false_from_ne_true}
use lib.ListN.{get_elem?}
use lib.Seq.{set-get_or}
use Rattle.atomic_table.specs.Table.{State, step, keeps, takes, gives, Allows, Splits, Joins, opening}
use Rattle.atomic_table.proofs.Lists.{at_set, set_here, set_else, set_again, at_snoc, at_longer}
use Rattle.mrp_turn.specs.declared.log.Entry.{Entry}
use Rattle.mrp_turn.specs.declared.log.Held.{Held}
use Rattle.mrp_turn.specs.declared.views.About.{About}
use Rattle.mrp_turn.specs.declared.views.Account.{Account}
use Rattle.mrp_turn.specs.declared.views.LiveSeat.{LiveSeat}
use Rattle.mrp_turn.specs.declared.views.View.{View}
use Rattle.mrp_turn.specs.declared.views.View.TheVariants.{Spent, Live}
use Rattle.mrp_turn.specs.Lists.{Each, total}
use Rattle.mrp_turn.specs.Log.{AreFrom, LeadsTo}
use Rattle.mrp_turn.specs.Rule.{live, account, blanks, is_named, names, is_holder, seen_of, IsTrueOf, Knows, starting, Free, Busy, FollowsRule}
use Rattle.mrp_turn.specs.Steps.{holding, given, behind_first, first_seat, cut_left, cut_right, noted, joined, took, gave, looked}
use Rattle.mrp_turn.proofs.Lists.{stays, only, inside, starts_all, Each-append, Each-map, total-append, total-set, term_le, terms_le}
use Rattle.mrp_turn.proofs.Names.{is_named-self, apart, unnamed, notes_unnamed, blanks_above, blanks_once, blanks_true, note_none, all_true_more}

module _ {O S C R : Type 0} (opens : O → S → Type 0) (answers : O → S → ℕ → C → R → S → Type 0) where
  abbrev V : Type 0
  V = View O C R

  abbrev Home : Type 0
  Home = Option (Held S C R)

  abbrev St : Type 0
  St = State Home V

  abbrev Rule : About O → St → Type 0
  Rule = FollowsRule opens answers

  abbrev number_of : V → ℕ
  number_of Spent = 0
  number_of (Live s) = s.own.number

  le_or_lt : (m n : ℕ) → (m ≤ n) ⊎ (n < m)
  le_or_lt m n = dite (dec_le m n) inl (λ h. inr (omega (arith, h)))

  knows_more : (key : About O) (log new : List (Entry C R)) (n : ℕ) (v : V) → Each (λ e. e.who ≡ n) new → names n v ≡ 0 → Knows key log v → Knows key (log ++ new) v
  knows_more key log new n Spent h z k = tt
  knows_more key log new n (Live s) h z k = (k.0, all_true_more log new n (s.own ∷ s.kept) h z k.1)

  pub starts : (key : About O) (held : Held S C R) → opens key.object held.state → held.log.items ≡ [] → key.room ≤ vec_capacity held.log
      → Rule key (opening (0 ∷ []) (Some held ∷ []) (starting key))
  starts key held opened empty room = let gap : (n : ℕ) → 1 ≤ n → is_named n (account {C = C} {R = R} 0 [] []) ≡ 0 = unnamed {C = C} {R = R} [] [] in record {
    log = [];
    state = held.state;
    legal = (held.state, opened, refl);
    numbered = tt;
    one_word = refl;
    knows = only (Knows key []) (starting key) (refl, ((([], refl), refl), blanks_true C R 1 key.seats));
    once = λ n l u. let t : total (is_named n) (blanks {C = C} {R = R} 1 key.seats) ≡ 1 = blanks_once C R 1 key.seats n l (omega arith) in omega (arith, t, gap n l);
    no_more = λ n l. let t : total (is_named n) (blanks {C = C} {R = R} 1 key.seats) ≡ 0 = blanks_above C R 1 key.seats n (omega arith) in omega (arith, t, gap n (omega arith));
    word = inl (
      refl,
      record {
        held = held;
        at_home = refl;
        stores = record { log_is = empty; state_is = refl; room = room };
        idle = only (λ (v : V). is_holder v ≡ false) (starting key) refl;
      },
    );
  }

  holder_is : (st : St) (log : List (Entry C R)) (id : ℕ) (s : LiveSeat O C R) → s.holds ≡ true → get_elem? st.views id ≡ some (live s) → (b : Busy log st) → (id ≡ b.holder) × (live s ≡ live b.seat)
  holder_is st log id s h at b = let same : id ≡ b.holder = b.no_other id (live s) at h in (same, some-injective (live s) (live b.seat) (sym at ∙ (ap (λ j. get_elem? st.views j) same ∙ b.there)))

  not_here : (st : St) (log : List (Entry C R)) (id : ℕ) (v : V) → is_holder v ≡ false → get_elem? st.views id ≡ some v → (b : Busy log st) → b.holder ≢ id
  not_here st log id v idle at b e = let there : get_elem? st.views id ≡ some (live b.seat) = ap (λ j. get_elem? st.views j) (sym e) ∙ b.there in
      true≢false (sym b.holds ∙ (ap is_holder (some-injective (live b.seat) v (sym there ∙ at)) ∙ idle))

  -- the slot stays at home if the views change and no seat holds it
  still_free : (st : St) (views : List V) {key : About O} {log : List (Entry C R)} {state : S} → (free : Free key log state st) → ((j : ℕ) (v : V) → get_elem? views j ≡ some v → is_holder v ≡ false)
      → Free key log state (record { words = st.words; homes = st.homes; views = views })
  still_free st views free idle = record { held = free.held; at_home = free.at_home; stores = free.stores; idle = idle }

  -- the views alone determine who holds the slot
  still_busy : (st : St) (words : List ℕ) {log : List (Entry C R)} → (b : Busy log st) → Busy log (record { words = words; homes = st.homes; views = st.views })
  still_busy st words b = record { holder = b.holder; seat = b.seat; there = b.there; holds = b.holds; seen = b.seen; numbered = b.numbered; no_other = b.no_other }

  first_idle : (a : About O) (ps : List (Account C R)) → is_holder (first_seat a ps) ≡ false
  first_idle a [] = refl
  first_idle a (p ∷ ps) = refl

  first_names : (n : ℕ) (a : About O) (ps : List (Account C R)) → total (is_named n) (behind_first ps) + names n (first_seat a ps) ≡ total (is_named n) ps
  first_names n a [] = refl
  first_names n a (p ∷ ps) = omega arith

  first_knows : (key : About O) (log : List (Entry C R)) (a : About O) (ps : List (Account C R)) → a ≡ key → Each (IsTrueOf log) ps → Each (IsTrueOf log) (behind_first ps) × Knows key log (first_seat a ps)
  first_knows key log a [] e h = (tt, tt)
  first_knows key log a (p ∷ ps) e h = (h.1, (e, (h.0, tt)))

  -- The seat takes the slot if the word is 0. The word becomes at least k
  pub wins : (key : About O) (slots id k : ℕ) (s : LiveSeat O C R) (c : List (ℕ × Home)) → 1 ≤ k → s.holds ≡ false → 1 ≤ s.own.number
      → Allows (Rule key) slots id (live s, c) 0 (λ n. max n k) (took opens answers (step slots 0 k 0 none) (live s, c))
  wins key slots id k s c some_mark idle numbered st r wide at small =
      let known : Knows key r.log (live s) = r.knows id (live s) at in
      let about = known.0 in
      let was : ℕ = get_or st.words 0 0 in
      let now : ℕ = max was k in
      let marked : get_or (set st.words 0 now) 0 0 ≡ now = get_or-set_same st.words 0 now 0 (omega (arith, r.one_word)) in
      let is_marked : get_or (set st.words 0 now) 0 0 ≢ 0 = λ (e : get_or (set st.words 0 now) 0 0 ≡ 0). absurd (omega (arith, marked, e, some_mark)) in
      ⊎_elim
      (λ free. let held : Held S C R = free.1.held in let stores = free.1.stores in let w : V = live (holding s r.log) in (
        w,
        takes 0 (Some held),
        free.1.at_home,
        record {
          log = r.log;
          state = r.state;
          legal = r.legal;
          numbered = r.numbered;
          one_word = length-set st.words 0 now ∙ r.one_word;
          knows = stays (Knows key r.log) st.views id w (about, ((starts_all r.log, known.1.0.1), known.1.1)) (λ j v _. r.knows j v);
          once = λ n l u. omega (arith, total-set (names n) st.views id (live s) w at, r.once n l u);
          no_more = λ n l. omega (arith, total-set (names n) st.views id (live s) w at, r.no_more n l);
          word = inr (
            is_marked,
            record {
              holder = id;
              seat = holding s r.log;
              there = set_here st.views id w (inside st.views id (live s) at);
              holds = refl;
              seen = refl;
              numbered = numbered;
              no_other = λ j v e h. ⊎_elim (λ (t : (j ≡ id) × (w ≡ v)). t.0) (λ (t : (j ≢ id) × (get_elem? st.views j ≡ some v)). absurd (true≢false (sym h ∙ free.1.idle j v t.1))) (at_set st.views id j w v e);
            },
          );
        },
        (
          (λ _. (
            held,
            r.log,
            refl,
            record {
              log_is = stores.log_is;
              legal = subst (λ (x : S). LeadsTo (answers s.about.object) (opens s.about.object) r.log x) (sym stores.state_is) (subst (λ (k : About O). LeadsTo (answers k.object) (opens k.object) r.log r.state) (sym about) r.legal);
              room = subst (λ (k : About O). k.room ≤ vec_capacity held.log) (sym about) stores.room;
              numbered = subst (λ (k : About O). AreFrom k.seats r.log) (sym about) r.numbered;
              seen = known.1;
            },
          )),
          λ ne. absurd (ne free.0),
        ),
      ))
      (λ busy. let b : Busy r.log st = busy.1 in let full : was ≢ 0 = busy.0 in (
        live s,
        keeps,
        tt,
        subst (λ (vs : List V). Rule key record { words = set st.words 0 now; homes = st.homes; views = vs }) (sym (set_again st.views id (live s) at)) (record {
          log = r.log;
          state = r.state;
          legal = r.legal;
          numbered = r.numbered;
          one_word = length-set st.words 0 now ∙ r.one_word;
          knows = r.knows;
          once = r.once;
          no_more = r.no_more;
          word = inr (is_marked, still_busy st (set st.words 0 now) b);
        }),
        (
          (λ z. absurd (full z)),
          λ _. (
            refl,
            λ covers. dite (ℕ_discrete b.holder id)
                (λ same. let there : get_elem? st.views id ≡ some (live b.seat) = ap (λ j. get_elem? st.views j) (sym same) ∙ b.there in
                let e : live s ≡ live b.seat = some-injective (live s) (live b.seat) (sym at ∙ there) in
                true≢false (sym b.holds ∙ (ap is_holder (sym e) ∙ idle)))
                (λ other. let n : ℕ = b.seat.own.number in
                let theirs : is_named n b.seat.own ≡ 1 = is_named-self b.seat.own n refl in
                let both : names n (live s) + names n (live b.seat) ≤ total (names n) st.views = terms_le (names n) st.views id b.holder (live s) (live b.seat) other at b.there in
                let one_of : 1 ≤ n = b.numbered in
                let rest : ℕ = total (is_named n) b.seat.kept in
                let split : names n (live b.seat) ≡ is_named n b.seat.own + rest = refl in
                dite (dec_le n key.seats)
                (λ few. let mine : 1 ≤ names n (live s) = covers n one_of (subst (λ (k : About O). n ≤ k.seats) (sym about) few) in absurd (omega (arith, theirs, both, mine, r.once n one_of few)))
                (λ many. absurd (omega (arith, theirs, both, r.no_more n (omega (arith, many)))))),
          ),
        ),
      ))
      r.word

  -- The holder gives the slot back, with a log that continues what it has seen by entries of its own
  pub yields : (key : About O) (id : ℕ) (s : LiveSeat O C R) (held : Held S C R) (new : List (Entry C R)) → s.holds ≡ true → held.log.items ≡ s.own.seen ++ new
      → Each (λ e. e.who ≡ s.own.number) new → Each (λ p. p.number ≡ 0) s.kept → LeadsTo (answers s.about.object) (opens s.about.object) held.log.items held.state → s.about.room ≤ vec_capacity held.log
      → Allows (Rule key) 1 id (live s, (0, Some held) ∷ []) 0 (λ _. 0) (gave (step 1 0 0 0 none) (live s, (0, Some held) ∷ []))
  yields key id s held new holds grows ours notes legal room st r wide at small =
      let known : Knows key r.log (live s) = r.knows id (live s) at in
      let about = known.0 in
      let n : ℕ = s.own.number in
      let log : List (Entry C R) = held.log.items in
      let b : Busy r.log st = ⊎_elim (λ free. absurd (true≢false (sym holds ∙ free.1.idle id (live s) at))) (λ busy. busy.1) r.word in
      let h = holder_is st r.log id s holds at b in
      let seen : s.own.seen ≡ r.log = ap seen_of h.1 ∙ b.seen in
      let from_one : 1 ≤ n = subst (λ (v : V). 1 ≤ number_of v) (sym h.1) b.numbered in
      let log_is : r.log ++ new ≡ log = sym (grows ∙ ap (λ x. x ++ new) seen) in
      let own : is_named n s.own ≡ 1 = is_named-self s.own n refl in
      let w : V = live (given s log) in
      let at_most : n ≤ key.seats = ⊎_elim (λ y. y) (λ (l : key.seats < n). absurd (omega (arith, own, term_le (names n) st.views id (live s) at, r.no_more n l))) (le_or_lt n key.seats) in
      let same_names : (m : ℕ) → 1 ≤ m → names m w ≡ names m (live s) = λ m l. omega (arith, notes_unnamed s.kept m l notes) in (
        w,
        gives,
        tt,
        record {
          log = log;
          state = held.state;
          legal = subst (λ (k : About O). LeadsTo (answers k.object) (opens k.object) log held.state) about legal;
          numbered = subst (AreFrom key.seats) log_is (Each-append (λ e. (1 ≤ e.who) × (e.who ≤ key.seats)) r.log new r.numbered
              (Each-map (λ e. e.who ≡ n) (λ e. (1 ≤ e.who) × (e.who ≤ key.seats)) new (λ e is. (omega arith, omega arith)) ours));
          one_word = length-set st.words 0 0 ∙ r.one_word;
          knows = stays (Knows key log) st.views id w (about, ((starts_all log, refl), tt))
              (λ j v ne e. subst (λ x. Knows key x v) log_is (knows_more key r.log new n v ours
              (omega (arith, own, terms_le (names n) st.views id j (live s) v ne at e, r.once n from_one at_most)) (r.knows j v e)));
          once = λ m l u. omega (arith, total-set (names m) st.views id (live s) w at, r.once m l u, same_names m l);
          no_more = λ m l. omega (arith, total-set (names m) st.views id (live s) w at, r.no_more m l, same_names m (omega arith));
          word = inl (
            get_or-set_same st.words 0 0 0 (omega (arith, r.one_word)),
            record {
              held = held;
              at_home = set_here st.homes 0 (some (Some held)) (omega arith);
              stores = record { log_is = refl; state_is = refl; room = subst (λ (k : About O). k.room ≤ vec_capacity held.log) about room };
              idle = stays (λ (v : V). is_holder v ≡ false) st.views id w refl (λ j v ne e. false_from_ne_true (is_holder v) (λ t. ne (b.no_other j v e t ∙ sym h.0)));
            },
          );
        },
        refl,
      )

  -- A view is split in two, and neither part holds the slot
  cuts : (key : About O) (id : ℕ) (v left right : V) → is_holder v ≡ false → is_holder left ≡ false → is_holder right ≡ false
      → ((n : ℕ) → 1 ≤ n → names n left + names n right ≡ names n v)
      → ((log : List (Entry C R)) → AreFrom key.seats log → Knows key log v → Knows key log left × Knows key log right)
      → Splits (Rule key) id v left right
  cuts key id v left right idle idle_left idle_right sums both st r at =
      let vs : List V = set st.views id left in
      let new : List V = vs ++ right ∷ [] in
      let counts : (n : ℕ) → 1 ≤ n → total (names n) new ≡ total (names n) st.views = λ n l.
      omega (arith, total-append (names n) vs (right ∷ []), total-set (names n) st.views id v left at, sums n l) in
      let each : (K : V → Type 0) → K left → K right → ((j : ℕ) (x : V) → get_elem? st.views j ≡ some x → K x) → (j : ℕ) (x : V) → get_elem? new j ≡ some x → K x = λ K a b k j x e.
      ⊎_elim (λ (t : get_elem? vs j ≡ some x). stays K st.views id left a (λ i y _. k i y) j x t) (λ (t : right ≡ x). subst K t b) (at_snoc vs right x j e) in
      record {
        log = r.log;
        state = r.state;
        legal = r.legal;
        numbered = r.numbered;
        one_word = r.one_word;
        knows = let both_know = both r.log r.numbered (r.knows id v at) in each (Knows key r.log) both_know.0 both_know.1 r.knows;
        once = λ n l u. counts n l ∙ r.once n l u;
        no_more = λ n l. counts n (omega arith) ∙ r.no_more n l;
        word = ⊎_elim
            (λ free. inl (free.0, still_free st new free.1 (each (λ x. is_holder x ≡ false) idle_left idle_right free.1.idle)))
            (λ busy. let b : Busy r.log st = busy.1 in let other : b.holder ≢ id = not_here st r.log id v idle at b in
            inr (
              busy.0,
              record {
                holder = b.holder;
                seat = b.seat;
                there = at_longer vs (right ∷ []) b.holder (live b.seat) (set_else st.views id b.holder left other ∙ b.there);
                holds = b.holds;
                seen = b.seen;
                numbered = b.numbered;
                no_other = λ j x e h. ⊎_elim
                    (λ (t : get_elem? vs j ≡ some x). ⊎_elim (λ (u : (j ≡ id) × (left ≡ x)). absurd (true≢false (sym h ∙ (ap is_holder (sym u.1) ∙ idle_left))))
                    (λ (u : (j ≢ id) × (get_elem? st.views j ≡ some x)). b.no_other j x u.1 h) (at_set st.views id j left x t))
                    (λ (t : right ≡ x). absurd (true≢false (sym h ∙ (ap is_holder (sym t) ∙ idle_right)))) (at_snoc vs right x j e);
              },
            ))
            r.word;
      }

  pub splits : (key : About O) (id : ℕ) (s : LiveSeat O C R) → s.holds ≡ false → Splits (Rule key) id (live s) (cut_left (live s)) (cut_right (live s))
  splits key id s idle = cuts key id (live s) (cut_left (live s)) (cut_right (live s)) idle idle (first_idle s.about s.kept)
      (λ n l. omega (arith, first_names n s.about s.kept))
      (λ log _ k. ((k.0, (k.1.0, (first_knows key log s.about s.kept k.0 k.1.1).0)), (first_knows key log s.about s.kept k.0 k.1.1).1))

  pub notes : (key : About O) (id : ℕ) (s : LiveSeat O C R) → s.holds ≡ false → Splits (Rule key) id (live s) (live s) (noted (live s))
  notes key id s idle = cuts key id (live s) (live s) (noted (live s)) idle idle refl
      (λ n l. omega (arith, unnamed s.own.seen [] n l))
      (λ log from k. (k, (k.0, ((k.1.0.0, sym (note_none log key.seats from)), tt))))

  -- One seat joins another to itself, and neither holds the slot
  pub joins : (key : About O) (id other : ℕ) (s t : LiveSeat O C R) → s.holds ≡ false → t.holds ≡ false → Joins (Rule key) id (live s) other (live t) (joined (live s) (live t)) Spent
  joins key id other s t idle idle_other st r at apart there =
      let both : V = joined (live s) (live t) in
      let vs : List V = set st.views id both in
      let new : List V = set vs other Spent in
      let was : get_elem? st.views other ≡ some (live t) = sym (set_else st.views id other both apart) ∙ there in
      let counts : (n : ℕ) → total (names n) new ≡ total (names n) st.views = λ n.
      omega (arith, total-set (names n) vs other (live t) Spent there, total-set (names n) st.views id (live s) both at, total-append (is_named n) s.kept (t.own ∷ t.kept)) in
      let each : (K : V → Type 0) → K both → K Spent → ((j : ℕ) (x : V) → get_elem? st.views j ≡ some x → K x) → (j : ℕ) (x : V) → get_elem? new j ≡ some x → K x = λ K a b k.
      stays K vs other Spent b (λ i y _. stays K st.views id both a (λ i y _. k i y) i y) in
      let ours : Knows key r.log (live s) = r.knows id (live s) at in
      let theirs : Knows key r.log (live t) = r.knows other (live t) was in
      record {
        log = r.log;
        state = r.state;
        legal = r.legal;
        numbered = r.numbered;
        one_word = r.one_word;
        knows = each (Knows key r.log) (ours.0, (ours.1.0, Each-append (IsTrueOf r.log) s.kept (t.own ∷ t.kept) ours.1.1 theirs.1)) tt r.knows;
        once = λ n l u. counts n ∙ r.once n l u;
        no_more = λ n l. counts n ∙ r.no_more n l;
        word = ⊎_elim
            (λ free. inl (free.0, still_free st new free.1 (each (λ x. is_holder x ≡ false) idle refl free.1.idle)))
            (λ busy. let b : Busy r.log st = busy.1 in
            let here : b.holder ≢ id = not_here st r.log id (live s) idle at b in
            let away : b.holder ≢ other = not_here st r.log other (live t) idle_other was b in
            inr (
              busy.0,
              record {
                holder = b.holder;
                seat = b.seat;
                there = set_else vs other b.holder Spent away ∙ (set_else st.views id b.holder both here ∙ b.there);
                holds = b.holds;
                seen = b.seen;
                numbered = b.numbered;
                no_other = λ j x e h. ⊎_elim (λ (u : (j ≡ other) × (Spent ≡ x)). absurd (true≢false (sym h ∙ ap is_holder (sym u.1))))
                    (λ (u : (j ≢ other) × (get_elem? vs j ≡ some x)). ⊎_elim (λ (q : (j ≡ id) × (both ≡ x)). absurd (true≢false (sym h ∙ (ap is_holder (sym q.1) ∙ idle))))
                    (λ (q : (j ≢ id) × (get_elem? st.views j ≡ some x)). b.no_other j x q.1 h) (at_set st.views id j both x u.1)) (at_set vs other j Spent x e);
              },
            ))
            r.word;
      }

  -- A load, after which a seat knows that its view meets the rule
  pub looks : (key : About O) (slots id : ℕ) (s : LiveSeat O C R) (c : List (ℕ × Home)) → Allows (Rule key) slots id (live s, c) 0 (λ n. n) (looked opens answers (step slots 0 0 0 none) (live s, c))
  looks key slots id s c st r wide at small = let known : Knows key r.log (live s) = r.knows id (live s) at in (
    live s,
    keeps,
    tt,
    subst (λ (x : List ℕ × List V). Rule key record { words = x.0; homes = st.homes; views = x.1 }) (λ i. (sym (set-get_or st.words 0 0) i, sym (set_again st.views id (live s) at) i)) r,
    (refl, (r.log, (r.state, subst (λ (k : About O). LeadsTo (answers k.object) (opens k.object) r.log r.state) (sym known.0) r.legal), subst (λ (k : About O). AreFrom k.seats r.log) (sym known.0) r.numbered, known.1)),
  )
