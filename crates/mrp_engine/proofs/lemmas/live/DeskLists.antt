-- The desks of an office, before and after their calls.
use Rattle.std.proofs.Common.{◌≡◌, ◌∙◌, ◌≢◌, ℕ, ◌+◌, ◌-◌, ◌<◌, ◌≤◌, ◌==◌, ◌++◌, Bool, cond, List, [], ◌∷◌, Some, OnErr, OnOk, IfErr, IfOk, IsOk, Result, Vec, Ok, Err, drop, get_or, length, map, set, take, ap, arith, inl, inr, refl, subst, sym, slice_get}
use Rattle.std.specs.Prelude.{All, Any}
use Rattle.std.specs.declared.alloc.Global.{Global}
use Rattle.std.proofs.lemmas.Bool.{cases_lt, ne_eqb}
use Rattle.std.proofs.lemmas.List.{append-nil, drop_all, get_or-map, get_or_default, get_or-set_other, get_or-set_same, length-append, length-map, length-set, take_all}
use Rattle.std.proofs.lemmas.List.Elements.{filter-append}
use Rattle.mrp_bill.specs.Shop.{Shop}
use Rattle.mrp_turn.specs.Seen.{TurnId, newcomer}
use Rattle.mrp_turn.proofs.Callers.{read_at}
use Rattle.mrp_master.specs.Supply.{Supply}
use Rattle.mrp_book.specs.declared.call.Call.{Call}
use Rattle.mrp_book.specs.declared.call.Call.TheVariants as call
use Rattle.mrp_book.specs.declared.refused.Refused.{Refused}
use Rattle.mrp_book.specs.declared.refused.Refused.TheVariants.{Full}
use Rattle.mrp_book.specs.History.{IsFull, asked}
use Rattle.mrp_book.specs.declared.reply.Reply.{Reply}
use Rattle.mrp_desk.specs.Calls.{HasCause, Tells}
use Rattle.mrp_desk.specs.Offices.{Desk}
use Rattle.mrp_engine.specs.declared.live.desks.AllServed.{AllServed}
use Rattle.mrp_engine.specs.declared.live.serving.Served.{Served}
use Rattle.mrp_engine.specs.live.Desks.{AreDesksOf, EndAs, HasServed, HaveServed, IsRefusedOne}
use Rattle.mrp_engine.specs.live.DeskCalls.{AreCallsOf, asks, calls_at}
use Rattle.mrp_engine.specs.day.RightDay.{asked_by}
use Rattle.mrp_script.specs.Script.{Script}
use Rattle.mrp_engine.proofs.lemmas.live.DeskRecords.{MakesCall, ended, entries-of, made}
use Rattle.mrp_engine.proofs.lemmas.live.Duties.{some-of}
use Rattle.mrp_engine.proofs.lemmas.live.Parting.{End}

-- a list that was lent is the one that was given back
pub lent-back : {X : Type 0} (len : ℕ) (old new : List X) → length new ≡ length old → len ≡ length old → take len (new ++ drop (length new) old) ≡ new
lent-back {X} len old new same all =
    ap (λ (rest : List X). take len (new ++ rest)) (drop_all (length new) old (omega (arith, same))) ∙ ap (take len) (append-nil new) ∙ take_all len new (omega (arith, same, all))

-- desks that were just made
pub new-desks : (office : TurnId Shop) (desks : List Desk) (n : ℕ) → office.about.seats ≡ n → length desks ≡ n
    → ((k : ℕ) → k < n → slice_get desks k ≡ Some (newcomer office (k + 1))) → AreDesksOf office desks × All (λ d. d.mine ≡ []) desks
new-desks office desks n seats count each =
    let at : (k : ℕ) (d : Desk) → k < length desks → get_or desks k d ≡ newcomer office (k + 1) = λ k d within. read_at desks k (newcomer office (k + 1)) d (each k (omega (arith, count, within))) in (
      record {
        of_office = λ k d within. ap (λ (s : Desk). s.turn) (at k d within);
        count = omega (arith, count, seats);
        numbers = λ k d within. ap (λ (s : Desk). s.number) (at k d within);
      },
      λ k d within. ap (λ (s : Desk). s.mine) (at k d within),
    )

-- a desk has made the calls of its records, or was refused one of them
pub record HasFollowed (records : Script) (old : Desk) (end : End) (new : Desk) : Type 0 where
  pub office : new.turn ≡ old.turn
  pub desk : new.number ≡ old.number
  pub served : OnOk end (asked new.mine ≡ asked old.mine ++ asked_by old.number records)
  pub few : length new.mine ≤ length old.mine + length (asked_by old.number records)
  pub full : end ≡ Err Full → IsFull new.seen

-- the calls of a desk's list are those of its records
pub followed : (s : Supply) (records : Script) (lists : List (Vec Call Global)) (old new : Desk) (end : End) → AreCallsOf records lists → 1 ≤ old.number
    → HasServed s (calls_at lists (old.number - 1)) old end new → HasFollowed records old end new
followed s records lists old new end are some has = record {
  office = has.office;
  desk = has.desk;
  served = made end has.served;
  few = fewer end has.served has.refused;
  full = λ is. (subst (λ (r : End). IfErr r (IsRefusedOne s calls old new)) is has.refused).cause;
}
  where
    calls : List Call
    calls = calls_at lists (old.number - 1)

    same : asks old.number calls ≡ asked_by old.number records
    same =
        let number : old.number - 1 + 1 ≡ old.number = omega (arith, some) in
        subst (λ (n : ℕ). asks n calls ≡ asked_by n records) number (are.each (old.number - 1))

    many : length (asked_by old.number records) ≡ length calls
    many = ap (length {A = ℕ × Call}) (sym same) ∙ length-map {B = ℕ × Call} calls (λ c. (old.number, c))

    made : (r : End) → OnOk r (asked new.mine ≡ asked old.mine ++ asks old.number calls) → OnOk r (asked new.mine ≡ asked old.mine ++ asked_by old.number records)
    made (Ok u) is = is ∙ ap (λ (xs : Script). asked old.mine ++ xs) same
    made (Err e) is = tt

    fewer : (r : End) → OnOk r (asked new.mine ≡ asked old.mine ++ asks old.number calls) → IfErr r (IsRefusedOne s calls old new)
        → length new.mine ≤ length old.mine + length (asked_by old.number records)
    fewer (Ok u) is refused = let counts = entries-of new.mine old.mine (asks old.number calls) is in let long = length-map {B = ℕ × Call} calls (λ c. (old.number, c)) in omega (arith, counts, long, many)
    fewer (Err e) is refused =
        let counts = entries-of new.mine old.mine (asks old.number refused.done) refused.made in
        let long = length-map {B = ℕ × Call} refused.done (λ c. (old.number, c)) in
        let whole = ap (length {A = Call}) refused.place ∙ length-append refused.done (refused.call ∷ refused.left) in
        omega (arith, counts, long, whole, many)

-- the same of desks that are numbered from 1
pub followed-each : (office : TurnId Shop) (s : Supply) (records : Script) (lists : List (Vec Call Global)) (desks : List Desk) (all : List Served) → AreDesksOf office desks → AreCallsOf records lists
    → ((k : ℕ) (d : Desk) (x : Served) → k < length desks → HasServed s (calls_at lists ((get_or desks k d).number - 1)) (get_or desks k d) (get_or all k x).end (get_or all k x).desk)
    → (k : ℕ) (d : Desk) (x : Served) → k < length desks → HasFollowed records (get_or desks k d) (get_or all k x).end (get_or all k x).desk
followed-each office s records lists desks all are calls each k d x within =
    let number = are.numbers k d within in
    followed s records lists (get_or desks k d) (get_or all k x).desk (get_or all k x).end calls (omega (arith, number)) (each k d x within)

module _ (office : TurnId Shop) (records : Script) (desks now : List Desk) (all : List Served) (are : AreDesksOf office desks) (new : All (λ d. d.mine ≡ []) desks) (count : length all ≡ length desks)
    (each : (k : ℕ) (d : Desk) (s : Served) → k < length desks → HasFollowed records (get_or desks k d) (get_or all k s).end (get_or all k s).desk) (parted : now ≡ map (λ (s : Served). s.desk) all) where
  long : length now ≡ length desks
  long = ap (length {A = Desk}) parted ∙ length-map {B = Desk} all (λ s. s.desk) ∙ count

  any : (k : ℕ) (d : Desk) → k < length now → Served
  any k d within = some-of all k (omega (arith, within, long, count))

  -- a desk that has made its calls
  abbrev at : (k : ℕ) (d : Desk) → k < length now → Served
  at k d within = get_or all k (any k d within)

  is-at : (k : ℕ) (d : Desk) (within : k < length now) → get_or now k d ≡ (at k d within).desk
  is-at k d within = ap (λ (ds : List Desk). get_or ds k d) parted ∙ get_or-map (λ (s : Served). s.desk) all k (any k d within) d (omega (arith, within, long, count))

  has : (k : ℕ) (d : Desk) (within : k < length now) → HasFollowed records (get_or desks k d) (at k d within).end (at k d within).desk
  has k d within = each k d (any k d within) (omega (arith, within, long))

  pub served-desks : AreDesksOf office now
  served-desks = record {
    of_office = λ k d within. ap (λ (s : Desk). s.turn) (is-at k d within) ∙ (has k d within).office ∙ are.of_office k d (omega (arith, within, long));
    count = long ∙ are.count;
    numbers = λ k d within. ap (λ (s : Desk). s.number) (is-at k d within) ∙ (has k d within).desk ∙ are.numbers k d (omega (arith, within, long));
  }

  of-ok : {P : Type 0} (r : End) → IsOk r → OnOk r P → P
  of-ok (Ok u) ok p = p
  of-ok (Err e) ok p = absurd (cc)

  own : (k : ℕ) (d : Desk) (within : k < length now) → (get_or now k d).number ≡ (get_or desks k d).number
  own k d within = ap (λ (s : Desk). s.number) (is-at k d within) ∙ (has k d within).desk

  done : (k : ℕ) (d : Desk) (within : k < length now) → IsOk (at k d within).end → asked (get_or now k d).mine ≡ asked_by (get_or now k d).number records
  done k d within ok =
      ap (λ (s : Desk). asked s.mine) (is-at k d within) ∙ of-ok (at k d within).end ok (has k d within).served
      ∙ ap (λ (mine : _). asked mine ++ asked_by (get_or desks k d).number records) (new k d (omega (arith, within, long)))
      ∙ ap (λ (n : ℕ). asked_by n records) (sym (own k d within))

  all-done : (end : End) → EndAs all end → OnOk end (All (λ d. asked d.mine ≡ asked_by d.number records) now)
  all-done (Ok u) ends = λ k d within. done k d within (ends k (any k d within) (omega (arith, within, long, count)))
  all-done (Err e) ends = tt

  was-full : (end : End) → EndAs all end → end ≡ Err Full → Any (λ d. IsFull d.seen) now
  was-full (Ok u) ends is = absurd (cc)
  was-full (Err e) ends is =
      let (k, s, within, at, refused) = subst (λ (r : End). EndAs all r) is ends in
      let here = each k s.desk s (omega (arith, within, count)) in
      let same : (get_or all k s).end ≡ Err Full = ap (λ (x : Served). x.end) at ∙ refused in
      let desk : get_or now k s.desk ≡ s.desk = ap (λ (ds : List Desk). get_or ds k s.desk) parted ∙ get_or-map (λ (x : Served). x.desk) all k s s.desk within ∙ ap (λ (x : Served). x.desk) at in
      (k, s.desk, omega (arith, within, long, count), desk, subst (λ (x : Served). IsFull x.desk.seen) at (here.full same))

  pub served-script : (end : End) → EndAs all end → HaveServed records now end
  served-script end ends = record {
    served = all-done end ends;
    few = λ k d within.
        let few = (has k d within).few in
        let mine = ap (λ (s : Desk). length s.mine) (is-at k d within) in
        let none = ap (λ (xs : _). length {A = _} xs) (new k d (omega (arith, within, long))) in
        let number = ap (λ (n : ℕ). length (asked_by n records)) (own k d within) in
        omega (arith, few, mine, none, number);
    full = was-full end ends;
  }

-- the same of what parting gives, if it gives anything
pub if-parted-desks : {E : Type 0} (office : TurnId Shop) (records : Script) (desks : List Desk) (all : List Served) → AreDesksOf office desks → All (λ d. d.mine ≡ []) desks → length all ≡ length desks
    → ((k : ℕ) (d : Desk) (s : Served) → k < length desks → HasFollowed records (get_or desks k d) (get_or all k s).end (get_or all k s).desk)
    → (r : Result AllServed E) → IfOk r (λ p. p.desks.items ≡ map (λ (s : Served). s.desk) all) → IfOk r (λ p. AreDesksOf office p.desks.items)
if-parted-desks office records desks all are new count each (Ok p) parted = served-desks office records desks p.desks.items all are new count each parted
if-parted-desks office records desks all are new count each (Err e) parted = tt

pub if-parted-served : {E : Type 0} (office : TurnId Shop) (records : Script) (desks : List Desk) (all : List Served) → AreDesksOf office desks → All (λ d. d.mine ≡ []) desks → length all ≡ length desks
    → ((k : ℕ) (d : Desk) (s : Served) → k < length desks → HasFollowed records (get_or desks k d) (get_or all k s).end (get_or all k s).desk)
    → (r : Result AllServed E) → IfOk r (λ p. p.desks.items ≡ map (λ (s : Served). s.desk) all) → IfOk r (λ p. EndAs all p.end) → IfOk r (λ p. HaveServed records p.desks.items p.end)
if-parted-served office records desks all are new count each (Ok p) parted ends = served-script office records desks p.desks.items all are new count each parted p.end ends
if-parted-served office records desks all are new count each (Err e) parted ends = tt

-- what some desks have made of their records, of records that are no fewer for any desk
pub refused-more : (records more : Script) (desks : List Desk) (e : Refused) → ((d : ℕ) → length (asked_by d records) ≤ length (asked_by d more))
    → HaveServed records desks {U = Unit {0}} (Err e) → HaveServed more desks {U = Unit {0}} (Err e)
refused-more records more desks e fewer have = record {
  served = tt;
  few = λ k d within. let a = have.few k d within in let b = fewer (get_or desks k d).number in omega (arith, a, b);
  full = have.full;
}

-- An added run.

abbrev run : ℕ × Call
run = (1, call.Snapshot)

pub run-own : (records : Script) → asked_by 1 (records ++ run ∷ []) ≡ asked_by 1 records ++ run ∷ []
run-own records = filter-append (λ (r : ℕ × Call). r.0 == 1) records (run ∷ [])

pub run-other : (records : Script) (d : ℕ) → d ≢ 1 → asked_by d (records ++ run ∷ []) ≡ asked_by d records
run-other records d other =
    filter-append (λ (r : ℕ × Call). r.0 == d) records (run ∷ [])
    ∙ ap (λ (b : Bool). asked_by d records ++ cond b (run ∷ []) []) (ne_eqb 1 d (λ e. other (sym e))) ∙ append-nil (asked_by d records)

pub run-more : (records : Script) (d : ℕ) → length (asked_by d records) ≤ length (asked_by d (records ++ run ∷ []))
run-more records d =
    let both = ap (length {A = ℕ × Call}) (filter-append (λ (r : ℕ × Call). r.0 == d) records (run ∷ [])) ∙ length-append (asked_by d records) (asked_by d (run ∷ [])) in
    omega (arith, both)

-- the first desk's call for a run, as it ended
pub run-made : (s : Supply) (desks : List Desk) (own new : Desk) (c : Call) (r : Result (ℕ × Reply) Refused) (end : End) → 1 ≤ length desks → c ≡ call.Snapshot → ended r ≡ end → Tells s c (get_or desks 0 own) r new
    → (d : Desk) → MakesCall s call.Snapshot (get_or desks 0 d) end new
run-made s desks own new c r end some is ends tells d =
    subst (λ (old : Desk). MakesCall s call.Snapshot old end new) (get_or_default desks 0 own d some)
    (subst (λ (x : Call). MakesCall s x (get_or desks 0 own) end new) is
    (subst (λ (e : End). MakesCall s c (get_or desks 0 own) e new) ends (made s c (get_or desks 0 own) new r tells)))

module _ (office : TurnId Shop) (records : Script) (desks : List Desk) (new : Desk) (end : End) (are : AreDesksOf office desks) (some : 1 ≤ length desks)
    (have : HaveServed records desks {U = Unit {0}} (Ok (tt {0}))) (s : Supply) (makes : (d : Desk) → MakesCall s call.Snapshot (get_or desks 0 d) end new) where
  abbrev after : List Desk
  after = set desks 0 new

  first : (d : Desk) → get_or after 0 d ≡ new
  first d = get_or-set_same desks 0 new d (omega (arith, some))

  other : (k : ℕ) (d : Desk) → 0 < k → get_or after k d ≡ get_or desks k d
  other k d more = get_or-set_other desks 0 k new d (omega (arith, more))

  many : length after ≡ length desks
  many = length-set desks 0 new

  number-one : (d : Desk) → new.number ≡ 1
  number-one d = (makes d).desk ∙ are.numbers 0 d (omega (arith, some))

  pub run-desks : AreDesksOf office after
  run-desks = record {
    of_office = λ k d within. elim (cases_lt 0 k) [
      | inl more ↦ ap (λ (s : Desk). s.turn) (other k d more) ∙ are.of_office k d (omega (arith, within, many))
      | inr none ↦
          let zero : k ≡ 0 = omega (arith, none) in
          ap (λ (i : ℕ). (get_or after i d).turn) zero ∙ ap (λ (s : Desk). s.turn) (first d) ∙ (makes d).office ∙ are.of_office 0 d (omega (arith, some))
    ];
    count = many ∙ are.count;
    numbers = λ k d within. elim (cases_lt 0 k) [
      | inl more ↦ ap (λ (s : Desk). s.number) (other k d more) ∙ are.numbers k d (omega (arith, within, many))
      | inr none ↦
          let zero : k ≡ 0 = omega (arith, none) in
          ap (λ (i : ℕ). (get_or after i d).number) zero ∙ ap (λ (s : Desk). s.number) (first d) ∙ number-one d ∙ omega (arith, zero)
    ];
  }

  -- what a desk but the first has made is what it had
  same-other : (k : ℕ) (d : Desk) → 0 < k → k < length desks → asked_by (get_or after k d).number (records ++ run ∷ []) ≡ asked_by (get_or desks k d).number records
  same-other k d more within =
      let number = are.numbers k d within in
      ap (λ (s : Desk). asked_by s.number (records ++ run ∷ [])) (other k d more) ∙ run-other records (get_or desks k d).number (λ e. absurd (omega (arith, number, e, more)))

  done-first : (d : Desk) → asked new.mine ≡ asked (get_or desks 0 d).mine ++ ((get_or desks 0 d).number, call.Snapshot) ∷ [] → asked new.mine ≡ asked_by new.number (records ++ run ∷ [])
  done-first d made =
      made ∙ ap (λ (n : ℕ). asked (get_or desks 0 d).mine ++ (n, call.Snapshot) ∷ []) (are.numbers 0 d (omega (arith, some)))
      ∙ ap (λ (xs : Script). xs ++ run ∷ []) (have.served 0 d (omega (arith, some)) ∙ ap (λ (n : ℕ). asked_by n records) (are.numbers 0 d (omega (arith, some))))
      ∙ sym (run-own records) ∙ ap (λ (n : ℕ). asked_by n (records ++ run ∷ [])) (sym (number-one d))

  run-done : (r : End) → end ≡ r → OnOk r (All (λ d. asked d.mine ≡ asked_by d.number (records ++ run ∷ [])) after)
  run-done (Ok u) is = λ k d within. elim (cases_lt 0 k) [
    | inl more ↦ ap (λ (s : Desk). asked s.mine) (other k d more) ∙ have.served k d (omega (arith, within, many)) ∙ sym (same-other k d more (omega (arith, within, many)))
    | inr none ↦
        let zero : k ≡ 0 = omega (arith, none) in
        let made = subst (λ (r : End). OnOk r (asked new.mine ≡ asked (get_or desks 0 d).mine ++ ((get_or desks 0 d).number, call.Snapshot) ∷ [])) is (makes d).made in
        subst (λ (s : Desk). asked s.mine ≡ asked_by s.number (records ++ run ∷ [])) (sym (ap (λ (i : ℕ). get_or after i d) zero ∙ first d)) (done-first d made)
  ]
  run-done (Err e) is = tt

  few-first : (r : End) → end ≡ r → (d : Desk) → length new.mine ≤ length (asked_by new.number (records ++ run ∷ []))
  few-first (Ok u) is d =
      let made = subst (λ (r : End). OnOk r (asked new.mine ≡ asked (get_or desks 0 d).mine ++ ((get_or desks 0 d).number, call.Snapshot) ∷ [])) is (makes d).made in
      let a = length-map {B = ℕ × Call} new.mine (λ e. (e.who, e.call)) in
      let b = ap (length {A = ℕ × Call}) (done-first d made) in
      omega (arith, a, b)
  few-first (Err e) is d =
      let unchanged : new.mine ≡ (get_or desks 0 d).mine = subst (λ (r : End). OnErr r (new.mine ≡ (get_or desks 0 d).mine)) is (makes d).unchanged in
      let a = ap (length {A = _}) unchanged in
      let b = have.few 0 d (omega (arith, some)) in
      let c = ap (λ (n : ℕ). length (asked_by n records)) (sym (makes d).desk) in
      let more = run-more records new.number in
      omega (arith, a, b, c, more)

  pub run-served : HaveServed (records ++ run ∷ []) after end
  run-served = record {
    served = run-done end refl;
    few = λ k d within. elim (cases_lt 0 k) [
      | inl more ↦
          let a = ap (λ (s : Desk). length s.mine) (other k d more) in
          let b = have.few k d (omega (arith, within, many)) in
          let c = ap (length {A = ℕ × Call}) (same-other k d more (omega (arith, within, many))) in
          omega (arith, a, b, c)
      | inr none ↦
          let zero : k ≡ 0 = omega (arith, none) in
          subst (λ (s : Desk). length s.mine ≤ length (asked_by s.number (records ++ run ∷ []))) (sym (ap (λ (i : ℕ). get_or after i d) zero ∙ first d)) (few-first end refl d)
    ];
    full = λ e. (0, new, omega (arith, some, many), first new, subst (λ (r : End). IfErr r (HasCause s call.Snapshot new.seen)) e (makes new).cause);
  }
