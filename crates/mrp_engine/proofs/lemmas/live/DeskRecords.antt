-- The records of a desk, in order.
use Rattle.std.proofs.Common.{◌≡◌, ◌∙◌, ◌≢◌, ℕ, ◌+◌, ◌<◌, ◌==◌, ◌++◌, Bool, cond, List, [], ◌∷◌, IfErr, OnErr, OnOk, Result, Ok, Err, drop, get_or, length, map, take, ap, arith, refl, sym}
use Rattle.std.proofs.lemmas.Bool.{eq-eqb, ne_eqb}
use Rattle.std.proofs.lemmas.List.{append-nil, append_assoc, length-append, length-map, map-append, take-append-drop, take_more}
use Rattle.std.proofs.lemmas.List.Elements.{filter-append}
use Rattle.mrp_tables.specs.declared.rows.ScriptRow.{ScriptRow}
use Rattle.mrp_master.specs.Supply.{Supply}
use Rattle.mrp_turn.specs.Log.{entry}
use Rattle.mrp_turn.specs.declared.log.Entry.{Entry}
use Rattle.mrp_book.specs.declared.call.Call.{Call}
use Rattle.mrp_book.specs.declared.refused.Refused.{Refused}
use Rattle.mrp_book.specs.declared.reply.Reply.{Reply}
use Rattle.mrp_book.specs.Standing.{History}
use Rattle.mrp_book.specs.History.{asked}
use Rattle.mrp_desk.specs.Calls.{HasCause, Tells}
use Rattle.mrp_desk.specs.Offices.{Desk}
use Rattle.mrp_engine.specs.live.DeskCalls.{asks}
use Rattle.mrp_engine.specs.day.RightDay.{asked_by}
use Rattle.mrp_script.specs.Script.{Script, call_of, record_of}

abbrev pub records : ℕ → List ScriptRow → Script
records d rows = asked_by d (map record_of rows)

next : (d : ℕ) (rows : List ScriptRow) (k : ℕ) (row : ScriptRow) → k < length rows → row ≡ get_or rows k row
    → records d (take (k + 1) rows) ≡ records d (take k rows) ++ cond (row.desk == d) (record_of row ∷ []) []
next d rows k row within is =
    ap (records d) (take_more rows k row within ∙ ap (λ (r : ScriptRow). take k rows ++ r ∷ []) (sym is))
    ∙ ap (asked_by d) (map-append record_of (take k rows) (row ∷ []))
    ∙ filter-append (λ (r : ℕ × Call). r.0 == d) (map record_of (take k rows)) (record_of row ∷ [])

-- the desk's next record
pub next-own : (d : ℕ) (rows : List ScriptRow) (k : ℕ) (row : ScriptRow) → k < length rows → row ≡ get_or rows k row → row.desk ≡ d
    → records d (take (k + 1) rows) ≡ records d (take k rows) ++ (d, call_of row.call) ∷ []
next-own d rows k row within is own =
    next d rows k row within is ∙ ap (λ (b : Bool). records d (take k rows) ++ cond b (record_of row ∷ []) []) (eq-eqb row.desk d own)
    ∙ ap (λ (n : ℕ). records d (take k rows) ++ (n, call_of row.call) ∷ []) own

-- another desk's record
pub next-other : (d : ℕ) (rows : List ScriptRow) (k : ℕ) (row : ScriptRow) → k < length rows → row ≡ get_or rows k row → row.desk ≢ d
    → records d (take (k + 1) rows) ≡ records d (take k rows)
next-other d rows k row within is other =
    next d rows k row within is ∙ ap (λ (b : Bool). records d (take k rows) ++ cond b (record_of row ∷ []) []) (ne_eqb row.desk d other)
    ∙ append-nil (records d (take k rows))

-- one more call is made, after those that were made before
pub asks-more : (before old : Script) (d : ℕ) (calls : List Call) (k : ℕ) (c : Call) → before ≡ old ++ asks d (take k calls) → k < length calls → c ≡ get_or calls k c
    → before ++ (d, c) ∷ [] ≡ old ++ asks d (take (k + 1) calls)
asks-more before old d calls k c is within at =
    ap (λ (xs : Script). xs ++ (d, c) ∷ []) is ∙ append_assoc old (asks d (take k calls)) ((d, c) ∷ [])
    ∙ ap (λ (xs : Script). old ++ xs) (sym (map-append (λ (x : Call). (d, x)) (take k calls) (c ∷ [])))
    ∙ ap (λ (xs : List Call). old ++ asks d xs) (ap (λ (x : Call). take k calls ++ x ∷ []) at ∙ sym (take_more calls k c within))

-- the calls before one, that one, and those after it
pub parts-at : (calls : List Call) (k : ℕ) (c : Call) → k < length calls → c ≡ get_or calls k c → calls ≡ take k calls ++ c ∷ drop (k + 1) calls
parts-at calls k c within at =
    sym (take-append-drop (k + 1) calls) ∙ ap (λ (xs : List Call). xs ++ drop (k + 1) calls) (take_more calls k c within ∙ ap (λ (x : Call). take k calls ++ x ∷ []) (sym at))
    ∙ append_assoc (take k calls) (c ∷ []) (drop (k + 1) calls)

-- how many entries there are, from their calls
pub entries-of : (new old : History) (xs : Script) → asked new ≡ asked old ++ xs → length new ≡ length old + length xs
entries-of new old xs is =
    let a = length-map {B = ℕ × Call} new (λ e. (e.who, e.call)) in
    let b = length-map {B = ℕ × Call} old (λ e. (e.who, e.call)) in
    let c = ap (length {A = ℕ × Call}) is ∙ length-append (asked old) xs in
    omega (arith, a, b, c)

-- what holds of an answered call, of a call that was not refused
pub ok-then : {U E : Type 0} (r : Result U E) (P : Type 0) → OnOk r P → ((e : E) → r ≡ Err e → ⊥) → P
ok-then (Ok u) P p not-refused = p
ok-then (Err e) P p not-refused = absurd (not-refused e refl)

-- a desk has made one call, or the call was refused: then there is no entry, and the refusal has
-- its cause
pub record MakesCall (s : Supply) (c : Call) (old : Desk) (end : Result (Unit {0}) Refused) (new : Desk) : Type 0 where
  pub office : new.turn ≡ old.turn
  pub desk : new.number ≡ old.number
  pub made : OnOk end (asked new.mine ≡ asked old.mine ++ (old.number, c) ∷ [])
  pub unchanged : OnErr end (new.mine ≡ old.mine)
  pub cause : IfErr end (HasCause s c new.seen)

-- an answered call is the last of the desk's
pub tells-asked : (s : Supply) (c : Call) (old new : Desk) (r : Result (ℕ × Reply) Refused) → Tells s c old r new → OnOk r (asked new.mine ≡ asked old.mine ++ (old.number, c) ∷ [])
tells-asked s c old new (Ok answer) tells =
    ap asked tells.added ∙ map-append (λ (e : Entry Call Reply). (e.who, e.call)) old.mine (entry old.number c answer.1 ∷ [])
tells-asked s c old new (Err refused) tells = tt

-- how a call ended, whatever the answer
abbrev pub ended : Result (ℕ × Reply) Refused → Result (Unit {0}) Refused
ended (Ok answer) = Ok (tt {0})
ended (Err refused) = Err refused

-- the result of a call says that it was made, or why not
pub made : (s : Supply) (c : Call) (old new : Desk) (r : Result (ℕ × Reply) Refused) → Tells s c old r new → MakesCall s c old (ended r) new
made s c old new (Ok answer) tells = record { office = tells.office; desk = tells.desk; made = tells-asked s c old new (Ok answer) tells; unchanged = tt; cause = tt }
made s c old new (Err refused) tells = record { office = tells.office; desk = tells.desk; made = tt; unchanged = tells.unchanged; cause = tells.cause }
