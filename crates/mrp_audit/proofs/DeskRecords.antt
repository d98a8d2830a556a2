-- A desk's entries compared with its records, entry by entry.
use Rattle.std.proofs.Common.{◌≡◌, ◌∙◌, ℕ, zero, suc, ◌+◌, ◌<◌, ◌≤◌, true, false, List, [], ◌∷◌, ◌++◌, length, take, drop, get_or, length-append, Some, sym, ap, refl, arith, inl, inr}
use Rattle.std.proofs.lemmas.List.{take_more, take_all, drop_more, take-append-drop, append_cancel_left, append-nil, map-append}
use Rattle.std.proofs.lemmas.Bool.{cases_lt, eq-eqb, eqb-true}
use Rattle.std.proofs.lemmas.Option.{slice_get-get_or}
use Rattle.std.proofs.lemmas.List.Elements.{filter-append}
use Rattle.std.specs.Prelude.{◌==◌, map}
use Rattle.mrp_turn.specs.declared.log.Entry.{Entry}
use Rattle.mrp_book.specs.declared.call.Call.{Call}
use Rattle.mrp_book.specs.declared.call.Call.TheVariants as call
use Rattle.mrp_book.specs.declared.reply.Reply.{Reply}
use Rattle.mrp_book.specs.Standing.{History}
use Rattle.mrp_book.specs.History.{asked}
use Rattle.mrp_tables.specs.declared.rows.ScriptRow.{ScriptRow}
use Rattle.mrp_script.specs.Script.{Script, record_of}
use Rattle.mrp_engine.specs.day.RightDay.{asked_by}
use Rattle.mrp_audit.specs.Parts.{IsNextPlace, IsSame}

-- a record that another desk has
pub asked_by-other : (desk : ℕ) (front : Script) (r : ℕ × Call) → (r.0 == desk) ≡ false → asked_by desk (front ++ r ∷ []) ≡ asked_by desk front
asked_by-other desk front r other = filter-append (λ (x : ℕ × Call). x.0 == desk) front (r ∷ []) ∙ rw other (append-nil (asked_by desk front))

-- a record of the desk
pub asked_by-one : (desk : ℕ) (front : Script) (r : ℕ × Call) → (r.0 == desk) ≡ true → asked_by desk (front ++ r ∷ []) ≡ asked_by desk front ++ r ∷ []
asked_by-one desk front r own = filter-append (λ (x : ℕ × Call). x.0 == desk) front (r ∷ []) ∙ rw own refl

-- one more record
pub asked_by-next : (desk : ℕ) (script : Script) (k : ℕ) (r : ℕ × Call) → k < length script → r ≡ get_or script k r → asked_by desk (take (k + 1) script) ≡ asked_by desk (take k script ++ r ∷ [])
asked_by-next desk script k r within at = ap (asked_by desk) (take_more script k r within ∙ ap (λ (x : ℕ × Call). take k script ++ x ∷ []) (sym at))

abbrev pub called : Entry Call Reply → ℕ × Call
called e = (e.who, e.call)

-- one more entry
pub asked-next : (h : History) (k : ℕ) (e : Entry Call Reply) → k < length h → e ≡ get_or h k e → asked (take (k + 1) h) ≡ asked (take k h) ++ called e ∷ []
asked-next h k e within at = ap asked (take_more h k e within ∙ ap (λ (x : Entry Call Reply). take k h ++ x ∷ []) (sym at)) ∙ map-append called (take k h) (e ∷ [])

-- all records are taken
pub all-taken : (calls : Script) (script : List ScriptRow) (k : ℕ) → calls ≡ map record_of (take k script) → length script ≤ k → calls ≡ map record_of script
all-taken calls script k same all = same ∙ ap (map record_of) (take_all k script all)

own-next : (desk : ℕ) (front rest : Script) (r : ℕ × Call) → (r.0 == desk) ≡ true → asked_by desk (front ++ r ∷ rest) ≡ asked_by desk front ++ r ∷ asked_by desk rest
own-next desk front rest r own = filter-append (λ (x : ℕ × Call). x.0 == desk) front (r ∷ rest) ∙ rw own refl

-- a desk's records up to one of them, that one, and those after it
script-cut : (desk : ℕ) (script : Script) (p : ℕ) (r : ℕ × Call) → p < length script → r ≡ get_or script p r → (r.0 == desk) ≡ true → asked_by desk script ≡ asked_by desk (take p script) ++ r ∷ asked_by desk (drop (p + 1) script)
script-cut desk script p r within at own =
    let split : script ≡ take p script ++ r ∷ drop (p + 1) script =
    sym (take-append-drop p script) ∙ ap (λ (x : Script). take p script ++ x) (drop_more script p r within ∙ ap (λ (x : ℕ × Call). x ∷ drop (p + 1) script) (sym at)) in
    ap (asked_by desk) split ∙ own-next desk (take p script) (drop (p + 1) script) r own

-- and its entries
history-cut : (desk : ℕ) (h : History) (k : ℕ) (e : Entry Call Reply) → k < length h → e ≡ get_or h k e → (e.who == desk) ≡ true
    → asked_by desk (asked h) ≡ asked_by desk (asked (take k h)) ++ called e ∷ asked_by desk (asked (drop (k + 1) h))
history-cut desk h k e within at own =
    let split : h ≡ take k h ++ e ∷ drop (k + 1) h =
    sym (take-append-drop k h) ∙ ap (λ (x : History). take k h ++ x) (drop_more h k e within ∙ ap (λ (x : Entry Call Reply). x ∷ drop (k + 1) h) (sym at)) in
    ap (λ (x : History). asked_by desk (asked x)) split ∙ ap (asked_by desk) (map-append called (take k h) (e ∷ drop (k + 1) h))
    ∙ own-next desk (asked (take k h)) (asked (drop (k + 1) h)) (called e) own

longer : (front rest : Script) (r : ℕ × Call) → front ++ r ∷ rest ≡ front → ⊥
longer front rest r same =
    let size = ap (length {A = ℕ × Call}) same in
    absurd (omega (arith, size, length-append front (r ∷ rest)))

-- a script whose desk has no record from here on is as far as its place
pub none-left : (script : Script) (desk at p : ℕ) → IsNextPlace script desk at p → p ≡ length script → asked_by desk script ≡ asked_by desk (take at script)
none-left script desk at p next end = ap (asked_by desk) (sym (take_all p script (omega (arith, end)))) ∙ next.none

-- an entry without a record
pub unrecorded : (h : History) (script : Script) (desk k at p : ℕ) (e : Entry Call Reply) → k < length h → e ≡ get_or h k e → (e.who == desk) ≡ true
    → asked_by desk (asked (take k h)) ≡ asked_by desk (take at script) → IsNextPlace script desk at p → p ≡ length script → IsSame (asked h) script desk → ⊥
unrecorded h script desk k at p e within is own before next end same =
    longer (asked_by desk (asked (take k h))) (asked_by desk (asked (drop (k + 1) h))) (called e)
    (sym (history-cut desk h k e within is own) ∙ same ∙ none-left script desk at p next end ∙ sym before)

-- an entry and its record
pub same-call : (h : History) (script : Script) (desk k at p : ℕ) (e : Entry Call Reply) (r : ℕ × Call) → k < length h → e ≡ get_or h k e → (e.who == desk) ≡ true
    → asked_by desk (asked (take k h)) ≡ asked_by desk (take at script) → IsNextPlace script desk at p → p < length script → r ≡ get_or script p r → IsSame (asked h) script desk → r.1 ≡ e.call
same-call h script desk k at p e r within is own before next there at_p same =
    let here : r.0 ≡ desk = next.here r (slice_get-get_or script p r there ∙ ap Some (sym at_p)) in
    let front : asked_by desk (take p script) ≡ asked_by desk (asked (take k h)) = next.none ∙ sym before in
    let record-first = script-cut desk script p r there at_p (eq-eqb r.0 desk here) ∙ ap (λ (x : Script). x ++ r ∷ asked_by desk (drop (p + 1) script)) front in
    let both = sym (history-cut desk h k e within is own) ∙ same ∙ record-first in
    let tails = append_cancel_left (asked_by desk (asked (take k h))) (called e ∷ asked_by desk (asked (drop (k + 1) h))) (r ∷ asked_by desk (drop (p + 1) script)) both in
    let head : called e ≡ r = heads (called e) r (asked_by desk (asked (drop (k + 1) h))) (asked_by desk (drop (p + 1) script)) tails in
    sym (ap (λ (x : ℕ × Call). x.1) head)
  where
    heads : (a b : ℕ × Call) (x y : Script) → a ∷ x ≡ b ∷ y → a ≡ b
    heads a b x y e = cc

-- one more entry has its record
pub recorded : (h : History) (script : Script) (desk k at p : ℕ) (e : Entry Call Reply) (r : ℕ × Call) → k < length h → e ≡ get_or h k e → (e.who == desk) ≡ true
    → asked_by desk (asked (take k h)) ≡ asked_by desk (take at script) → IsNextPlace script desk at p → p < length script → r ≡ get_or script p r → r.1 ≡ e.call
    → (p + 1 ≤ length script) × (asked_by desk (asked (take (k + 1) h)) ≡ asked_by desk (take (p + 1) script))
recorded h script desk k at p e r within is own before next there at_p same =
    let here : r.0 ≡ desk = next.here r (slice_get-get_or script p r there ∙ ap Some (sym at_p)) in
    let who : e.who ≡ desk = eqb-true e.who desk own in
    let both : called e ≡ r = ap (λ (c : Call). (e.who, c)) (sym same) ∙ ap (λ (n : ℕ). (n, r.1)) (who ∙ sym here) in (
      omega (arith, there),
      ap (asked_by desk) (asked-next h k e within is) ∙ asked_by-one desk (asked (take k h)) (called e) own
          ∙ ap (λ (x : Script). x ++ called e ∷ []) (before ∙ sym next.none)
          ∙ ap (λ (x : ℕ × Call). asked_by desk (take p script) ++ x ∷ []) both
          ∙ sym (asked_by-next desk script p r there at_p ∙ asked_by-one desk (take p script) r (eq-eqb r.0 desk here)),
    )

-- another desk's entry
pub passed-over : (h : History) (script : Script) (desk k at : ℕ) (e : Entry Call Reply) → k < length h → e ≡ get_or h k e → (e.who == desk) ≡ false
    → asked_by desk (asked (take k h)) ≡ asked_by desk (take at script) → asked_by desk (asked (take (k + 1) h)) ≡ asked_by desk (take at script)
passed-over h script desk k at e within is other before =
    ap (asked_by desk) (asked-next h k e within is) ∙ asked_by-other desk (asked (take k h)) (called e) other ∙ before

-- all entries have their records, and no record is left, or one is
pub all-recorded : (h : History) (script : Script) (desk k at p : ℕ) → length h ≤ k → asked_by desk (asked (take k h)) ≡ asked_by desk (take at script) → IsNextPlace script desk at p
    → ((p == length script) ≡ true → IsSame (asked h) script desk) × (IsSame (asked h) script desk → (p == length script) ≡ true)
all-recorded h script desk k at p all before next =
    let whole : asked_by desk (asked h) ≡ asked_by desk (take at script) = ap (λ (x : History). asked_by desk (asked x)) (sym (take_all k h all)) ∙ before in (
      λ end. whole ∙ sym (none-left script desk at p next (eqb-true p (length script) end)),
      λ same. elim (cases_lt p (length script)) [
        | inl there ↦
            let r = get_or script p (0, call.Snapshot) in
            let at_p : r ≡ get_or script p r = read script p (0, call.Snapshot) there in
            let here : r.0 ≡ desk = next.here r (slice_get-get_or script p r there ∙ ap Some (sym at_p)) in
            let cut = script-cut desk script p r there at_p (eq-eqb r.0 desk here) in
            absurd (longer (asked_by desk (take p script)) (asked_by desk (drop (p + 1) script)) r (sym cut ∙ sym same ∙ whole ∙ sym next.none))
        | inr past ↦ let within = next.within in eq-eqb p (length script) (omega (arith, past, within))
      ],
    )
  where
    read : {X : Type 0} (xs : List X) (i : ℕ) (d : X) → i < length xs → get_or xs i d ≡ get_or xs i (get_or xs i d)
    read [] i d within = absurd (omega (arith, within))
    read (x ∷ xs) zero d within = refl
    read (x ∷ xs) (suc i) d within = read xs i d (omega (arith, within))
