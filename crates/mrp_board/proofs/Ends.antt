-- A board on which every worker came to the end is orderly, and finished.
use Rattle.std.proofs.Common.{◌≡◌, ◌∙◌, ◌==◌, ◌||◌, ℕ, Bool, true, false, cond, if◌then◌else◌, List, [], ◌∷◌, ◌++◌, Option, Some, None, inl, inr, refl, sym, ap, subst}
use Rattle.std.proofs.lemmas.List.{append-nil}
use Rattle.std.specs.Prelude.{find, option_map}
use Rattle.std.specs.List.{list_all, list_any}
use Rattle.mrp_turn.specs.Log.{entries_by, entry}
use Rattle.mrp_item.specs.Inputs.{Inputs, places}
use Rattle.mrp_item.specs.Places.{ItemOf}
use Rattle.mrp_board.specs.declared.call.BoardCall.TheVariants as call
use Rattle.mrp_board.specs.declared.reply.BoardReply.TheVariants as reply
use Rattle.mrp_board.specs.Board.{BoardEntry, BoardLog, IsLegalBoard, handed, hands_out, has_stopped, is_at_end, is_finished, is_out, is_ready, is_stored, stops, stores}
use Rattle.mrp_board.specs.Orderly.{IsComplete, IsCourse, IsOrderly, WorkedToEnd, finished_by}
use Rattle.mrp_board.proofs.Tests.{and-both, and-first, and-second, either, no, or-second, same-number}

-- Any entry of a log is one of its worker's, and these are the log's.

module _ (test : BoardEntry → Bool) where
  first-by : (b : Bool) (e : BoardEntry) (l : BoardLog) → b ≡ true → test e ≡ true → list_any test (cond b (e ∷ l) l) ≡ true
  first-by true e l is has = ap (λ (t : Bool). t || list_any test l) has
  first-by false e l is has = no is

  more-by : (b : Bool) (e : BoardEntry) (l : BoardLog) → list_any test l ≡ true → list_any test (cond b (e ∷ l) l) ≡ true
  more-by true e l any = or-second (test e) (list_any test l) any
  more-by false e l any = any

  by-somebody : (log : BoardLog) → list_any test log ≡ true → (who : ℕ) × (list_any test (entries_by who log) ≡ true)
  by-somebody [] any = no any
  by-somebody (e ∷ log) any = elim (either (test e) (list_any test log) any) [
    | inl here ↦ (e.who, first-by (e.who == e.who) e (entries_by e.who log) (same-number e.who e.who refl) here)
    | inr later ↦ let w = by-somebody log later in (w.0, more-by (e.who == w.0) e (entries_by w.0 log) w.1)
  ]

  less-by : (b : Bool) (e : BoardEntry) (l log : BoardLog) → (list_any test l ≡ true → list_any test log ≡ true) → list_any test (cond b (e ∷ l) l) ≡ true → (test e || list_any test log) ≡ true
  less-by true e l log f any = elim (either (test e) (list_any test l) any) [
    | inl here ↦ ap (λ (t : Bool). t || list_any test log) here
    | inr later ↦ or-second (test e) (list_any test log) (f later)
  ]
  less-by false e l log f any = or-second (test e) (list_any test log) (f any)

  by-log : (who : ℕ) (log : BoardLog) → list_any test (entries_by who log) ≡ true → list_any test log ≡ true
  by-log who [] any = no any
  by-log who (e ∷ log) any = less-by (e.who == who) e (entries_by who log) log (by-log who log) any

  -- a log goes on
  any-on : (before after : BoardLog) → list_any test before ≡ true → list_any test (before ++ after) ≡ true
  any-on [] after any = no any
  any-on (e ∷ before) after any = elim (either (test e) (list_any test before) any) [
    | inl here ↦ ap (λ (t : Bool). t || list_any test (before ++ after)) here
    | inr later ↦ or-second (test e) (list_any test (before ++ after)) (any-on before after later)
  ]

all-on : (p q : ℕ → Bool) (items : List ℕ) → ((i : ℕ) → p i ≡ true → q i ≡ true) → list_all p items ≡ true → list_all q items ≡ true
all-on p q [] f all = refl
all-on p q (i ∷ items) f all = and-both (q i) (list_all q items) (f i (and-first (p i) (list_all p items) all)) (all-on p q items f (and-second (p i) (list_all p items) all))

module _ (s : Inputs) where
  -- Of a worker that came to the end.

  abbrev whole : ℕ → List (ℕ × List ItemOf) → BoardLog
  whole who items = finished_by s who items ++ entry who call.Take reply.AllOut ∷ []

  whole-stored : (who : ℕ) (items : List (ℕ × List ItemOf)) (i : ℕ) → is_out (whole who items) i ≡ true → is_stored (whole who items) i ≡ true
  whole-stored who [] i out = no out
  whole-stored who (x ∷ items) i out = elim (either (x.0 == i) (is_out (whole who items) i) out) [
    | inl here ↦ ap (λ (t : Bool). t || is_stored (whole who items) i) here
    | inr later ↦ or-second (x.0 == i) (is_stored (whole who items) i) (whole-stored who items i later)
  ]

  whole-goes_on : (who : ℕ) (items : List (ℕ × List ItemOf)) → has_stopped (whole who items) ≡ true → ⊥
  whole-goes_on who [] stopped = no stopped
  whole-goes_on who (x ∷ items) stopped = whole-goes_on who items stopped

  complete-stored : (who : ℕ) (entries : BoardLog) (i : ℕ) → IsComplete s who entries → is_out entries i ≡ true → is_stored entries i ≡ true
  complete-stored who entries i (inl none) out = no (sym (ap (λ (l : BoardLog). is_out l i) none) ∙ out)
  complete-stored who entries i (inr (items, is)) out = subst (λ (l : BoardLog). is_out l i ≡ true → is_stored l i ≡ true) (sym is) (whole-stored who items i) out

  complete-goes_on : (who : ℕ) (entries : BoardLog) → IsComplete s who entries → has_stopped entries ≡ true → ⊥
  complete-goes_on who entries (inl none) stopped = no (sym (ap has_stopped none) ∙ stopped)
  complete-goes_on who entries (inr (items, is)) stopped = whole-goes_on who items (sym (ap has_stopped is) ∙ stopped)

  complete-course : (who : ℕ) (entries : BoardLog) → IsComplete s who entries → IsCourse s who entries
  complete-course who entries (inl none) = record {
    items = [];
    last = entry who call.Take reply.AllOut ∷ [];
    left = entry who call.Take reply.AllOut ∷ [];
    ends = inl refl;
    prefix = ap (λ (l : BoardLog). l ++ entry who call.Take reply.AllOut ∷ []) (sym none);
  }
  complete-course who entries (inr (items, is)) = record {
    items = items;
    last = entry who call.Take reply.AllOut ∷ [];
    left = [];
    ends = inl refl;
    prefix = sym is ∙ sym (append-nil entries);
  }

  pub ends-orderly : (log : BoardLog) → WorkedToEnd s log → IsOrderly s log
  ends-orderly log ended who = complete-course who (entries_by who log) (ended.each who)

  -- who is told the end is told it where every item is out, if nobody gave up
  told-end : (log : BoardLog) (b : Bool) (o : Option ℕ) → (if b then Some reply.AllOut else option_map (handed s log) o) ≡ Some reply.AllOut → b ≡ true
  told-end log true o e = refl
  told-end log false None e = absurd (let n : None ≡ Some reply.AllOut = e in cc)
  told-end log false (Some i) e = absurd (let n : Some (handed s log i) ≡ Some reply.AllOut = e in cc)

  pub ends-finished : (log : BoardLog) → IsLegalBoard s log → WorkedToEnd s log → is_finished s log ≡ true
  ends-finished log legal ended =
      let e : BoardEntry = entry ended.who call.Take reply.AllOut in
      let here : is_at_end s ended.before ≡ true = told-end ended.before (is_at_end s ended.before) (find (is_ready s ended.before) (places s)) (legal ended.before e ended.after ended.told_end).1 in
      let on : (test : BoardEntry → Bool) → list_any test ended.before ≡ true → list_any test log ≡ true =
      (λ test any. subst (λ (l : BoardLog). list_any test l ≡ true) (sym ended.told_end) (any-on test ended.before (e ∷ ended.after) any)) in
      elim (either (has_stopped ended.before) (list_all (is_out ended.before) (places s)) here) [
        | inl stopped ↦
            let w = by-somebody (λ (x : BoardEntry). stops x.reply) log (on (λ (x : BoardEntry). stops x.reply) stopped) in
            absurd (complete-goes_on w.0 (entries_by w.0 log) (ended.each w.0) w.1)
        | inr all ↦ all-on (is_out ended.before) (is_stored log) (places s) (λ i out.
            let w = by-somebody (λ (x : BoardEntry). hands_out i x.reply) log (on (λ (x : BoardEntry). hands_out i x.reply) out) in
            by-log (λ (x : BoardEntry). stores i x.call x.reply) w.0 log (complete-stored w.0 (entries_by w.0 log) i (ended.each w.0) w.1)) all
      ]
