-- The runs of a history are merged, entry by entry.
use Rattle.std.proofs.Common.{◌≡◌, ◌≢◌, ◌∙◌, ◌⊎◌, ◌||◌, ℕ, ◌+◌, ◌-◌, ◌<◌, ◌≤◌, ◌++◌, Bool, true, cond, List, [], ◌∷◌, Vec, drop, get_or, length, map, set, take, ap, arith, inl, inr, refl, subst, sym}
use Rattle.std.specs.Prelude.{All}
use Rattle.std.specs.declared.collections.VecDeque.{VecDeque}
use Rattle.std.specs.List.{AllZip, list_any}
use Rattle.std.specs.declared.alloc.Global.{Global}
use Rattle.std.proofs.lemmas.Bool.{cases_eq, eq-eqb, ne_eqb, or_left, or_right}
use Rattle.std.proofs.lemmas.List.{append-nil, drop_all, drop_more, get_or-map, get_or-set_other, get_or-set_same, length-map, map-set, take_all}
use Rattle.mrp_bill.specs.Lists.{listed}
use Rattle.mrp_turn.specs.declared.log.Entry.{Entry}
use Rattle.mrp_turn.specs.Log.{entries_by}
use Rattle.mrp_tables.specs.Tables.{Tables}
use Rattle.mrp_book.specs.declared.call.Call.{Call}
use Rattle.mrp_book.specs.declared.reply.Reply.{Reply}
use Rattle.mrp_book.specs.declared.reply.Reply.TheVariants as reply
use Rattle.mrp_book.specs.Snapshot.{Snapshot}
use Rattle.mrp_book.specs.Standing.{History}
use Rattle.mrp_board.proofs.Tests.{any-more, either, no}
use Rattle.mrp_item.specs.Inputs.{Inputs, inputs_of}
use Rattle.mrp_engine.specs.day.Day.{planned_from, runs_of}
use Rattle.mrp_engine.specs.day.Planned.{PlansRun}
use Rattle.mrp_engine.specs.live.Runs.{AreRunsOf, RunResult, lacks_memory, queued}
use Rattle.mrp_engine.proofs.lemmas.day.RunsPlanned.{not-a-run, runs-more}
use Rattle.mrp_script.proofs.Zipped.{zip-push}

abbrev pub Queue : Type 0
Queue = VecDeque RunResult Global

-- a queue as it is read
queued-read : (queues : List Queue) (k : ℕ) (d : Queue) → k < length queues → queued queues k ≡ (get_or queues k d).items
queued-read queues k d within = get_or-map (λ (q : Queue). q.items) queues k d [] within

queued-set_same : (queues : List Queue) (k : ℕ) (q : Queue) → k < length queues → queued (set queues k q) k ≡ q.items
queued-set_same queues k q within =
    rw (map-set (λ (x : Queue). x.items) queues k q) (get_or-set_same (map (λ (x : Queue). x.items) queues) k q.items [] (omega (arith, within, length-map queues (λ (x : Queue). x.items))))

pub queued-set_other : (queues : List Queue) (k other : ℕ) (q : Queue) → other ≢ k → queued (set queues k q) other ≡ queued queues other
queued-set_other queues k other q apart = rw (map-set (λ (x : Queue). x.items) queues k q) (get_or-set_other (map (λ (x : Queue). x.items) queues) k other q.items [] apart)

-- the first of a queue is taken
pub pop-next : (queues : List Queue) (k : ℕ) (old new : Queue) (run : RunResult) → k < length queues → old ≡ get_or queues k old → old.items ≡ run ∷ new.items → queued queues k ≡ run ∷ queued (set queues k new) k
pop-next queues k old new run within is next =
    queued-read queues k old within ∙ ap (λ (q : Queue). q.items) (sym is) ∙ next ∙ ap (λ (rest : List RunResult). run ∷ rest) (sym (queued-set_same queues k new within))

zip-some : {A B : Type 0} (R : A → B → Type 0) (x : A) (xs : List A) (ys : List B) → AllZip R (x ∷ xs) ys → 0 < length ys
zip-some R x xs [] all = absurd all
zip-some R x xs (y ∷ ys) all = omega arith

-- how far runs are merged: those of the first entries are in order, those of the others still in their desks' queues
pub record AreMerged (t : Tables) (h : History) (k : ℕ) (queues : List Queue) (all : List RunResult) : Type 0 where
  pub still : (place : ℕ) → place < length queues → AllZip PlansRun (runs_of t (entries_by (place + 1) (drop k h))) (queued queues place)
  pub done : AllZip PlansRun (runs_of t (take k h)) all
  pub callers : All (λ e. (1 ≤ e.who) × (e.who ≤ length queues)) h

-- none is merged yet
pub none-merged : (t : Tables) (h given : History) (runs : List (Vec RunResult Global)) (queues : List Queue) (all : List RunResult) → h ≡ given → map (λ (q : Queue). q.items) queues ≡ map (λ (v : Vec RunResult Global). v.items) runs → all ≡ []
    → AreRunsOf t given runs → AreMerged t h 0 queues all
none-merged t h given runs queues all same are none of_runs =
    let size : length queues ≡ length runs =
    sym (length-map queues (λ (q : Queue). q.items)) ∙ ap (length {A = List RunResult}) are ∙ length-map runs (λ (v : Vec RunResult Global). v.items) in
    record {
      still = λ place within.
          subst (λ (x : History). AllZip PlansRun (runs_of t (entries_by (place + 1) x)) (queued queues place)) (sym same)
          (subst (AllZip PlansRun (runs_of t (entries_by (place + 1) given))) (sym (ap (λ (lists : List (List RunResult)). get_or lists place []) are)) (of_runs.each place (omega (arith, within, size))));
      done = subst (AllZip PlansRun []) (sym none) tt;
      callers = λ k e within.
          let r = subst (λ (x : History). All (λ e. (1 ≤ e.who) × (e.who ≤ length runs)) x) (sym same) of_runs.callers k e within in
          (r.0, omega (arith, r.1, size));
    }

module _ (t : Tables) (h : History) (k : ℕ) (e : Entry Call Reply) (queues : List Queue) (all : List RunResult) (within : k < length h) (is : e ≡ get_or h k e) (merged : AreMerged t h k queues all) where
  later : History
  later = drop (k + 1) h

  rest : drop k h ≡ e ∷ drop (k + 1) h
  rest = drop_more h k e within ∙ ap (λ (x : Entry Call Reply). x ∷ drop (k + 1) h) (sym is)

  pub caller : (1 ≤ e.who) × (e.who ≤ length queues)
  caller = subst (λ (x : Entry Call Reply). (1 ≤ x.who) × (x.who ≤ length queues)) (sym is) (merged.callers k e within)

  -- the runs of this entry and of its desk's later ones are still in its desk's queue
  own : AllZip PlansRun (planned_from t e.reply ++ runs_of t (entries_by e.who (drop (k + 1) h))) (queued queues (e.who - 1))
  own =
      let number : e.who - 1 + 1 ≡ e.who = omega (arith, caller.0) in
      let entries : entries_by (e.who - 1 + 1) (drop k h) ≡ e ∷ entries_by e.who (drop (k + 1) h) =
      ap (λ (n : ℕ). entries_by n (drop k h)) number ∙ ap (entries_by e.who) rest
      ∙ ap (λ (b : Bool). cond b (e ∷ entries_by e.who (drop (k + 1) h)) (entries_by e.who (drop (k + 1) h))) (eq-eqb e.who e.who refl) in
      subst (λ (x : History). AllZip PlansRun (runs_of t x) (queued queues (e.who - 1))) entries (merged.still (e.who - 1) (omega (arith, caller.0, caller.1)))

  -- the runs of the entries under another number are those of the later ones
  others : (place : ℕ) → place < length queues → place ≢ e.who - 1 → AllZip PlansRun (runs_of t (entries_by (place + 1) (drop (k + 1) h))) (queued queues place)
  others place low apart =
      let other : e.who ≢ place + 1 = λ n. apart (omega (arith, n)) in
      let entries : entries_by (place + 1) (drop k h) ≡ entries_by (place + 1) (drop (k + 1) h) =
      ap (entries_by (place + 1)) rest ∙ ap (λ (b : Bool). cond b (e ∷ entries_by (place + 1) (drop (k + 1) h)) (entries_by (place + 1) (drop (k + 1) h))) (ne_eqb e.who (place + 1) other) in
      subst (λ (x : History). AllZip PlansRun (runs_of t x) (queued queues place)) entries (merged.still place low)

  module _ (snapshot : Snapshot) (taken : e.reply ≡ reply.Taken snapshot) where
    started : AllZip PlansRun (inputs_of t snapshot ∷ runs_of t (entries_by e.who (drop (k + 1) h))) (queued queues (e.who - 1))
    started = subst (λ (r : Reply). AllZip PlansRun (planned_from t r ++ runs_of t (entries_by e.who (drop (k + 1) h))) (queued queues (e.who - 1))) taken own

    -- its run is there
    pub is-there : 0 < length (queued queues (e.who - 1))
    is-there = zip-some PlansRun (inputs_of t snapshot) (runs_of t (entries_by e.who (drop (k + 1) h))) (queued queues (e.who - 1)) started

    -- its run is merged
    pub one-merged : (now : List Queue) (run : RunResult) (more : List RunResult) → length now ≡ length queues → queued queues (e.who - 1) ≡ run ∷ queued now (e.who - 1)
        → ((place : ℕ) → place ≢ e.who - 1 → queued now place ≡ queued queues place) → more ≡ all ++ run ∷ [] → AreMerged t h (k + 1) now more
    one-merged now run more size next same adds =
        let both : AllZip PlansRun (inputs_of t snapshot ∷ runs_of t (entries_by e.who (drop (k + 1) h))) (run ∷ queued now (e.who - 1)) =
        subst (AllZip PlansRun (inputs_of t snapshot ∷ runs_of t (entries_by e.who (drop (k + 1) h)))) next started in
        record {
          still = λ place low. elim (cases_eq place (e.who - 1)) [
            | inl here ↦
                let number : e.who ≡ place + 1 = omega (arith, here, caller.0) in
                subst (λ (n : ℕ). AllZip PlansRun (runs_of t (entries_by n (drop (k + 1) h))) (queued now place)) number
                (subst (λ (p : ℕ). AllZip PlansRun (runs_of t (entries_by e.who (drop (k + 1) h))) (queued now p)) (sym here) both.1)
            | inr apart ↦
                subst (AllZip PlansRun (runs_of t (entries_by (place + 1) (drop (k + 1) h)))) (sym (same place apart)) (others place (omega (arith, low, size)) apart)
          ];
          done =
              let runs : runs_of t (take (k + 1) h) ≡ runs_of t (take k h) ++ inputs_of t snapshot ∷ [] = runs-more t h k e within is ∙ ap (λ (r : Reply). runs_of t (take k h) ++ planned_from t r) taken in
              subst (λ (xs : List Inputs). AllZip PlansRun xs more) (sym runs)
              (subst (AllZip PlansRun (runs_of t (take k h) ++ inputs_of t snapshot ∷ [])) (sym adds) (zip-push PlansRun (runs_of t (take k h)) all (inputs_of t snapshot) run merged.done both.0));
          callers = λ j x low. let r = merged.callers j x low in (r.0, omega (arith, r.1, size));
        }

  -- it starts no run
  pub same-merged : ((snapshot : Snapshot) → e.reply ≡ reply.Taken snapshot → ⊥) → AreMerged t h (k + 1) queues all
  same-merged other =
      let none : planned_from t e.reply ≡ [] = not-a-run t e.reply other in
      record {
        still = λ place low. elim (cases_eq place (e.who - 1)) [
          | inl here ↦
              let number : e.who ≡ place + 1 = omega (arith, here, caller.0) in
              subst (λ (n : ℕ). AllZip PlansRun (runs_of t (entries_by n (drop (k + 1) h))) (queued queues place)) number
              (subst (λ (p : ℕ). AllZip PlansRun (runs_of t (entries_by e.who (drop (k + 1) h))) (queued queues p)) (sym here)
              (subst (λ (runs : List Inputs). AllZip PlansRun (runs ++ runs_of t (entries_by e.who (drop (k + 1) h))) (queued queues (e.who - 1))) none own))
          | inr apart ↦ others place low apart
        ];
        done =
            let runs : runs_of t (take (k + 1) h) ≡ runs_of t (take k h) = runs-more t h k e within is ∙ ap (λ (r : List Inputs). runs_of t (take k h) ++ r) none ∙ append-nil (runs_of t (take k h)) in
            subst (λ (xs : List Inputs). AllZip PlansRun xs all) (sym runs) merged.done;
        callers = merged.callers;
      }

-- all are merged
pub all-merged : (t : Tables) (h given : History) (k : ℕ) (queues : List Queue) (all : List RunResult) → h ≡ given → length h ≤ k → AreMerged t h k queues all → AllZip PlansRun (runs_of t given) all
all-merged t h given k queues all same past merged = subst (λ (x : History). AllZip PlansRun (runs_of t x) all) (take_all k h past ∙ same) merged.done

-- Runs that were refused memory.

zip-none : {A B : Type 0} (R : A → B → Type 0) (ys : List B) → AllZip R [] ys → ys ≡ []
zip-none R [] all = refl
zip-none R (y ∷ ys) all = absurd all

-- each run that was refused memory is merged, or still in its desk's queue
pub record KeepLacking (runs : List (Vec RunResult Global)) (queues : List Queue) (all : List RunResult) : Type 0 where
  pub size : length queues ≡ length runs
  pub kept : (place : ℕ) → list_any lacks_memory (listed runs place) ≡ true → (list_any lacks_memory all ≡ true) ⊎ (list_any lacks_memory (queued queues place) ≡ true)

-- none is merged yet
pub none-lost : (runs : List (Vec RunResult Global)) (queues : List Queue) (all : List RunResult) → map (λ (q : Queue). q.items) queues ≡ map (λ (v : Vec RunResult Global). v.items) runs → KeepLacking runs queues all
none-lost runs queues all are = record {
  size = sym (length-map queues (λ (q : Queue). q.items)) ∙ ap (length {A = List RunResult}) are ∙ length-map runs (λ (v : Vec RunResult Global). v.items);
  kept = λ place lacks. inr (subst (λ (xs : List RunResult). list_any lacks_memory xs ≡ true) (sym (ap (λ (lists : List (List RunResult)). get_or lists place []) are)) lacks);
}

-- one more is merged
pub one-kept : (runs : List (Vec RunResult Global)) (queues now : List Queue) (all more : List RunResult) (own : ℕ) (run : RunResult) → length now ≡ length queues → queued queues own ≡ run ∷ queued now own
    → ((place : ℕ) → place ≢ own → queued now place ≡ queued queues place) → more ≡ all ++ run ∷ [] → KeepLacking runs queues all → KeepLacking runs now more
one-kept runs queues now all more own run size next same adds keeps =
    let any : list_any lacks_memory more ≡ (list_any lacks_memory all || lacks_memory run) = ap (list_any lacks_memory) adds ∙ any-more lacks_memory all run in
    let earlier : list_any lacks_memory all ≡ true → list_any lacks_memory more ≡ true = λ e. any ∙ or_left (list_any lacks_memory all) (lacks_memory run) e in
    let this : lacks_memory run ≡ true → list_any lacks_memory more ≡ true = λ e. any ∙ or_right (list_any lacks_memory all) (lacks_memory run) e in
    record {
      size = size ∙ keeps.size;
      kept = λ place lacks. elim (keeps.kept place lacks) [
        | inl merged ↦ inl (earlier merged)
        | inr left ↦
            elim (cases_eq place own) [
              | inl here ↦
                  let first : (lacks_memory run || list_any lacks_memory (queued now own)) ≡ true =
                  subst (λ (xs : List RunResult). list_any lacks_memory xs ≡ true) next (subst (λ (p : ℕ). list_any lacks_memory (queued queues p) ≡ true) here left) in
                  elim (either (lacks_memory run) (list_any lacks_memory (queued now own)) first) [
                    | inl e ↦ inl (this e)
                    | inr e ↦ inr (subst (λ (p : ℕ). list_any lacks_memory (queued now p) ≡ true) (sym here) e)
                  ]
              | inr apart ↦ inr (subst (λ (xs : List RunResult). list_any lacks_memory xs ≡ true) (sym (same place apart)) left)
            ]
      ];
    }

-- each that was refused memory is merged
pub all-kept : (t : Tables) (h : History) (k : ℕ) (runs : List (Vec RunResult Global)) (queues : List Queue) (all : List RunResult) (place : ℕ) → length h ≤ k → AreMerged t h k queues all → KeepLacking runs queues all
    → place < length runs → list_any lacks_memory (listed runs place) ≡ true → list_any lacks_memory all ≡ true
all-kept t h k runs queues all place past merged keeps low lacks = elim (keeps.kept place lacks) [
  | inl there ↦ there
  | inr left ↦
      let size = keeps.size in
      let still : AllZip PlansRun (runs_of t (entries_by (place + 1) [])) (queued queues place) =
      subst (λ (x : History). AllZip PlansRun (runs_of t (entries_by (place + 1) x)) (queued queues place)) (drop_all k h past) (merged.still place (omega (arith, low, size))) in
      let none : list_any lacks_memory [] ≡ true = subst (λ (xs : List RunResult). list_any lacks_memory xs ≡ true) (zip-none PlansRun (queued queues place) still) left in
      no none
]
