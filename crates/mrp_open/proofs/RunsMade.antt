-- What becomes of each run of an order desk's history.
use Rattle.std.proofs.Common.{◌≡◌, ◌∙◌, ◌⊎◌, ℕ, List, [], ◌∷◌, ◌++◌, Option, Some, None, inl, inr, ap, ap₂, append_assoc, refl, subst, sym}
use Rattle.std.proofs.lemmas.List.{append-nil}
use Rattle.std.specs.Prelude.{option_map}
use Rattle.std.specs.List.{FoldsTo}
use Rattle.mrp_tables.specs.Tables.{Tables}
use Rattle.mrp_turn.specs.declared.log.Entry.{Entry}
use Rattle.mrp_master.specs.Supply.{supply_of}
use Rattle.mrp_book.specs.declared.call.Call.{Call}
use Rattle.mrp_book.specs.declared.reply.Reply.{Reply}
use Rattle.mrp_book.specs.declared.reply.Reply.TheVariants as reply
use Rattle.mrp_book.specs.History.{IsLegal}
use Rattle.mrp_book.specs.Snapshot.{Snapshot}
use Rattle.mrp_book.specs.Standing.{History}
use Rattle.mrp_book.proofs.Histories.{legal-front}
use Rattle.mrp_words.specs.Folder.{Known}
use Rattle.mrp_runs.proofs.Histories.{run-behind}
use Rattle.mrp_runs.specs.File.{IsRunAfter}
use Rattle.mrp_runs.specs.declared.run.Run.{Run}
use Rattle.mrp_commands.specs.declared.ending.Ending.{Ending}
use Rattle.mrp_open.specs.Made.{MakesEach, MakesRun}
use Rattle.mrp_open.specs.Runs.{Gives, Handed, Hands, HandsAllMissing, HandsMissing, HandsOver, HandsOverAll, HandsUnless, Misses, run_path}
use Rattle.mrp_open.specs.RunsMade.{HasCome, HandsOn, HaveCome, IsMade, Making, MakesAfter}
use Rattle.mrp_open.specs.Served.{MakesUp, Source, Stand, Stops}
use Rattle.mrp_open.proofs.Settled.{Grows, grows}

-- A list is split where one of its items stands.

-- an item of a list and more is of that list, or of what is behind it
abbrev Splits : {A : Type 0} → List A → List A → List A → A → List A → Type 0
Splits {A} xs ys before e after = ((rest : List A) × (xs ≡ before ++ e ∷ rest)) ⊎ ((middle : List A) × (before ≡ xs ++ middle) × (ys ≡ middle ++ e ∷ after))

splits-more : {A : Type 0} (x b : A) (xs ys before : List A) (e : A) (after : List A) → x ≡ b → Splits xs ys before e after → Splits (x ∷ xs) ys (b ∷ before) e after
splits-more {A} x b xs ys before e after same (inl (rest, is)) = inl (rest, ap₂ (λ (y : A) (l : List A). y ∷ l) same is)
splits-more {A} x b xs ys before e after same (inr (middle, front, is)) = inr (middle, ap₂ (λ (y : A) (l : List A). y ∷ l) (sym same) front, is)

splits : {A : Type 0} (xs ys before : List A) (e : A) (after : List A) → xs ++ ys ≡ before ++ e ∷ after → Splits xs ys before e after
splits [] ys before e after is = inr (before, refl, is)
splits {A} (x ∷ xs) ys [] e after is =
    let cons : x ∷ (xs ++ ys) ≡ e ∷ after = is in
    let same : x ≡ e = cc in
    inl (xs, ap (λ (y : A). y ∷ xs) same)
splits {A} (x ∷ xs) ys (b ∷ before) e after is =
    let cons : x ∷ (xs ++ ys) ≡ b ∷ (before ++ e ∷ after) = is in
    let same : x ≡ b = cc in
    let rest : xs ++ ys ≡ before ++ e ∷ after = cc in
    splits-more x b xs ys before e after same (splits xs ys before e after rest)

-- steps over a list, at one of its items
record FoldsAt {P A : Type 0} (R : P → A → P → Type 0) (first : P) (before : List A) (e : A) (after : List A) (last : P) : Type 0 where
  old : P
  new : P
  front : FoldsTo R first before old
  here : R old e new
  behind : FoldsTo R new after last

folds-at : {P A : Type 0} (R : P → A → P → Type 0) (first : P) (before : List A) (e : A) (after : List A) (last : P) → FoldsTo R first (before ++ e ∷ after) last → FoldsAt R first before e after last
folds-at R first [] e after last (next, one, rest) = record { old = first; new = next; front = refl; here = one; behind = rest }
folds-at R first (x ∷ before) e after last (next, one, rest) =
    let at = folds-at R next before e after last rest in
    record { old = at.old; new = at.new; front = (next, one, at.front); here = at.here; behind = at.behind }

-- Runs that are handed over.

none-more : {A : Type 0} (o : Option (List A)) → o ≡ option_map (λ (l : List A). l ++ []) o
none-more None = refl
none-more {A} (Some l) = ap (λ (x : List A). Some x) (sym (append-nil l))

both-more : {A : Type 0} (a b c : Option (List A)) (r s : List A) → b ≡ option_map (λ (l : List A). l ++ r) a → c ≡ option_map (λ (l : List A). l ++ s) b → c ≡ option_map (λ (l : List A). l ++ (r ++ s)) a
both-more {A} None b c r s p q = q ∙ ap (option_map (λ (l : List A). l ++ s)) p
both-more {A} (Some l) b c r s p q = q ∙ ap (option_map (λ (x : List A). x ++ s)) p ∙ ap (λ (x : List A). Some x) (append_assoc l r s)

on-none : (h : Handed) → HandsOn h h
on-none h = record { fronts = []; runs = []; told = none-more h.told; given = none-more h.given }

on-both : (a b c : Handed) → HandsOn a b → HandsOn b c → HandsOn a c
on-both a b c p q = record {
  fronts = p.fronts ++ q.fronts;
  runs = p.runs ++ q.runs;
  told = both-more a.told b.told c.told p.fronts q.fronts p.told q.told;
  given = both-more a.given b.given c.given p.runs q.runs p.given q.given;
}

on-same : (old new : Handed) → new ≡ old → HandsOn old new
on-same old new same = subst (λ (h : Handed). HandsOn old h) (sym same) (on-none old)

on-gives : (run : Run) (old new : Handed) → Gives run old new → HandsOn old new
on-gives run old new g = record { fronts = run.snapshot.front ∷ []; runs = run ∷ []; told = g.told; given = g.given }

on-misses : (front : ℕ) (old new : Handed) → Misses front old new → HandsOn old new
on-misses front old new m = record { fronts = front ∷ []; runs = []; told = m.told; given = m.given ∙ none-more old.given }

on-over : (desk : ℕ) (r : Reply) (old new : Handed) → HandsOver desk r old new → HandsOn old new
on-over desk (reply.Taken t) old new (inl gives) = on-gives (record { desk = desk; snapshot = t }) old new gives
on-over desk (reply.Taken t) old new (inr misses) = on-misses t.front old new misses
on-over desk r old new same = on-same old new same

on-missing : (known : Known) (folder : List ℕ) (desk : ℕ) (r : Reply) (old new : Handed) → HandsMissing known folder desk r old new → HandsOn old new
on-missing known folder desk (reply.Taken t) old new (inl (gives, absent)) = on-gives (record { desk = desk; snapshot = t }) old new gives
on-missing known folder desk (reply.Taken t) old new (inr (inl misses)) = on-misses t.front old new misses
on-missing known folder desk (reply.Taken t) old new (inr (inr (same, there))) = on-same old new same
on-missing known folder desk r old new same = on-same old new same

on-all : (R : Handed → Entry Call Reply → Handed → Type 0) → ((a : Handed) (e : Entry Call Reply) (b : Handed) → R a e b → HandsOn a b) → (h : History) (first last : Handed) → FoldsTo R first h last → HandsOn first last
on-all R on [] first last same = subst (λ (x : Handed). HandsOn first x) same (on-none first)
on-all R on (e ∷ h) first last (next, one, rest) = on-both first next last (on first e next one) (on-all R on h next last rest)

-- a run that was given is among those that were given
given-among : (run : Run) (first old new last : Handed) (runs : List Run) → first.given ≡ Some [] → (from : HandsOn first old) → Gives run old new → (to : HandsOn new last) → last.given ≡ Some runs
    → runs ≡ from.runs ++ run ∷ to.runs
given-among run first old new last runs none from gives to all =
    let before : old.given ≡ Some from.runs = from.given ∙ ap (option_map (λ (l : List Run). l ++ from.runs)) none in
    let here : new.given ≡ Some (from.runs ++ run ∷ []) = gives.given ∙ ap (option_map (λ (l : List Run). l ++ run ∷ [])) before in
    let after : last.given ≡ Some ((from.runs ++ run ∷ []) ++ to.runs) = to.given ∙ ap (option_map (λ (l : List Run). l ++ to.runs)) here in
    let same : Some runs ≡ Some ((from.runs ++ run ∷ []) ++ to.runs) = sym all ∙ after in
    let is : runs ≡ (from.runs ++ run ∷ []) ++ to.runs = cc in
    is ∙ append_assoc from.runs (run ∷ []) to.runs

module _ (known : Known) (folder : List ℕ) (P : Type 0) {N : Type 0} (contents : N → Option (List ℕ)) (tables : Tables) where
  -- what is made of a run is made of it behind its entries
  makes-after : (before : History) (run : Run) (old new : Making N) → IsRunAfter tables before run → MakesRun P contents tables run old.1 new.1 old.0 new.0 old.2 new.2 → MakesAfter P contents tables before run old new
  makes-after before run old new legal (inl (same, (outcome, kept, tells))) = inl (same, (outcome, kept before legal, tells))
  makes-after before run old new legal (inr (may, (why, fails, tells))) = inr (may before legal, (why, fails, tells))

  made-among : (before : History) (run : Run) (runs earlier later : List Run) (first last : Making N) → IsRunAfter tables before run → runs ≡ earlier ++ run ∷ later
      → MakesEach P contents tables runs first.1 last.1 first.0 last.0 first.2 last.2 → IsMade P contents tables before run first last
  made-among before run runs earlier later first last legal is each =
      let at = folds-at (λ (old : Making N) (r : Run) (new : Making N). MakesRun P contents tables r old.1 new.1 old.0 new.0 old.2 new.2) first earlier run later last
      (subst (λ (rs : List Run). MakesEach P contents tables rs first.1 last.1 first.0 last.0 first.2 last.2) is each) in
      record { old = at.old; new = at.new; earlier = earlier; later = later; from = at.front; makes = makes-after before run at.old at.new legal at.here; to = at.behind }

  module _ (runs : List Run) (handed_old handed_new : Handed) (first last : Making N) (none : handed_old.given ≡ Some []) (all : handed_new.given ≡ Some runs) (each : MakesEach P contents tables runs first.1 last.1 first.0 last.0 first.2 last.2) where
    -- a run that was handed over
    came : (before : History) (run : Run) (old new : Handed) → IsRunAfter tables before run → HandsOn handed_old old → Hands run old new → HandsOn new handed_new
        → HasCome known folder P contents tables before run handed_old handed_new first last
    came before run old new legal from (inl gives) to =
        inr (inr (made-among before run runs from.runs to.runs first last legal (given-among run handed_old old new handed_new runs none from gives to all) each))
    came before run old new legal from (inr misses) to = inr (inl (record { old = old; new = new; from = from; misses = misses; to = to }))

    -- one that was, unless it had its file
    came-unless : (before : History) (run : Run) (old new : Handed) → IsRunAfter tables before run → HandsOn handed_old old → HandsUnless known (run_path folder run) run old new → HandsOn new handed_new
        → HasCome known folder P contents tables before run handed_old handed_new first last
    came-unless before run old new legal from (inl (gives, absent)) to = came before run old new legal from (inl gives) to
    came-unless before run old new legal from (inr (inl misses)) to = came before run old new legal from (inr misses) to
    came-unless before run old new legal from (inr (inr (same, there))) to = inl there

    module _ (journal more : History) (middle : Handed) (missing : HandsAllMissing known folder journal handed_old middle) (over : HandsOverAll more middle handed_new) where
      abbrev Missing : Handed → Entry Call Reply → Handed → Type 0
      Missing a e b = HandsMissing known folder e.who e.reply a b

      abbrev Over : Handed → Entry Call Reply → Handed → Type 0
      Over a e b = HandsOver e.who e.reply a b

      on-missings : (h : History) (a b : Handed) → FoldsTo Missing a h b → HandsOn a b
      on-missings h a b folds = on-all Missing (λ a e b one. on-missing known folder e.who e.reply a b one) h a b folds

      on-overs : (h : History) (a b : Handed) → FoldsTo Over a h b → HandsOn a b
      on-overs h a b folds = on-all Over (λ a e b one. on-over e.who e.reply a b one) h a b folds

      come : (before after : History) (e : Entry Call Reply) (t : Snapshot) → IsRunAfter tables before (record { desk = e.who; snapshot = t }) → e.reply ≡ reply.Taken t → Splits journal more before e after
          → HasCome known folder P contents tables before (record { desk = e.who; snapshot = t }) handed_old handed_new first last
      come before after e t legal taken (inl (rest, is)) =
          let at = folds-at Missing handed_old before e rest middle (subst (λ (h : History). FoldsTo Missing handed_old h middle) is missing) in
          came-unless before (record { desk = e.who; snapshot = t }) at.old at.new legal (on-missings before handed_old at.old at.front)
          (subst (λ (r : Reply). HandsMissing known folder e.who r at.old at.new) taken at.here) (on-both at.new middle handed_new (on-missings rest at.new middle at.behind) (on-overs more middle handed_new over))
      come before after e t legal taken (inr (between, front, is)) =
          let at = folds-at Over middle between e after handed_new (subst (λ (h : History). FoldsTo Over middle h handed_new) is over) in
          came before (record { desk = e.who; snapshot = t }) at.old at.new legal (on-both handed_old middle at.old (on-missings journal handed_old middle missing) (on-overs between middle at.old at.front))
          (subst (λ (r : Reply). HandsOver e.who r at.old at.new) taken at.here) (on-overs after at.new handed_new at.behind)

  -- the entries that were answered are of the legal history
  legal-between : (lines : List (List ℕ)) (between new : Stand) (end : Ending) → Stops lines between new end → IsLegal (supply_of tables) new.desk.entries → IsLegal (supply_of tables) between.desk.entries
  legal-between lines between new end (inl (other, same)) legal = subst (λ (s : Stand). IsLegal (supply_of tables) s.desk.entries) same legal
  legal-between lines between new end (inr (broken, breaks)) legal =
      let g : Grows between.desk new.desk = grows lines between.desk new.desk breaks.answers breaks.records breaks.answered in
      legal-front (supply_of tables) between.desk.entries g.more (subst (IsLegal (supply_of tables)) g.is legal)

  -- each run that was answered
  pub have-come : (given left : Source) (old new : Stand) (handed_old handed_new : Handed) (end : Ending) (runs : List Run) (first last : Making N) (up : MakesUp known folder given left old new handed_old handed_new end)
      → IsLegal (supply_of tables) new.desk.entries → handed_old.given ≡ Some [] → handed_new.given ≡ Some runs → MakesEach P contents tables runs first.1 last.1 first.0 last.0 first.2 last.2
      → HaveCome known folder P contents tables up.2.between.desk.entries handed_old handed_new first last
  have-come given left old new handed_old handed_new end runs first last (middle, missing, s) legal none all each before after e t is taken =
      let handed = s.settles.handed in
      let here : IsLegal (supply_of tables) s.between.desk.entries = legal-between s.more s.between new end s.stopped legal in
      let run : IsRunAfter tables before (record { desk = e.who; snapshot = t }) = run-behind tables before after e t (subst (IsLegal (supply_of tables)) is here) taken in
      come runs handed_old handed_new first last none all each old.desk.entries handed.more middle missing handed.handed before after e t run taken
      (splits old.desk.entries handed.more before e after (sym handed.is ∙ is))
