-- Every right list of events and answers keeps the headline.
use Rattle.std.proofs.Common.{◌≡◌, ◌≢◌, ◌∙◌, ◌<◌, ◌↔◌, ℕ, true, List, ◌∷◌, length, take, drop, inl, inr, refl, sym, ap, subst}
use Rattle.std.proofs.lemmas.List.{take-append-drop}
use Rattle.std.specs.Prelude.{All, AllPairs, slice_index}
use Rattle.std.specs.Global.{Vec}
use Rattle.mrp_turn.specs.Log.{entry}
use Rattle.mrp_turn.proofs.Logs.{EachFollows-front}
use Rattle.mrp_tables.specs.Tables.{Tables}
use Rattle.mrp_tables.specs.Facts.{IsBillLine, IsItem, IsOperation, NumbersRise}
use Rattle.mrp_tables.specs.Items.{no_item}
use Rattle.mrp_bill.specs.Shop.{Shop}
use Rattle.mrp_master.specs.Supply.{supply_of}
use Rattle.mrp_book.specs.declared.call.Call.TheVariants as call
use Rattle.mrp_book.specs.Standing.{History}
use Rattle.mrp_book.specs.History.{IsLegal}
use Rattle.mrp_book.proofs.Histories.{legal-front, prefix-covered}
use Rattle.mrp_book.proofs.Promised.{booked_within, rising}
use Rattle.mrp_item.specs.Inputs.{Inputs, count, item_at}
use Rattle.mrp_item.proofs.ShopLemmas.{has_parents, is_plannable, is_ranked}
use Rattle.mrp_peg.specs.Laws.{AddUpToRequirements, AddUpToSupplies}
use Rattle.mrp_peg.specs.Pegging.{pegs_of, requirements, supplies}
use Rattle.mrp_peg.proofs.Covered.{covered_item}
use Rattle.mrp_peg.proofs.ItemSums.{to-requirements, to-supplies}
use Rattle.mrp_peg.proofs.NeedsDiffer.{needs-differ}
use Rattle.mrp_peg.proofs.Own.{own-of_all}
use Rattle.mrp_peg.proofs.SuppliesDiffer.{supplies-differ}
use Rattle.mrp_load.specs.Loads.{load}
use Rattle.mrp_report.specs.ReportText.{report_text}
use Rattle.mrp_engine.specs.declared.event_core.event.Event.{Event}
use Rattle.mrp_engine.specs.declared.event_core.event.Event.TheVariants as event
use Rattle.mrp_engine.specs.declared.event_core.event.Answer.{Answer}
use Rattle.mrp_engine.specs.declared.event_core.event.Answer.TheVariants as answer
use Rattle.mrp_engine.specs.day.Day.{IsPlannable, IsRefusedBy}
use Rattle.mrp_board.specs.Board.{is_stored}
use Rattle.mrp_board.proofs.HandsOn.{hands-on}
use Rattle.mrp_engine.specs.event_core.Core.{Core, HasMeaning, IsAnswer, IsRight, MayFollowSteps, Step, core_of, log_at, run_at, run_inputs, snapshot_of}
use Rattle.mrp_engine.specs.event_core.Headline.{Headline, IsAcceptedShop, WasAnswered, WasWritten, time_of_orders}
use Rattle.mrp_engine.proofs.lemmas.event_core.BoardAnswers.{all-logged, ended-logged, handed-logged, stopped-logged, stored-logged}
use Rattle.mrp_engine.proofs.lemmas.event_core.CoreAnswers.{all-answered, all-started, start-inputs}
use Rattle.mrp_engine.proofs.lemmas.event_core.CoreLaws.{KeepsBoards, answered, bytes-are, core-one, full-is, meaningless, name-is, numbered-is, right-boards, right-sound, started-is, stays-entered, tables-stay, unchanged, written-inputs}
use Rattle.mrp_engine.proofs.lemmas.event_core.LoadsByOrder.{load-by-orders}
use Rattle.mrp_engine.proofs.lemmas.event_core.RunBoards.{all-stored}

-- the pegs of a planned run
planned-pegged : (shop : Shop) (s : Inputs) → IsAcceptedShop shop → shop.tables ≡ s.tables → IsPlannable s → (item : ℕ) → item < count s
    → AddUpToRequirements s item (pegs_of s item) × AddUpToSupplies s item (pegs_of s item)
planned-pegged shop s kept same plannable item within =
    let code : ℕ → ℕ = slice_index shop.codes in
    let lines = subst (λ (t : Tables). All (IsBillLine t.items) t.bills) same kept.tables.bills in
    let items = subst (λ (t : Tables). All IsItem t.items) same kept.tables.items in
    let own = own-of_all s item code plannable.0 (is_ranked s shop same kept.accepted) (has_parents s lines) plannable.1 within in
    (to-requirements s item (covered_item s item own (is_plannable (item_at s item) (items item no_item within)).sized), to-supplies s item)

module _ (shop : Shop) (kept : IsAcceptedShop shop) (steps : List Step) (right : IsRight shop.tables steps) where
  abbrev tables : Tables
  tables = shop.tables

  abbrev end : Core
  end = core_of shop.tables steps

  -- the steps before are right, so their boards are kept
  before-boards : (before : List Step) (e : Event) (a : Answer) → WasAnswered steps before e a → KeepsBoards (core_of shop.tables before)
  before-boards before e a was =
      right-boards shop.tables before (EachFollows-front (MayFollowSteps shop.tables) before ((e, a) ∷ was.after) (subst (λ (l : List Step). IsRight shop.tables l) was.place right))

  end-legal : IsLegal (supply_of shop.tables) end.history
  end-legal = subst (λ (t : Tables). IsLegal (supply_of t) end.history) (tables-stay shop.tables steps) (right-sound shop.tables steps right).legal

  end-written : (before : List Step) (run : ℕ) (bytes : Vec ℕ) → WasAnswered steps before (event.Write run) (answer.Bytes bytes)
      → IsPlannable (run_inputs end run) × (bytes.items ≡ report_text (run_inputs end run))
  end-written before run bytes was =
      let (started, plannable, text) = bytes-are (core_of shop.tables before) run bytes (answered shop.tables steps before (event.Write run) (answer.Bytes bytes) right was) in
      let same = written-inputs shop.tables steps before (event.Write run) (answer.Bytes bytes) run right was started in
      (subst (λ (s : Inputs). IsPlannable s) (sym same) plannable, text ∙ ap report_text (sym same))

  end-refused : (before : List Step) (run : ℕ) (name : List ℕ) → WasAnswered steps before (event.Write run) (answer.TooLarge name) → IsRefusedBy (run_inputs end run) name
  end-refused before run name was =
      let (started, refused) = name-is (core_of shop.tables before) run name (answered shop.tables steps before (event.Write run) (answer.TooLarge name) right was) in
      let same = written-inputs shop.tables steps before (event.Write run) (answer.TooLarge name) run right was started in
      subst (λ (s : Inputs). IsRefusedBy s name) (sym same) refused

  -- the tables of a run that was written are the shop's
  written-tables : (s : Inputs) → WasWritten shop.tables steps s → s.tables ≡ shop.tables
  written-tables s was = ap (λ (x : Inputs). x.tables) was.inputs ∙ tables-stay shop.tables was.before

  end-pegged : (s : Inputs) → WasWritten shop.tables steps s → (item : ℕ) → item < count s → AddUpToRequirements s item (pegs_of s item) × AddUpToSupplies s item (pegs_of s item)
  end-pegged s was item within =
      let core : Core = core_of shop.tables was.before in
      let (started, plannable, text) = bytes-are core was.run was.bytes (answered shop.tables steps was.before (event.Write was.run) (answer.Bytes was.bytes) right was.answered) in
      planned-pegged shop s kept (sym (written-tables s was)) (subst (λ (x : Inputs). IsPlannable x) (sym was.inputs) plannable) item within

  end-apart : (s : Inputs) → WasWritten shop.tables steps s → (item : ℕ) → AllPairs (λ a b. a.of ≢ b.of) (requirements s item)
  end-apart s was item =
      let (started, plannable, text) = bytes-are (core_of shop.tables was.before) was.run was.bytes (answered shop.tables steps was.before (event.Write was.run) (answer.Bytes was.bytes) right was.answered) in
      let same = written-inputs shop.tables steps was.before (event.Write was.run) (answer.Bytes was.bytes) was.run right was.answered started in
      let front : ℕ = (run_at end was.run).front in
      let legal : IsLegal (supply_of shop.tables) (take front end.history) =
      legal-front (supply_of shop.tables) (take front end.history) (drop front end.history) (subst (λ (h : History). IsLegal (supply_of shop.tables) h) (sym (take-append-drop front end.history)) end-legal) in
      needs-differ s item (subst (λ (x : Inputs). AllPairs (λ a b. a.number < b.number) x.standing) (same ∙ sym was.inputs) (rising (supply_of shop.tables) (take front end.history) legal).0)
      (subst (λ (t : Tables). AllPairs (λ a b. a.number < b.number) t.master) (sym (written-tables s was)) kept.tables.scheduled)

  end-sources : (s : Inputs) → WasWritten shop.tables steps s → (item : ℕ) → AllPairs (λ a b. a.of ≢ b.of) (supplies s item)
  end-sources s was item = supplies-differ s item (subst (λ (t : Tables). NumbersRise t.receipts) (sym (written-tables s was)) kept.tables.numbered)

  end-loaded : (s : Inputs) → WasWritten shop.tables steps s → (centre week : ℕ) → load s centre week ≡ time_of_orders s centre week
  end-loaded s was centre week =
      load-by-orders s (subst (λ (t : Tables). All (IsOperation t.items t.centres) t.routings) (sym (written-tables s was)) kept.tables.routings) centre week

  end-meant : (before : List Step) (e : Event) (a : Answer) → WasAnswered steps before e a → (a ≢ answer.Nothing) ↔ HasMeaning (core_of shop.tables before) e
  end-meant before e a was = something (answered shop.tables steps before e a right was)
    where
      something : IsAnswer (core_of shop.tables before) e a → (a ≢ answer.Nothing) ↔ HasMeaning (core_of shop.tables before) e
      something (inl (has, is)) = (λ not. has, λ also nothing. (meaningless (core_of shop.tables before) (before-boards before e a was) e a (inl (has, is))).0 nothing has)
      something (inr (none, is)) = (λ not. absurd (not is), λ has. absurd (none has))

  end-finished : (before : List Step) (run : ℕ) (a : Answer) → WasAnswered steps before (event.Write run) a → a ≢ answer.Nothing
      → (item : ℕ) → item < length shop.tables.items → is_stored (log_at (core_of shop.tables before) run) item ≡ true
  end-finished before run a was not item within =
      let core : Core = core_of shop.tables before in
      all-stored (run_inputs core run) (log_at core run) ((end-meant before (event.Write run) a was).0 not).1 item (subst (λ (t : Tables). item < length t.items) (sym (tables-stay shop.tables before)) within)

  pub headline : Headline shop.tables steps
  headline = record {
    legal = end-legal;
    numbered = λ before desk n c r was. numbered-is (core_of shop.tables before) desk n c r (answered shop.tables steps before (event.Call desk c) (answer.Replied n r) right was);
    started = λ before desk run front was. started-is (core_of shop.tables before) desk run front (answered shop.tables steps before (event.Start desk) (answer.Started run front) right was);
    entered = λ before desk n c r was. stays-entered shop.tables steps before (event.Call desk c) (answer.Replied n r) was n (entry desk c r) refl
        (numbered-is (core_of shop.tables before) desk n c r (answered shop.tables steps before (event.Call desk c) (answer.Replied n r) right was));
    snapped = λ before desk run front was. stays-entered shop.tables steps before (event.Start desk) (answer.Started run front) was front (entry desk call.Snapshot (snapshot_of (core_of shop.tables before) front)) refl
        (started-is (core_of shop.tables before) desk run front (answered shop.tables steps before (event.Start desk) (answer.Started run front) right was)).1;
    answered = all-answered shop.tables steps right;
    fronts = λ before desk run front was. start-inputs shop.tables steps before desk run front right was;
    begun = λ before later run is started. all-started shop.tables steps before later run right is started;
    written = end-written;
    refused = end-refused;
    finished = end-finished;
    boards = λ run started. (right-boards shop.tables steps right run started).legal;
    outcomes = λ run started. hands-on (run_inputs end run) (log_at end run) (right-boards shop.tables steps right run started).legal;
    handed = handed-logged shop.tables steps right;
    stored = stored-logged shop.tables steps right;
    ended = ended-logged shop.tables steps right;
    stopped = stopped-logged shop.tables steps right;
    logged = λ run before rest x started is. all-logged shop.tables steps right run before rest x started is;
    within = λ before rest desk number l same. (booked_within (supply_of shop.tables) before rest desk number l (subst (λ (h : History). IsLegal (supply_of shop.tables) h) same end-legal)).0;
    covered = λ before rest same. prefix-covered (supply_of shop.tables) before rest (subst (λ (h : History). IsLegal (supply_of shop.tables) h) same end-legal);
    pegged = end-pegged;
    apart = end-apart;
    sources = end-sources;
    loaded = end-loaded;
    meaning = λ before e a was. meaningless (core_of shop.tables before) (before-boards before e a was) e a (answered shop.tables steps before e a right was);
    meant = end-meant;
    unchanged = λ before e a was is. core-one shop.tables before (e, a) ∙ unchanged (core_of shop.tables before) e a is;
    full = λ before e a was. full-is (core_of shop.tables before) e a (answered shop.tables steps before e a right was);
  }
