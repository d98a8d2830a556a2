-- The day of a bundle: the history that answers its script, and then the report of each of its runs (profile).
use Rattle.std.specs.Prelude.{ℕ, ◌≡◌, List, [], ◌∷◌, ◌++◌, All, flat_map, Ok, Err}
use Rattle.mrp_tables.specs.Tables.{Tables}
use Rattle.mrp_book.specs.declared.reply.Reply.{Reply}
use Rattle.mrp_book.specs.declared.reply.Reply.TheVariants.{Taken}
use Rattle.mrp_book.specs.Standing.{History}
use Rattle.mrp_item.specs.Inputs.{Inputs, inputs_of, item_at}
use Rattle.mrp_item.specs.Plan.{ItemPlan, plan_of}
use Rattle.mrp_report.specs.section.HistoryText.{history_text}
use Rattle.mrp_report.specs.ReportText.{report_text}
use Rattle.mrp_script.specs.Opened.{IsAccepted}
use Rattle.mrp_script.specs.Script.{AnswersScript}

-- a way to answer a script: which histories answer the script of which tables
abbrev pub Answering : Type 1
Answering = Tables → History → Type 0

-- the inputs of the run that a reply starts: for a snapshot what stands at it, for other replies
-- none
abbrev pub planned_from : Tables → Reply → List Inputs
planned_from tables (Taken snapshot) = inputs_of tables snapshot ∷ []
planned_from tables r = []

-- the inputs of the runs of a history, in order
abbrev pub runs_of : Tables → History → List Inputs
runs_of tables h = flat_map (λ e. planned_from tables e.reply) h

-- a run in which no item gets too large
abbrev pub IsPlannable : Inputs → Type 0
IsPlannable s = (plans : List ItemPlan) × (plan_of s ≡ Ok plans)

-- a run whose plan is refused by this item, the first that gets too large
abbrev pub IsRefusedBy : Inputs → List ℕ → Type 0
IsRefusedBy s name = (item : ℕ) × (plan_of s ≡ Err item) × (name ≡ (item_at s item).name)

-- the first run that is refused is refused by the item with this name
abbrev pub IsFirstRefusal : List Inputs → List ℕ → Type 0
IsFirstRefusal runs name =
    (before : List Inputs) × (s : Inputs) × (after : List Inputs)
    × (runs ≡ before ++ s ∷ after) × All IsPlannable before × IsRefusedBy s name

-- a bundle whose script may be answered so that a run is refused, the first of them by the item with this
-- name
abbrev pub IsTooLargeBy : Answering → List ℕ → List ℕ → Type 0
IsTooLargeBy Answers bundle name =
    (tables : Tables) × IsAccepted bundle tables × (h : History) × Answers tables h × IsFirstRefusal (runs_of tables h) name

-- a bundle of which a run is refused, the first of them by the item with this name
abbrev pub IsTooLarge : List ℕ → List ℕ → Type 0
IsTooLarge = IsTooLargeBy AnswersScript

-- the history, then the report of each run, in order
abbrev pub day_text : Tables → History → List ℕ
day_text tables h = history_text tables h ++ flat_map report_text (runs_of tables h)

-- a bundle and the text of a day in which its script is answered like this
abbrev pub IsDayBy : Answering → List ℕ → List ℕ → Type 0
IsDayBy Answers bundle text =
    (tables : Tables) × IsAccepted bundle tables × (h : History) × Answers tables h
    × All IsPlannable (runs_of tables h) × (text ≡ day_text tables h)

-- a bundle and the text of its day
abbrev pub IsDay : List ℕ → List ℕ → Type 0
IsDay = IsDayBy AnswersScript
