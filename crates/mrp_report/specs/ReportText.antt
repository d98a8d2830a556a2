-- The text of a run's report (profile).
use Rattle.std.specs.Prelude.{ℕ, List, [], ◌++◌, if◌then◌else◌, length, flat_map}
use Rattle.std.specs.List.{enumerate_from}
use Rattle.mrp_day.specs.Sections.{head_of}
use Rattle.mrp_day.specs.declared.section.Section.TheVariants as section
use Rattle.mrp_item.specs.Inputs.{Inputs, is_master, item_at, places}
use Rattle.mrp_item.specs.Plan.{ItemPlan, outcome_of, plan_in}
use Rattle.mrp_load.specs.Loads.{centre_at, centres}
use Rattle.mrp_notes.specs.Messages.{messages_of}
use Rattle.mrp_peg.specs.Pegging.{pegs_of}
use Rattle.mrp_report.specs.section.RunText.{run_text}
use Rattle.mrp_report.specs.section.PromiseText.{promise_text}
use Rattle.mrp_report.specs.section.PromiseRows.{promise_rows}
use Rattle.mrp_report.specs.section.PlanText.{week_text}
use Rattle.mrp_report.specs.section.PlanRows.{plan_rows}
use Rattle.mrp_report.specs.section.OrderText.{order_text}
use Rattle.mrp_report.specs.section.PegText.{peg_text}
use Rattle.mrp_report.specs.section.MessageText.{message_text}
use Rattle.mrp_report.specs.section.LoadText.{load_text}
use Rattle.mrp_report.specs.section.LoadRows.{load_rows}

-- the rows of an item in the section `promises`: a part has none
abbrev pub promised_text : Inputs → ℕ → List ℕ
promised_text s i = if is_master s i then flat_map (promise_text (item_at s i).name) (promise_rows s i) else []

-- the section `promises`, with each item's rows in table order
unfoldable pub promises_text : Inputs → List ℕ
promises_text s = head_of section.Promises ++ flat_map (promised_text s) (places s)

-- the rows of an item in the section `plan`
abbrev pub item_text : Inputs → ℕ → ItemPlan → List ℕ
item_text s i plan = flat_map (week_text (item_at s i).name) (plan_rows s i plan)

-- the section `plan`, with each item's rows in table order
unfoldable pub plan_text : Inputs → List ℕ
plan_text s = head_of section.Plan ++ flat_map (λ i. item_text s i (plan_in (outcome_of s i))) (places s)

-- the rows of an item in the section `orders`: its orders, numbered from 1
abbrev pub ordered_text : Inputs → ℕ → ItemPlan → List ℕ
ordered_text s i plan = flat_map (order_text (item_at s i).name) (enumerate_from 1 plan.orders)

-- the section `orders`, with each item's rows in table order
unfoldable pub orders_text : Inputs → List ℕ
orders_text s = head_of section.Orders ++ flat_map (λ i. ordered_text s i (plan_in (outcome_of s i))) (places s)

-- the rows of an item in the section `pegs`
abbrev pub pegged_text : Inputs → ℕ → ItemPlan → List ℕ
pegged_text s i plan = flat_map (peg_text s.tables (item_at s i).name plan.orders) (pegs_of s i)

-- the section `pegs`, with each item's rows in table order
unfoldable pub pegs_text : Inputs → List ℕ
pegs_text s = head_of section.Pegs ++ flat_map (λ i. pegged_text s i (plan_in (outcome_of s i))) (places s)

-- the rows of an item in the section `messages`
abbrev pub told_text : Inputs → ℕ → ItemPlan → List ℕ
told_text s i plan = flat_map (message_text s.tables (item_at s i).name plan.orders) (messages_of s i plan)

-- the section `messages`, with each item's rows in table order
unfoldable pub messages_text : Inputs → List ℕ
messages_text s = head_of section.Messages ++ flat_map (λ i. told_text s i (plan_in (outcome_of s i))) (places s)

-- the rows of a work centre in the section `loads`
abbrev pub loaded_text : Inputs → ℕ → List ℕ
loaded_text s centre = flat_map (load_text (centre_at s centre).name) (load_rows s centre)

-- the section `loads`, with each work centre's rows in table order
unfoldable pub loads_text : Inputs → List ℕ
loads_text s = head_of section.Loads ++ flat_map (loaded_text s) (centres s)

-- the report of a run, section by section
unfoldable pub report_text : Inputs → List ℕ
report_text s = run_text s.front (length s.standing) ++ promises_text s ++ plan_text s ++ orders_text s ++ pegs_text s ++ messages_text s ++ loads_text s
