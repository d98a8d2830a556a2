-- The markup between rows is the page's own.
use Rattle.std.proofs.Common.{[], codes, refl, arith}
use Rattle.std.specs.List.{Contains}
use Rattle.mrp_page.specs.Known.{own_words, plain, tables_plain}
use Rattle.mrp_page.specs.layout.Centres.{above_end, capacity_label, centres_open, hot_end, load_label, low_end, none_over, over_front, over_label, share_label}
use Rattle.mrp_page.specs.layout.Glance.{glance_open, none_out, out_first_open, outs_front, outs_head_end, outs_safety, overloaded_open}
use Rattle.mrp_page.specs.layout.Head.{main_open, page_end, start_end, start_open, style, summary_open, head_end}
use Rattle.mrp_page.specs.layout.History.{history_end, history_open}
use Rattle.mrp_page.specs.layout.Items.{items_end, items_open, lists_open, order_address, orders_open, peg_booking, pegs_open, wait_end, wait_supply, waits_open}
use Rattle.mrp_page.specs.layout.Lists.{bullet_end, bullet_open, grid_end, link_end, list_end, rest_end, row_open, section_end, table_end, title_end, title_open}
use Rattle.mrp_page.specs.layout.Records.{available_label, balance_label, booked_label, date_end, date_open, firm_label, gross_label, later_open, line_open, no_promises, no_record, planned_label, points_end, scheduled_label, starts_label, week_end, weeks_end}
use Rattle.mrp_page.specs.layout.Refused.{none_refused, refused_end, refused_front, refused_open}
use Rattle.mrp_page.specs.layout.Risk.{none_at_risk, risk_booking, risk_front, risk_note, risk_open, risks_unknown}
use Rattle.mrp_page.specs.layout.Said.{no_message, said_open}
use Rattle.mrp_page.specs.layout.Todo.{cancel_front, in_front, late_front, nothing_to_do, order_unknown, other_front, out_front, release_front, task_middle, todo_note, todo_open}
use Rattle.mrp_page.specs.layout.Work.{work_blank, work_end, work_note, work_open, work_other, work_unknown}
use Rattle.mrp_page.proofs.made.Own.{own-plain, own-table}

pub own-style : Contains own_words style
unfolding plain
own-style = own-plain style 0 (omega arith) refl

pub own-todo_open : Contains own_words todo_open
unfolding plain
own-todo_open = own-plain todo_open 1 (omega arith) refl

pub own-nothing_to_do : Contains own_words nothing_to_do
unfolding plain
own-nothing_to_do = own-plain nothing_to_do 2 (omega arith) refl

pub own-said_open : Contains own_words said_open
unfolding plain
own-said_open = own-plain said_open 3 (omega arith) refl

pub own-list_end : Contains own_words list_end
unfolding plain
own-list_end = own-plain list_end 4 (omega arith) refl

pub own-weeks_end : Contains own_words weeks_end
unfolding plain
own-weeks_end = own-plain weeks_end 5 (omega arith) refl

pub own-points_end : Contains own_words points_end
unfolding plain
own-points_end = own-plain points_end 6 (omega arith) refl

pub own-load_label : Contains own_words load_label
unfolding plain
own-load_label = own-plain load_label 7 (omega arith) refl

pub own-capacity_label : Contains own_words capacity_label
unfolding plain
own-capacity_label = own-plain capacity_label 8 (omega arith) refl

pub own-over_label : Contains own_words over_label
unfolding plain
own-over_label = own-plain over_label 9 (omega arith) refl

pub own-grid_end : Contains own_words grid_end
unfolding plain
own-grid_end = own-plain grid_end 10 (omega arith) refl

pub own-centres_open : Contains own_words centres_open
unfolding plain
own-centres_open = own-plain centres_open 11 (omega arith) refl

pub own-section_end : Contains own_words section_end
unfolding plain
own-section_end = own-plain section_end 12 (omega arith) refl

pub own-scheduled_label : Contains own_words scheduled_label
unfolding plain
own-scheduled_label = own-plain scheduled_label 13 (omega arith) refl

pub own-firm_label : Contains own_words firm_label
unfolding plain
own-firm_label = own-plain firm_label 14 (omega arith) refl

pub own-booked_label : Contains own_words booked_label
unfolding plain
own-booked_label = own-plain booked_label 15 (omega arith) refl

pub own-available_label : Contains own_words available_label
unfolding plain
own-available_label = own-plain available_label 16 (omega arith) refl

pub own-gross_label : Contains own_words gross_label
unfolding plain
own-gross_label = own-plain gross_label 17 (omega arith) refl

pub own-planned_label : Contains own_words planned_label
unfolding plain
own-planned_label = own-plain planned_label 18 (omega arith) refl

pub own-starts_label : Contains own_words starts_label
unfolding plain
own-starts_label = own-plain starts_label 19 (omega arith) refl

pub own-balance_label : Contains own_words balance_label
unfolding plain
own-balance_label = own-plain balance_label 20 (omega arith) refl

pub own-orders_open : Contains own_words orders_open
unfolding plain
own-orders_open = own-plain orders_open 21 (omega arith) refl

pub own-pegs_open : Contains own_words pegs_open
unfolding plain
own-pegs_open = own-plain pegs_open 22 (omega arith) refl

pub own-no_record : Contains own_words no_record
unfolding plain
own-no_record = own-plain no_record 23 (omega arith) refl

pub own-history_open : Contains own_words history_open
unfolding plain
own-history_open = own-plain history_open 24 (omega arith) refl

pub own-history_end : Contains own_words history_end
unfolding plain
own-history_end = own-plain history_end 25 (omega arith) refl

pub own-page_end : Contains own_words page_end
unfolding plain
own-page_end = own-plain page_end 26 (omega arith) refl

pub own-none : Contains own_words ([])
unfolding plain
own-none = own-plain ([]) 27 (omega arith) refl

pub own-cell : Contains own_words (codes "<td>")
unfolding plain
own-cell = own-plain (codes "<td>") 28 (omega arith) refl

pub own-zero : Contains own_words (codes "<td class=z>")
unfolding plain
own-zero = own-plain (codes "<td class=z>") 29 (omega arith) refl

pub own-cell-end : Contains own_words (codes "</td>")
unfolding plain
own-cell-end = own-plain (codes "</td>") 30 (omega arith) refl

pub own-row-end : Contains own_words (codes "</tr>\n")
unfolding plain
own-row-end = own-plain (codes "</tr>\n") 31 (omega arith) refl

pub own-no_promises : Contains own_words no_promises
unfolding plain
own-no_promises = own-plain no_promises 32 (omega arith) refl

pub own-table_end : Contains own_words table_end
unfolding plain
own-table_end = own-plain table_end 33 (omega arith) refl

pub own-rest_end : Contains own_words rest_end
unfolding plain
own-rest_end = own-plain rest_end 34 (omega arith) refl

pub own-refused_open : Contains own_words refused_open
unfolding plain
own-refused_open = own-plain refused_open 35 (omega arith) refl

pub own-none_refused : Contains own_words none_refused
unfolding plain
own-none_refused = own-plain none_refused 36 (omega arith) refl

pub own-refused_front : Contains own_words refused_front
unfolding plain
own-refused_front = own-plain refused_front 37 (omega arith) refl

pub own-row_open : Contains own_words row_open
unfolding plain
own-row_open = own-plain row_open 38 (omega arith) refl

pub own-refused_end : Contains own_words refused_end
unfolding plain
own-refused_end = own-plain refused_end 39 (omega arith) refl

pub own-todo_note : Contains own_words todo_note
unfolding plain
own-todo_note = own-plain todo_note 40 (omega arith) refl

pub own-order_unknown : Contains own_words order_unknown
unfolding plain
own-order_unknown = own-plain order_unknown 41 (omega arith) refl

pub own-late_front : Contains own_words late_front
unfolding plain
own-late_front = own-plain late_front 42 (omega arith) refl

pub own-release_front : Contains own_words release_front
unfolding plain
own-release_front = own-plain release_front 43 (omega arith) refl

pub own-in_front : Contains own_words in_front
unfolding plain
own-in_front = own-plain in_front 44 (omega arith) refl

pub own-out_front : Contains own_words out_front
unfolding plain
own-out_front = own-plain out_front 45 (omega arith) refl

pub own-cancel_front : Contains own_words cancel_front
unfolding plain
own-cancel_front = own-plain cancel_front 46 (omega arith) refl

pub own-other_front : Contains own_words other_front
unfolding plain
own-other_front = own-plain other_front 47 (omega arith) refl

pub own-summary_open : Contains own_words summary_open
unfolding plain
own-summary_open = own-plain summary_open 48 (omega arith) refl

pub own-main_open : Contains own_words main_open
unfolding plain
own-main_open = own-plain main_open 49 (omega arith) refl

pub own-low_end : Contains own_words low_end
unfolding plain
own-low_end = own-plain low_end 50 (omega arith) refl

pub own-hot_end : Contains own_words hot_end
unfolding plain
own-hot_end = own-plain hot_end 51 (omega arith) refl

pub own-above_end : Contains own_words above_end
unfolding plain
own-above_end = own-plain above_end 52 (omega arith) refl

pub own-share_label : Contains own_words share_label
unfolding plain
own-share_label = own-plain share_label 53 (omega arith) refl

pub own-later_open : Contains own_words later_open
unfolding plain
own-later_open = own-plain later_open 54 (omega arith) refl

pub own-none_over : Contains own_words none_over
unfolding plain
own-none_over = own-plain none_over 55 (omega arith) refl

pub own-over_front : Contains own_words over_front
unfolding plain
own-over_front = own-plain over_front 56 (omega arith) refl

pub own-empty : Contains own_words (codes "<td></td>")
unfolding plain
own-empty = own-plain (codes "<td></td>") 57 (omega arith) refl

pub own-order_address : Contains own_words order_address
unfolding plain
own-order_address = own-plain order_address 58 (omega arith) refl

pub own-task_middle : Contains own_words task_middle
unfolding plain
own-task_middle = own-plain task_middle 59 (omega arith) refl

pub own-items_open : Contains own_words items_open
unfolding plain
own-items_open = own-plain items_open 60 (omega arith) refl

pub own-items_end : Contains own_words items_end
unfolding plain
own-items_end = own-plain items_end 61 (omega arith) refl

pub own-bullet_open : Contains own_words bullet_open
unfolding plain
own-bullet_open = own-plain bullet_open 62 (omega arith) refl

pub own-bullet_end : Contains own_words bullet_end
unfolding plain
own-bullet_end = own-plain bullet_end 63 (omega arith) refl

pub own-lists_open : Contains own_words lists_open
unfolding plain
own-lists_open = own-plain lists_open 64 (omega arith) refl

pub own-waits_open : Contains own_words waits_open
unfolding plain
own-waits_open = own-plain waits_open 65 (omega arith) refl

pub own-peg_booking : Contains own_words peg_booking
unfolding plain
own-peg_booking = own-plain peg_booking 66 (omega arith) refl

pub own-wait_supply : Contains own_words wait_supply
unfolding plain
own-wait_supply = own-plain wait_supply 67 (omega arith) refl

pub own-wait_end : Contains own_words wait_end
unfolding plain
own-wait_end = own-plain wait_end 68 (omega arith) refl

pub own-link_end : Contains own_words link_end
unfolding plain
own-link_end = own-plain link_end 69 (omega arith) refl

pub own-out_first_open : Contains own_words out_first_open
unfolding plain
own-out_first_open = own-plain out_first_open 70 (omega arith) refl

pub own-none_out : Contains own_words none_out
unfolding plain
own-none_out = own-plain none_out 71 (omega arith) refl

pub own-outs_front : Contains own_words outs_front
unfolding plain
own-outs_front = own-plain outs_front 72 (omega arith) refl

pub own-title_open : Contains own_words title_open
unfolding plain
own-title_open = own-plain title_open 73 (omega arith) refl

pub own-title_end : Contains own_words title_end
unfolding plain
own-title_end = own-plain title_end 74 (omega arith) refl

pub own-overloaded_open : Contains own_words overloaded_open
unfolding plain
own-overloaded_open = own-plain overloaded_open 75 (omega arith) refl

pub own-no_message : Contains own_words no_message
unfolding plain
own-no_message = own-plain no_message 76 (omega arith) refl

pub own-risk_open : Contains own_words risk_open
unfolding plain
own-risk_open = own-plain risk_open 77 (omega arith) refl

pub own-risk_note : Contains own_words risk_note
unfolding plain
own-risk_note = own-plain risk_note 78 (omega arith) refl

pub own-none_at_risk : Contains own_words none_at_risk
unfolding plain
own-none_at_risk = own-plain none_at_risk 79 (omega arith) refl

pub own-risks_unknown : Contains own_words risks_unknown
unfolding plain
own-risks_unknown = own-plain risks_unknown 80 (omega arith) refl

pub own-risk_front : Contains own_words risk_front
unfolding plain
own-risk_front = own-plain risk_front 81 (omega arith) refl

pub own-risk_booking : Contains own_words risk_booking
unfolding plain
own-risk_booking = own-plain risk_booking 82 (omega arith) refl

pub own-glance_open : Contains own_words glance_open
unfolding plain
own-glance_open = own-plain glance_open 83 (omega arith) refl

pub own-outs_head_end : Contains own_words outs_head_end
unfolding plain
own-outs_head_end = own-plain outs_head_end 84 (omega arith) refl

pub own-head_end : Contains own_words head_end
unfolding plain
own-head_end = own-plain head_end 85 (omega arith) refl

pub own-week_end : Contains own_words week_end
unfolding tables_plain
own-week_end = own-table week_end 0 (omega arith) refl

pub own-date_open : Contains own_words date_open
unfolding tables_plain
own-date_open = own-table date_open 1 (omega arith) refl

pub own-date_end : Contains own_words date_end
unfolding tables_plain
own-date_end = own-table date_end 2 (omega arith) refl

pub own-start_open : Contains own_words start_open
unfolding tables_plain
own-start_open = own-table start_open 3 (omega arith) refl

pub own-start_end : Contains own_words start_end
unfolding tables_plain
own-start_end = own-table start_end 4 (omega arith) refl

pub own-line_open : Contains own_words line_open
unfolding tables_plain
own-line_open = own-table line_open 5 (omega arith) refl

pub own-work_note : Contains own_words work_note
unfolding tables_plain
own-work_note = own-table work_note 6 (omega arith) refl

pub own-work_open : Contains own_words work_open
unfolding tables_plain
own-work_open = own-table work_open 7 (omega arith) refl

pub own-work_other : Contains own_words work_other
unfolding tables_plain
own-work_other = own-table work_other 8 (omega arith) refl

pub own-work_blank : Contains own_words work_blank
unfolding tables_plain
own-work_blank = own-table work_blank 9 (omega arith) refl

pub own-work_unknown : Contains own_words work_unknown
unfolding tables_plain
own-work_unknown = own-table work_unknown 10 (omega arith) refl

pub own-work_end : Contains own_words work_end
unfolding tables_plain
own-work_end = own-table work_end 11 (omega arith) refl

pub own-outs_safety : Contains own_words outs_safety
unfolding tables_plain
own-outs_safety = own-table outs_safety 12 (omega arith) refl

pub own-date-front : Contains own_words (codes " <i>")
unfolding tables_plain
own-date-front = own-table (codes " <i>") 13 (omega arith) refl

pub own-date-back : Contains own_words (codes "</i>")
unfolding tables_plain
own-date-back = own-table (codes "</i>") 14 (omega arith) refl

pub own-said-front : Contains own_words (codes " (")
unfolding tables_plain
own-said-front = own-table (codes " (") 15 (omega arith) refl

pub own-said-back : Contains own_words (codes ")")
unfolding tables_plain
own-said-back = own-table (codes ")") 16 (omega arith) refl
