-- The markup of rows is the page's own.
use Rattle.std.proofs.Common.{refl, arith}
use Rattle.std.specs.List.{Contains}
use Rattle.mrp_page.specs.Known.{layouts, tables_layouts}
use Rattle.mrp_page.specs.layout.Centres.{above_bar, centre_head, centre_open, cut_bar, hot_bar, load_chart, load_end, low_bar, over_open, over_words, share_cell}
use Rattle.mrp_page.specs.layout.Glance.{out_cells, out_late, outs_note, overloaded_line}
use Rattle.mrp_page.specs.layout.Head.{centre_tile, page_head, page_items, page_top, summary_tile, page_shown}
use Rattle.mrp_page.specs.layout.History.{entry}
use Rattle.mrp_page.specs.layout.Items.{facts_end, facts_open, facts_steps, index_count, item_head, order, peg_back, peg_middle, peg_need, peg_parent, peg_supply, wait_late, wait_order}
use Rattle.mrp_page.specs.layout.Lists.{more, rest_open}
use Rattle.mrp_page.specs.layout.Records.{balance_chart, balance_scale, point, record_head, safety_line, safety_scale, week}
use Rattle.mrp_page.specs.layout.Refused.{refused_answer, refused_asked, refused_desk}
use Rattle.mrp_page.specs.layout.Risk.{risk_middle, risk_order}
use Rattle.mrp_page.specs.layout.Said.{said_back, said_front, said_other_back, said_other_front, said_pieces, said_receipt, said_start, said_week}
use Rattle.mrp_page.specs.layout.Todo.{cancel_open, in_open, late_open, open_pieces, open_receipt, order_start, order_week, other_cells, other_open, out_open, release_open, row_end, task_supply, to_week, weeks_late}
use Rattle.mrp_page.specs.layout.Work.{work_back, work_count, work_head, work_name, work_operation, work_rest, work_share}

pub laid-page_top : Contains layouts page_top
unfolding layouts
laid-page_top = (0, omega arith, refl)

pub laid-page_head : Contains layouts page_head
unfolding layouts
laid-page_head = (1, omega arith, refl)

pub laid-said_front : Contains layouts said_front
unfolding layouts
laid-said_front = (2, omega arith, refl)

pub laid-said_back : Contains layouts said_back
unfolding layouts
laid-said_back = (3, omega arith, refl)

pub laid-week : Contains layouts week
unfolding layouts
laid-week = (4, omega arith, refl)

pub laid-entry : Contains layouts entry
unfolding layouts
laid-entry = (5, omega arith, refl)

pub laid-order : Contains layouts order
unfolding layouts
laid-order = (6, omega arith, refl)

pub laid-centre_head : Contains layouts centre_head
unfolding layouts
laid-centre_head = (7, omega arith, refl)

pub laid-load_chart : Contains layouts load_chart
unfolding layouts
laid-load_chart = (8, omega arith, refl)

pub laid-item_head : Contains layouts item_head
unfolding layouts
laid-item_head = (9, omega arith, refl)

pub laid-record_head : Contains layouts record_head
unfolding layouts
laid-record_head = (10, omega arith, refl)

pub laid-balance_chart : Contains layouts balance_chart
unfolding layouts
laid-balance_chart = (11, omega arith, refl)

pub laid-point : Contains layouts point
unfolding layouts
laid-point = (12, omega arith, refl)

pub laid-more : Contains layouts more
unfolding layouts
laid-more = (13, omega arith, refl)

pub laid-said_other_front : Contains layouts said_other_front
unfolding layouts
laid-said_other_front = (14, omega arith, refl)

pub laid-rest_open : Contains layouts rest_open
unfolding layouts
laid-rest_open = (15, omega arith, refl)

pub laid-refused_answer : Contains layouts refused_answer
unfolding layouts
laid-refused_answer = (16, omega arith, refl)

pub laid-refused_asked : Contains layouts refused_asked
unfolding layouts
laid-refused_asked = (17, omega arith, refl)

pub laid-refused_desk : Contains layouts refused_desk
unfolding layouts
laid-refused_desk = (18, omega arith, refl)

pub laid-task_supply : Contains layouts task_supply
unfolding layouts
laid-task_supply = (19, omega arith, refl)

pub laid-order_start : Contains layouts order_start
unfolding layouts
laid-order_start = (20, omega arith, refl)

pub laid-order_week : Contains layouts order_week
unfolding layouts
laid-order_week = (21, omega arith, refl)

pub laid-weeks_late : Contains layouts weeks_late
unfolding layouts
laid-weeks_late = (22, omega arith, refl)

pub laid-to_week : Contains layouts to_week
unfolding layouts
laid-to_week = (23, omega arith, refl)

pub laid-row_end : Contains layouts row_end
unfolding layouts
laid-row_end = (24, omega arith, refl)

pub laid-other_cells : Contains layouts other_cells
unfolding layouts
laid-other_cells = (25, omega arith, refl)

pub laid-late_open : Contains layouts late_open
unfolding layouts
laid-late_open = (26, omega arith, refl)

pub laid-release_open : Contains layouts release_open
unfolding layouts
laid-release_open = (27, omega arith, refl)

pub laid-in_open : Contains layouts in_open
unfolding layouts
laid-in_open = (28, omega arith, refl)

pub laid-out_open : Contains layouts out_open
unfolding layouts
laid-out_open = (29, omega arith, refl)

pub laid-cancel_open : Contains layouts cancel_open
unfolding layouts
laid-cancel_open = (30, omega arith, refl)

pub laid-other_open : Contains layouts other_open
unfolding layouts
laid-other_open = (31, omega arith, refl)

pub laid-summary_tile : Contains layouts summary_tile
unfolding layouts
laid-summary_tile = (32, omega arith, refl)

pub laid-centre_tile : Contains layouts centre_tile
unfolding layouts
laid-centre_tile = (33, omega arith, refl)

pub laid-centre_open : Contains layouts centre_open
unfolding layouts
laid-centre_open = (34, omega arith, refl)

pub laid-low_bar : Contains layouts low_bar
unfolding layouts
laid-low_bar = (35, omega arith, refl)

pub laid-hot_bar : Contains layouts hot_bar
unfolding layouts
laid-hot_bar = (36, omega arith, refl)

pub laid-above_bar : Contains layouts above_bar
unfolding layouts
laid-above_bar = (37, omega arith, refl)

pub laid-cut_bar : Contains layouts cut_bar
unfolding layouts
laid-cut_bar = (38, omega arith, refl)

pub laid-share_cell : Contains layouts share_cell
unfolding layouts
laid-share_cell = (39, omega arith, refl)

pub laid-over_open : Contains layouts over_open
unfolding layouts
laid-over_open = (40, omega arith, refl)

pub laid-over_words : Contains layouts over_words
unfolding layouts
laid-over_words = (41, omega arith, refl)

pub laid-load_end : Contains layouts load_end
unfolding layouts
laid-load_end = (42, omega arith, refl)

pub laid-open_pieces : Contains layouts open_pieces
unfolding layouts
laid-open_pieces = (43, omega arith, refl)

pub laid-index_count : Contains layouts index_count
unfolding layouts
laid-index_count = (44, omega arith, refl)

pub laid-peg_supply : Contains layouts peg_supply
unfolding layouts
laid-peg_supply = (45, omega arith, refl)

pub laid-peg_middle : Contains layouts peg_middle
unfolding layouts
laid-peg_middle = (46, omega arith, refl)

pub laid-peg_parent : Contains layouts peg_parent
unfolding layouts
laid-peg_parent = (47, omega arith, refl)

pub laid-peg_need : Contains layouts peg_need
unfolding layouts
laid-peg_need = (48, omega arith, refl)

pub laid-peg_back : Contains layouts peg_back
unfolding layouts
laid-peg_back = (49, omega arith, refl)

pub laid-wait_order : Contains layouts wait_order
unfolding layouts
laid-wait_order = (50, omega arith, refl)

pub laid-wait_late : Contains layouts wait_late
unfolding layouts
laid-wait_late = (51, omega arith, refl)

pub laid-outs_note : Contains layouts outs_note
unfolding layouts
laid-outs_note = (52, omega arith, refl)

pub laid-out_cells : Contains layouts out_cells
unfolding layouts
laid-out_cells = (53, omega arith, refl)

pub laid-overloaded_line : Contains layouts overloaded_line
unfolding layouts
laid-overloaded_line = (54, omega arith, refl)

pub laid-said_other_back : Contains layouts said_other_back
unfolding layouts
laid-said_other_back = (55, omega arith, refl)

pub laid-said_pieces : Contains layouts said_pieces
unfolding layouts
laid-said_pieces = (56, omega arith, refl)

pub laid-said_start : Contains layouts said_start
unfolding layouts
laid-said_start = (57, omega arith, refl)

pub laid-said_week : Contains layouts said_week
unfolding layouts
laid-said_week = (58, omega arith, refl)

pub laid-risk_middle : Contains layouts risk_middle
unfolding layouts
laid-risk_middle = (59, omega arith, refl)

pub laid-risk_order : Contains layouts risk_order
unfolding layouts
laid-risk_order = (60, omega arith, refl)

pub laid-balance_scale : Contains layouts balance_scale
unfolding layouts
laid-balance_scale = (61, omega arith, refl)

pub laid-out_late : Contains layouts out_late
unfolding layouts
laid-out_late = (62, omega arith, refl)

pub laid-page_shown : Contains layouts page_shown
unfolding layouts
laid-page_shown = (63, omega arith, refl)

pub laid-page_items : Contains tables_layouts page_items
unfolding tables_layouts
laid-page_items = (0, omega arith, refl)

pub laid-facts_open : Contains tables_layouts facts_open
unfolding tables_layouts
laid-facts_open = (1, omega arith, refl)

pub laid-facts_steps : Contains tables_layouts facts_steps
unfolding tables_layouts
laid-facts_steps = (2, omega arith, refl)

pub laid-facts_end : Contains tables_layouts facts_end
unfolding tables_layouts
laid-facts_end = (3, omega arith, refl)

pub laid-safety_line : Contains tables_layouts safety_line
unfolding tables_layouts
laid-safety_line = (4, omega arith, refl)

pub laid-open_receipt : Contains tables_layouts open_receipt
unfolding tables_layouts
laid-open_receipt = (5, omega arith, refl)

pub laid-work_count : Contains tables_layouts work_count
unfolding tables_layouts
laid-work_count = (6, omega arith, refl)

pub laid-work_head : Contains tables_layouts work_head
unfolding tables_layouts
laid-work_head = (7, omega arith, refl)

pub laid-work_name : Contains tables_layouts work_name
unfolding tables_layouts
laid-work_name = (8, omega arith, refl)

pub laid-work_operation : Contains tables_layouts work_operation
unfolding tables_layouts
laid-work_operation = (9, omega arith, refl)

pub laid-work_share : Contains tables_layouts work_share
unfolding tables_layouts
laid-work_share = (10, omega arith, refl)

pub laid-work_back : Contains tables_layouts work_back
unfolding tables_layouts
laid-work_back = (11, omega arith, refl)

pub laid-work_rest : Contains tables_layouts work_rest
unfolding tables_layouts
laid-work_rest = (12, omega arith, refl)

pub laid-safety_scale : Contains tables_layouts safety_scale
unfolding tables_layouts
laid-safety_scale = (13, omega arith, refl)

pub laid-said_receipt : Contains tables_layouts said_receipt
unfolding tables_layouts
laid-said_receipt = (14, omega arith, refl)
