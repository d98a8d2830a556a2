-- The parts of a page: time-phased records and their pictures.
use Rattle.std.specs.Prelude.{ℕ, List, [], ◌∷◌, codes}
use Rattle.mrp_page.specs.Template.{Drawn, Mark, Text}

-- a week of a table's heading
unfoldable pub week : List Drawn
week =
    Mark (codes "<th scope=col>") ∷
    Text 1 ∷ []

-- what it ends with
unfoldable pub week_end : List ℕ
week_end = codes "</th>"

-- what the date of a week begins with, below its number
unfoldable pub date_open : List ℕ
date_open = codes "<br><small>"

-- what it ends with
unfoldable pub date_end : List ℕ
date_end = codes "</small>"

-- a week and its balance
unfoldable pub point : List Drawn
point =
    Text 1 ∷
    Mark (codes ",") ∷
    Text 7 ∷
    Mark (codes " ") ∷ []

-- what the weeks of a table end with
unfoldable pub weeks_end : List ℕ
weeks_end = codes "</tr></thead>\n<tbody>\n"

-- the label of a row
unfoldable pub scheduled_label : List ℕ
scheduled_label = codes "<tr><th scope=row>Scheduled receipts</th>"

-- the label of a row
unfoldable pub firm_label : List ℕ
firm_label = codes "<tr><th scope=row>Firm master schedule</th>"

-- the label of a row
unfoldable pub booked_label : List ℕ
booked_label = codes "<tr><th scope=row>Booked</th>"

-- the label of a row
unfoldable pub available_label : List ℕ
available_label = codes "<tr class=strong><th scope=row>Available to promise</th>"

-- the label of a row
unfoldable pub gross_label : List ℕ
gross_label = codes "<tr><th scope=row>Gross requirements</th>"

-- the label of a row
unfoldable pub planned_label : List ℕ
planned_label = codes "<tr><th scope=row>Planned order receipts</th>"

-- the label of a row
unfoldable pub starts_label : List ℕ
starts_label = codes "<tr><th scope=row>Order releases (starts)</th>"

-- the label of a row
unfoldable pub balance_label : List ℕ
balance_label = codes "<tr class=strong><th scope=row>Projected available balance</th>"

-- the note for an item whose record is not kept
unfoldable pub no_record : List ℕ
no_record = codes "<p class=more>No record here: this item stands behind the first ones, which a page has room for. The option <code>--items</code> shows it.</p>\n"

-- the note for an item that may have promises that are not kept
unfoldable pub no_promises : List ℕ
no_promises = codes "<p class=more>If this is a master item, its rows of what is booked and available to promise stand behind those that a page has room for. The option <code>--items</code> shows them.</p>\n"

-- what the further weeks are folded behind
unfoldable pub later_open : List ℕ
later_open = codes "<details class=later><summary>Further weeks</summary>\n"

-- what the picture of balances ends with
unfoldable pub points_end : List ℕ
points_end = codes "\"/></svg></div>\n"

-- the heading of a table of an item's time-phased record, with its name
unfoldable pub record_head : List Drawn
record_head =
    Mark (codes "<div class=scroll tabindex=0 role=region aria-label=\"Record of ") ∷
    Text 0 ∷
    Mark (codes ", week by week\"><table class=grid aria-label=\"Time-phased record of ") ∷
    Text 0 ∷
    Mark (codes "\">\n<thead><tr><th scope=col>Week</th>") ∷ []

-- what the scale of the picture of balances begins with: the greatest number
unfoldable pub balance_scale : List Drawn
balance_scale =
    Mark (codes "<div class=chart><p><span>") ∷
    Text 2 ∷
    Mark (codes "</span>") ∷ []

-- what this scale says of a safety stock, given the pieces
unfoldable pub safety_scale : List Drawn
safety_scale =
    Mark (codes "<span>dashes: safety stock ") ∷
    Text 0 ∷
    Mark (codes "</span>") ∷ []

-- the frame of the picture of balances, with the name, the weeks and the greatest number
unfoldable pub balance_chart : List Drawn
balance_chart =
    Mark (codes "<span>0</span></p><p class=axis><span>week 1</span><span>a line behind each thirteenth week</span><span>week ") ∷
    Text 1 ∷
    Mark (codes "</span></p><svg role=\"img\" viewBox=\"0.5 -") ∷
    Text 2 ∷
    Mark (codes " ") ∷
    Text 1 ∷
    Mark (codes " ") ∷
    Text 2 ∷
    Mark (codes "\" preserveAspectRatio=\"none\"><title>Projected available balance of ") ∷
    Text 0 ∷
    Mark (codes "</title><path class=zero d=\"M.5 0h") ∷
    Text 1 ∷
    Mark (codes "\"/>") ∷ []

-- what the line of a picture of balances begins with
unfoldable pub line_open : List ℕ
line_open = codes "<polyline transform=\"scale(1 -1)\" points=\""

-- the line of the safety stock in a picture of balances, given the pieces and the weeks
unfoldable pub safety_line : List Drawn
safety_line =
    Mark (codes "<path class=zero stroke-dasharray=\"6 4\" d=\"M.5 -") ∷
    Text 0 ∷
    Mark (codes "h") ∷
    Text 1 ∷
    Mark (codes "\"><title>Safety stock: ") ∷
    Text 0 ∷
    Mark (codes "</title></path>") ∷ []
