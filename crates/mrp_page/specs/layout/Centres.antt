-- The parts of a page: the work centres.
use Rattle.std.specs.Prelude.{ℕ, List, [], ◌∷◌, codes}
use Rattle.mrp_page.specs.Template.{Date, Drawn, Mark, Text, Where}

-- the part of a work centre, with its name
unfoldable pub centre_open : List Drawn
centre_open =
    Mark (codes "<section class=centre id=\"c-") ∷
    Text 0 ∷
    Mark (codes "\">\n<h3>") ∷
    Text 0 ∷
    Mark (codes "<a href=\"#centres\">all centres</a></h3>\n") ∷ []

-- a week's bar up to its capacity
unfoldable pub low_bar : List Drawn
low_bar =
    Mark (codes "M") ∷
    Text 1 ∷
    Mark (codes " 0v") ∷
    Text 5 ∷
    Mark (codes "h.8V0z") ∷ []

-- what these bars end with
unfoldable pub low_end : List ℕ
low_end = codes "\"/><path class=hot d=\""

-- the part of a week's bar up to its capacity, if there is more of it
unfoldable pub hot_bar : List Drawn
hot_bar =
    Mark (codes "M") ∷
    Text 1 ∷
    Mark (codes " 0v") ∷
    Text 6 ∷
    Mark (codes "h.8V0z") ∷ []

-- what these bars end with
unfoldable pub hot_end : List ℕ
hot_end = codes "\"/><path class=above d=\""

-- the part of a week's bar above its capacity
unfoldable pub above_bar : List Drawn
above_bar =
    Mark (codes "M") ∷
    Text 1 ∷
    Mark (codes " 100v") ∷
    Text 7 ∷
    Mark (codes "h.8V100z") ∷ []

-- what these bars end with
unfoldable pub above_end : List ℕ
above_end = codes "\"/><path class=cut d=\""

-- the mark of a week's bar that is cut
unfoldable pub cut_bar : List Drawn
cut_bar =
    Mark (codes "M") ∷
    Text 1 ∷
    Mark (codes " 204h.8l-.4 ") ∷
    Text 8 ∷
    Mark (codes "z") ∷ []

-- the heading of a table of a work centre, with its name
unfoldable pub centre_head : List Drawn
centre_head =
    Mark (codes "<div class=scroll tabindex=0 role=region aria-label=\"Load and capacity of ") ∷
    Text 0 ∷
    Mark (codes ", week by week\"><table class=\"grid loads\" aria-label=\"Load and capacity of ") ∷
    Text 0 ∷
    Mark (codes "\">\n<thead><tr><th scope=col>Week</th>") ∷ []

-- the label of a row
unfoldable pub load_label : List ℕ
load_label = codes "<tr><th scope=row>Load, minutes</th>"

-- the label of a row
unfoldable pub capacity_label : List ℕ
capacity_label = codes "<tr><th scope=row>Capacity, minutes</th>"

-- the label of a row
unfoldable pub share_label : List ℕ
share_label = codes "<tr class=strong><th scope=row>Share, per cent</th>"

-- the label of a row
unfoldable pub over_label : List ℕ
over_label = codes "<tr class=over><th scope=row>Over, minutes</th>"

-- a week's share of its capacity
unfoldable pub share_cell : List Drawn
share_cell =
    Mark (codes "<td") ∷
    Where 10 (codes "bad") (codes " class=bad") ∷
    Mark (codes ">") ∷
    Text 4 ∷
    Mark (codes "</td>") ∷ []

-- what the section of the work centres begins with
unfoldable pub centres_open : List ℕ
centres_open = codes "<section id=centres>\n<h2>Work centres</h2>\n<p class=note>Week 1 holds all work that is late. Released (open) orders load nothing here. Shares of capacity are rounded up.</p>\n"

-- what stands there if no work centre is over its capacity
unfoldable pub none_over : List ℕ
none_over = codes "<p>No work centre is over its capacity in any week.</p>\n"

-- how many weeks of work centres are over their capacity
unfoldable pub over_open : List Drawn
over_open =
    Mark (codes "<h3>Overloads: ") ∷
    Text 0 ∷
    Mark (codes "</h3>\n") ∷ []

-- what the list of these begins with
unfoldable pub over_front : List ℕ
over_front = codes "<ul class=over>\n"

-- what the picture of loads ends with: the line of 100 %
unfoldable pub load_end : List Drawn
load_end =
    Mark (codes "\"/></g><path class=full d=\"M.5 -100h") ∷
    Text 1 ∷
    Mark (codes "\"/></svg></div>\n") ∷ []

-- the frame of the picture of loads, with the name and the weeks; The line is at 100 %
unfoldable pub load_chart : List Drawn
load_chart =
    Mark (codes "<div class=chart><p><span>200 %</span><span>100 %</span><span>0</span></p><p class=axis><span>week 1</span><span>a line behind each thirteenth week</span><span>week ") ∷
    Text 1 ∷
    Mark (codes "</span></p><svg role=\"img\" viewBox=\"0.5 -226 ") ∷
    Text 1 ∷
    Mark (codes " 226\" preserveAspectRatio=\"none\"><title>Load of ") ∷
    Text 0 ∷
    Mark (codes " as a share of its capacity, week by week</title><g transform=\"translate(-.4) scale(1 -1)\"><path class=load d=\"") ∷ []

-- what is said of a week of a work centre that is over its capacity
unfoldable pub over_words : List Drawn
over_words =
    Mark (codes "<b>") ∷
    Text 2 ∷
    Text 3 ∷
    Mark (codes "</b> <a href=\"#c-") ∷
    Text 0 ∷
    Mark (codes "\">") ∷
    Text 0 ∷
    Mark (codes "</a>, week ") ∷
    Text 1 ∷
    Date 1 ∷
    Mark (codes ": <span title=\"") ∷
    Text 11 ∷
    Mark (codes "\">") ∷
    Text 9 ∷
    Mark (codes "</span> min over") ∷ []
