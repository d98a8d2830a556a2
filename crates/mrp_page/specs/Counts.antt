-- Counts of the rows of a day for which a page has no room, section by section.
use Rattle.mrp_page.specs.declared.counts.Counts.{Counts}

abbrev pub none_counted : Counts
none_counted = record { history = 0; promises = 0; plan = 0; orders = 0; pegs = 0; messages = 0; loads = 0; items = 0 }
