-- The words of warnings (profile).
use Rattle.std.specs.Prelude.{ℕ, ◌-◌, ◌/◌, ◌%◌, ◌==◌, if◌then◌else◌, List, [], ◌++◌, codes, decimal, flat_map, length, sum_by, take, Option, Some, None}
use Rattle.jiff.specs.Types.{Date}
use Rattle.jiff.specs.Words.{date_text}
use Rattle.mrp_rows.specs.declared.fault.Table.{Table}
use Rattle.mrp_rows.specs.declared.fault.Table.TheVariants as t
use Rattle.mrp_rows.specs.FaultText.{table_name}
use Rattle.mrp_tables.specs.declared.version.LeadUnit.{LeadUnit}
use Rattle.mrp_tables.specs.declared.version.LeadUnit.TheVariants.{Weeks, ShopDays}
use Rattle.mrp_advice.specs.Texts.{plural}
use Rattle.mrp_warn.specs.declared.kind.Kind.{Kind}
use Rattle.mrp_warn.specs.declared.limits.TheConstants.{MOST_OF_A_KIND}
use Rattle.mrp_warn.specs.declared.oddity.Oddity.{Oddity}
use Rattle.mrp_warn.specs.declared.oddity.Oddity.TheVariants.{ClosedWeek, SmallScrap, LowScrap, IdleSize, IdleLeast, IdleStep, LongLead, Twin, Unused, Unstocked, NoStock, Unplanned, NoMinutes, FewMinutes, Idle, Doubled, LargePer, SmallRun, LowRun, Short, NotStanding, NotYours, Unplaced}
use Rattle.mrp_warn.specs.declared.oddity.Warning.{Warning}
use Rattle.mrp_warn.specs.declared.sheets.Sheet.{Sheet}
use Rattle.mrp_warn.specs.declared.telling.Group.{Group}
use Rattle.mrp_warn.specs.Kinds.{column_of, table_of}
use Rattle.mrp_warn.specs.Sheets.{file_of, line_of}

-- a number, in quotes, and what is said of it
abbrev pub of_number : ℕ → List ℕ → List ℕ
of_number n words = codes "'" ++ (decimal n ++ (codes "'" ++ words))

-- a name, in quotes, and what is said of it
abbrev pub of_name : List ℕ → List ℕ → List ℕ
of_name name words = codes "'" ++ (name ++ (codes "'" ++ words))

abbrev pub of_lead : ℕ → LeadUnit → ℕ → List ℕ
of_lead lead Weeks weeks = codes "'" ++ (decimal lead ++ (codes "' weeks in a horizon of " ++ (decimal weeks ++ codes " make each of its orders late")))
of_lead lead ShopDays weeks = codes "'" ++ (decimal lead ++ (codes "' shop days in a horizon of " ++ (decimal weeks ++ codes " weeks make each of its orders late")))

abbrev pub of_low_scrap : ℕ → List ℕ
of_low_scrap scrap = codes "'" ++ (decimal scrap ++ (codes "' is " ++ (decimal (scrap / 10) ++ (codes "." ++ (decimal (scrap % 10) ++ codes " % (thousandths), and no item has more than 3 %")))))

abbrev pub of_twin : List ℕ → List ℕ → ℕ → List ℕ
of_twin name other line = codes "'" ++ (name ++ (codes "' differs in capitals alone from '" ++ (other ++ (codes "' of line " ++ decimal line))))

abbrev pub of_operations : ℕ → List ℕ
of_operations operations = codes "'0' minutes for " ++ (decimal operations ++ (codes " operation" ++ plural operations))

abbrev pub of_doubled : List ℕ → List ℕ → ℕ → List ℕ
of_doubled component parent line = codes "'" ++ (component ++ (codes "' of '" ++ (parent ++ (codes "' stands in line " ++ (decimal line ++ codes " already, and both count")))))

abbrev pub of_per : ℕ → List ℕ → List ℕ → List ℕ
of_per per component parent = codes "'" ++ (decimal per ++ (codes "' pieces of '" ++ (component ++ (codes "' in one '" ++ (parent ++ codes "'")))))

abbrev pub of_short : ℕ → ℕ → List ℕ
of_short quantity available = codes "booking '" ++ (decimal quantity ++ (codes "' is answered short, " ++ (decimal available ++ codes " are available")))

abbrev pub of_week : ℕ → Date → List ℕ
of_week week monday = codes "week " ++ (decimal week ++ (codes " from " ++ (date_text monday ++ codes " has no shop day")))

abbrev pub of_small_scrap : ℕ → List ℕ
of_small_scrap scrap = codes "'" ++ (decimal scrap ++ (codes "' is 0." ++ (decimal scrap ++ codes " % (thousandths)")))

abbrev pub of_unused : List ℕ → List ℕ
of_unused name = of_name name (codes " is a part of no bill, without stock, receipt or safety stock")

abbrev pub of_unstocked : List ℕ → List ℕ
of_unstocked name = of_name name (codes " has no row in stock.csv, so none on hand")

abbrev pub of_unplanned : List ℕ → List ℕ
of_unplanned name = of_name name (codes " is a master item without pieces in master.csv")

abbrev pub of_few_minutes : ℕ → List ℕ
of_few_minutes minutes = of_number minutes (codes " is minutes on a shop day (8 hours are 480)")

abbrev pub of_small_run : ℕ → List ℕ
of_small_run run = codes "'" ++ (decimal run ++ (codes "' is 0.00" ++ (decimal run ++ codes " minutes (thousandths)")))

abbrev pub of_low_run : ℕ → List ℕ
of_low_run run = codes "'" ++ (decimal run ++ (codes "' is 0.0" ++ (decimal run ++ codes " minutes (thousandths), and no operation has 0.1")))

abbrev pub not_standing : ℕ → List ℕ
not_standing number = codes "no booking '" ++ (decimal number ++ codes "' stands to be cancelled")

abbrev pub not_yours : ℕ → ℕ → List ℕ
not_yours number desk = codes "booking '" ++ (decimal number ++ (codes "' is that of desk " ++ (decimal desk ++ codes " and stays")))

abbrev pub unplaced : ℕ → List ℕ
unplaced line = codes "this booking is behind the last run, line " ++ (decimal line ++ codes ", and in no plan")

-- what is odd, in words
abbrev pub words_of : List Sheet → Oddity → List ℕ
words_of sheets (ClosedWeek week monday) = of_week week monday
words_of sheets (SmallScrap scrap) = of_small_scrap scrap
words_of sheets (LowScrap scrap) = of_low_scrap scrap
words_of sheets (IdleSize size) = of_number size (codes " has no effect with lfl")
words_of sheets (IdleLeast least) = of_number least (codes " has no effect with fixed")
words_of sheets (IdleStep step) = of_number step (codes " has no effect with fixed")
words_of sheets (LongLead lead unit weeks) = of_lead lead unit weeks
words_of sheets (Twin name other first) = of_twin name other (line_of sheets t.Items first)
words_of sheets (Unused name) = of_unused name
words_of sheets (Unstocked name) = of_unstocked name
words_of sheets NoStock = codes "there is no row, so no item has any on hand"
words_of sheets (Unplanned name) = of_unplanned name
words_of sheets (NoMinutes operations) = of_operations operations
words_of sheets (FewMinutes minutes) = of_few_minutes minutes
words_of sheets (Idle name) = of_name name (codes " is in no routing")
words_of sheets (Doubled component parent first) = of_doubled component parent (line_of sheets t.Bills first)
words_of sheets (LargePer per component parent) = of_per per component parent
words_of sheets (SmallRun run) = of_small_run run
words_of sheets (LowRun run) = of_low_run run
words_of sheets (Short quantity available) = of_short quantity available
words_of sheets (NotStanding number) = not_standing number
words_of sheets (NotYours number desk) = not_yours number desk
words_of sheets (Unplaced run) = unplaced (line_of sheets t.Script run)

-- a line: a file, a line of it, a column, and what is said
abbrev pub line_text : Table → ℕ → List ℕ → List ℕ → List ℕ
line_text file line column words = table_name file ++ (codes ".csv:" ++ (decimal line ++ (codes ": warning: " ++ (column ++ (codes ": " ++ (words ++ codes "\n"))))))

-- the line of a warning; without a record it stands at the first line of the stock
abbrev pub text_at : List Sheet → Kind → Option ℕ → List ℕ → List ℕ
text_at sheets kind (Some place) words = line_text (file_of sheets (table_of kind)) (line_of sheets (table_of kind) place) (column_of kind) words
text_at sheets kind None words = line_text (file_of sheets t.Stock) 1 (column_of kind) words

abbrev pub warning_text : List Sheet → Kind → Warning → List ℕ
warning_text sheets kind w = text_at sheets kind w.place (words_of sheets w.oddity)

-- the line that stands for the rest of a kind, at the whole file
abbrev pub more_text : List Sheet → Kind → ℕ → List ℕ
more_text sheets kind rest =
    if rest == 0 then [] else line_text (file_of sheets (table_of kind)) 0 (column_of kind) (decimal rest ++ codes " more like these")

-- the lines of a kind: of the first 20 warnings, and one for the rest
abbrev pub group_text : List Sheet → Group → List ℕ
group_text sheets group =
    flat_map (warning_text sheets group.kind) (take MOST_OF_A_KIND group.warnings.items) ++ more_text sheets group.kind (length group.warnings.items - MOST_OF_A_KIND)

-- how many warnings there are
abbrev pub count_of : List Group → ℕ
count_of groups = sum_by (λ group. length group.warnings.items) groups

abbrev pub count_words : ℕ → List ℕ
count_words count = if count == 0 then codes "no warnings" else decimal count ++ (codes " warning" ++ plural count)

-- all lines, and how many warnings there are
abbrev pub text_of : List Sheet → List Group → List ℕ
text_of sheets groups = flat_map (group_text sheets) groups ++ (codes "no faults, " ++ (count_words (count_of groups) ++ codes "\n"))
