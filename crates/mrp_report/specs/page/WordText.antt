-- The words of rows (profile).
use Rattle.std.specs.Prelude.{ℕ, List, [], codes}
use Rattle.mrp_report.specs.declared.page.word.Word.{Word}
use Rattle.mrp_report.specs.declared.page.word.Word.TheVariants as word

abbrev pub word_text : Word → List ℕ
word_text word.Nothing = []
word_text word.Booking = codes "booking"
word_text word.Forecast = codes "forecast"
word_text word.Service = codes "service"
word_text word.Parent = codes "parent"
word_text word.Surplus = codes "surplus"
word_text word.Stock = codes "stock"
word_text word.Open = codes "open"
word_text word.Firm = codes "firm"
word_text word.Planned = codes "planned"
word_text word.Release = codes "RELEASE"
word_text word.PastDue = codes "PAST-DUE"
word_text word.In = codes "IN"
word_text word.Out = codes "OUT"
word_text word.Cancel = codes "CANCEL"
word_text word.Book = codes "book"
word_text word.CancelBooking = codes "cancel"
word_text word.Ask = codes "ask"
word_text word.When = codes "when"
word_text word.Run = codes "run"
word_text word.Front = codes "front"
word_text word.Booked = codes "booked"
word_text word.Short = codes "short"
word_text word.Cancelled = codes "cancelled"
word_text word.NotStanding = codes "not-standing"
word_text word.NotYours = codes "not-yours"
word_text word.Available = codes "available"
word_text word.Week = codes "week"
word_text word.NoWeek = codes "no-week"
