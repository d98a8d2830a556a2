-- Legal histories: the entries before an entry decide its reply.
use Rattle.std.specs.Prelude.{ℕ, ◌≡◌, ◌≤◌, ◌+◌, ◌==◌, nat_le, if◌then◌else◌, List, Option, Some, None, length, find, map}
use Rattle.mrp_turn.specs.declared.log.Entry.{Entry}
use Rattle.mrp_book.specs.declared.booking.Booking.{Booking}
use Rattle.mrp_book.specs.declared.call.Call.{Call}
use Rattle.mrp_book.specs.declared.call.Call.TheVariants as call
use Rattle.mrp_book.specs.declared.reply.Reply.{Reply}
use Rattle.mrp_book.specs.declared.reply.Reply.TheVariants as reply
use Rattle.mrp_tables.specs.declared.limits.TheConstants.{MOST_ENTRIES}
use Rattle.mrp_master.specs.Lines.{IsLine, IsSpot, IsWish}
use Rattle.mrp_master.specs.Supply.{Supply, CanPromise, IsAvailable, IsEarliest}
use Rattle.mrp_turn.specs.Log.{EachFollows, IsSeatNumber}
use Rattle.mrp_book.specs.BookState.{BookState}
use Rattle.mrp_book.specs.Bookings.{lines_of}
use Rattle.mrp_book.specs.Standing.{History, standing, stands_after}

-- the number of the entry after a history
abbrev pub next_number : History → ℕ
next_number h = length h + 1

abbrev pub week_reply : Option ℕ → Reply
week_reply None = reply.NoWeek
week_reply (Some week) = reply.Week week

-- the reply to a desk's cancel of a booking, if it stands
abbrev pub cancel_reply : ℕ → Option Booking → Reply
cancel_reply desk None = reply.NotStanding
cancel_reply desk (Some b) = if b.desk == desk then reply.Cancelled else reply.NotYours

-- the reply to a desk's call in a state
abbrev pub IsReplyIn : BookState → ℕ → Call → Reply → Type 0
IsReplyIn b desk (call.Book l) r =
    (available : ℕ) × IsAvailable b.supply (lines_of b.standing) l.item l.week available
    × (r ≡ (if nat_le l.quantity available then reply.Booked (b.entries + 1) else reply.Short available))
IsReplyIn b desk (call.Cancel n) r = r ≡ cancel_reply desk (find (λ b. b.number == n) b.standing)
IsReplyIn b desk (call.Ask p) r = (available : ℕ) × IsAvailable b.supply (lines_of b.standing) p.item p.week available × (r ≡ reply.Available available)
IsReplyIn b desk (call.When w) r = (week : Option ℕ) × IsEarliest b.supply (lines_of b.standing) w.item w.quantity week × (r ≡ week_reply week)
IsReplyIn b desk call.Snapshot r = r ≡ reply.Taken (record { front = b.entries + 1; weeks = b.supply.weeks; standing = b.standing })
IsReplyIn b desk call.Front r = r ≡ reply.Front (b.entries + 1)

-- the state after an entry
abbrev pub state_after : BookState → ℕ → Call → Reply → BookState
state_after b desk c r = record { supply = b.supply; entries = b.entries + 1; standing = stands_after desk c r b.standing }

-- the state after a history
abbrev pub state_of : Supply → History → BookState
state_of s h = record { supply = s; entries = length h; standing = standing h }

-- the reply to a desk's call after a history
abbrev pub IsReply : Supply → History → ℕ → Call → Reply → Type 0
IsReply s h desk c r = IsReplyIn (state_of s h) desk c r

-- a call whose line, spot or wish is one of the shop
abbrev pub Fits : Supply → Call → Type 0
Fits s (call.Book l) = IsLine s l
Fits s (call.Ask p) = IsSpot s p
Fits s (call.When w) = IsWish s w
Fits s (call.Cancel n) = Unit {0}
Fits s call.Snapshot = Unit {0}
Fits s call.Front = Unit {0}

-- an entry that may follow a history
abbrev pub MayFollow : Supply → History → Entry Call Reply → Type 0
MayFollow s h e = IsSeatNumber e.who × IsReply s h e.who e.call e.reply × Fits s e.call

-- the entries before an entry decide its reply
abbrev pub IsLegal : Supply → History → Type 0
IsLegal s h = EachFollows (MayFollow s) h

-- a book's limit of entries
abbrev pub IsLimit : ℕ → Type 0
IsLimit entries = MOST_ENTRIES ≤ entries

-- a book at its limit
abbrev pub IsFull : History → Type 0
IsFull h = IsLimit (length h)

-- a call that allocates in a state: a booking that can be promised, and a snapshot
abbrev pub TakesMemory : BookState → Call → Type 0
TakesMemory b (call.Book l) = CanPromise b.supply (lines_of b.standing) l.item l.quantity l.week
TakesMemory b call.Snapshot = Unit {0}
TakesMemory b c = ⊥

-- a reply that has a snapshot
abbrev pub HasSnapshot : Reply → Type 0
HasSnapshot (reply.Taken t) = Unit {0}
HasSnapshot r = ⊥

-- who called what, in order
abbrev pub asked : History → List (ℕ × Call)
asked h = map (λ e. (e.who, e.call)) h
