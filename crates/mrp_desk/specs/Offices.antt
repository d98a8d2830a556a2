-- Offices and desks, as contracts see them. Profile.
use Rattle.mrp_bill.specs.Shop.{Shop}
use Rattle.mrp_turn.specs.Seen.{Seated, TurnId}
use Rattle.mrp_master.specs.Supply.{Supply, supply_of}
use Rattle.mrp_book.specs.declared.call.Call.{Call}
use Rattle.mrp_book.specs.declared.reply.Reply.{Reply}

-- a desk: its office, its number, what it has seen of the history, and its own entries
abbrev pub Desk : Type 0
Desk = Seated Shop Call Reply

-- the supply that an office promises from
abbrev pub supply_at : TurnId Shop → Supply
supply_at office = supply_of office.about.object.tables
