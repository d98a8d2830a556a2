-- The order book of a shop, as an object. Profile.
use Rattle.std.specs.Prelude.{◌≡◌, ℕ, []}
use Rattle.mrp_bill.specs.Shop.{Shop}
use Rattle.mrp_turn.specs.Log.{IsSeatNumber}
use Rattle.mrp_master.specs.Supply.{supply_of}
use Rattle.mrp_book.specs.declared.call.Call.{Call}
use Rattle.mrp_book.specs.declared.reply.Reply.{Reply}
use Rattle.mrp_book.specs.declared.refused.Refused.{Refused}
use Rattle.mrp_book.specs.declared.refused.Refused.TheVariants.{Full, NoMemory}
use Rattle.mrp_book.specs.BookState.{BookState}
use Rattle.mrp_book.specs.History.{Fits, IsLimit, IsReplyIn, TakesMemory, state_after}

-- it opens without entries
abbrev pub Opens : Shop → BookState → Type 0
Opens shop b = b ≡ record { supply = supply_of shop.tables; entries = 0; standing = [] }

-- a book within its limit gives the reply that its state decides, and makes one entry
pub record Answers (shop : Shop) (b : BookState) (desk : ℕ) (c : Call) (r : Reply) (after : BookState) : Type 0 where
  pub desk_is : IsSeatNumber desk
  pub fits : Fits (supply_of shop.tables) c
  pub within : ¬ IsLimit b.entries
  pub reply : IsReplyIn b desk c r
  pub left : after ≡ state_after b desk c r

-- a book refuses every call at its limit, before all else, and no call below it
abbrev pub Refuses : BookState → Refused → Type 0
Refuses b Full = IsLimit b.entries
Refuses b NoMemory = ⊥

-- below its limit, a booking that can be promised and a snapshot allocate
abbrev pub IsOutOfMemory : BookState → Call → Refused → Type 0
IsOutOfMemory b c Full = ⊥
IsOutOfMemory b c NoMemory = TakesMemory b c × (¬ IsLimit b.entries)
