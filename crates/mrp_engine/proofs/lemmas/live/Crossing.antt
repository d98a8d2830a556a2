-- A desk and what came of its runs may go to another thread, and an office, calls and the rows of a shop may be lent to one.
use Rattle.std.proofs.Common.{rules}
use Rattle.std.proofs.Crossing.{Arc-sync, crosses, send}
use mathlib.Core.List.{List, [], ◌∷◌}
use mir.Syntax.{Lifetime, w64}
use base.Fml.{Lft}
use denote.Param.{param}
use denote.Param.Send.{AllSend, IsSend, IsSync, sendable, shr_send, shr_slice_send}
use denote.Plain.{UInt}
use denote.RattleType.{RattleType}
use denote.Ref.{ShrRef}
use denote.Slice.{ShrSlice}
use Rattle.std.specs.contracts.alloc.Global as heap
use Rattle.std.specs.contracts.impls.GlobalAllocator.TheImpl as frees
use Rattle.std.specs.contracts.sync.Arc as arc
use types.Keyed.{entry}
use Rattle.mrp_turn.specs.contracts.seat.Seat as seat
use Rattle.mrp_book.specs.contracts.state.BookState as state
use Rattle.mrp_book.specs.contracts.call.Call as call
use Rattle.mrp_book.specs.contracts.reply.Reply as reply
use Rattle.mrp_book.specs.contracts.refused.Refused as refused
use Rattle.mrp_desk.specs.contracts.office.Office as office
use Rattle.mrp_desk.specs.contracts.shop_book.ShopBook as shop_book
use Rattle.mrp_desk.specs.contracts.shop_book.ShopBookObject.TheImpl as object
use Rattle.mrp_desk.proofs.office.Office.TheSendSync.{the_sync}
use Rattle.mrp_engine.specs.contracts.live.ready.Ready as ready
use Rattle.mrp_engine.specs.contracts.live.serving.Served as served
use Rattle.mrp_item.specs.contracts.plan.Plan as plan
use Rattle.mrp_item.proofs.plan.Plan.TheSendSync as the_plan
use Rattle.mrp_item.specs.contracts.shop_rows.ShopRows as rows
use Rattle.mrp_item.proofs.shop_rows.ShopRows.TheSendSync as the_rows

pub desk-send : IsSend (seat.the_row shop_book.the_row state.the_row call.the_row reply.the_row refused.the_row object.ghosts)
unfolding entry
desk-send = search rules

pub office-sync : IsSync office.the_row
office-sync = the_sync

pub call-sync : IsSync call.the_row
call-sync = search (sendable, crosses) depth 40

pub plan-send : IsSend plan.the_row
plan-send = the_plan.the_send

pub rows-send : IsSend rows.the_row
rows-send = the_rows.the_send

pub rows-sync : IsSync rows.the_row
rows-sync = the_rows.the_sync

pub ready-send : IsSend ready.the_row
unfolding entry
ready-send = search (desk-send, plan-send, sendable, crosses) depth 40

pub served-send : IsSend served.the_row
unfolding entry
served-send = search (desk-send, plan-send, sendable, crosses) depth 40

number-send : IsSend (UInt w64)
number-send = search sendable

module _ (a b c d e f : Lifetime) (α β γ δ ε ζ : Lft) (D I R : RattleType) where
  -- what the work of a desk captures: the office, the rows, the number of workers, both gates, the runtime, the allocator, the
  -- desk's calls and the desk
  abbrev pub Captures : List RattleType
  Captures = ShrRef a α office.the_row ∷ ShrRef b β (arc.the_row rows.the_row heap.the_row frees.ghosts) ∷ UInt w64 ∷ ShrRef c γ (param 2 D) ∷ ShrRef d δ (param 3 I) ∷ ShrRef e ε (param 1 R)
      ∷ heap.the_row ∷ ShrSlice f ζ call.the_row ∷ ready.the_row ∷ []

  -- all of it may go to another thread; a search that has to make nine proofs of its own passes its limits
  pub captures-send : IsSync (param 2 D) → IsSync (param 3 I) → IsSync (param 1 R) → AllSend Captures
  captures-send gate items rt = (
    shr_send a α office.the_row office-sync,
    (
      shr_send b β (arc.the_row rows.the_row heap.the_row frees.ghosts) (Arc-sync rows.the_row rows-send rows-sync),
      (
        number-send,
        (
          shr_send c γ (param 2 D) gate,
          (shr_send d δ (param 3 I) items, (shr_send e ε (param 1 R) rt, (send, (shr_slice_send f ζ call.the_row call-sync, (ready-send, tt))))),
        ),
      ),
    ),
  )
