use Rattle.std.proofs.Common.{◌≡◌, ◌∙◌, ◌∷◌, ◌++◌, ℕ, [], Result, ap, subst, sym}
use Rattle.std.specs.Prelude.{IfOk}
use Rattle.mrp_turn.specs.Log.{entry}
use Rattle.mrp_bill.specs.Shop.{Shop}
use Rattle.mrp_master.specs.Supply.{supply_of}
use Rattle.mrp_book.specs.declared.call.Call.TheVariants as call
use Rattle.mrp_book.specs.declared.reply.Reply.{Reply}
use Rattle.mrp_book.specs.declared.reply.Reply.TheVariants as reply
use Rattle.mrp_book.specs.declared.refused.Refused.{Refused}
use Rattle.mrp_book.specs.Booked.{AreBooked}
use Rattle.mrp_book.specs.History.{IsLegal}
use Rattle.mrp_book.specs.Standing.{History}
use Rattle.mrp_book.proofs.SnapshotBookings.{taken-booked}
use Rattle.mrp_desk.specs.Calls.{IsSnapshot}
use Rattle.mrp_desk.specs.Offices.{supply_at}
use Rattle.low_tests.proofs.tests.offices.started.Goals as goal

pub new-requires : goal.new-requires
new-requires g c =
    let s = supply_at c.args.office.now in
    let old = c.args.desk.now in
    let new = c.snapshot.new.desk in
    let snapshot = c.in-Taken.snapshot in
    let taken : IsSnapshot s old new c.expect-number.result = subst (λ (r : Result (ℕ × Reply) Refused). IfOk r (IsSnapshot s old new)) c.expect-number.ensures c.snapshot.ensures.taken in
    let saw : new.seen ≡ taken.before ++ entry old.number call.Snapshot (reply.Taken snapshot) ∷ [] = taken.saw ∙ ap (λ (r : Reply). taken.before ++ entry old.number call.Snapshot r ∷ []) c.in-Taken.is in
    let legal : IsLegal s (taken.before ++ entry old.number call.Snapshot (reply.Taken snapshot) ∷ []) = subst (λ (h : History). IsLegal s h) saw c.snapshot.ensures.told.legal in
    subst (λ (shop : Shop). AreBooked (supply_of shop.tables) snapshot.standing) (sym c.shared_shop-shop.ensures) (taken-booked s taken.before [] old.number call.Snapshot snapshot legal)
