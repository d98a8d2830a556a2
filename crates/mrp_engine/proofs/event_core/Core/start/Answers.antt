use Rattle.std.proofs.Common.{◌≡◌, ◌∙◌, ◌++◌, ◌∷◌, [], List, length, ap, subst, sym, false, true}
use Rattle.std.proofs.lemmas.List.{length-append}
use Rattle.std.proofs.lemmas.List.Elements.{All-push}
use Rattle.std.specs.Prelude.{All}
use Rattle.mrp_turn.specs.declared.log.Entry.{Entry}
use Rattle.mrp_turn.specs.Log.{entry}
use Rattle.mrp_tables.specs.Tables.{Tables}
use Rattle.mrp_master.specs.Supply.{Supply, supply_of}
use Rattle.mrp_book.specs.declared.booking.Booking.{Booking}
use Rattle.mrp_book.specs.declared.call.Call.{Call}
use Rattle.mrp_book.specs.declared.call.Call.TheVariants as call
use Rattle.mrp_book.specs.declared.reply.Reply.{Reply}
use Rattle.mrp_book.specs.declared.reply.Reply.TheVariants as reply
use Rattle.mrp_book.specs.Booked.{AreBooked}
use Rattle.mrp_book.specs.Books.{OrderBook}
use Rattle.mrp_book.specs.Standing.{History}
use Rattle.mrp_book.specs.History.{IsFull, IsLegal, IsReply}
use Rattle.mrp_book.proofs.SnapshotBookings.{standing-booked}
use Rattle.mrp_item.specs.Inputs.{inputs_of}
use Rattle.mrp_engine.specs.declared.event_core.event.Answer.TheVariants as answer
use Rattle.mrp_engine.specs.declared.event_core.event.Event.TheVariants as event
use Rattle.mrp_engine.specs.event_core.Board.{RunLog}
use Rattle.mrp_engine.specs.event_core.Core.{Core, IsAnswer}
use Rattle.mrp_engine.specs.event_core.KeptCore.{FollowsHistory}
use Rattle.mrp_engine.proofs.lemmas.event_core.CoreSteps.{follow-more, snapshot-front, start-answer, started-follows}
use Rattle.mrp_engine.proofs.event_core.Core.start.Goals as goal

pub new-requires : goal.new-requires
new-requires c =
    let i = c.self.inside in
    let t = i.rows.value.tables in
    let h = i.book.entries in
    let k = c.in-Ok-default-Taken in
    let says : IsReply i.book.supply h c.args.desk call.Snapshot (reply.Taken k.snapshot) = subst (λ (r : Reply). IsReply i.book.supply h c.args.desk call.Snapshot r) k.field-0-1-is k.ensures.reply in
    let is : IsReply (supply_of t) h c.args.desk call.Snapshot (reply.Taken k.snapshot) = subst (λ (s : Supply). IsReply s h c.args.desk call.Snapshot (reply.Taken k.snapshot)) c.self.invariant.supply says in
    let legal : IsLegal (supply_of t) h = subst (λ (s : Supply). IsLegal s h) c.self.invariant.supply (subst (λ (l : History). IsLegal i.book.supply l) c.entries-legal.ensures.entries c.entries-legal.ensures.legal) in
    let booked : AreBooked (supply_of t) k.snapshot.standing = subst (λ (l : List Booking). AreBooked (supply_of t) l) (sym (snapshot-front t h k.snapshot c.args.desk is).1) (standing-booked (supply_of t) h legal) in
    let shop : c.in_ok-rows.rows.value.tables ≡ t = c.in_ok-rows.ensures ∙ sym (ap (λ (x : Core). x.tables) c.self.view_is) in
    subst (λ (x : Tables). AreBooked (supply_of x) k.snapshot.standing) (sym shop) booked

pub invariant_of-self-in-Taken-1 : goal.invariant_of-self-in-Taken-1
invariant_of-self-in-Taken-1 c =
    let i = c.self.inside in
    let t = i.rows.value.tables in
    let h = i.book.entries in
    let k = c.in-Ok-default-Taken in
    let e : Entry Call Reply = entry c.args.desk call.Snapshot (reply.Taken k.snapshot) in
    let says : IsReply i.book.supply h c.args.desk call.Snapshot (reply.Taken k.snapshot) = subst (λ (r : Reply). IsReply i.book.supply h c.args.desk call.Snapshot r) k.field-0-1-is k.ensures.reply in
    let is : IsReply (supply_of t) h c.args.desk call.Snapshot (reply.Taken k.snapshot) = subst (λ (s : Supply). IsReply s h c.args.desk call.Snapshot (reply.Taken k.snapshot)) c.self.invariant.supply says in
    let book : c.call.new.self ≡ record { supply = i.book.supply; entries = h ++ e ∷ [] } =
    k.ensures.entry ∙ ap (λ (r : Reply). record { supply = i.book.supply; entries = h ++ entry c.args.desk call.Snapshot r ∷ [] }) k.field-0-1-is in
    let shop : c.in_ok-rows.rows.value.tables ≡ t = c.in_ok-rows.ensures ∙ sym (ap (λ (x : Core). x.tables) c.self.view_is) in
    let begun : c.new.result ≡ record { inputs = inputs_of t k.snapshot; log = [] } = c.new.ensures ∙ ap (λ (x : Tables). record { inputs = inputs_of x k.snapshot; log = [] }) shop in
    let runs : c.push_reserved.new.self.items ≡ i.runs.items ++ c.new.result ∷ [] = c.push_reserved.ensures.items ∙ ap (λ (l : List RunLog). l ++ c.new.result ∷ []) c.try_reserve.ensures.items in
    let all : All (FollowsHistory t (h ++ e ∷ [])) (i.runs.items ++ c.new.result ∷ []) =
    All-push (FollowsHistory t (h ++ e ∷ [])) i.runs.items c.new.result (follow-more t h e i.runs.items c.self.invariant.runs) (started-follows t h k.snapshot c.args.desk c.new.result is begun) in
    record {
      supply = ap (λ (b : OrderBook). b.supply) book ∙ c.self.invariant.supply;
      runs = subst (λ (b : OrderBook). All (FollowsHistory t b.entries) c.push_reserved.new.self.items) (sym book)
          (subst (λ (l : List RunLog). All (FollowsHistory t (h ++ e ∷ [])) l) (sym runs) all);
    }

pub returns-in-Ok-default-Taken-clause-answer : goal.returns-in-Ok-default-Taken-clause-answer
returns-in-Ok-default-Taken-clause-answer c =
    let i = c.self.inside in
    let t = i.rows.value.tables in
    let h = i.book.entries in
    let k = c.in-Ok-default-Taken in
    let runs : c.push_reserved.new.self.items ≡ i.runs.items ++ c.new.result ∷ [] = c.push_reserved.ensures.items ∙ ap (λ (l : List RunLog). l ++ c.new.result ∷ []) c.try_reserve.ensures.items in
    let number = c.len.ensures ∙ c.push_reserved.new.self.ok.0 ∙ ap (length {A = RunLog}) runs ∙ length-append i.runs.items (c.new.result ∷ []) in
    let open_ = λ (full : IsFull h). let b : false ≡ true = sym c.if-is_full.false ∙ c.is_full.ensures.1 full in absurd cc in
    subst (λ (x : Core). IsAnswer x (event.Start c.args.desk) (answer.Started c.len.result k.front)) c.self.view_is
    (start-answer t h i.runs.items c.args.desk c.len.result k.front (c.is_seat.ensures.0 c.if-not-is_seat.false) open_ number k.ensures.number)
