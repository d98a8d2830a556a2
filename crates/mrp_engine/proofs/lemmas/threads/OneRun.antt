-- A history with a run of a shop without items: its worker is told the end at once.
use Rattle.std.proofs.Common.{◌≡◌, ◌==◌, ℕ, Bool, true, false, cond, List, [], ◌∷◌, inl, refl, sym, ap, arith}
use Rattle.std.proofs.lemmas.List.Elements.{All-cons, All-nil}
use Rattle.mrp_turn.specs.Log.{IsSeatNumber, entry}
use Rattle.mrp_turn.proofs.Logs.{EachFollows-more, EachFollows-nil}
use Rattle.mrp_tables.specs.Tables.{Tables}
use Rattle.mrp_tables.specs.declared.item.Item.{Item}
use Rattle.mrp_master.specs.Supply.{supply_of}
use Rattle.mrp_item.specs.Inputs.{Inputs}
use Rattle.mrp_book.specs.declared.call.Call.TheVariants as book_call
use Rattle.mrp_book.proofs.Histories.{legal-more, legal-none}
use Rattle.mrp_board.specs.declared.call.BoardCall.TheVariants as call
use Rattle.mrp_board.specs.declared.reply.BoardReply.TheVariants as reply
use Rattle.mrp_engine.specs.declared.event_core.event.Event.TheVariants as event
use Rattle.mrp_engine.specs.declared.event_core.event.Answer.TheVariants as answer
use Rattle.mrp_board.specs.Board.{MayFollowOnBoard, board_reply}
use Rattle.mrp_board.specs.Orderly.{IsCourse}
use Rattle.mrp_board.proofs.Tests.{equal}
use Rattle.mrp_engine.specs.event_core.Core.{inputs_at, opened, snapshot_of}
use Rattle.mrp_engine.specs.event_core.Threads.{AreLeft, IsRunLeft, book_steps, logs_steps, steps_of}
use Rattle.mrp_engine.specs.event_core.OneRun.{one_history, one_log, one_run}

seat : IsSeatNumber 1
seat = (omega arith, omega arith)

course-by : (s : Inputs) (who : ℕ) (b : Bool) → (1 == who) ≡ b → IsCourse s who (cond b one_log [])
course-by s who true is = record { items = []; last = entry who call.Take reply.AllOut ∷ []; left = []; ends = inl refl; prefix = ap (λ (n : ℕ). entry n call.Take reply.AllOut ∷ []) (sym (equal 1 who is)) }
course-by s who false is = record { items = []; last = entry who call.Take reply.AllOut ∷ []; left = entry who call.Take reply.AllOut ∷ []; ends = inl refl; prefix = refl }

run-left : (tables : Tables) → tables.items ≡ [] → IsRunLeft tables (one_history tables) one_run
run-left tables none = record {
  snapshot = record { desk = 1; reply = snapshot_of (opened tables) 1; is = record { before = []; after = []; place = refl; counted = refl } };
  legal = EachFollows-more (MayFollowOnBoard (inputs_at tables (one_history tables) 1)) [] (entry 1 call.Take reply.AllOut) (EachFollows-nil (MayFollowOnBoard (inputs_at tables (one_history tables) 1)))
      (seat, ap (λ (l : List Item). board_reply (inputs_at (record tables { items = l }) (one_history tables) 1) [] 1 call.Take) none, tt);
  orderly = λ who. course-by (inputs_at tables (one_history tables) 1) who (1 == who) refl;
}

pub one-left : (tables : Tables) → tables.items ≡ [] → AreLeft tables (one_history tables) (one_run ∷ [])
one-left tables none = record {
  legal = legal-more (supply_of tables) [] (entry 1 book_call.Snapshot (snapshot_of (opened tables) 1)) (legal-none (supply_of tables)) (seat, refl, tt);
  within = omega arith;
  rise = λ i j d below within. absurd (omega (arith, below, within));
  each = All-cons (IsRunLeft tables (one_history tables)) one_run [] (run-left tables none) (All-nil (IsRunLeft tables (one_history tables)));
}

pub one-steps : (tables : Tables) → steps_of (one_history tables) (one_run ∷ []) ≡ (event.Start 1, answer.Started 1 1) ∷ (event.Take 1 1, answer.AllOut) ∷ []
unfolding book_steps logs_steps
one-steps tables = refl
