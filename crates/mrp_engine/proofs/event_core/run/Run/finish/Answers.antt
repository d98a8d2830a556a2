use Rattle.std.proofs.Common.{◌≡◌, ◌∙◌, ◌++◌, ◌∷◌, [], ℕ, Option, Some, ap, subst, sym}
use Rattle.mrp_turn.specs.Log.{entry}
use Rattle.mrp_item.specs.Inputs.{Inputs, inputs_of}
use Rattle.mrp_item.specs.Places.{ItemOf}
use Rattle.mrp_board.specs.declared.call.BoardCall.TheVariants as call
use Rattle.mrp_board.specs.declared.reply.BoardReply.{BoardReply}
use Rattle.mrp_board.specs.declared.reply.BoardReply.TheVariants as reply
use Rattle.mrp_board.specs.Board.{BoardLog, board_reply, held}
use Rattle.mrp_engine.specs.event_core.Board.{RunLog, finish_entry, made}
use Rattle.mrp_engine.specs.event_core.Core.{told}
use Rattle.mrp_engine.specs.event_core.Kept.{IsBoardOf, KeepsBoard}
use Rattle.mrp_engine.proofs.lemmas.event_core.BoardLaws.{stored-reply}
use Rattle.mrp_engine.proofs.lemmas.event_core.RunBoards.{board-shown, held-outcome}
use Rattle.mrp_engine.proofs.event_core.run.Run.finish.Goals as goal

pub make-requires-clause-fits : goal.make-requires-clause-fits
make-requires-clause-fits c =
    let b = c.in-Some.board in
    let k = held-outcome b.inputs (held c.args.worker b.log) c.in-Some-2.outcome (sym c.in-Some-2.is ∙ c.in_ok-outcome.ensures.outcome) in
    ap (λ (x : ItemOf). x.inputs) k.2

pub returns-clause-held : goal.returns-clause-held
returns-clause-held c some =
    let i = c.self.inside in
    let b = c.in-Some.board in
    let same = board-shown (inputs_of i.rows.value.tables i.snapshot) i.board b c.args.self.now c.in-Some.is c.self.invariant.board c.self.view_is in
    let keeps : KeepsBoard b.inputs b.log = subst (λ (r : RunLog). KeepsBoard r.inputs r.log) (sym same) c.requires.keeps in
    let k = held-outcome b.inputs (held c.args.worker b.log) c.in-Some-2.outcome (sym c.in-Some-2.is ∙ c.in_ok-outcome.ensures.outcome) in
    let is : c.in_ok-make.field-0 ≡ Some reply.Stored =
    c.in_ok-make.ensures.reply ∙ ap (λ (x : ItemOf). board_reply b.inputs b.log c.args.worker (call.Finish x)) k.2 ∙ stored-reply b.inputs b.log keeps c.args.worker k.0 k.1 in
    c.told.ensures ∙ ap told is

pub returns-clause-entry : goal.returns-clause-entry
returns-clause-entry c =
    let i = c.self.inside in
    let b = c.in-Some.board in
    let s : Inputs = inputs_of i.rows.value.tables i.snapshot in
    let same = board-shown s i.board b c.args.self.now c.in-Some.is c.self.invariant.board c.self.view_is in
    let own : b.inputs ≡ s = subst (IsBoardOf s) c.in-Some.is c.self.invariant.board in
    let keeps : KeepsBoard b.inputs b.log = subst (λ (r : RunLog). KeepsBoard r.inputs r.log) (sym same) c.requires.keeps in
    let k = held-outcome b.inputs (held c.args.worker b.log) c.in-Some-2.outcome (sym c.in-Some-2.is ∙ c.in_ok-outcome.ensures.outcome) in
    let is : c.in_ok-make.field-0 ≡ Some reply.Stored =
    c.in_ok-make.ensures.reply ∙ ap (λ (x : ItemOf). board_reply b.inputs b.log c.args.worker (call.Finish x)) k.2 ∙ stored-reply b.inputs b.log keeps c.args.worker k.0 k.1 in
    let log : c.make.new.self.log ≡ b.log ++ finish_entry b.inputs c.args.worker (held c.args.worker b.log) =
    ap (λ (r : RunLog). r.log) c.in_ok-make.ensures.entry
    ∙ ap (λ (o : Option BoardReply). b.log ++ made c.args.worker (call.Finish c.in-Some-2.outcome) o) is
    ∙ ap (λ (x : ItemOf). b.log ++ entry c.args.worker (call.Finish x) reply.Stored ∷ []) k.2
    ∙ ap (λ (o : Option ℕ). b.log ++ finish_entry b.inputs c.args.worker o) (sym k.1) in
    ap (λ (l : BoardLog). record { inputs = s; log = l }) log
    ∙ ap (λ (x : Inputs). record { inputs = x; log = b.log ++ finish_entry b.inputs c.args.worker (held c.args.worker b.log) }) (sym own)
    ∙ ap (λ (r : RunLog). record { inputs = r.inputs; log = r.log ++ finish_entry r.inputs c.args.worker (held c.args.worker r.log) }) same
