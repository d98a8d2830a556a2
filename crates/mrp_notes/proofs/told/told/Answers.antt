use Rattle.std.proofs.Common.{◌≡◌, ◌∙◌, ◌++◌, [], List, map, take, length, ap, arith}
use Rattle.std.specs.Prelude.{flat_map, Option}
use Rattle.std.specs.List.{cons_option, enumerate_from}
use Rattle.mrp_notes.specs.declared.message.Advice.{Advice}
use Rattle.mrp_notes.specs.declared.message.Message.{Message}
use Rattle.mrp_notes.specs.Told.{message, told_of}
use Rattle.mrp_notes.proofs.Tellings.{supplied_more, told_next, told_all}
use Rattle.mrp_notes.proofs.told.told.Goals as goal

pub loop-supply-preserved : goal.loop-supply-preserved
loop-supply-preserved c =
    let item = c.args.item in
    let gross = c.args.gross.now in
    let stock = c.args.stock.now in
    let supplies = c.args.supplies.now in
    let x = c.supply-item.result in
    let k = c.loop-supply.supply-index in
    let supplied = c.loop-supply.covered.supplied in
    let advice = c.advice-advice.result in
    let known = c.loop-supply.invariant in
    record {
      messages =
          c.in_ok-tell-2.ensures
          ∙ ap (λ (ms : List Message). ms ++ map (message item x.source) (cons_option advice [])) c.in_ok-tell.ensures
          ∙ ap (λ (o : Option Advice). (c.loop-supply.messages.items ++ map (message item x.source) (cons_option o [])) ++ map (message item x.source) (cons_option advice [])) c.action_on.ensures
          ∙ told_next item gross stock supplies k x supplied c.loop-supply.messages.items advice c.requires.within c.loop-supply-test.true c.supply-item.is known.supplied c.advice-advice.ensures.advice known.messages;
      supplied = c.advice-advice.ensures.supplied ∙ supplied_more stock supplies k x supplied c.loop-supply-test.true c.supply-item.is known.supplied;
      covered = c.advice-advice.ensures.covered;
    }

pub returns : goal.returns
returns c =
    let item = c.args.item in
    let gross = c.args.gross.now in
    let stock = c.args.stock.now in
    let supplies = c.args.supplies.now in
    let end : c.loop-supply.supply-index ≡ length supplies = omega arith in
    c.loop-supply.invariant.messages
    ∙ ap (λ n. flat_map (λ x. told_of item gross stock supplies x.0 x.1) (take n (enumerate_from 0 supplies))) end
    ∙ told_all item gross stock supplies
