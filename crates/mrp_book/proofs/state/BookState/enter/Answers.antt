use Rattle.std.proofs.Common.{◌∙◌, ap, sym}
use Rattle.mrp_book.specs.declared.call.Call.{Call}
use Rattle.mrp_book.specs.declared.reply.Reply.{Reply}
use Rattle.mrp_book.specs.declared.reply.Reply.TheVariants as reply
use Rattle.mrp_book.specs.History.{state_after}
use Rattle.mrp_book.proofs.state.BookState.enter.Goals as goal

pub returns-in-Cancel-Cancelled-clause-after : goal.returns-in-Cancel-Cancelled-clause-after
returns-in-Cancel-Cancelled-clause-after c =
    c.enter_cancel.ensures c.args.desk
    ∙ ap (λ (x : Call). state_after c.args.self.now c.args.desk x reply.Cancelled) (sym c.in-Cancel-Cancelled.is-0)
    ∙ ap (λ (x : Reply). state_after c.args.self.now c.args.desk c.args.call.now x) (sym c.in-Cancel-Cancelled.is-1)
