use Rattle.mrp_board.proofs.Queues.{IsSettled}
use Rattle.mrp_board.proofs.queue.Queue.settle_all.Given as goal

abbrev pub invariant-loop-item : goal.invariant-loop-item
invariant-loop-item l = IsSettled l.items l.item-index l.initial.self l.self
