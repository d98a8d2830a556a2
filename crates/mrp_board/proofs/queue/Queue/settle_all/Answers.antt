use Rattle.mrp_board.proofs.Queues.{can-settle}
use Rattle.mrp_board.proofs.queue.Queue.settle_all.Goals as goal

pub settle-requires : goal.settle-requires
settle-requires c = can-settle c.args.items.now c.loop-item.item-index c.args.self.now c.loop-item.self c.loop-item.invariant c.loop-item-test.true c.requires
