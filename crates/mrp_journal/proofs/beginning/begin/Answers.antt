use Rattle.mrp_journal.proofs.Kept.{begin-safe}
use Rattle.mrp_journal.proofs.beginning.begin.Goals as goal

pub returns-clause-safe : goal.returns-clause-safe
returns-clause-safe g c =
    begin-safe c.args.bytes.now c.args.head.now (g.S.Store.held c.args.store.now) (g.S.Store.held c.cut_behind.new.store) (g.S.Store.held c.keep.new.store) c.requires c.in_ok-cut_behind.ensures.cut c.keep.ensures.safe
