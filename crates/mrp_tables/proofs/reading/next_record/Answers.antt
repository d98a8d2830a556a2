use Rattle.mrp_tables.proofs.Admitting.{refuses}
use Rattle.mrp_tables.proofs.reading.next_record.Goals as goal

pub returns-in-Err-clause-next : goal.returns-in-Err-clause-next
returns-in-Err-clause-next c = rw c.past_first.ensures (refuses c.args.limit c.args.cursor.now c.next.new.self c.in-Err.fault c.in-Err.ensures)
