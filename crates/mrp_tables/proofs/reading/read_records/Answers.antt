use Rattle.mrp_tables.proofs.Counting.{counted_result}
use Rattle.mrp_tables.proofs.Opening.{gathered-read}
use Rattle.mrp_tables.proofs.reading.read_records.Goals as goal

pub returns-clause-rows : goal.returns-clause-rows
returns-clause-rows g c = λ own text opens.
    gathered-read g.G.TableRows.rows (g.G.TableRows.reads c.args.empty) own text c.args.cursor
    (g.G.TableRows.rows c.args.empty) c.gather.result opens c.requires.empty c.gather.ensures.rows

pub returns-clause-count : goal.returns-clause-count
returns-clause-count g c = λ own text opens limit small e.
    let rows = gathered-read g.G.TableRows.rows (g.G.TableRows.reads c.args.empty) own text c.args.cursor
    (g.G.TableRows.rows c.args.empty) c.gather.result opens c.requires.empty c.gather.ensures.rows in
    counted_result _ g.G.TableRows.rows (g.G.TableRows.reads c.args.empty) own text limit small e c.gather.result rows
