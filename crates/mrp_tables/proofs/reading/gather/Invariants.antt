use Rattle.std.proofs.Common.{◌≡◌, length}
use Rattle.mrp_rows.specs.Columns.{width}
use Rattle.mrp_tables.specs.Reading.{rows_from}
use Rattle.mrp_tables.proofs.Gathering.{IsDone, IsLeft}
use Rattle.mrp_tables.proofs.reading.gather.Given as goal

abbrev pub invariant-loop-gathered : goal.invariant-loop-gathered
invariant-loop-gathered g l =
    let reads = g.G.TableRows.reads in
    let rows = g.G.TableRows.rows in
    let at = l.initial.cursor in
    record {
      same : reads l.gathered ≡ reads l.initial.gathered;
      beside : g.G.TableRows.beside l.gathered ≡ g.G.TableRows.beside l.initial.gathered;
      left : IsLeft (reads l.initial.gathered) at.layout (rows l.gathered) l.cursor (rows_from (reads l.initial.gathered) at.layout (rows l.initial.gathered) at.number at.left);
      done : IsDone (reads l.initial.gathered) at.layout (rows l.initial.gathered) at.number at.left (rows l.gathered) l.cursor;
      takes : g.G.TableRows.takes (g.G.TableRows.beside l.initial.gathered) (width at.layout);
    }

abbrev pub decreases-loop-gathered : goal.decreases-loop-gathered
decreases-loop-gathered g l = length l.cursor.left
