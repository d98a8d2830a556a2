use Rattle.std.proofs.Common.{◌≡◌, ◌∙◌, Ok, Some, refl, subst, sym}
use Rattle.std.proofs.lemmas.Result.{err_from_is_err_and}
use Rattle.mrp_tables.specs.Reading.{NextAdmitted, rows_from}
use Rattle.mrp_tables.proofs.Gathering.{adds, adds_done, begun, refuses, stops, ends}
use Rattle.mrp_tables.proofs.reading.gather.Goals as goal

pub returns-in_err-row-clause-rows : goal.returns-in_err-row-clause-rows
returns-in_err-row-clause-rows g c =
    let at = c.args.cursor.now in
    let reads = g.G.TableRows.reads c.args.gathered in
    let rows = g.G.TableRows.rows in
    let limit : c.most_records.result ≡ reads.limit (rows c.loop-gathered.gathered) = rw c.loop-gathered.invariant.same at c.most_records.ensures in
    let p = err_from_is_err_and c.from_residual.result c.from_residual.ensures.1 in
    rw (p.1, p.2) (stops reads at.layout (rows c.args.gathered) at.number at.left (rows c.loop-gathered.gathered) c.loop-gathered.cursor c.next_record.new.cursor
    (rows_from reads at.layout (rows c.args.gathered) at.number at.left) c.in_err-row.field-0.0 c.loop-gathered.invariant.left c.loop-gathered.invariant.done (rw limit at c.in_err-row.ensures.next))

pub returns-in_err-add-clause-rows : goal.returns-in_err-add-clause-rows
returns-in_err-add-clause-rows g c =
    let at = c.args.cursor.now in
    let reads = g.G.TableRows.reads c.args.gathered in
    let rows = g.G.TableRows.rows in
    let limit : c.most_records.result ≡ reads.limit (rows c.loop-gathered.gathered) = rw c.loop-gathered.invariant.same at c.most_records.ensures in
    let p = err_from_is_err_and c.from_residual-in_err-add.result c.from_residual-in_err-add.ensures.1 in
    let next = rw (c.in-Some.is, limit) at c.in_ok-row.ensures.next in
    let added = rw c.loop-gathered.invariant.same at c.in_err-add.ensures.added in
    rw (p.1, p.2) (refuses reads at.layout (rows c.args.gathered) at.number at.left (rows c.loop-gathered.gathered) (rows c.add.new.self) c.loop-gathered.cursor c.next_record.new.cursor c.in-Some.row
    (rows_from reads at.layout (rows c.args.gathered) at.number at.left) c.in_err-add.field-0.0 c.loop-gathered.invariant.left c.loop-gathered.invariant.done next added)

pub loop-gathered-preserved : goal.loop-gathered-preserved
loop-gathered-preserved g c =
    let at = c.args.cursor.now in
    let reads = g.G.TableRows.reads c.args.gathered in
    let rows = g.G.TableRows.rows in
    let limit : c.most_records.result ≡ reads.limit (rows c.loop-gathered.gathered) = rw c.loop-gathered.invariant.same at c.most_records.ensures in
    let found = rw (c.in-Some.is, limit) at c.in_ok-row.ensures.next in
    let next = subst (λ now. NextAdmitted (reads.limit (rows c.loop-gathered.gathered)) c.loop-gathered.cursor (Ok (Some c.in-Some.row)) now) (sym c.reuse.ensures) found in
    let added = rw c.loop-gathered.invariant.same at c.in_ok-add.ensures.added in
    record {
      same = c.in_ok-add.ensures.same ∙ c.loop-gathered.invariant.same;
      beside = c.in_ok-add.ensures.beside ∙ c.loop-gathered.invariant.beside;
      left = adds reads at.layout (rows c.loop-gathered.gathered) (rows c.add.new.self) c.loop-gathered.cursor c.reuse.new.self c.in-Some.row
          (rows_from reads at.layout (rows c.args.gathered) at.number at.left) tt c.loop-gathered.invariant.left next added;
      done = adds_done reads at.layout (rows c.args.gathered) at.number at.left (rows c.loop-gathered.gathered) (rows c.add.new.self) c.loop-gathered.cursor c.reuse.new.self c.in-Some.row tt
          c.loop-gathered.invariant.left.layout c.loop-gathered.invariant.done next added;
      takes = c.loop-gathered.invariant.takes;
    }

pub returns-clause-rows : goal.returns-clause-rows
returns-clause-rows g c =
    let at = c.args.cursor.now in
    let reads = g.G.TableRows.reads c.args.gathered in
    let rows = g.G.TableRows.rows in
    let next = rw c.in_default.is at c.in_ok-row.ensures.next in
    ends reads at.layout (rows c.loop-gathered.gathered) c.loop-gathered.cursor c.next_record.new.cursor
    (rows_from reads at.layout (rows c.args.gathered) at.number at.left) c.loop-gathered.invariant.left next

pub loop-gathered-init : goal.loop-gathered-init
loop-gathered-init g c = record {
  same = refl;
  beside = refl;
  left = record { left = refl; layout = refl };
  done = begun (g.G.TableRows.reads c.args.gathered) c.args.cursor.now.layout (g.G.TableRows.rows c.args.gathered) c.args.cursor.now;
  takes = c.requires;
}
