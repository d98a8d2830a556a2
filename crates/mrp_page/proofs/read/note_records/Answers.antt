use Rattle.std.proofs.Common.{◌≡◌, ◌∙◌, Bool, true, false, not, refl, ap, arith, rules}
use Rattle.std.specs.Option.{option_map}
use Rattle.csv.specs.Records.{fields_of}
use Rattle.csv.specs.Reading.{strip_bom}
use Rattle.mrp_page.proofs.Records.{read-all, read-more, read-none, read-wrong}
use Rattle.mrp_page.proofs.read.note_records.Goals as goal

is-true : (b : Bool) → not b ≡ false → b ≡ true
is-true true e = refl
is-true false e = absurd cc

is-false : (b : Bool) → not b ≡ true → b ≡ false
is-false true e = absurd cc
is-false false e = refl

pub loop-init : goal.loop-init
loop-init g c = record {
  reading = search rules;
  so_far = λ text known. read-none g.R.Read.remaining text c.args.items.now c.args.asked c.from_reader-reader.result c.args.notes.now
      c.from_reader-reader.ensures.state (c.from_reader-reader.ensures.source ∙ ap (option_map strip_bom) known);
  right = λ right. right;
}

pub loop-preserved : goal.loop-preserved
loop-preserved g c =
    let found : c.in_ok-read_cells.field-0 ≡ true = first_of (search (c.if-not-branch.false), search (is-true, c.if-not-branch.false), grind (arith, c.if-not-branch.false)) in
    let read = rw found at c.in_ok-read_cells.ensures.reads in
    record {
      reading = c.in_ok-read_cells.ensures.reading;
      so_far = λ text known. read-more g.R.Read.remaining text c.args.items.now c.args.asked c.loop.reader c.read_cells.new.reader c.args.notes.now c.loop.notes c.note_record.new.notes (fields_of c.read_cells.new.cells)
          c.loop.invariant.reading (c.loop.invariant.so_far text known) read c.in_ok-note_record.ensures.noted;
      right = λ _. c.in_ok-note_record.ensures.right;
    }

pub returns-then-not-branch-clause-noted : goal.returns-then-not-branch-clause-noted
returns-then-not-branch-clause-noted g c text known =
    let found : c.in_ok-read_cells.field-0 ≡ false = first_of (search (c.if-not-branch.true), search (is-false, c.if-not-branch.true), grind (arith, c.if-not-branch.true)) in
    let read = rw found at c.in_ok-read_cells.ensures.reads in
    read-all g.R.Read.remaining text c.args.items.now c.args.asked c.loop.reader c.read_cells.new.reader c.args.notes.now c.loop.notes (fields_of c.read_cells.new.cells)
    c.loop.invariant.reading (c.loop.invariant.so_far text known) read

pub returns-in_err-note_record-clause-wrong : goal.returns-in_err-note_record-clause-wrong
returns-in_err-note_record-clause-wrong g c shape text known =
    let found : c.in_ok-read_cells.field-0 ≡ true = first_of (search (c.if-not-branch.false), search (is-true, c.if-not-branch.false), grind (arith, c.if-not-branch.false)) in
    let read = rw found at c.in_ok-read_cells.ensures.reads in
    read-wrong g.R.Read.remaining text c.args.items.now c.args.asked c.loop.reader c.read_cells.new.reader c.args.notes.now c.loop.notes (fields_of c.read_cells.new.cells)
    c.loop.invariant.reading (c.loop.invariant.so_far text known) read (c.in_err-note_record.ensures.wrong (search rules))
