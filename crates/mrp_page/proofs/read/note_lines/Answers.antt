use Rattle.std.proofs.Common.{◌≡◌, ◌∙◌, ◌++◌, ap, false, refl, rules, subst, sym, take, true, List, ℕ, Some, OnOk, Result, Ok, Err}
use Rattle.std.specs.Fmt.{option_append}
use Rattle.mrp_lines.specs.Left.{ahead_of, left_of}
use Rattle.mrp_lines.specs.Lines.{cells_of}
use Rattle.mrp_page.specs.Notes.{noted, noted_from}
use Rattle.mrp_page.specs.Reading.{HasRecords}
use Rattle.mrp_page.specs.Spot.{is_wrong, place_after}
use Rattle.mrp_page.proofs.Records.{lines-more, lines-none, lines-wrong, long-wrong, pieces-more, pieces-wrong, rest-all, rest-wrong}
use Rattle.mrp_page.proofs.read.note_lines.Goals as goal
use Rattle.mrp_page.proofs.read.note_lines.Goals.{in-Line+in_ok-note_record-in-Line, in-Lines+in_ok-note_records-in-Lines}

on-ok : {T E P Q : Type 0} (r : Result T E) → (P → Q) → OnOk r P → OnOk r Q
on-ok (Ok x) f p = f p
on-ok (Err e) f p = p

pub loop-init : goal.loop-init
loop-init g c = record {
  taken = λ text known. lines-none text c.args.items.now c.args.asked (left_of g.R.Read.remaining c.args.lines.now) _ c.args.notes.now known refl;
  right = c.requires;
}

pub loop-preserved : goal.loop-preserved
loop-preserved g c =
    let items = c.args.items.now in
    let found = left_of g.R.Read.remaining c.find.new.self in
    elim c.match-branch-2.branch [
      | in-Line+in_ok-note_record-in-Line w ↦
          let line = rw w.in-Line.is at c.in_ok-len.ensures.next in
          rw (w.lines-is, w.notes-is) (record {
            taken = λ text known.
                lines-more text items c.args.asked (left_of g.R.Read.remaining c.loop.lines) found c.loop.front.now (ahead_of c.find.new.self) c.args.notes.now c.loop.notes
                (c.loop.invariant.taken text known) c.find.ensures.kept w.in-Line.len w.note_record.new.notes (left_of g.R.Read.remaining w.advance.new.self) line w.advance.ensures.left
                (w.in_ok-note_record-in-Line.ensures.noted ∙ ap (λ (l : List ℕ). noted items c.args.asked c.loop.notes (cells_of l)) w.line-line.ensures);
            right = w.in_ok-note_record-in-Line.ensures.right;
          })
      | in-Lines+in_ok-note_records-in-Lines w ↦
          let are = rw w.in-Lines.is at c.in_ok-len.ensures.next in
          let source = w.chain-piece.ensures.bytes ∙ ap (λ (l : List ℕ). Some (c.loop.front.now ++ l)) w.front.ensures in
          let right = w.in_ok-note_records-in-Lines.ensures.right c.loop.invariant.right in
          rw (w.lines-is, w.notes-is) (record {
            taken = λ text known.
                pieces-more text items c.args.asked (left_of g.R.Read.remaining c.loop.lines) found c.loop.front.now (ahead_of c.find.new.self) c.args.notes.now c.loop.notes
                (c.loop.invariant.taken text known) c.find.ensures.kept w.in-Lines.len w.note_records.new.notes (left_of g.R.Read.remaining w.advance-in-Lines.new.self) are w.advance-in-Lines.ensures.left
                (w.in_ok-note_records-in-Lines.ensures.noted (c.loop.front.now ++ take w.in-Lines.len (ahead_of c.find.new.self)) source) right;
            right = right;
          })
    ]

pub returns-in_err-note_record-in-Line-clause-wrong : goal.returns-in_err-note_record-in-Line-clause-wrong
returns-in_err-note_record-in-Line-clause-wrong g c shape text known =
    let line = rw c.in-Line.is at c.in_ok-len.ensures.next in
    lines-wrong text c.args.items.now c.args.asked (left_of g.R.Read.remaining c.loop.lines) (left_of g.R.Read.remaining c.find.new.self) c.loop.front.now (ahead_of c.find.new.self) c.args.notes.now c.loop.notes
    (c.loop.invariant.taken text known) c.find.ensures.kept (g.R.Read.remaining c.find.new.self.input) refl c.in-Line.len line
    (subst (λ (l : List ℕ). is_wrong (place_after c.loop.notes.spot.place (cells_of l)) ≡ true) c.line-line.ensures (c.in_err-note_record-in-Line.ensures.wrong (search rules)))

pub returns-in_err-note_records-in-Lines-clause-wrong : goal.returns-in_err-note_records-in-Lines-clause-wrong
returns-in_err-note_records-in-Lines-clause-wrong g c shape text known =
    let are = rw c.in-Lines.is at c.in_ok-len.ensures.next in
    let source = c.chain-piece.ensures.bytes ∙ ap (λ (l : List ℕ). Some (c.loop.front.now ++ l)) c.front.ensures in
    pieces-wrong text c.args.items.now c.args.asked (left_of g.R.Read.remaining c.loop.lines) (left_of g.R.Read.remaining c.find.new.self) c.loop.front.now (ahead_of c.find.new.self) c.args.notes.now c.loop.notes
    (c.loop.invariant.taken text known) c.find.ensures.kept (g.R.Read.remaining c.find.new.self.input) refl c.in-Lines.len are
    (c.in_err-note_records-in-Lines.ensures.wrong (search rules) (c.loop.front.now ++ take c.in-Lines.len (ahead_of c.find.new.self)) source)

pub returns-in-Rest-clause-noted : goal.returns-in-Rest-clause-noted
returns-in-Rest-clause-noted g c =
    let rest = rw c.in-Rest.is at c.in_ok-len.ensures.next in
    let source = c.chain-rest.ensures.bytes ∙ ap (λ (l : List ℕ). Some (c.loop.front.now ++ l)) c.front-in-Rest.ensures in
    on-ok c.note_records-in-Rest.result (λ noted text known.
    rest-all text c.args.items.now c.args.asked (left_of g.R.Read.remaining c.loop.lines) (left_of g.R.Read.remaining c.find.new.self) c.loop.front.now (ahead_of c.find.new.self) c.args.notes.now c.loop.notes
    (c.loop.invariant.taken text known) c.find.ensures.kept c.in-Rest.len c.note_records-in-Rest.new.notes (g.R.Read.remaining c.find.new.self.input) refl rest.1 rest.0
    (noted (c.loop.front.now ++ take c.in-Rest.len (ahead_of c.find.new.self)) source)) c.note_records-in-Rest.ensures.noted

pub returns-in-Rest-clause-wrong : goal.returns-in-Rest-clause-wrong
returns-in-Rest-clause-wrong g c shape text known =
    let rest = rw c.in-Rest.is at c.in_ok-len.ensures.next in
    let source = c.chain-rest.ensures.bytes ∙ ap (λ (l : List ℕ). Some (c.loop.front.now ++ l)) c.front-in-Rest.ensures in
    rest-wrong text c.args.items.now c.args.asked (left_of g.R.Read.remaining c.loop.lines) (left_of g.R.Read.remaining c.find.new.self) c.loop.front.now (ahead_of c.find.new.self) c.args.notes.now c.loop.notes
    (c.loop.invariant.taken text known) c.find.ensures.kept (g.R.Read.remaining c.find.new.self.input) refl c.in-Rest.len rest.1 rest.0
    (c.note_records-in-Rest.ensures.wrong shape (c.loop.front.now ++ take c.in-Rest.len (ahead_of c.find.new.self)) source)

pub returns-in-Long-clause-wrong : goal.returns-in-Long-clause-wrong
returns-in-Long-clause-wrong g c shape text known =
    let endless = rw c.in-Long.is at c.in_ok-len.ensures.next in
    long-wrong text c.args.items.now c.args.asked (left_of g.R.Read.remaining c.loop.lines) (left_of g.R.Read.remaining c.find.new.self) c.loop.front.now (ahead_of c.find.new.self) c.args.notes.now c.loop.notes
    (c.loop.invariant.taken text known) c.find.ensures.kept (g.R.Read.remaining c.find.new.self.input) refl endless
