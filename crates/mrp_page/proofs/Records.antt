-- How what is kept follows the records that are read.
use Rattle.std.proofs.Common.{◌≡◌, ◌∙◌, ◌⊎◌, ◌+◌, ℕ, true, false, List, [], ◌∷◌, ◌++◌, Option, Some, None, inl, inr, length, drop, take, refl, sym, ap, subst, arith}
use Rattle.std.specs.Prelude.{◌==◌}
use Rattle.std.specs.Io.KnownBytes.{Consumes, IsAtEnd, Keeps, prepend_known}
use Rattle.std.proofs.lemmas.Bool.{and_parts, and_right, both_ways, false_from_ne_true}
use Rattle.std.proofs.lemmas.List.{append-nil, take_all}
use Rattle.csv.specs.Reading.{Reached, ReadRecord, default_config, reader_state, source_of, strip_bom}
use Rattle.csv.specs.declared.parser.State.TheVariants as st
use Rattle.csv.specs.declared.reader.Reader.{Reader}
use Rattle.csv.proofs.ReadFacts.{rows-end, rows-more}
use Rattle.mrp_day.specs.declared.section.Section.{Section}
use Rattle.mrp_day.specs.declared.section.Section.TheVariants as s
use Rattle.mrp_day.specs.Sections.{columns_of, line_of}
use Rattle.mrp_lines.specs.Lines.{AreLinesAt, IsEndless, IsLineAt, cells_of, is_line}
use Rattle.mrp_lines.specs.Taken.{AreRecordsOf, BeginsWith, HasBroken, IsTaken}
use Rattle.mrp_lines.proofs.Sizes.{not-line, too-long}
use Rattle.mrp_lines.proofs.Windows.{takes-front}
use Rattle.mrp_lines.proofs.TakenLines.{consumed-is, kept-is, line-taken, lines-begin, lines-end, lines-taken, long-taken, taken-all, taken-begins, taken-first, taken-more, taken-none}
use Rattle.mrp_page.specs.Notes.{Noted, none_noted, noted, noted_from, notes_of}
use Rattle.mrp_page.specs.Reading.{HasRead, HasRecords, HasTaken, HasWrongRecord, IsReading}
use Rattle.mrp_page.specs.Row.{Cells}
use Rattle.mrp_page.specs.Section.{next_of}
use Rattle.mrp_page.specs.Spot.{Names, begun, inside, is_wrong, place_after, place_from, place_of, same_cells}
use Rattle.mrp_page.specs.declared.spot.Place.{Place}
use Rattle.mrp_page.specs.declared.spot.Place.TheVariants as place
use Rattle.mrp_page.proofs.NamesOnce.{text-same}
use Rattle.mrp_page.proofs.SectionRows.{place-append, place-more, wrong-stays}

-- with one more record
pub noted-more : (items : Names) (asked : Option ℕ) (before : Noted) (records : List Cells) (cells : Cells) → noted_from items asked before (records ++ (cells ∷ [])) ≡ noted items asked (noted_from items asked before records) cells
unfolding noted_from
noted-more items asked before [] cells = refl
noted-more items asked before (r ∷ records) cells = noted-more items asked (noted items asked before r) records cells

-- what is kept stands at the place of the last record
pub noted-place : (items : Names) (asked : Option ℕ) (before : Noted) (records : List Cells) → (noted_from items asked before records).spot.place ≡ place_from before.spot.place records
unfolding noted_from place_from
noted-place items asked before [] = refl
noted-place items asked before (r ∷ records) = noted-place items asked (noted items asked before r) records

-- nothing was read
pub read-none : {R : Type 0} (remaining : R → Option (List ℕ)) (text : List ℕ) (items : Names) (asked : Option ℕ) (reader : Reader R) (before : Noted)
    → reader_state reader ≡ st.StartRecord → source_of remaining reader ≡ Some (strip_bom text) → HasRead remaining text items asked reader before before
unfolding Reached noted_from
read-none remaining text items asked reader before state source = record {
  records = [];
  rest = strip_bom text;
  reached = (sym state, refl);
  source = source;
  noted = refl;
}

-- one more record was read
pub read-more : {R : Type 0} (remaining : R → Option (List ℕ)) (text : List ℕ) (items : Names) (asked : Option ℕ) (a b : Reader R) (before notes after : Noted) (cells : Cells)
    → IsReading a → HasRead remaining text items asked a before notes → ReadRecord remaining a b true cells → after ≡ noted items asked notes cells → HasRead remaining text items asked b before after
read-more remaining text items asked a b before notes after cells reading so_far read is =
    let (rest, source, reached) = rows-more remaining a b cells default_config st.StartRecord (strip_bom text) so_far.rest so_far.records reading.config so_far.source so_far.reached read in
    record {
      records = so_far.records ++ (cells ∷ []);
      rest = rest;
      reached = reached;
      source = source;
      noted = is ∙ ap (λ (n : Noted). noted items asked n cells) so_far.noted ∙ sym (noted-more items asked before so_far.records cells);
    }

-- all records were read
pub read-all : {R : Type 0} (remaining : R → Option (List ℕ)) (text : List ℕ) (items : Names) (asked : Option ℕ) (a b : Reader R) (before notes : Noted) (cells : Cells)
    → IsReading a → HasRead remaining text items asked a before notes → ReadRecord remaining a b false cells → HasRecords text (λ records. notes ≡ noted_from items asked before records)
read-all remaining text items asked a b before notes cells reading so_far read = (
  so_far.records,
  (reader_state a, so_far.rest, so_far.reached, rows-end remaining a b cells default_config so_far.rest reading.config so_far.source read),
  so_far.noted,
)

-- a record that stands in no day after these
wrong-place : (items : Names) (asked : Option ℕ) (before notes : Noted) (records : List Cells) (cells : Cells) → notes ≡ noted_from items asked before records → is_wrong (place_after notes.spot.place cells) ≡ true
    → is_wrong (place_from before.spot.place (records ++ (cells ∷ []))) ≡ true
wrong-place items asked before notes records cells noted wrong =
    let here : notes.spot.place ≡ place_from before.spot.place records = ap (λ (n : Noted). n.spot.place) noted ∙ noted-place items asked before records in
    ap is_wrong (place-more before.spot.place records cells ∙ ap (λ (q : Place). place_after q cells) (sym here)) ∙ wrong

-- a record was read that stands in no day
pub read-wrong : {R : Type 0} (remaining : R → Option (List ℕ)) (text : List ℕ) (items : Names) (asked : Option ℕ) (a b : Reader R) (before notes : Noted) (cells : Cells)
    → IsReading a → HasRead remaining text items asked a before notes → ReadRecord remaining a b true cells → is_wrong (place_after notes.spot.place cells) ≡ true → HasWrongRecord before.spot.place text
read-wrong remaining text items asked a b before notes cells reading so_far read wrong =
    let (rest, source, reached) = rows-more remaining a b cells default_config st.StartRecord (strip_bom text) so_far.rest so_far.records reading.config so_far.source so_far.reached read in
    (so_far.records ++ (cells ∷ []), (reader_state b, rest, reached), wrong-place items asked before notes so_far.records cells so_far.noted wrong)

-- what is kept stands at the place of the last of all records
pub kept-place : (items : Names) (asked : Option ℕ) (notes : Noted) (records : List Cells) → notes ≡ notes_of items asked records → notes.spot.place ≡ place_of records
kept-place items asked notes records kept = ap (λ (n : Noted). n.spot.place) kept ∙ noted-place items asked none_noted records

-- the bytes that were read ahead are the rest
rest-is : (ahead left : List ℕ) (len : ℕ) (rest : Option (List ℕ)) → Some left ≡ prepend_known ahead rest → IsAtEnd rest → len ≡ length ahead → take len ahead ≡ left
rest-is ahead left len None e end is = absurd cc
rest-is ahead left len (Some xs) e end is =
    let whole : left ≡ ahead ++ xs = cc in
    take_all len ahead (omega (arith, is)) ∙ sym (whole ∙ ap (λ (t : List ℕ). ahead ++ t) end ∙ append-nil ahead)

-- records, and then more
noted-append : (items : Names) (asked : Option ℕ) (before : Noted) (records more : List Cells) → noted_from items asked before (records ++ more) ≡ noted_from items asked (noted_from items asked before records) more
unfolding noted_from
noted-append items asked before [] more = refl
noted-append items asked before (r ∷ records) more = noted-append items asked (noted items asked before r) records more

-- cells of other lines than these stand nowhere in a day
cells-same : (a b : Cells) → same_cells a b ≡ true → a ≡ b
cells-same [] [] e = refl
cells-same [] (y ∷ ys) e = absurd cc
cells-same (x ∷ xs) [] e = absurd cc
cells-same (x ∷ xs) (y ∷ ys) e =
    let both = and_parts _ _ e in
    ap (λ (t : List ℕ). t ∷ xs) (text-same x y both.0) ∙ ap (λ (t : Cells). y ∷ t) (cells-same xs ys both.1)

line-of : (x : Section) → is_line (line_of x ∷ []) ≡ true
line-of s.History = refl
line-of s.Run = refl
line-of s.Promises = refl
line-of s.Plan = refl
line-of s.Orders = refl
line-of s.Pegs = refl
line-of s.Messages = refl
line-of s.Loads = refl

columns-line : (x : Section) → is_line (columns_of x) ≡ true
columns-line s.History = refl
columns-line s.Run = refl
columns-line s.Promises = refl
columns-line s.Plan = refl
columns-line s.Orders = refl
columns-line s.Pegs = refl
columns-line s.Messages = refl
columns-line s.Loads = refl

other-cells : (cells known : Cells) → is_line known ≡ true → is_line cells ≡ false → same_cells cells known ≡ false
other-cells cells known is not_line = false_from_ne_true _ (λ same. both_ways (is_line cells) not_line (ap is_line (cells-same cells known same) ∙ is))

begun-wrong : (x : Section) (cells : Cells) → is_line cells ≡ false → is_wrong (begun x cells) ≡ true
begun-wrong x cells not_line = rw (other-cells cells (line_of x ∷ []) (line-of x) not_line) refl

inside-wrong : (x : Section) (cells : Cells) → is_line cells ≡ false → is_wrong (inside x cells) ≡ true
inside-wrong x cells not_line = rw (and_right (length cells == length (columns_of x)) (is_line cells) not_line) (begun-wrong (next_of x) cells not_line)

pub not-line-wrong : (here : Place) (cells : Cells) → is_line cells ≡ false → is_wrong (place_after here cells) ≡ true
not-line-wrong place.Front cells not_line = begun-wrong s.History cells not_line
not-line-wrong (place.Line x) cells not_line = rw (other-cells cells (columns_of x) (columns-line x) not_line) refl
not-line-wrong (place.Header x) cells not_line = inside-wrong x cells not_line
not-line-wrong (place.Row x) cells not_line = inside-wrong x cells not_line
not-line-wrong place.Wrong cells not_line = refl

-- nor do others behind them
wrong-from : (here : Place) (rows : List Cells) → is_wrong here ≡ true → is_wrong (place_from here rows) ≡ true
unfolding place_from
wrong-from here [] e = e
wrong-from here (r ∷ rows) e = wrong-from (place_after here r) rows (wrong-stays here r e)

last-wrong : (here : Place) (rows : List Cells) (cells : Cells) → is_line cells ≡ false → is_wrong (place_from here (rows ++ (cells ∷ []))) ≡ true
last-wrong here rows cells not_line = ap is_wrong (place-more here rows cells) ∙ not-line-wrong (place_from here rows) cells not_line

broken-wrong : (here : Place) (rows behind : List Cells) (cells : Cells) → is_line cells ≡ false → is_wrong (place_from here (rows ++ (cells ∷ behind))) ≡ true
unfolding place_from
broken-wrong here rows behind cells not_line =
    ap is_wrong (place-append here rows (cells ∷ behind)) ∙ wrong-from (place_after (place_from here rows) cells) behind (not-line-wrong (place_from here rows) cells not_line)

-- nothing was taken
pub lines-none : (text : List ℕ) (items : Names) (asked : Option ℕ) (left : Option (List ℕ)) (front : List ℕ) (before : Noted) → left ≡ Some text → front ≡ [] → HasTaken text items asked left front before before
unfolding noted_from
lines-none text items asked left front before known bare = record { records = []; rest = text; taken = rw bare (taken-none text); source = known; noted = refl }

module _ (text : List ℕ) (items : Names) (asked : Option ℕ) (left found : Option (List ℕ)) (front ahead : List ℕ) (before notes : Noted) (so_far : HasTaken text items asked left front before notes) (kept : Keeps left found) where
  here : notes.spot.place ≡ place_from before.spot.place so_far.records
  here = ap (λ (n : Noted). n.spot.place) so_far.noted ∙ noted-place items asked before so_far.records

  -- records behind those that were taken
  more-noted : (after : Noted) (more : List Cells) → after ≡ noted_from items asked notes more → after ≡ noted_from items asked before (so_far.records ++ more)
  more-noted after more is = is ∙ ap (λ (n : Noted). noted_from items asked n more) so_far.noted ∙ sym (noted-append items asked before so_far.records more)

  more-wrong : (more : List Cells) → is_wrong (place_from notes.spot.place more) ≡ true → is_wrong (place_from before.spot.place (so_far.records ++ more)) ≡ true
  more-wrong more wrong = ap is_wrong (place-append before.spot.place so_far.records more ∙ ap (λ (q : Place). place_from q more) (sym here)) ∙ wrong

  source : found ≡ Some so_far.rest
  source = kept-is found so_far.rest (rw so_far.source at kept)

  -- one more line was taken
  pub lines-more : (len : ℕ) (after : Noted) (now : Option (List ℕ)) → IsLineAt len ahead → Consumes found now (take (len + 1) ahead) → after ≡ noted items asked notes (cells_of (take len ahead)) → HasTaken text items asked now (10 ∷ []) before after
  lines-more len after now line taken is =
      let (more, known, split) = line-taken left found now ahead so_far.rest len so_far.source kept line taken in
      record {
        records = so_far.records ++ (cells_of (take len ahead) ∷ []);
        rest = more;
        taken = taken-more text so_far.records front (take len ahead) more line.line (subst (IsTaken text so_far.records front) split so_far.taken);
        source = known;
        noted = is ∙ ap (λ (n : Noted). noted items asked n (cells_of (take len ahead))) so_far.noted ∙ sym (noted-more items asked before so_far.records (cells_of (take len ahead)));
      }

  -- csv read lines, which were taken
  pub pieces-more : (len : ℕ) (after : Noted) (now : Option (List ℕ)) → AreLinesAt len ahead → Consumes found now (take len ahead) → HasRecords (front ++ take len ahead) (λ more. after ≡ noted_from items asked notes more) → is_wrong after.spot.place ≡ false
      → HasTaken text items asked now (10 ∷ []) before after
  pieces-more len after now are taken (more, records, is) right =
      let (rest, known, split) = consumed-is now so_far.rest (take len ahead) (rw source at taken) in
      by rest known (lines-taken text so_far.records front (take len ahead) rest (subst (IsTaken text so_far.records front) split so_far.taken) (lines-end ahead len are) more records)
    where
      by : (rest : List ℕ) → now ≡ Some rest → IsTaken text (so_far.records ++ more) (10 ∷ []) rest ⊎ HasBroken text so_far.records more → HasTaken text items asked now (10 ∷ []) before after
      by rest known (inl all) = record { records = so_far.records ++ more; rest = rest; taken = all; source = known; noted = more-noted after more is }
      by rest known (inr one) =
          absurd (both_ways (is_wrong after.spot.place) right
          (ap (λ (n : Noted). is_wrong n.spot.place) is ∙ ap is_wrong (noted-place items asked notes more) ∙ ap (λ (rows : List Cells). is_wrong (place_from notes.spot.place rows)) one.here
          ∙ broken-wrong notes.spot.place one.before one.behind one.broken (not-line one.broken one.breaks)))

  -- csv read the rest
  pub rest-all : (len : ℕ) (after : Noted) (rest : Option (List ℕ)) → found ≡ prepend_known ahead rest → IsAtEnd rest → len ≡ length ahead → HasRecords (front ++ take len ahead) (λ more. after ≡ noted_from items asked notes more)
      → HasRecords text (λ records. after ≡ noted_from items asked before records)
  rest-all len after rest behind end is (more, records, noted) =
      let whole : take len ahead ≡ so_far.rest = rest-is ahead so_far.rest len rest (sym source ∙ behind) end is in (
        so_far.records ++ more,
        taken-all text so_far.records front so_far.rest so_far.taken more (subst (λ (xs : List ℕ). AreRecordsOf (front ++ xs) more) whole records),
        more-noted after more noted,
      )

  -- a record stands in no day: a line, or one that csv read
  module _ (rest : Option (List ℕ)) (behind : found ≡ prepend_known ahead rest) where
    pub lines-wrong : (len : ℕ) → IsLineAt len ahead → is_wrong (place_after notes.spot.place (cells_of (take len ahead))) ≡ true → HasWrongRecord before.spot.place text
    lines-wrong len line wrong =
        let taken = takes-front rest ahead (len + 1) in
        let (more, known, split) = line-taken left found (prepend_known (drop (len + 1) ahead) rest) ahead so_far.rest len so_far.source kept line (rw behind taken) in
        let with-line = taken-more text so_far.records front (take len ahead) more line.line (subst (IsTaken text so_far.records front) split so_far.taken) in
        (so_far.records ++ (cells_of (take len ahead) ∷ []), taken-begins text (so_far.records ++ (cells_of (take len ahead) ∷ [])) (10 ∷ []) more with-line, wrong-place items asked before notes so_far.records (cells_of (take len ahead)) so_far.noted wrong)

    pub pieces-wrong : (len : ℕ) → AreLinesAt len ahead → HasWrongRecord notes.spot.place (front ++ take len ahead) → HasWrongRecord before.spot.place text
    pieces-wrong len are (rows, begins, wrong) =
        let (more, known, split) = consumed-is (prepend_known (drop len ahead) rest) so_far.rest (take len ahead) (subst (λ (o : Option (List ℕ)). Consumes o (prepend_known (drop len ahead) rest) (take len ahead)) (sym behind ∙ source) (takes-front rest ahead len)) in
        by (lines-begin text so_far.records front (take len ahead) more (subst (IsTaken text so_far.records front) split so_far.taken) (lines-end ahead len are) rows begins)
      where
        by : BeginsWith text (so_far.records ++ rows) ⊎ HasBroken text so_far.records rows → HasWrongRecord before.spot.place text
        by (inl all) = (so_far.records ++ rows, all, more-wrong rows wrong)
        by (inr one) =
            (so_far.records ++ (one.before ++ (one.other ∷ [])), one.begins, more-wrong (one.before ++ (one.other ∷ [])) (last-wrong notes.spot.place one.before one.other (not-line one.other one.there)))

    pub rest-wrong : (len : ℕ) → IsAtEnd rest → len ≡ length ahead → HasWrongRecord notes.spot.place (front ++ take len ahead) → HasWrongRecord before.spot.place text
    rest-wrong len end is (rows, begins, wrong) =
        let whole : take len ahead ≡ so_far.rest = rest-is ahead so_far.rest len rest (sym source ∙ behind) end is in
        (so_far.records ++ rows, taken-first text so_far.records front so_far.rest so_far.taken rows (subst (λ (xs : List ℕ). BeginsWith (front ++ xs) rows) whole begins), more-wrong rows wrong)

    -- a line is too long
    pub long-wrong : IsEndless ahead → HasWrongRecord before.spot.place text
    long-wrong endless = by rest (sym source ∙ behind)
      where
        by : (rest : Option (List ℕ)) → Some so_far.rest ≡ prepend_known ahead rest → HasWrongRecord before.spot.place text
        by None e = absurd cc
        by (Some xs) e =
            let split : so_far.rest ≡ ahead ++ xs = cc in
            let one = long-taken text so_far.records front ahead xs (subst (IsTaken text so_far.records front) split so_far.taken) endless in
            (so_far.records ++ (one.row ∷ []), one.begins, more-wrong (one.row ∷ []) (last-wrong notes.spot.place [] one.row (too-long one.row one.long)))
