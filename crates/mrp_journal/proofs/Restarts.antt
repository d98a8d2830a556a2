-- A journal that a crash has left, begun again.
use Rattle.std.proofs.Common.{◌≡◌, ◌≢◌, ◌∙◌, ◌≤◌, ℕ, Bool, true, false, List, [], ◌∷◌, ◌++◌, length, take, refl, sym, ap, append-nil}
use Rattle.std.specs.Prelude.{◌==◌, ◌&&◌, if◌then◌else◌, All}
use Rattle.std.specs.List.{concat}
use Rattle.csv.specs.declared.parser.State.TheVariants as st
use Rattle.mrp_rows.specs.Bundle.{ends_line, section_text, without_line_ends, without_mark}
use Rattle.mrp_rows.specs.Records.{records_in}
use Rattle.mrp_journal.specs.Held.{IsFront}
use Rattle.mrp_journal.specs.Journal.{begun}
use Rattle.mrp_journal.specs.Lines.{IsLine, whole_lines}
use Rattle.mrp_journal.specs.Rows.{IsTable}
use Rattle.mrp_journal.specs.Table.{TakesRecords, body_of, header_for, header_unless, journal_records, script_header}
use Rattle.mrp_journal.proofs.Beginnings.{begun-table, some-behind}
use Rattle.mrp_journal.proofs.Bodies.{body-behind, lead-off, lead-on, no-second, no-third, same-mark}
use Rattle.mrp_journal.proofs.RecordsBehind.{records-behind, some-left}
use Rattle.mrp_journal.proofs.WholeLines.{journal-left, whole-append, whole-own}

-- a byte is still in a text, with what is behind it
record Stays (text : List ℕ) (y : ℕ) (ys : List ℕ) : Type 0 where
  front : List ℕ
  is : text ≡ front ++ y ∷ ys

-- one that ends no line, behind line ends that go
lead-stays : (xs : List ℕ) (y : ℕ) (ys : List ℕ) → ends_line y ≡ false → Stays (without_line_ends (xs ++ y ∷ ys)) y ys
lead-stays [] y ys off = record { front = []; is = lead-off y ys off }
lead-stays (x ∷ xs) y ys off = by (ends_line x) refl (lead-stays xs y ys off)
  where
    by : (b : Bool) → ends_line x ≡ b → Stays (without_line_ends (xs ++ y ∷ ys)) y ys → Stays (without_line_ends (x ∷ (xs ++ y ∷ ys))) y ys
    by true is more = record { front = more.front; is = lead-on x (xs ++ y ∷ ys) is ∙ more.is }
    by false is more = record { front = x ∷ xs; is = lead-off x (xs ++ y ∷ ys) is }

-- no byte of a byte order mark
record IsPlain (y : ℕ) : Type 0 where
  first : (y == 239) ≡ false
  second : (y == 187) ≡ false
  third : (y == 191) ≡ false

mark-stays : (xs : List ℕ) (y : ℕ) (ys : List ℕ) → IsPlain y → Stays (without_mark (xs ++ y ∷ ys)) y ys
unfolding without_mark
mark-stays [] y ys plain = record { front = []; is = one ys }
  where
    one : (more : List ℕ) → without_mark (y ∷ more) ≡ y ∷ more
    one [] = refl
    one (a ∷ []) = refl
    one (a ∷ b ∷ rest) = rw plain.first refl
mark-stays (x ∷ []) y ys plain = record { front = x ∷ []; is = two ys }
  where
    two : (more : List ℕ) → without_mark (x ∷ y ∷ more) ≡ x ∷ y ∷ more
    two [] = refl
    two (a ∷ rest) = rw (no-second (x == 239) (y == 187) (a == 191) plain.second) refl
mark-stays (x ∷ z ∷ []) y ys plain = record { front = x ∷ z ∷ []; is = rw (no-third (x == 239) (z == 187) (y == 191) plain.third) refl }
mark-stays (x ∷ z ∷ w ∷ xs) y ys plain = by ((x == 239) && (z == 187) && (w == 191))
  where
    by : (b : Bool) → Stays (if b then xs ++ y ∷ ys else x ∷ z ∷ w ∷ (xs ++ y ∷ ys)) y ys
    by true = record { front = xs; is = refl }
    by false = record { front = x ∷ z ∷ w ∷ xs; is = refl }

-- csv reads it
body-stays : (xs : List ℕ) (y : ℕ) (ys : List ℕ) → ends_line y ≡ false → IsPlain y → Stays (body_of (xs ++ y ∷ ys)) y ys
body-stays xs y ys off plain =
    let lead = lead-stays xs y ys off in
    let once = mark-stays lead.front y ys plain in
    let twice = mark-stays once.front y ys plain in
    record {
      front = twice.front;
      is = same-mark (section_text (xs ++ y ∷ ys)) ∙ ap (λ (text : List ℕ). without_mark (without_mark text)) lead.is ∙ ap without_mark once.is ∙ twice.is;
    }

-- so there is a record
some-record : (xs : List ℕ) (y : ℕ) (ys : List ℕ) → ends_line y ≡ false → IsPlain y → journal_records (xs ++ y ∷ ys) ≢ []
some-record xs y ys off plain =
    let stays = body-stays xs y ys off plain in
    some-left (body_of (xs ++ y ∷ ys)) (λ none. some-behind stays.front y ys off (ap without_line_ends (sym stays.is) ∙ none))

-- a journal that has begun has its header
has-header : (bytes : List ℕ) → journal_records (begun bytes (header_for (whole_lines bytes))) ≢ []
has-header bytes = by (journal_records (whole_lines bytes)) refl
  where
    by : (records : List (List (List ℕ))) → journal_records (whole_lines bytes) ≡ records → journal_records (begun bytes (header_for (whole_lines bytes))) ≢ []
    by [] is = λ none.
        let head : header_for (whole_lines bytes) ≡ script_header = ap header_unless is in
        some-record (whole_lines bytes) _ _ refl (record { first = refl; second = refl; third = refl }) (ap (λ (h : List ℕ). journal_records (whole_lines bytes ++ h)) (sym head) ∙ none)
    by (r ∷ rs) is = λ none.
        let head : header_for (whole_lines bytes) ≡ [] = ap header_unless is in
        let same : begun bytes (header_for (whole_lines bytes)) ≡ whole_lines bytes = ap (λ (h : List ℕ). whole_lines bytes ++ h) head ∙ append-nil (whole_lines bytes) in
        let f : r ∷ rs ≡ [] = sym is ∙ ap journal_records (sym same) ∙ none in cc

-- so none is appended behind what follows it
no-header : (journal m : List ℕ) → IsTable journal → journal_records journal ≢ [] → header_for (journal ++ m) ≡ []
no-header journal m h some =
    ap header_unless (ap (records_in st.StartRecord [] []) (body-behind journal m h.ended h.some) ∙ records-behind (body_of journal) st.StartRecord [] [] m tt (refl, refl) h.takes.between)
    ∙ by (journal_records journal) (records_in st.StartRecord [] [] m) some
  where
    by : (records more : List (List (List ℕ))) → records ≢ [] → header_unless (records ++ more) ≡ []
    by [] more none = absurd (none refl)
    by (r ∷ rs) more none = refl

header-whole : (records : List (List (List ℕ))) → whole_lines (header_unless records) ≡ header_unless records
unfolding whole_lines
header-whole [] = refl
header-whole (r ∷ rs) = refl

-- it has whole lines alone
begun-whole : (bytes : List ℕ) → whole_lines (begun bytes (header_for (whole_lines bytes))) ≡ begun bytes (header_for (whole_lines bytes))
begun-whole bytes =
    whole-append (whole_lines bytes) (header_for (whole_lines bytes)) (whole-own bytes) ∙ ap (λ (h : List ℕ). whole_lines bytes ++ h) (header-whole (journal_records (whole_lines bytes)))

-- what a crash leaves of it and of records behind it is begun as the journal with the first of the records
pub begun-again : (bytes left : List ℕ) (records : List (List ℕ)) → TakesRecords (begun bytes (header_for (whole_lines bytes))) → All IsLine records
    → IsFront (begun bytes (header_for (whole_lines bytes))) left → IsFront left (begun bytes (header_for (whole_lines bytes)) ++ concat records)
    → (count : ℕ) × (count ≤ length records) × (begun left (header_for (whole_lines left)) ≡ begun bytes (header_for (whole_lines bytes)) ++ concat (take count records))
begun-again bytes left records takes all f g =
    let journal = begun bytes (header_for (whole_lines bytes)) in
    let first : (count : ℕ) × (count ≤ length records) × (whole_lines left ≡ journal ++ concat (take count records)) = journal-left journal left records (begun-whole bytes) all f g in
    let none : header_for (whole_lines left) ≡ [] = ap header_for first.2 ∙ no-header journal (concat (take first.0 records)) (begun-table bytes takes) (has-header bytes) in
    (first.0, first.1, ap (λ (h : List ℕ). whole_lines left ++ h) none ∙ append-nil (whole_lines left) ∙ first.2)
