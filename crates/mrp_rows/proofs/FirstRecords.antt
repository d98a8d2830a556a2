-- What the first record of a text is to a cursor: one of another count of cells, and a header.
use Rattle.std.proofs.Common.{◌≡◌, ◌≢◌, ◌⊎◌, ◌∙◌, ℕ, Bool, true, false, nat_eq, List, [], ◌∷◌, length, Option, Some, None, Result, Ok, Err, suc, refl, sym, ap, inl, inr}
use Rattle.std.specs.Prelude.{◌==◌, ◌&&◌, if◌then◌else◌}
use Rattle.std.specs.Cmp.Lexicographic.{pointwise}
use Rattle.csv.specs.declared.parser.State.TheVariants as st
use Rattle.mrp_rows.specs.declared.fault.Fault.{Fault}
use Rattle.mrp_rows.specs.declared.faults.TheConstants as faults
use Rattle.mrp_rows.specs.Bundle.{without_mark}
use Rattle.mrp_rows.specs.Columns.{Layout, width}
use Rattle.mrp_rows.specs.Cutting.{BeginsWith}
use Rattle.mrp_rows.specs.Left.{Cells, Left}
use Rattle.mrp_rows.specs.Next.{IsMisshapen, LacksMemory, NextIs, after_header, columns_fault, header_fault, headed, is_header, memory_fault, next_number, opened}
use Rattle.mrp_rows.specs.Records.{records_in, records_of}
use Rattle.mrp_rows.proofs.CellCuts.{same-mark}

-- lists of other lengths do not match
other-lengths : {A B : Type 0} (same : A → B → Bool) (xs : List A) (ys : List B) → length xs ≢ length ys → pointwise same xs ys ≡ false
other-lengths same [] [] other = absurd (other refl)
other-lengths same [] (y ∷ ys) other = refl
other-lengths same (x ∷ xs) [] other = refl
other-lengths same (x ∷ xs) (y ∷ ys) other = by (same x y) (other-lengths same xs ys (λ e. other (ap suc e)))
  where
    by : (b : Bool) → pointwise same xs ys ≡ false → (b && pointwise same xs ys) ≡ false
    by true e = e
    by false e = refl

-- a text with nothing read of it
abbrev pub at_front : Layout → List ℕ → Left
at_front own text = record { layout = own; number = 0; left = records_in st.StartRecord [] [] text; is_over = false }

pub records-front : (text front : List ℕ) → front ≡ without_mark text → records_of text ≡ records_in st.StartRecord [] [] front
records-front text front is = ap (λ (xs : List ℕ). records_in st.StartRecord [] [] xs) (sym (is ∙ same-mark text))

pub first-refused : (own : Layout) (text front : List ℕ) (fault told : Fault) (new : Left) → front ≡ without_mark text → NextIs (at_front own front) (Err fault) new
    → told ≡ (if fault.code == faults.COLUMNS then header_fault fault.table else fault) → (told ≡ memory_fault own.table 0) ⊎ (opened own text ≡ Err told)
first-refused own text front fault told new marked h is = by h.why
  where
    by : (LacksMemory (at_front own front) fault new ⊎ IsMisshapen (at_front own front) fault new) → (told ≡ memory_fault own.table 0) ⊎ (opened own text ≡ Err told)
    by (inl memory) = inl (is ∙ rw memory.fault refl)
    by (inr misshapen) =
        let other : is_header own misshapen.cells ≡ false = other-lengths (pointwise nat_eq) misshapen.cells own.columns misshapen.wide in
        let told_so : told ≡ header_fault own.table = is ∙ rw misshapen.fault refl in
        inr (rw told_so (ap (after_header own) (records-front text front marked ∙ misshapen.taken) ∙ rw other refl))

pub opens : (own : Layout) (text front : List ℕ) (first : Option Cells) (new : Left) → front ≡ without_mark text → NextIs (at_front own front) (Ok first) new → headed own first ≡ Ok tt → opened own text ≡ Ok new
opens own text front None new marked h is = absurd cc
opens own text front (Some r) new marked h is = ap (after_header own) (records-front text front marked ∙ h.first.taken) ∙ by (is_header own r.cells) refl is
  where
    shown : record { layout = own; number = 1; left = new.left; is_over = false } ≡ new
    shown = rw (← h.first.same, ← h.first.after, ← h.first.is_open) refl

    by : (b : Bool) → is_header own r.cells ≡ b → headed own (Some r) ≡ Ok tt → after_header own (r.cells ∷ new.left) ≡ Ok new
    by true e so = rw e (ap (λ (l : Left). Ok l) shown)
    by false e so = absurd (let f = rw e at so in cc)

pub opens-not : (own : Layout) (text front : List ℕ) (first : Option Cells) (fault : Fault) (new : Left) → front ≡ without_mark text → NextIs (at_front own front) (Ok first) new → headed own first ≡ Err fault → opened own text ≡ Err fault
opens-not own text front None fault new marked h is =
    let so : fault ≡ header_fault own.table = cc in
    rw so (ap (after_header own) (records-front text front marked ∙ h.none))
opens-not own text front (Some r) fault new marked h is = ap (after_header own) (records-front text front marked ∙ h.first.taken) ∙ by (is_header own r.cells) refl is
  where
    by : (b : Bool) → is_header own r.cells ≡ b → headed own (Some r) ≡ Err fault → after_header own (r.cells ∷ new.left) ≡ Err fault
    by true e so = absurd (let f = rw e at so in cc)
    by false e so =
        let f = rw e at so in
        let same : fault ≡ header_fault own.table = cc f in
        rw (e, same) refl

-- a record of another count of cells than a table has columns
pub other-count : (own : Layout) (number moved : ℕ) (text : List ℕ) (most count : ℕ) (kept : List (List ℕ)) (others : Bool) (rest : List ℕ) (old new : Left) (outcome : Result (Option Cells) Fault)
    → BeginsWith st.StartRecord text most kept count others rest → most ≡ width own → count ≢ most
    → record { layout = own; number = number; left = records_in st.StartRecord [] [] text; is_over = false } ≡ old
    → outcome ≡ Err (columns_fault own.table number) → new ≡ record { layout = own; number = moved; left = []; is_over = true }
    → moved ≡ next_number number
    → NextIs old outcome new
other-count own number moved text most count kept others rest old new outcome h wide other before is after moves =
    rw (is, ← before, after) (record {
      why = inr (record {
        cells = h.cells;
        rest = records_in st.StartRecord [] [] rest;
        taken = h.records;
        wide = λ e. other (h.count ∙ e ∙ sym wide);
        fault = refl;
        number = moves;
      });
      same = refl;
      was_open = refl;
      over = record { none = refl; over = refl };
    })
