-- What is held of a line that was copied.
use Rattle.std.proofs.Common.{◌≡◌, ◌∙◌, ℕ, true, All, List, Option, Some, None, Result, Ok, Err, IfOk, ap, arith, drop, length, length-take-le, map, refl, subst, sym, take}
use Rattle.std.proofs.lemmas.List.{length-map}
use Rattle.csv.specs.declared.parser.State.TheVariants as st
use Rattle.mrp_qty.specs.declared.memory.NoMemory.{NoMemory}
use Rattle.mrp_rows.specs.CellTexts.{AreHeld, Held, IsWithin, Place, bytes_at}
use Rattle.mrp_rows.specs.Cutting.{BeginsWith}
use Rattle.mrp_rows.specs.PlainLines.{AreCopied, IsTaken}
use Rattle.mrp_rows.proofs.HeldCells.{all-front, none-within}

abbrev held_of : List ℕ → List Place → Held
held_of bytes places = record { cells = map (bytes_at bytes) places; begun = drop (length bytes) bytes }

pub copied-taken : (text : List ℕ) (most : ℕ) (bytes : List ℕ) (places : List Place) (taken : Result (Option ℕ) NoMemory) → AreCopied text most bytes places taken
    → IfOk taken (IsTaken text most (held_of bytes places))
copied-taken text most bytes places (Ok (Some len)) (is, h) =
    let long : length (take len text) ≡ len = length-take-le len text h.within in
    let same : map (bytes_at text) places ≡ map (bytes_at bytes) places = sym (all-front text len places long h.inside) ∙ ap (λ b. map (bytes_at b) places) (sym is) in
    let begins : BeginsWith st.StartField text most (map (bytes_at text) places) (length (map (bytes_at text) places)) true (drop len text) =
    subst (λ n. BeginsWith st.StartField text most (map (bytes_at text) places) n true (drop len text)) (sym (length-map places (bytes_at text))) h.begins in
    (h.within, subst (λ cells. BeginsWith st.StartField text most cells (length cells) true (drop len text)) same begins)
copied-taken text most bytes places (Ok None) (is, none) = rw (is, none) refl
copied-taken text most bytes places (Err refused) h = tt

pub copied-held : (text : List ℕ) (most : ℕ) (bytes : List ℕ) (places : List Place) (taken : Result (Option ℕ) NoMemory) → AreCopied text most bytes places taken → AreHeld bytes places (length bytes)
copied-held text most bytes places (Ok (Some len)) (is, h) =
    let long : length bytes ≡ len = ap length is ∙ length-take-le len text h.within in
    record { within = subst (λ n. All (IsWithin n) places) (sym long) h.inside; start = omega arith }
copied-held text most bytes places (Ok None) (is, none) = record { within = rw none (none-within (length bytes)); start = omega arith }
copied-held text most bytes places (Err refused) (is, none) = record { within = rw none (none-within (length bytes)); start = omega arith }
