use Rattle.std.proofs.Common.{◌≡◌, ◌≢◌, ◌∙◌, ℕ, true, false, List, [], ◌∷◌, length, ap, sym, refl}
use Rattle.std.specs.Prelude.{◌==◌}
use Rattle.std.proofs.lemmas.Bool.{eqb-true, false≢true, eq-eqb}
use Rattle.std.proofs.lemmas.List.{nil_from_length}
use Rattle.mrp_rows.specs.Bundle.{without_line_ends}
use Rattle.mrp_journal.specs.Table.{body_of, header_for, header_unless, journal_records, script_header}
use Rattle.mrp_journal.proofs.RecordsBehind.{none-left, some-left}
use Rattle.mrp_journal.proofs.table.header_for.Goals as goal

-- nothing but line ends is there
none-there : (kept front rest : List ℕ) → front ≡ body_of kept → rest ≡ without_line_ends front → (length rest == 0) ≡ true → script_header ≡ header_for kept
none-there kept front rest is left empty =
    let none : rest ≡ [] = nil_from_length rest (eqb-true (length rest) 0 empty) in
    sym (ap header_unless (none-left (body_of kept) (ap without_line_ends (sym is) ∙ sym left ∙ none)))

some-unless : (records : List (List (List ℕ))) → records ≢ [] → header_unless records ≡ []
some-unless [] some = absurd (some refl)
some-unless (header ∷ records) some = refl

some-there : (kept front rest : List ℕ) → front ≡ body_of kept → rest ≡ without_line_ends front → (length rest == 0) ≡ false → [] ≡ header_for kept
some-there kept front rest is left full =
    let some : without_line_ends (body_of kept) ≢ [] = λ none. false≢true (sym full ∙ eq-eqb (length rest) 0 (ap (length {A = ℕ}) (left ∙ ap without_line_ends is ∙ none))) in
    sym (some-unless (journal_records kept) (some-left (body_of kept) some))

pub returns-then-is_empty : goal.returns-then-is_empty
returns-then-is_empty c = none-there c.args.kept.now c.body_of.result.now c.after_line_ends.result.now c.body_of.ensures c.after_line_ends.ensures (sym c.is_empty.ensures ∙ c.if-is_empty.true)

pub returns-else-is_empty : goal.returns-else-is_empty
returns-else-is_empty c = some-there c.args.kept.now c.body_of.result.now c.after_line_ends.result.now c.body_of.ensures c.after_line_ends.ensures (sym c.is_empty.ensures ∙ c.if-is_empty.false)
