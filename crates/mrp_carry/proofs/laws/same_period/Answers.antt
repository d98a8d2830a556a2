use Rattle.std.proofs.Common.{List, ℕ, ap, subst}
use Rattle.mrp_tables.specs.Facts.{AllDiffer}
use Rattle.mrp_tables.specs.Items.{names_of}
use Rattle.mrp_tables.specs.Tables.{Tables}
use Rattle.mrp_carry.proofs.NextPeriods.{Facts, same-booked, same-text, tables-read}
use Rattle.mrp_carry.proofs.laws.same_period.Goals as goal

pub returns-clause-booked : goal.returns-clause-booked
returns-clause-booked c = λ old new start bookings text bundle h stand is accepted (texts, are, script) one answers.
    let facts : Facts = record { csv = c.records_are_csv.ensures.all; numbers = c.numbers_in_cells.ensures.decimal_text; texts = c.accepted_tables_are_of_their_texts.ensures } in
    let read = tables-read bundle texts new are accepted in
    let differ = subst (λ (names : List (List ℕ)). AllDiffer names) (ap (λ (x : Tables). names_of x.items) one) (c.accepted_tables_keep_their_limits.ensures texts new read).names in
    same-booked facts old new start bookings text texts h differ stand is read script one answers

pub returns-clause-again : goal.returns-clause-again
returns-clause-again c = λ old new start bookings again text text_again bundle stand is accepted (texts, are, script) one stand_again is_again.
    let facts : Facts = record { csv = c.records_are_csv.ensures.all; numbers = c.numbers_in_cells.ensures.decimal_text; texts = c.accepted_tables_are_of_their_texts.ensures } in
    let read = tables-read bundle texts new are accepted in
    let differ = subst (λ (names : List (List ℕ)). AllDiffer names) (ap (λ (x : Tables). names_of x.items) one) (c.accepted_tables_keep_their_limits.ensures texts new read).names in
    same-text facts old new start bookings again text text_again texts differ stand is read script one stand_again is_again
