use Rattle.mrp_carry.proofs.NextPeriods.{Facts, begins-again, tables-read}
use Rattle.mrp_carry.proofs.laws.next_periods.Goals as goal

pub returns : goal.returns
returns c = λ old new start bookings text more bundle h stand is accepted (texts, are, script) answers.
    let facts : Facts = record { csv = c.records_are_csv.ensures.all; numbers = c.numbers_in_cells.ensures.decimal_text; texts = c.accepted_tables_are_of_their_texts.ensures } in
    begins-again facts old new start bookings text more texts h stand is (tables-read bundle texts new are accepted) script answers
