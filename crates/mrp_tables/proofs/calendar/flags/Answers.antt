use Rattle.std.proofs.Common.{◌≡◌, ◌∙◌, ◌==◌, ◌||◌, length, arith, sym, refl, true}
use Rattle.std.specs.List.{list_all}
use Rattle.std.proofs.lemmas.Bool.{eq-eqb}
use Rattle.mrp_tables.proofs.SevenFlags.{flags-seven}
use Rattle.mrp_tables.proofs.calendar.flags.Goals as goal

pub returns-in-len7 : goal.returns-in-len7
returns-in-len7 c =
    let cell = c.args.cell.now in
    let seven : length cell ≡ 7 = omega arith in
    let bytes : list_all (λ byte. (byte == 48) || (byte == 49)) cell ≡ true = sym c.are_flag_bytes.ensures ∙ c.if-not-are_flag_bytes.false in
    rw (eq-eqb _ _ seven, bytes, flags-seven cell seven) refl
