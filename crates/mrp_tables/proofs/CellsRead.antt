-- What holds of a cell that was read.
use Rattle.std.proofs.Common.{◌≡◌, ◌<◌, ◌≤◌, ◌+◌, ◌*◌, ◌/◌, ℕ, Bool, true, false, List, [], ◌∷◌, Option, Some, None, Result, Ok, Err, ℤ, pos, negsuc, refl, ap, subst, arith, length}
use Rattle.std.specs.Prelude.{IfOk, if◌then◌else◌, nat_eq, nat_le, nat_lt}
use Rattle.std.specs.Char.{is_ascii_digit}
use Rattle.std.specs.Int.{IsInRange}
use Rattle.std.specs.List.{list_all}
use Rattle.std.specs.Cmp.Lexicographic.{pointwise}
use Rattle.std.proofs.lemmas.Bool.{leb-true, ltb-true}
use Rattle.std.proofs.lemmas.List.{length-map}
use Rattle.std.proofs.lemmas.List.Quantifiers.{position-Some}
use Rattle.jiff.specs.Types.{Date}
use Rattle.mrp_qty.specs.Digits.{number_of, value_of, value_up_to}
use Rattle.mrp_qty.specs.declared.number.NumberFault.{NumberFault}
use Rattle.mrp_qty.specs.declared.number.NumberFault.TheVariants.{Empty, NotDigits, TooLarge}
use Rattle.mrp_cal.specs.Calendar.{ShopCalendar, days_in, horizon_day, week_of, week_of_day}
use Rattle.mrp_rows.specs.declared.faults.TheConstants as faults
use Rattle.mrp_rows.specs.Cell.{at_least, blame, name_of, number_cell, or_code}
use Rattle.mrp_rows.specs.Left.{Cells}
use Rattle.mrp_rows.specs.Name.{is_name}
use Rattle.mrp_tables.specs.declared.item.Item.{Item}
use Rattle.mrp_tables.specs.declared.rows.Centre.{Centre}
use Rattle.mrp_tables.specs.Centres.{centre_names, centre_place, known_centre}
use Rattle.mrp_tables.specs.Facts.{IsMasterItem}
use Rattle.mrp_tables.specs.Items.{is_master_at, known, names_of, place_of}
use Rattle.mrp_tables.specs.Script.{mastered}

-- what was read without a fault
pub unblamed : {X : Type 0} (r : Cells) (x : Result X ℕ) (a : X) → blame r x ≡ Ok a → x ≡ Ok a
unblamed r (Ok b) a e = let same : b ≡ a = cc in ap (λ c. Ok c) same
unblamed r (Err code) a e = absurd cc

pub uncoded : {X : Type 0} (code : ℕ) (x : Option X) (a : X) → or_code code x ≡ Ok a → x ≡ Some a
uncoded code (Some b) a e = let same : b ≡ a = cc in ap (λ c. Some c) same
uncoded code None a e = absurd cc

-- a check that a value passed
pub unless : {X E : Type 0} (b : Bool) (e : E) (y x : X) → (if b then Err e else Ok y) ≡ Ok x → (b ≡ false) × (y ≡ x)
unless true e y x given = absurd cc
unless false e y x given = let same : y ≡ x = cc in (refl, same)

-- a check that a reading passed
pub past_check : {X E : Type 0} (b : Bool) (e : E) (rest : Result X E) (x : X) → (if b then Err e else rest) ≡ Ok x → (b ≡ false) × (rest ≡ Ok x)
past_check true e rest x given = absurd cc
past_check false e rest x given = (refl, given)

pub where_so : {X E : Type 0} (b : Bool) (e : E) (y x : X) → (if b then Ok y else Err e) ≡ Ok x → (b ≡ true) × (y ≡ x)
where_so true e y x given = let same : y ≡ x = cc in (refl, same)
where_so false e y x given = absurd cc

pub same_value : {X E : Type 0} (y x : X) (r : Result X E) → r ≡ Ok y → r ≡ Ok x → y ≡ x
same_value y x r is e = cc

-- a number is within its limits
abbrev IsUpTo : ℕ → Result ℕ NumberFault → Type 0
IsUpTo most read = IfOk read (λ n. n ≤ most)

up_to : (most : ℕ) (digits : List ℕ) → IsUpTo most (value_up_to most digits)
up_to most digits = by (nat_le (value_of digits) most) refl
  where
    by : (b : Bool) → nat_le (value_of digits) most ≡ b → IsUpTo most (if b then Ok (value_of digits) else Err TooLarge)
    by true is = leb-true (value_of digits) most is
    by false is = tt

number-within : (most : ℕ) (cell : List ℕ) → IsUpTo most (number_of most cell)
number-within most [] = tt
number-within most (byte ∷ bytes) = by (list_all is_ascii_digit (byte ∷ bytes))
  where
    by : (b : Bool) → IsUpTo most (if b then value_up_to most (byte ∷ bytes) else Err NotDigits)
    by true = up_to most (byte ∷ bytes)
    by false = tt

least-within : (least most : ℕ) (read : Result ℕ NumberFault) (n : ℕ) → IsUpTo most read → at_least least read ≡ Ok n → IsInRange least most n
least-within least most (Ok m) n few e =
    let found = where_so (nat_le least m) faults.RANGE m n e in
    subst (IsInRange least most) found.1 (leb-true least m found.0, few)
least-within least most (Err TooLarge) n few e = absurd cc
least-within least most (Err Empty) n few e = absurd cc
least-within least most (Err NotDigits) n few e = absurd cc

pub in_range : (least most : ℕ) (r : Cells) (cell : List ℕ) (n : ℕ) → blame r (number_cell least most cell) ≡ Ok n → IsInRange least most n
in_range least most r cell n e = least-within least most (number_of most cell) n (number-within most cell) (unblamed r (number_cell least most cell) n e)

-- a cell read as a name is a name
pub named : (r : Cells) (cell name : List ℕ) → blame r (name_of cell) ≡ Ok name → is_name name ≡ true
named r cell name e = by (is_name cell) refl (uncoded faults.NAME _ name (unblamed r (name_of cell) name e))
  where
    by : (b : Bool) → is_name cell ≡ b → (if b then Some cell else None) ≡ Some name → is_name name ≡ true
    by true is given = let same : cell ≡ name = cc in subst (λ (text : List ℕ). is_name text ≡ true) same is
    by false is given = absurd cc

-- the item of a name exists
pub there : (items : List Item) (r : Cells) (name : List ℕ) (place : ℕ) → blame r (known items name) ≡ Ok place → place < length items
there items r name place e =
    let found : place_of name items ≡ Some place = uncoded faults.UNKNOWN_ITEM (place_of name items) place (unblamed r (known items name) place e) in
    let within : place < length (names_of items) = (position-Some (pointwise nat_eq name) (names_of items) place [] found).0 in
    rw length-map at within

-- the centre of a name exists
pub centre-there : (centres : List Centre) (r : Cells) (name : List ℕ) (place : ℕ) → blame r (known_centre centres name) ≡ Ok place → place < length centres
centre-there centres r name place e =
    let found : centre_place name centres ≡ Some place = uncoded faults.UNKNOWN_CENTRE (centre_place name centres) place (unblamed r (known_centre centres name) place e) in
    let within : place < length (centre_names centres) = (position-Some (pointwise nat_eq name) (centre_names centres) place [] found).0 in
    rw length-map at within

-- a master item that exists
pub master-there : (items : List Item) (r : Cells) (item master : ℕ) → item < length items → blame r (mastered items item) ≡ Ok master → IsMasterItem items master
master-there items r item master within e =
    let found = where_so (is_master_at items item) faults.NOT_MASTER item master (unblamed r (mastered items item) master e) in
    subst (IsMasterItem items) found.1 (record { there = within; master = found.0 })

-- the week of a date is one of the horizon
of_day : (weeks : ℕ) (days : ℤ) (week : ℕ) → week_of_day (horizon_day weeks days) ≡ Some week → IsInRange 1 weeks week
of_day weeks (negsuc days) week e = absurd cc
of_day weeks (pos days) week e = by (nat_lt days (days_in weeks)) refl e
  where
    by : (b : Bool) → nat_lt days (days_in weeks) ≡ b → week_of_day (if b then Some days else None) ≡ Some week → IsInRange 1 weeks week
    by true is given =
        let same : days / 7 + 1 ≡ week = cc in
        let below : days < 7 * weeks = ltb-true days (7 * weeks) is in
        (omega (arith, same), omega (arith, same, below))
    by false is given = absurd cc

pub in_week : (calendar : ShopCalendar) (r : Cells) (date : Date) (week : ℕ) → blame r (or_code faults.DATE_OUTSIDE (week_of calendar date)) ≡ Ok week → IsInRange 1 calendar.weeks week
in_week calendar r date week e =
    of_day calendar.weeks _ week (uncoded faults.DATE_OUTSIDE (week_of calendar date) week (unblamed r (or_code faults.DATE_OUTSIDE (week_of calendar date)) week e))
