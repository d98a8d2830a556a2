-- A record that a text begins with.
use Rattle.std.proofs.Common.{◌≡◌, ◌∙◌, ℕ, ◌+◌, ◌-◌, ◌≤◌, Bool, true, false, List, [], ◌∷◌, ◌++◌, length, length-append, min, take, drop, Option, Some, None, sym, ap, refl, arith}
use Rattle.std.specs.Prelude.{IfOk, Result, Ok, Err, option_map, ◌==◌}
use Rattle.std.specs.List.{starts_with}
use Rattle.std.proofs.Math.Seq.{take-append-add}
use Rattle.std.proofs.lemmas.Bool.{ne_eqb}
use Rattle.std.proofs.lemmas.Bool.Decides.{Decides-eqb}
use Rattle.std.proofs.lemmas.Slice.Eq.{starts_is}
use Rattle.csv.specs.Machine.{Read, next_record}
use Rattle.csv.specs.Reading.{default_config, strip_bom}
use Rattle.csv.specs.Records.{Row, fields_of}
use Rattle.csv.specs.declared.parser.State.TheVariants as st
use Rattle.csv.proofs.RoundTrip.{read-write-many}
use Rattle.mrp_qty.specs.declared.memory.NoMemory.{NoMemory}
use Rattle.mrp_report.specs.page.Rows.{row}
use Rattle.mrp_claims.specs.Reading.{BeginsPlain, SplitsRow, TakesRow}
use Rattle.mrp_claims.specs.declared.record.TheConstants.{LONGEST}

-- a text that begins with a byte of ASCII has no byte order mark
plain-text : (text : List ℕ) → BeginsPlain text → strip_bom text ≡ text
unfolding strip_bom
plain-text [] is = refl
plain-text (a ∷ []) is = refl
plain-text (a ∷ b ∷ []) is = refl
plain-text (a ∷ b ∷ c ∷ rest) is =
    let other : (a == 239) ≡ false = ne_eqb a 239 (λ e. absurd (omega (arith, e, is))) in
    rw other refl

plain-front : (front rest : List ℕ) → BeginsPlain front → BeginsPlain (front ++ rest)
plain-front [] rest is = absurd is
plain-front (byte ∷ front) rest is = is

-- the cells of the record that a text begins with are read from its first bytes
pub front-read : (text : List ℕ) (n : ℕ) (one two : List ℕ) (more : List (List ℕ)) (rest : List ℕ) → length (row (one ∷ two ∷ more)) ≤ n → BeginsPlain (row (one ∷ two ∷ more)) → text ≡ row (one ∷ two ∷ more) ++ rest
    → option_map (λ (p : Read). p.0) (next_record default_config st.StartRecord [] [] (strip_bom (take n text))) ≡ Some (one ∷ two ∷ more)
front-read text n one two more rest few plain is =
    let own = row (one ∷ two ∷ more) in
    let left = take (n - length own) rest in
    let size : n ≡ length own + (n - length own) = omega arith in
    let front : take n text ≡ own ++ left = ap (take n) is ∙ ap (λ (k : ℕ). take k (own ++ rest)) size ∙ take-append-add own rest (n - length own) in
    ap (λ (x : List ℕ). option_map (λ (p : Read). p.0) (next_record default_config st.StartRecord [] [] (strip_bom x))) front
    ∙ ap (λ (x : List ℕ). option_map (λ (p : Read). p.0) (next_record default_config st.StartRecord [] [] x)) (plain-text (own ++ left) (plain-front own left plain))
    ∙ ap (option_map (λ (p : Read). p.0)) (read-write-many one two more left)

-- what is there, of what it is mapped to
pub mapped-some : {X Y : Type 0} (f : X → Y) (o : Option X) (y : Y) → option_map f o ≡ Some y → (x : X) × (o ≡ Some x) × (f x ≡ y)
mapped-some f None y e = absurd cc
mapped-some f (Some x) y e = (x, refl, cc)

-- whether a text begins with another
pub begins : (text front : List ℕ) (r : Bool) → r ≡ starts_with (λ (a b : ℕ). a == b) text front → (r ≡ true → text ≡ front ++ drop (length front) text) × ((rest : List ℕ) → text ≡ front ++ rest → r ≡ true)
begins text front r is = starts_is Decides-eqb text front r is

-- the first cells of a text are those of the record that it begins with
pub first-cells : (text front : List ℕ) (n : ℕ) (found : Option Row) → front ≡ take n text
    → option_map fields_of found ≡ option_map (λ (p : Read). p.0) (next_record default_config st.StartRecord [] [] (strip_bom front))
    → (one two : List ℕ) (more : List (List ℕ)) (rest : List ℕ) → length (row (one ∷ two ∷ more)) ≤ n → BeginsPlain (row (one ∷ two ∷ more)) → text ≡ row (one ∷ two ∷ more) ++ rest
    → (r : Row) × (found ≡ Some r) × (fields_of r ≡ one ∷ two ∷ more)
first-cells text front n found cut read one two more rest few plain is =
    mapped-some fields_of found (one ∷ two ∷ more)
    (read ∙ ap (λ (x : List ℕ). option_map (λ (p : Read). p.0) (next_record default_config st.StartRecord [] [] (strip_bom x))) cut ∙ front-read text n one two more rest few plain is)

-- a record within the first bytes of a text
pub row-within : (text own rest : List ℕ) (n most : ℕ) → n ≡ min (length text) most → length own ≤ most → text ≡ own ++ rest → length own ≤ n
row-within text own rest n most cut few is =
    let size : length text ≡ length own + length rest = ap (length {A = ℕ}) is ∙ length-append own rest in
    omega (arith, cut, few, size)

pub same-there : {X : Type 0} (a b : X) (o : Option X) → o ≡ Some a → o ≡ Some b → a ≡ b
same-there a b o e f = cc

-- a text begins with a record's row exactly if it begins with a row of the cells that the record would have
pub row-taken : (text : List ℕ) (cells : List (List ℕ)) (result : Result (Option (Row × ℕ)) NoMemory) → IfOk result (TakesRow text cells)
    → ((one two : List ℕ) (more : List (List ℕ)) (rest : List ℕ) → length (row (one ∷ two ∷ more)) ≤ LONGEST → BeginsPlain (row (one ∷ two ∷ more)) → text ≡ row (one ∷ two ∷ more) ++ rest → cells ≡ one ∷ two ∷ more)
    → SplitsRow text result
row-taken text cells (Ok (Some found)) takes would = (takes.1, takes.2 ∙ ap (λ (x : List (List ℕ)). row x ++ drop found.1 text) (sym takes.0))
row-taken text cells (Ok None) takes would = λ one two more rest few plain is. takes rest (is ∙ ap (λ (x : List (List ℕ)). row x ++ rest) (sym (would one two more rest few plain is)))
row-taken text cells (Err refused) takes would = tt
