-- The records of a text are the next one and those after it.
use Rattle.std.proofs.Common.{◌≡◌, ℕ, Bool, true, false, cond, List, [], ◌∷◌, ◌++◌, Some, None, refl}
use Rattle.csv.specs.Machine.{Read, next_record, step, is_end, fields_after, field_after, ends_at_end}
use Rattle.csv.specs.Reading.{default_config}
use Rattle.csv.specs.declared.parser.State.{State}
use Rattle.csv.specs.declared.parser.State.TheVariants as st
use Rattle.mrp_rows.specs.Records.{records_in}

-- the records of a text are the next one and those after it
abbrev Follows : State → List (List ℕ) → List ℕ → List ℕ → Read → Type 0
Follows s cells cell xs p = next_record default_config s cells cell xs ≡ Some p → records_in s cells cell xs ≡ p.0 ∷ records_in p.1 [] [] p.2

pub records_in-next : (s : State) (cells : List (List ℕ)) (cell xs : List ℕ) (p : Read) → next_record default_config s cells cell xs ≡ Some p → records_in s cells cell xs ≡ p.0 ∷ records_in p.1 [] [] p.2
unfolding next_record records_in
records_in-next s cells cell [] p e = at-end (ends_at_end s) refl
  where
    some-is : (a b : Read) → Some a ≡ Some b → a ≡ b
    some-is a b h = cc

    at-end : (b : Bool) → ends_at_end s ≡ b → cond (ends_at_end s) ((cells ++ (cell ∷ [])) ∷ []) [] ≡ p.0 ∷ records_in p.1 [] [] p.2
    at-end true h =
        let made : Read = (cells ++ (cell ∷ []), st.StartRecord, []) in
        let q : made ≡ p = some-is made p (rw h at e) in
        rw (h, ← q) refl
    at-end false h = absurd (let n : None ≡ Some p = rw h at e in cc)
records_in-next s cells cell (c ∷ rest) p e = by (is_end (step default_config s c).1) refl (records_in-next (step default_config s c).0 (fields_after (step default_config s c).1 cells cell) (field_after (step default_config s c).1 c cell) rest p)
  where
    some-is : (a b : Read) → Some a ≡ Some b → a ≡ b
    some-is a b h = cc

    by : (b : Bool) → is_end (step default_config s c).1 ≡ b → Follows (step default_config s c).0 (fields_after (step default_config s c).1 cells cell) (field_after (step default_config s c).1 c cell) rest p → records_in s cells cell (c ∷ rest) ≡ p.0 ∷ records_in p.1 [] [] p.2
    by true h more =
        let made : Read = (fields_after (step default_config s c).1 cells cell, (step default_config s c).0, rest) in
        let q : made ≡ p = some-is made p (rw h at e) in
        rw (h, ← q) refl
    by false h more = rw h (more (rw h at e))
