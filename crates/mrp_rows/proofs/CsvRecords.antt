-- The records of a text are those that csv's own words give.
use Rattle.std.proofs.Common.{◌≡◌, ℕ, List, [], ◌∷◌, Option, Some, None, refl, sym, ◌∙◌}
use Rattle.csv.specs.Machine.{Read, next_record}
use Rattle.csv.specs.Reading.{AreRecords, Reached, default_config}
use Rattle.csv.specs.declared.parser.State.{State}
use Rattle.mrp_rows.specs.Records.{records_in}
use Rattle.mrp_rows.proofs.CsvSteps.{records_in-next, records_in-none}

head-same : (a b : List (List ℕ)) (x y : List (List (List ℕ))) → a ∷ x ≡ b ∷ y → (a ≡ b) × (x ≡ y)
head-same a b x y e = (cc, cc)

-- these rows are all the remaining records
pub are-records : (rows : List (List (List ℕ))) (s : State) (xs : List ℕ) → rows ≡ records_in s [] [] xs → AreRecords default_config s xs rows
unfolding Reached
are-records [] s xs e = by (next_record default_config s [] [] xs) refl
  where
    by : (o : Option Read) → next_record default_config s [] [] xs ≡ o → AreRecords default_config s xs []
    by None n = (s, xs, (refl, refl), n)
    by (Some p) n = absurd (let f = e ∙ records_in-next s [] [] xs p n in cc)
are-records (r ∷ rows) s xs e = by (next_record default_config s [] [] xs) refl (λ t ys f. are-records rows t ys f)
  where
    by : (o : Option Read) → next_record default_config s [] [] xs ≡ o → ((t : State) (ys : List ℕ) → rows ≡ records_in t [] [] ys → AreRecords default_config t ys rows) → AreRecords default_config s xs (r ∷ rows)
    by None n more = absurd (let f = e ∙ records_in-none s [] [] xs n in cc)
    by (Some p) n more =
        let h = head-same r p.0 rows (records_in p.1 [] [] p.2) (e ∙ records_in-next s [] [] xs p n) in
        let (s2, ys, reached, none) = more p.1 p.2 h.1 in
        (s2, ys, (p, n, h.0, reached), none)

-- and no other rows are
pub only-records : (rows : List (List (List ℕ))) (s : State) (xs : List ℕ) → AreRecords default_config s xs rows → rows ≡ records_in s [] [] xs
unfolding Reached
only-records [] s xs (s2, ys, reached, none) = sym (records_in-none s [] [] xs (rw (reached.0, reached.1) none))
only-records (r ∷ rows) s xs (s2, ys, (p, n, first, more), none) =
    let rest : rows ≡ records_in p.1 [] [] p.2 = only-records rows p.1 p.2 (s2, ys, more, none) in
    let both : r ∷ rows ≡ p.0 ∷ records_in p.1 [] [] p.2 = rw (first, rest) refl in
    both ∙ sym (records_in-next s [] [] xs p n)
