-- The lines of runs of faults, one by one.
use Rattle.std.proofs.Common.{◌≡◌, ◌∙◌, ℕ, ◌+◌, ◌<◌, ◌≤◌, ◌-◌, Bool, true, false, Option, Some, None, List, [], ◌∷◌, ◌++◌, drop, get_or, length, map, ap, arith, refl, subst, sym}
use Rattle.std.specs.Prelude.{if◌then◌else◌, not, slice_get}
use Rattle.std.proofs.lemmas.List.{length-map, map-append}
use Rattle.std.proofs.lemmas.List.{drop_all, drop_more}
use Rattle.mrp_survey.specs.Finding.{Told}
use Rattle.mrp_survey.specs.Surveyed.{Surveyed}
use Rattle.mrp_advice.specs.Lines.{Run, are_apart, fault_line, follows, is_apart, run_line, run_lines, runs_after, runs_of}
use Rattle.mrp_advice.specs.Listing.{Listed, none_listed, with_line, with_lines, with_listed}
use Rattle.mrp_advice.proofs.Listings.{line-first, listed-both, no_lines}

-- the lines of the runs that are left
abbrev pub lines_left : Surveyed → Told → Told → List Told → List (List ℕ)
lines_left survey first last others = map (run_line survey) (runs_after first last others)

-- no fault has no line
pub no-runs : (l : Listed) (survey : Surveyed) (faults : List Told) → length faults < 1 → l ≡ with_lines l (run_lines survey faults)
no-runs l survey [] h = sym (no_lines l)
no-runs l survey (first ∷ others) h = absurd (omega (arith, h))

-- a run goes on
pub run-on : (survey : Surveyed) (first last next : Told) (others : List Told) → follows last next ≡ true → lines_left survey first last (next ∷ others) ≡ lines_left survey first next others
unfolding runs_after
run-on survey first last next others on = rw on refl

-- a run ends
pub run-ends : (survey : Surveyed) (first last next : Told) (others : List Told) → follows last next ≡ false
    → lines_left survey first last (next ∷ others) ≡ fault_line survey first last.line ∷ lines_left survey next next others
unfolding runs_after
run-ends survey first last next others ends = rw ends refl

-- the last run
pub run-last : (survey : Surveyed) (first last : Told) → lines_left survey first last [] ≡ fault_line survey first last.line ∷ []
unfolding runs_after
run-last survey first last = refl

module _ (survey : Surveyed) (now : Listed) (first last : Told) (others : List Told) (k : ℕ) (whole : Listed) (so_far : with_lines now (lines_left survey first last (drop k others)) ≡ whole) where
  here : (next : Told) → k < length others → next ≡ get_or others k next → drop k others ≡ next ∷ drop (k + 1) others
  here next within is = drop_more others k next within ∙ ap (λ (n : Told). n ∷ drop (k + 1) others) (sym is)

  -- a fault more, which goes on with the run
  pub goes-on : (next : Told) → k < length others → next ≡ get_or others k next → follows last next ≡ true → with_lines now (lines_left survey first next (drop (k + 1) others)) ≡ whole
  goes-on next within is on =
      ap (with_lines now) (sym (run-on survey first last next (drop (k + 1) others) on))
      ∙ ap (λ (fs : List Told). with_lines now (lines_left survey first last fs)) (sym (here next within is)) ∙ so_far

  -- a fault more, with which another run begins
  pub begins : (new : Listed) (next : Told) → k < length others → next ≡ get_or others k next → follows last next ≡ false → new ≡ with_line now (fault_line survey first last.line)
      → with_lines new (lines_left survey next next (drop (k + 1) others)) ≡ whole
  begins new next within is ends grown =
      ap (λ (l : Listed). with_lines l (lines_left survey next next (drop (k + 1) others))) grown
      ∙ sym (line-first now (fault_line survey first last.line) (lines_left survey next next (drop (k + 1) others)))
      ∙ ap (with_lines now) (sym (run-ends survey first last next (drop (k + 1) others) ends))
      ∙ ap (λ (fs : List Told). with_lines now (lines_left survey first last fs)) (sym (here next within is)) ∙ so_far

  -- no fault more
  pub finishes : (new : Listed) → length others ≤ k → new ≡ with_line now (fault_line survey first last.line) → new ≡ whole
  finishes new past grown =
      grown ∙ sym (line-first now (fault_line survey first last.line) [] ∙ no_lines (with_line now (fault_line survey first last.line)))
      ∙ ap (with_lines now) (sym (run-last survey first last))
      ∙ ap (λ (fs : List Told). with_lines now (lines_left survey first last fs)) (sym (drop_all k others past)) ∙ so_far

-- the last of faults
last_of : Told → List Told → Told
last_of first [] = first
last_of first (next ∷ others) = last_of next others

get-last : (first : Told) (others : List Told) → slice_get (first ∷ others) (length others) ≡ Some (last_of first others)
unfolding last_of
get-last first [] = refl
get-last first (next ∷ others) = get-last next others

-- where a fault does not go on with the last one, the runs are apart
after-apart : (first last : Told) (others : List Told) (next : Told) (behind : List Told) → follows (last_of last others) next ≡ false
    → runs_after first last (others ++ next ∷ behind) ≡ runs_after first last others ++ runs_after next next behind
unfolding runs_after last_of
after-apart first last [] next behind apart = rw apart refl
after-apart first last (own ∷ others) next behind apart = by (follows last own) (after-apart first own others next behind apart) (after-apart own own others next behind apart)
  where
    by : (b : Bool) → runs_after first own (others ++ next ∷ behind) ≡ runs_after first own others ++ runs_after next next behind
        → runs_after own own (others ++ next ∷ behind) ≡ runs_after own own others ++ runs_after next next behind
        → (if b then runs_after first own (others ++ next ∷ behind) else (first, last.line) ∷ runs_after own own (others ++ next ∷ behind))
        ≡ (if b then runs_after first own others else (first, last.line) ∷ runs_after own own others) ++ runs_after next next behind
    by true on begun = on
    by false on begun = ap (λ (rs : List Run). (first, last.line) ∷ rs) begun

not-true : (b : Bool) → not b ≡ true → b ≡ false
not-true true e = absurd cc
not-true false e = refl

-- there is a run
some-runs : (first last : Told) (others : List Told) → 0 < length (runs_after first last others)
unfolding runs_after
some-runs first last [] = omega arith
some-runs first last (own ∷ others) = by (follows last own) (some-runs first own others)
  where
    by : (b : Bool) → 0 < length (runs_after first own others) → 0 < length (if b then runs_after first own others else (first, last.line) ∷ runs_after own own others)
    by true some = some
    by false some = omega arith

none-behind : (last : Option Told) → is_apart last None ≡ true → ⊥
none-behind None apart = absurd cc
none-behind (Some last) apart = absurd cc

-- the lines of faults, and of others behind them
pub lines-of-both : (survey : Surveyed) (l : Listed) (front back : List Told) → are_apart front back ≡ true
    → with_listed (with_lines l (run_lines survey front)) (with_lines (none_listed []) (run_lines survey back)) ≡ with_lines l (run_lines survey (front ++ back))
lines-of-both survey l [] back apart = absurd cc
lines-of-both survey l (first ∷ others) [] apart = absurd (none-behind (slice_get (first ∷ others) (length (first ∷ others) - 1)) apart)
lines-of-both survey l (first ∷ others) (next ∷ behind) apart =
    let at_end : length (first ∷ others) - 1 ≡ length others = omega arith in
    let found : slice_get (first ∷ others) (length (first ∷ others) - 1) ≡ Some (last_of first others) = ap (slice_get (first ∷ others)) at_end ∙ get-last first others in
    let ends : follows (last_of first others) next ≡ false =
    not-true (follows (last_of first others) next) (subst (λ (o : Option Told). is_apart o (Some next) ≡ true) found apart) in
    let runs : runs_of ((first ∷ others) ++ next ∷ behind) ≡ runs_of (first ∷ others) ++ runs_of (next ∷ behind) = after-apart first first others next behind ends in
    listed-both l (run_lines survey (first ∷ others)) (run_lines survey (next ∷ behind)) (rw (length-map (runs_after first first others) (run_line survey)) (some-runs first first others))
    ∙ ap (with_lines l) (sym (map-append (run_line survey) (runs_of (first ∷ others)) (runs_of (next ∷ behind))) ∙ ap (map (run_line survey)) (sym runs))
