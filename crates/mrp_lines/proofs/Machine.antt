-- How csv's machine reads on, in the middle of a record and before one.
use Rattle.std.proofs.Common.{◌≡◌, ◌∙◌, ◌⊎◌, ◌+◌, ◌≤◌, ℕ, Bool, true, false, List, [], ◌∷◌, ◌++◌, Option, Some, None, refl, sym, ap, arith, inl, inr, length}
use Rattle.std.specs.Prelude.{◌==◌, ◌||◌, ◌*◌, All, if◌then◌else◌}
use Rattle.std.specs.List.{list_any}
use Rattle.std.proofs.lemmas.List.{length-append}
use Rattle.std.proofs.lemmas.Bool.{eqb-true}
use Rattle.std.proofs.lemmas.List.Elements.{All-head, All-tail}
use Rattle.std.proofs.lemmas.List.Folds.{list_any-append}
use Rattle.std.proofs.lemmas.List.Sums.{sum_by-append}
use Rattle.csv.specs.Machine.{Read, field_after, fields_after, in_field, is_end, next_record, step}
use Rattle.csv.specs.Reading.{default_config}
use Rattle.csv.specs.declared.parser.Action.{Action}
use Rattle.csv.specs.declared.parser.Action.TheVariants as act
use Rattle.csv.specs.declared.parser.State.{State}
use Rattle.csv.specs.declared.parser.State.TheVariants as st
use Rattle.mrp_rows.specs.Bundle.{ends_line}
use Rattle.mrp_lines.specs.Lines.{have_ends, size_of}

-- the states within a record, by the default dialect
abbrev pub is_open : State → Bool
is_open st.StartField = true
is_open st.InField = true
is_open st.InQuoted = true
is_open st.AfterQuote = true
is_open st.StartRecord = false
is_open st.InEscape = false
is_open st.InComment = false
is_open st.AfterCr = false

-- the states before one
abbrev pub is_start : State → Bool
is_start st.StartRecord = true
is_start st.AfterCr = true
is_start st.StartField = false
is_start st.InField = false
is_start st.InQuoted = false
is_start st.AfterQuote = false
is_start st.InEscape = false
is_start st.InComment = false

abbrev pub Step : Type 0
Step = State × Action

-- a byte ends the record
pub record Ends (effect : Step) : Type 0 where
  pub end : is_end effect.1 ≡ true
  pub start : is_start effect.0 ≡ true

-- or the record goes on
pub record GoesOn (effect : Step) : Type 0 where
  pub end : is_end effect.1 ≡ false
  pub within : is_open effect.0 ≡ true

-- what a byte of a cell without quotes does
abbrev bare : Bool → Bool → Bool → Step
bare comma return feed =
    if comma then (st.StartField, act.EndField)
    else if return || feed then (if return then st.AfterCr else st.StartRecord, act.EndRecord)
    else (st.InField, act.Copy)

bare-goes : (comma return feed : Bool) → Ends (bare comma return feed) ⊎ GoesOn (bare comma return feed)
bare-goes true return feed = inr (record { end = refl; within = refl })
bare-goes false true feed = inl (record { end = refl; start = refl })
bare-goes false false true = inl (record { end = refl; start = refl })
bare-goes false false false = inr (record { end = refl; within = refl })

-- a byte within a record ends it, or it goes on
pub open-goes : (s : State) (c : ℕ) → is_open s ≡ true → Ends (step default_config s c) ⊎ GoesOn (step default_config s c)
open-goes st.StartField c o = by (c == 34)
  where
    by : (quote : Bool) → Ends (if quote then (st.InQuoted, act.Skip) else in_field default_config c) ⊎ GoesOn (if quote then (st.InQuoted, act.Skip) else in_field default_config c)
    by true = inr (record { end = refl; within = refl })
    by false = bare-goes (c == 44) (c == 13) (c == 10)
open-goes st.InField c o = bare-goes (c == 44) (c == 13) (c == 10)
open-goes st.InQuoted c o = by (c == 34)
  where
    by : (quote : Bool) → Ends (if quote then (st.AfterQuote, act.Skip) else (st.InQuoted, act.Copy)) ⊎ GoesOn (if quote then (st.AfterQuote, act.Skip) else (st.InQuoted, act.Copy))
    by true = inr (record { end = refl; within = refl })
    by false = inr (record { end = refl; within = refl })
open-goes st.AfterQuote c o = by (c == 34)
  where
    by : (quote : Bool) → Ends (if quote then (st.InQuoted, act.Copy) else in_field default_config c) ⊎ GoesOn (if quote then (st.InQuoted, act.Copy) else in_field default_config c)
    by true = inr (record { end = refl; within = refl })
    by false = bare-goes (c == 44) (c == 13) (c == 10)
open-goes st.StartRecord c o = absurd cc
open-goes st.InEscape c o = absurd cc
open-goes st.InComment c o = absurd cc
open-goes st.AfterCr c o = absurd cc

-- how far the bytes of a record may be ahead of those of its cells: by the quotes of a cell
abbrev pub ahead : State → ℕ
ahead st.InQuoted = 1
ahead st.AfterQuote = 2
ahead st.StartField = 0
ahead st.InField = 0
ahead st.StartRecord = 0
ahead st.InEscape = 0
ahead st.InComment = 0
ahead st.AfterCr = 0

-- how many bytes an action adds to the cells and what is between them
abbrev pub adds : Action → ℕ
adds act.Copy = 1
adds act.EndField = 1
adds act.Skip = 0
adds act.EndRecord = 0

-- a byte that ends no line stands in a cell, or between two
pub record Fills (s : State) (effect : Step) : Type 0 where
  pub end : is_end effect.1 ≡ false
  pub within : is_open effect.0 ≡ true
  pub few : 1 + ahead s ≤ ahead effect.0 + 3 * adds effect.1

bare-fills : (s : State) (comma return feed : Bool) → (feed || return) ≡ false → ahead s ≤ 2 → Fills s (bare comma return feed)
bare-fills s true return feed e few = record { end = refl; within = refl; few = omega (arith, few) }
bare-fills s false true true e few = absurd cc
bare-fills s false true false e few = absurd cc
bare-fills s false false true e few = absurd cc
bare-fills s false false false e few = record { end = refl; within = refl; few = omega (arith, few) }

pub open-fills : (s : State) (c : ℕ) → is_open s ≡ true → ends_line c ≡ false → Fills s (step default_config s c)
open-fills st.StartField c o e = by (c == 34)
  where
    by : (quote : Bool) → Fills st.StartField (if quote then (st.InQuoted, act.Skip) else in_field default_config c)
    by true = record { end = refl; within = refl; few = omega arith }
    by false = bare-fills st.StartField (c == 44) (c == 13) (c == 10) e (omega arith)
open-fills st.InField c o e = bare-fills st.InField (c == 44) (c == 13) (c == 10) e (omega arith)
open-fills st.InQuoted c o e = by (c == 34)
  where
    by : (quote : Bool) → Fills st.InQuoted (if quote then (st.AfterQuote, act.Skip) else (st.InQuoted, act.Copy))
    by true = record { end = refl; within = refl; few = omega arith }
    by false = record { end = refl; within = refl; few = omega arith }
open-fills st.AfterQuote c o e = by (c == 34)
  where
    by : (quote : Bool) → Fills st.AfterQuote (if quote then (st.InQuoted, act.Copy) else in_field default_config c)
    by true = record { end = refl; within = refl; few = omega arith }
    by false = bare-fills st.AfterQuote (c == 44) (c == 13) (c == 10) e (omega arith)
open-fills st.StartRecord c o e = absurd cc
open-fills st.InEscape c o e = absurd cc
open-fills st.InComment c o e = absurd cc
open-fills st.AfterCr c o e = absurd cc

abbrev pick : Bool → Step → Step → Step
pick b x y = if b then x else y

quote-none : (c : ℕ) → (c == 34) ≡ true → ends_line c ≡ true → ⊥
quote-none c q e =
    let never : ends_line 34 ≡ true = rw (eqb-true c 34 q) at e in
    absurd cc

-- the end of a line ends a cell without quotes, and its record
bare-ends : (c : ℕ) → ends_line c ≡ true → is_end (in_field default_config c).1 ≡ false → ⊥
bare-ends c e goes = by (c == 44) refl (c == 13) (c == 10) e goes
  where
    comma-none : (c == 44) ≡ true → ⊥
    comma-none q =
        let never : ends_line 44 ≡ true = rw (eqb-true c 44 q) at e in
        absurd cc

    by : (comma : Bool) → (c == 44) ≡ comma → (return feed : Bool) → (feed || return) ≡ true → is_end (bare comma return feed).1 ≡ false → ⊥
    by true q return feed ends goes_on = comma-none q
    by false q true true ends goes_on = absurd cc
    by false q true false ends goes_on = absurd cc
    by false q false true ends goes_on = absurd cc
    by false q false false ends goes_on = absurd cc

-- the end of a line that does not end a record is one of its cell's bytes
pub end-copied : (s : State) (c : ℕ) → is_open s ≡ true → ends_line c ≡ true → is_end (step default_config s c).1 ≡ false → (step default_config s c).1 ≡ act.Copy
end-copied st.StartField c o e goes = by (c == 34) refl goes
  where
    by : (quote : Bool) → (c == 34) ≡ quote → is_end (pick quote (st.InQuoted, act.Skip) (in_field default_config c)).1 ≡ false → (pick quote (st.InQuoted, act.Skip) (in_field default_config c)).1 ≡ act.Copy
    by true q h = absurd (quote-none c q e)
    by false q h = absurd (bare-ends c e h)
end-copied st.InField c o e goes = absurd (bare-ends c e goes)
end-copied st.InQuoted c o e goes = by (c == 34) refl
  where
    by : (quote : Bool) → (c == 34) ≡ quote → (pick quote (st.AfterQuote, act.Skip) (st.InQuoted, act.Copy)).1 ≡ act.Copy
    by true q = absurd (quote-none c q e)
    by false q = refl
end-copied st.AfterQuote c o e goes = by (c == 34) refl goes
  where
    by : (quote : Bool) → (c == 34) ≡ quote → is_end (pick quote (st.InQuoted, act.Copy) (in_field default_config c)).1 ≡ false → (pick quote (st.InQuoted, act.Copy) (in_field default_config c)).1 ≡ act.Copy
    by true q h = refl
    by false q h = absurd (bare-ends c e h)
end-copied st.StartRecord c o e goes = absurd cc
end-copied st.InEscape c o e goes = absurd cc
end-copied st.InComment c o e goes = absurd cc
end-copied st.AfterCr c o e goes = absurd cc

-- csv goes on from any state before a record as from the first
start-same : (s : State) (c : ℕ) → is_start s ≡ true → step default_config s c ≡ step default_config st.StartRecord c
start-same st.StartRecord c o = refl
start-same st.AfterCr c o = by (c == 13) (c == 10) (step default_config st.StartField c)
  where
    by : (return feed : Bool) (x : Step) → (if feed then (st.StartRecord, act.Skip) else if return || feed then (st.StartRecord, act.Skip) else x) ≡ (if return || feed then (st.StartRecord, act.Skip) else x)
    by true true x = refl
    by true false x = refl
    by false true x = refl
    by false false x = refl
start-same st.StartField c o = absurd cc
start-same st.InField c o = absurd cc
start-same st.InQuoted c o = absurd cc
start-same st.AfterQuote c o = absurd cc
start-same st.InEscape c o = absurd cc
start-same st.InComment c o = absurd cc

-- there it skips the ends of lines, and begins a record with any other byte
first-skips : (c : ℕ) → ends_line c ≡ true → step default_config st.StartRecord c ≡ (st.StartRecord, act.Skip)
first-skips c e = by (c == 13) (c == 10) (step default_config st.StartField c) e
  where
    by : (return feed : Bool) (x : Step) → (feed || return) ≡ true → (if return || feed then (st.StartRecord, act.Skip) else x) ≡ (st.StartRecord, act.Skip)
    by true feed x e = refl
    by false true x e = refl
    by false false x e = absurd cc

first-begins : (c : ℕ) → ends_line c ≡ false → step default_config st.StartRecord c ≡ step default_config st.StartField c
first-begins c e = by (c == 13) (c == 10) (step default_config st.StartField c) e
  where
    by : (return feed : Bool) (x : Step) → (feed || return) ≡ false → (if return || feed then (st.StartRecord, act.Skip) else x) ≡ x
    by true true x e = absurd cc
    by true false x e = absurd cc
    by false true x e = absurd cc
    by false false x e = refl

-- the next record, from what a byte does
abbrev after_step : Step → List (List ℕ) → List ℕ → ℕ → List ℕ → Option Read
after_step effect fields field c rest =
    if is_end effect.1 then Some (fields_after effect.1 fields field, effect.0, rest)
    else next_record default_config effect.0 (fields_after effect.1 fields field) (field_after effect.1 c field) rest

stepped : (s : State) (fields : List (List ℕ)) (field : List ℕ) (c : ℕ) (rest : List ℕ) (effect : Step) → step default_config s c ≡ effect → next_record default_config s fields field (c ∷ rest) ≡ after_step effect fields field c rest
unfolding next_record
stepped s fields field c rest effect is = ap (λ (x : Step). after_step x fields field c rest) is

pub ended : (s : State) (fields : List (List ℕ)) (field : List ℕ) (c : ℕ) (rest : List ℕ) → is_end (step default_config s c).1 ≡ true
    → next_record default_config s fields field (c ∷ rest) ≡ Some (fields_after (step default_config s c).1 fields field, (step default_config s c).0, rest)
unfolding next_record
ended s fields field c rest e = rw e refl

pub went-on : (s : State) (fields : List (List ℕ)) (field : List ℕ) (c : ℕ) (rest : List ℕ) → is_end (step default_config s c).1 ≡ false
    → next_record default_config s fields field (c ∷ rest) ≡ next_record default_config (step default_config s c).0 (fields_after (step default_config s c).1 fields field) (field_after (step default_config s c).1 c field) rest
unfolding next_record
went-on s fields field c rest e = rw e refl

pub start-skips : (s : State) (c : ℕ) (rest : List ℕ) → is_start s ≡ true → ends_line c ≡ true → next_record default_config s [] [] (c ∷ rest) ≡ next_record default_config st.StartRecord [] [] rest
start-skips s c rest o e = stepped s [] [] c rest (st.StartRecord, act.Skip) (start-same s c o ∙ first-skips c e)

pub start-begins : (s : State) (c : ℕ) (rest : List ℕ) → is_start s ≡ true → ends_line c ≡ false → next_record default_config s [] [] (c ∷ rest) ≡ next_record default_config st.StartField [] [] (c ∷ rest)
start-begins s c rest o e =
    stepped s [] [] c rest (step default_config st.StartField c) (start-same s c o ∙ first-begins c e) ∙ sym (stepped st.StartField [] [] c rest (step default_config st.StartField c) refl)

pub start-none : (s : State) → is_start s ≡ true → next_record default_config s [] [] [] ≡ None
unfolding next_record
start-none st.StartRecord o = refl
start-none st.AfterCr o = refl
start-none st.StartField o = absurd cc
start-none st.InField o = absurd cc
start-none st.InQuoted o = absurd cc
start-none st.AfterQuote o = absurd cc
start-none st.InEscape o = absurd cc
start-none st.InComment o = absurd cc

pub start-alike : (s : State) (xs : List ℕ) → is_start s ≡ true → next_record default_config s [] [] xs ≡ next_record default_config st.StartRecord [] [] xs
start-alike s [] o = start-none s o ∙ sym (start-none st.StartRecord refl)
start-alike s (c ∷ xs) o = stepped s [] [] c xs (step default_config st.StartRecord c) (start-same s c o) ∙ sym (stepped st.StartRecord [] [] c xs (step default_config st.StartRecord c) refl)

-- a text ends every record that is open
pub open-last : (s : State) (fields : List (List ℕ)) (field : List ℕ) → is_open s ≡ true → next_record default_config s fields field [] ≡ Some (fields ++ (field ∷ []), st.StartRecord, [])
unfolding next_record
open-last st.StartField fields field o = refl
open-last st.InField fields field o = refl
open-last st.InQuoted fields field o = refl
open-last st.AfterQuote fields field o = refl
open-last st.StartRecord fields field o = absurd cc
open-last st.InEscape fields field o = absurd cc
open-last st.InComment fields field o = absurd cc
open-last st.AfterCr fields field o = absurd cc

pub open-some : (xs : List ℕ) (s : State) (fields : List (List ℕ)) (field : List ℕ) → is_open s ≡ true → (p : Read) × (next_record default_config s fields field xs ≡ Some p)
open-some [] s fields field o = ((fields ++ (field ∷ []), st.StartRecord, []), open-last s fields field o)
open-some (c ∷ xs) s fields field o = by (open-some xs (step default_config s c).0 (fields_after (step default_config s c).1 fields field) (field_after (step default_config s c).1 c field)) (open-goes s c o)
  where
    by : (is_open (step default_config s c).0 ≡ true → (p : Read) × (next_record default_config (step default_config s c).0 (fields_after (step default_config s c).1 fields field) (field_after (step default_config s c).1 c field) xs ≡ Some p))
        → Ends (step default_config s c) ⊎ GoesOn (step default_config s c) → (p : Read) × (next_record default_config s fields field (c ∷ xs) ≡ Some p)
    by more (inl ends) = ((fields_after (step default_config s c).1 fields field, (step default_config s c).0, xs), ended s fields field c xs ends.end)
    by more (inr goes) =
        let (p, is) = more goes.within in
        (p, went-on s fields field c xs goes.end ∙ is)

-- the cells so far, with the one at hand
abbrev pub so_far : List (List ℕ) → List ℕ → List (List ℕ)
so_far fields field = fields ++ (field ∷ [])

-- what an action makes of them
any-more : (p : ℕ → Bool) (field : List ℕ) (c : ℕ) → list_any p field ≡ true → list_any p (field ++ (c ∷ [])) ≡ true
any-more p field c e = list_any-append p field (c ∷ []) ∙ ap (λ (b : Bool). b || list_any p (c ∷ [])) e

or-true : (b : Bool) → (b || true) ≡ true
or-true true = refl
or-true false = refl

any-last : (p : ℕ → Bool) (field : List ℕ) (c : ℕ) → p c ≡ true → list_any p (field ++ (c ∷ [])) ≡ true
any-last p field c e = list_any-append p field (c ∷ []) ∙ ap (λ (b : Bool). list_any p field || (b || false)) e ∙ or-true (list_any p field)

have-more : (fields : List (List ℕ)) (field more : List ℕ) → (list_any ends_line field ≡ true → list_any ends_line more ≡ true) → have_ends (so_far fields field) ≡ true → have_ends (so_far fields more) ≡ true
have-more fields field more h e =
    list_any-append (list_any ends_line) fields (more ∷ [])
    ∙ by (list_any (list_any ends_line) fields) (list_any ends_line field) refl (list_any ends_line more) refl (sym (list_any-append (list_any ends_line) fields (field ∷ [])) ∙ e)
  where
    by : (a b : Bool) → list_any ends_line field ≡ b → (d : Bool) → list_any ends_line more ≡ d → (a || (b || false)) ≡ true → (a || (d || false)) ≡ true
    by true b is d at e = refl
    by false true is true at e = refl
    by false true is false at e = absurd (let no = sym at ∙ h is in cc)
    by false false is d at e = absurd cc

pub have-after : (a : Action) (c : ℕ) (fields : List (List ℕ)) (field : List ℕ) → is_end a ≡ false → have_ends (so_far fields field) ≡ true → have_ends (so_far (fields_after a fields field) (field_after a c field)) ≡ true
have-after act.Skip c fields field goes e = e
have-after act.Copy c fields field goes e = have-more fields field (field ++ (c ∷ [])) (any-more ends_line field c) e
have-after act.EndField c fields field goes e = list_any-append (list_any ends_line) (fields ++ (field ∷ [])) ([] ∷ []) ∙ ap (λ (b : Bool). b || false) e
have-after act.EndRecord c fields field goes e = absurd cc

fields-end : (a : Action) (fields : List (List ℕ)) (field : List ℕ) → is_end a ≡ true → fields_after a fields field ≡ so_far fields field
fields-end act.EndRecord fields field e = refl
fields-end act.Skip fields field e = absurd cc
fields-end act.Copy fields field e = absurd cc
fields-end act.EndField fields field e = absurd cc

some-is : (a b : Read) → Some a ≡ Some b → a ≡ b
some-is a b h = cc

pub has-end : (fields : List (List ℕ)) (field : List ℕ) (c : ℕ) → ends_line c ≡ true → have_ends (so_far fields (field ++ (c ∷ []))) ≡ true
has-end fields field c e =
    list_any-append (list_any ends_line) fields ((field ++ (c ∷ [])) ∷ []) ∙ ap (λ (b : Bool). list_any (list_any ends_line) fields || (b || false)) (any-last ends_line field c e) ∙ or-true (list_any (list_any ends_line) fields)

-- the end of a line in a cell stays
pub have-stay : (xs : List ℕ) (s : State) (fields : List (List ℕ)) (field : List ℕ) (p : Read) → is_open s ≡ true → have_ends (so_far fields field) ≡ true → next_record default_config s fields field xs ≡ Some p → have_ends p.0 ≡ true
have-stay [] s fields field p o e is =
    let q : (so_far fields field, st.StartRecord, []) ≡ p = some-is (so_far fields field, st.StartRecord, []) p (sym (open-last s fields field o) ∙ is) in
    rw (← q) e
have-stay (c ∷ xs) s fields field p o e is = by (have-stay xs (step default_config s c).0 (fields_after (step default_config s c).1 fields field) (field_after (step default_config s c).1 c field) p) (open-goes s c o)
  where
    by : (is_open (step default_config s c).0 ≡ true → have_ends (so_far (fields_after (step default_config s c).1 fields field) (field_after (step default_config s c).1 c field)) ≡ true
        → next_record default_config (step default_config s c).0 (fields_after (step default_config s c).1 fields field) (field_after (step default_config s c).1 c field) xs ≡ Some p → have_ends p.0 ≡ true)
        → Ends (step default_config s c) ⊎ GoesOn (step default_config s c) → have_ends p.0 ≡ true
    by more (inl ends) =
        let made : Read = (fields_after (step default_config s c).1 fields field, (step default_config s c).0, xs) in
        let q : made ≡ p = some-is made p (sym (ended s fields field c xs ends.end) ∙ is) in
        ap (λ (r : Read). have_ends r.0) (sym q) ∙ ap have_ends (fields-end (step default_config s c).1 fields field ends.end) ∙ e
    by more (inr goes) =
        more goes.within
        (have-after (step default_config s c).1 c fields field goes.end e) (sym (went-on s fields field c xs goes.end) ∙ is)

-- how many bytes the cells take
size-push : (fields : List (List ℕ)) (field : List ℕ) → size_of (so_far fields field) ≡ size_of fields + (length field + 1)
size-push fields field = sum_by-append (λ (cell : List ℕ). length cell + 1) fields (field ∷ []) ∙ omega arith

pub size-after : (a : Action) (c : ℕ) (fields : List (List ℕ)) (field : List ℕ) → is_end a ≡ false → size_of (so_far (fields_after a fields field) (field_after a c field)) ≡ size_of (so_far fields field) + adds a
size-after act.Skip c fields field goes = omega arith
size-after act.Copy c fields field goes = omega (arith, size-push fields field, size-push fields (field ++ (c ∷ [])), length-append field (c ∷ []))
size-after act.EndField c fields field goes = omega (arith, size-push (so_far fields field) [])
size-after act.EndRecord c fields field goes = absurd cc

pub size-stay : (xs : List ℕ) (s : State) (fields : List (List ℕ)) (field : List ℕ) (p : Read) → is_open s ≡ true → next_record default_config s fields field xs ≡ Some p → size_of (so_far fields field) ≤ size_of p.0
size-stay [] s fields field p o is =
    let q : (so_far fields field, st.StartRecord, []) ≡ p = some-is (so_far fields field, st.StartRecord, []) p (sym (open-last s fields field o) ∙ is) in
    omega (arith, ap (λ (r : Read). size_of r.0) q)
size-stay (c ∷ xs) s fields field p o is = by (size-stay xs (step default_config s c).0 (fields_after (step default_config s c).1 fields field) (field_after (step default_config s c).1 c field) p) (open-goes s c o)
  where
    by : (is_open (step default_config s c).0 ≡ true → next_record default_config (step default_config s c).0 (fields_after (step default_config s c).1 fields field) (field_after (step default_config s c).1 c field) xs ≡ Some p
        → size_of (so_far (fields_after (step default_config s c).1 fields field) (field_after (step default_config s c).1 c field)) ≤ size_of p.0)
        → Ends (step default_config s c) ⊎ GoesOn (step default_config s c) → size_of (so_far fields field) ≤ size_of p.0
    by more (inl ends) =
        let made : Read = (fields_after (step default_config s c).1 fields field, (step default_config s c).0, xs) in
        let q : made ≡ p = some-is made p (sym (ended s fields field c xs ends.end) ∙ is) in
        omega (arith, ap (λ (r : Read). size_of r.0) q, ap size_of (fields-end (step default_config s c).1 fields field ends.end))
    by more (inr goes) =
        omega (arith, more goes.within (sym (went-on s fields field c xs goes.end) ∙ is), size-after (step default_config s c).1 c fields field goes.end)

-- bytes of one line are no more than the quotes and three times what its cells take
pub long-record : (xs more : List ℕ) (s : State) (fields : List (List ℕ)) (field : List ℕ) (p : Read) → is_open s ≡ true → All (λ byte. ends_line byte ≡ false) xs → next_record default_config s fields field (xs ++ more) ≡ Some p
    → length xs + 3 * size_of (so_far fields field) + ahead s ≤ 3 * size_of p.0 + 2
long-record [] more s fields field p o none is = omega (arith, size-stay more s fields field p o is, few s)
  where
    few : (s : State) → ahead s ≤ 2
    few st.InQuoted = omega arith
    few st.AfterQuote = omega arith
    few st.StartField = omega arith
    few st.InField = omega arith
    few st.StartRecord = omega arith
    few st.InEscape = omega arith
    few st.InComment = omega arith
    few st.AfterCr = omega arith
long-record (c ∷ xs) more s fields field p o none is =
    let fills = open-fills s c o (All-head (λ byte. ends_line byte ≡ false) c xs none) in
    let rest = long-record xs more (step default_config s c).0 (fields_after (step default_config s c).1 fields field) (field_after (step default_config s c).1 c field) p fills.within
    (All-tail (λ byte. ends_line byte ≡ false) c xs none) (sym (went-on s fields field c (xs ++ more) fills.end) ∙ is) in
    omega (arith, rest, fills.few, size-after (step default_config s c).1 c fields field fills.end)
